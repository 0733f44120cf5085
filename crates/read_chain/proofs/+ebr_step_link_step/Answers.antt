use borrow.Author.Rules.{rules}
use mathlib.Core.Path.{sym, ap, ◌∙◌}
use mathlib.Core.List.{List, []}
use Rattle.std.specs.Prelude.{◌≡◌, None, Some, Err}
use native.Mathlib.Omega.{arith}
use Prim.Native.Nat.{ℕ, ◌+◌, ◌-◌, ◌<◌, ◌^◌}
use lib.ListN.{length}
use Rattle.base.specs.Said.{refusal_code, answered, gives, refuses}
use Rattle.extract.specs.Extract.{disk_of}
use Rattle.table.specs.Table.{most}
use Rattle.chain.specs.Chain.{view, follows, follows_in}
use Rattle.chain.specs.Walk.{ebr_in, places_from, counted, before}
use Rattle.chain.proofs.Decision.{follows→facts}
use Rattle.chain.proofs.Steps.{head-follows, places-refused, places-end, places-on, counted_none, counted-more, counted-refused, noted-stored}
use Rattle.read_chain.proofs.+ebr_step_link_step.Goals as goal

pub ebr_step-returns-in_err-what_follows : goal.ebr_step-returns-in_err-what_follows
ebr_step-returns-in_err-what_follows t c =
    let a = c.args in
    let x = a.x.now in
    let v = view (disk_of x) in
    let k = c.in_err-what_follows.field-0.0 in
    let r : c.from_residual.result ≡ Err k = search rules in
    let f : refuses (refusal_code k) ≡ follows a.left a.h.at.0 a.rel.0 a.h.start a.h.link.0 = c.in_err-what_follows.ensures in
    let i : refuses (refusal_code k) ≡ follows_in a.left a.base.0 a.rel.0 (ebr_in x a.h) = f ∙ head-follows x a.base.0 a.left a.rel.0 a.h c.requires.head_at in
    let e = places-refused v a.base.0 a.left a.rel.0 (ebr_in x a.h) (refusal_code k) i in
    record { value = ap answered r ∙ ap (counted (most - a.left)) (sym e); noted_all = rw e tt }

pub ebr_step-bounds-found-left : goal.ebr_step-bounds-found-left
ebr_step-bounds-found-left t c =
    let a = c.args in
    let f : gives None ≡ follows a.left a.h.at.0 a.rel.0 a.h.start a.h.link.0 = rw c.in-None.is at c.in_ok-what_follows.ensures in
    let k = follows→facts a.left a.h.at.0 a.rel.0 a.h.start a.h.link.0 None (sym f) in
    omega (arith, k.0, c.requires.left_le_most.0, c.requires.left_le_most.1)

pub ebr_step-returns-in-None : goal.ebr_step-returns-in-None
ebr_step-returns-in-None t c =
    let a = c.args in
    let x = a.x.now in
    let v = view (disk_of x) in
    let g = c.requires.head_at in
    let f : gives None ≡ follows a.left a.h.at.0 a.rel.0 a.h.start a.h.link.0 = rw c.in-None.is at c.in_ok-what_follows.ensures in
    let i : gives None ≡ follows_in a.left a.base.0 a.rel.0 (ebr_in x a.h) = f ∙ head-follows x a.base.0 a.left a.rel.0 a.h g in
    let k = follows→facts a.left a.h.at.0 a.rel.0 a.h.start a.h.link.0 None (sym f) in
    let w : a.h.start + (a.base.0 + a.rel.0) < 2 ^ 32 = omega (arith, k.1, g.at) in
    let e = places-end v a.base.0 a.left a.rel.0 (ebr_in x a.h) i in
    let b : most - a.left < length a.found.now = omega (arith, k.0, c.requires.left_le_most.0, c.requires.left_le_most.1) in
    record {
      value = counted_none (most - a.left + 1) ∙ counted-more (most - a.left) (a.base.0 + a.rel.0) (gives []) ∙ ap (counted (most - a.left)) (sym e);
      noted_all = rw e (noted-stored x a.found.now (most - a.left) (a.base.0 + a.rel.0) a.h (gives []) b g w tt);
    }

pub ebr_step-overflow_sub-left : goal.ebr_step-overflow_sub-left
ebr_step-overflow_sub-left t c =
    let a = c.args in
    let f : gives (Some c.in-Some.next.0) ≡ follows a.left a.h.at.0 a.rel.0 a.h.start a.h.link.0 = rw c.in-Some.is at c.in_ok-what_follows.ensures in
    let k = follows→facts a.left a.h.at.0 a.rel.0 a.h.start a.h.link.0 (Some c.in-Some.next.0) (sym f) in
    omega (arith, k.0)

pub ebr_step-link_step-requires : goal.ebr_step-link_step-requires
ebr_step-link_step-requires t c =
    let a = c.args in
    let f : gives (Some c.in-Some.next.0) ≡ follows a.left a.h.at.0 a.rel.0 a.h.start a.h.link.0 = rw c.in-Some.is at c.in_ok-what_follows.ensures in
    let k = follows→facts a.left a.h.at.0 a.rel.0 a.h.start a.h.link.0 (Some c.in-Some.next.0) (sym f) in
    (omega (arith, k.0), (c.requires.n_value, (c.requires.d_value, (omega (arith, c.requires.left_le_most.0), c.requires.left_le_most.1))))

pub ebr_step-returns-in_err-count-in-Some : goal.ebr_step-returns-in_err-count-in-Some
ebr_step-returns-in_err-count-in-Some t c =
    let a = c.args in
    let x = a.x.now in
    let v = view (disk_of x) in
    let n = c.in_err-count-in-Some.field-0.0 in
    let r : c.from_residual-in_err-count-in-Some.result ≡ Err n = search rules in
    let f : gives (Some c.in-Some.next.0) ≡ follows a.left a.h.at.0 a.rel.0 a.h.start a.h.link.0 = rw c.in-Some.is at c.in_ok-what_follows.ensures in
    let i : gives (Some c.in-Some.next.0) ≡ follows_in a.left a.base.0 a.rel.0 (ebr_in x a.h) = f ∙ head-follows x a.base.0 a.left a.rel.0 a.h c.requires.head_at in
    let e = places-on v a.base.0 a.left a.rel.0 (ebr_in x a.h) c.in-Some.next.0 i in
    let o = places_from v a.base.0 (a.left - 1) c.in-Some.next.0 in
    let s : refuses (refusal_code n) ≡ counted (most - (a.left - 1)) o = c.in_err-count-in-Some.ensures.value in
    let u : o ≡ refuses (refusal_code n) = counted-refused (most - (a.left - 1)) (refusal_code n) o s in
    record { value = ap answered r ∙ ap (λ z. counted (most - a.left) (before (a.base.0 + a.rel.0) z)) (sym u) ∙ ap (counted (most - a.left)) (sym e); noted_all = rw (e, u) tt }

pub ebr_step-bounds-found-left-in-Some : goal.ebr_step-bounds-found-left-in-Some
ebr_step-bounds-found-left-in-Some t c =
    let a = c.args in
    let f : gives (Some c.in-Some.next.0) ≡ follows a.left a.h.at.0 a.rel.0 a.h.start a.h.link.0 = rw c.in-Some.is at c.in_ok-what_follows.ensures in
    let k = follows→facts a.left a.h.at.0 a.rel.0 a.h.start a.h.link.0 (Some c.in-Some.next.0) (sym f) in
    omega (arith, k.0, c.requires.left_le_most.0, c.requires.left_le_most.1, c.link_step.auto.found)

pub ebr_step-returns-in_ok-count-in-Some : goal.ebr_step-returns-in_ok-count-in-Some
ebr_step-returns-in_ok-count-in-Some t c =
    let a = c.args in
    let x = a.x.now in
    let v = view (disk_of x) in
    let g = c.requires.head_at in
    let f : gives (Some c.in-Some.next.0) ≡ follows a.left a.h.at.0 a.rel.0 a.h.start a.h.link.0 = rw c.in-Some.is at c.in_ok-what_follows.ensures in
    let i : gives (Some c.in-Some.next.0) ≡ follows_in a.left a.base.0 a.rel.0 (ebr_in x a.h) = f ∙ head-follows x a.base.0 a.left a.rel.0 a.h g in
    let k = follows→facts a.left a.h.at.0 a.rel.0 a.h.start a.h.link.0 (Some c.in-Some.next.0) (sym f) in
    let w : a.h.start + (a.base.0 + a.rel.0) < 2 ^ 32 = omega (arith, k.1, g.at) in
    let e = places-on v a.base.0 a.left a.rel.0 (ebr_in x a.h) c.in-Some.next.0 i in
    let z : most - (a.left - 1) ≡ most - a.left + 1 = omega (arith, k.0, c.requires.left_le_most.0) in
    let y : List ℕ = c.link_step.new.found in
    let b : most - a.left < length y = omega (arith, k.0, c.requires.left_le_most.0, c.requires.left_le_most.1, c.link_step.auto.found) in
    let o = places_from v a.base.0 (a.left - 1) c.in-Some.next.0 in
    record {
      value = rw z at c.in_ok-count-in-Some.ensures.value ∙ counted-more (most - a.left) (a.base.0 + a.rel.0) o ∙ ap (counted (most - a.left)) (sym e);
      noted_all = rw e (noted-stored x y (most - a.left) (a.base.0 + a.rel.0) a.h o b g w (rw z at c.link_step.ensures.noted_all));
    }
