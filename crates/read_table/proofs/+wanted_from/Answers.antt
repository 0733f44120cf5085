use mathlib.Core.Path.{◌≡◌, sym, ◌∙◌}
use Rattle.std.specs.Prelude.{None, Some}
use native.Mathlib.Omega.{arith}
use Prim.Native.Nat.{◌+◌}
use Rattle.base.specs.Said.{refusal_code, gives, refuses}
use Rattle.extract.specs.Extract.{disk_of}
use Rattle.chain.specs.Chain.{view, follows, follows_in}
use Rattle.chain.specs.Walk.{ebr_in, HeadAt}
use Rattle.chain.proofs.Decision.{follows→facts}
use Rattle.chain.proofs.Steps.{head-follows}
use Rattle.read_table.specs.Facts.{behind}
use Rattle.read_table.proofs.Wants.{want-lack, want-shut, want-behind, want-refused, want-end, want-link}
use Rattle.read_table.proofs.+wanted_from.Goals as goal

pub overflow_sub-left : goal.overflow_sub-left
overflow_sub-left t c =
    let a = c.args in
    let h = c.in-Ebr.h in
    let y : gives (Some c.in-Ok-Some.next.0) ≡ follows a.left h.at.0 a.rel.0 h.start h.link.0 = rw c.in-Ok-Some.field-0-is at c.in-Ok-Some.ensures in
    let k = follows→facts a.left h.at.0 a.rel.0 h.start h.link.0 (Some c.in-Ok-Some.next.0) (sym y) in
    omega (arith, k.0)

pub wanted_from-requires : goal.wanted_from-requires
wanted_from-requires t c =
    let a = c.args in
    let h = c.in-Ebr.h in
    let y : gives (Some c.in-Ok-Some.next.0) ≡ follows a.left h.at.0 a.rel.0 h.start h.link.0 = rw c.in-Ok-Some.field-0-is at c.in-Ok-Some.ensures in
    let k = follows→facts a.left h.at.0 a.rel.0 h.start h.link.0 (Some c.in-Ok-Some.next.0) (sym y) in
    (omega (arith, k.0), (c.requires.n_value, c.requires.d_value))

pub returns-in-Refused : goal.returns-in-Refused
returns-in-Refused t c =
    let a = c.args in
    let x = a.x.now in
    let d = disk_of x in
    let at = a.base.0 + a.rel.0 in
    let f = behind d a.base.0 a.left a.rel.0 in
    want-shut x at f (view d at) (refusal_code c.in-Refused.field-0) c.in-Refused.ensures.result_value_2.0 c.in-Refused.ensures.result_value

pub returns-in-Absent : goal.returns-in-Absent
returns-in-Absent t c =
    let a = c.args in
    let x = a.x.now in
    let d = disk_of x in
    let at = a.base.0 + a.rel.0 in
    let f = behind d a.base.0 a.left a.rel.0 in
    want-lack x at f (view d at) c.in-Absent.a.0 c.in-Absent.ensures.result_value_2.0

pub returns-in-Err : goal.returns-in-Err
returns-in-Err t c =
    let a = c.args in
    let x = a.x.now in
    let d = disk_of x in
    let at = a.base.0 + a.rel.0 in
    let f = behind d a.base.0 a.left a.rel.0 in
    let h = c.in-Ebr.h in
    let k = (refusal_code c.in-Err.field-0) in
    let g : HeadAt x at h = c.in-Ebr.ensures.result_value_2.1 in
    let y : refuses k ≡ follows a.left h.at.0 a.rel.0 h.start h.link.0 = c.in-Err.ensures in
    let i : refuses k ≡ follows_in a.left a.base.0 a.rel.0 (ebr_in x h) = y ∙ head-follows x a.base.0 a.left a.rel.0 h g in
    let b = want-behind x at f (ebr_in x h) c.in-Ebr.ensures.result_value_2.0 c.in-Ebr.ensures.result_value in
    want-refused x d a.base.0 a.left a.rel.0 (ebr_in x h) k i ∙ b

pub returns-in-Ok-None : goal.returns-in-Ok-None
returns-in-Ok-None t c =
    let a = c.args in
    let x = a.x.now in
    let d = disk_of x in
    let at = a.base.0 + a.rel.0 in
    let f = behind d a.base.0 a.left a.rel.0 in
    let h = c.in-Ebr.h in
    let g : HeadAt x at h = c.in-Ebr.ensures.result_value_2.1 in
    let y : gives None ≡ follows a.left h.at.0 a.rel.0 h.start h.link.0 = rw c.in-Ok-None.field-0-is at c.in-Ok-None.ensures in
    let i : gives None ≡ follows_in a.left a.base.0 a.rel.0 (ebr_in x h) = y ∙ head-follows x a.base.0 a.left a.rel.0 h g in
    let b = want-behind x at f (ebr_in x h) c.in-Ebr.ensures.result_value_2.0 c.in-Ebr.ensures.result_value in
    want-end x d a.base.0 a.left a.rel.0 (ebr_in x h) i ∙ b

pub returns-in-Ok-Some : goal.returns-in-Ok-Some
returns-in-Ok-Some t c =
    let a = c.args in
    let x = a.x.now in
    let d = disk_of x in
    let at = a.base.0 + a.rel.0 in
    let f = behind d a.base.0 a.left a.rel.0 in
    let h = c.in-Ebr.h in
    let g : HeadAt x at h = c.in-Ebr.ensures.result_value_2.1 in
    let y : gives (Some c.in-Ok-Some.next.0) ≡ follows a.left h.at.0 a.rel.0 h.start h.link.0 = rw c.in-Ok-Some.field-0-is at c.in-Ok-Some.ensures in
    let i : gives (Some c.in-Ok-Some.next.0) ≡ follows_in a.left a.base.0 a.rel.0 (ebr_in x h) = y ∙ head-follows x a.base.0 a.left a.rel.0 h g in
    let b = want-behind x at f (ebr_in x h) c.in-Ebr.ensures.result_value_2.0 c.in-Ebr.ensures.result_value in
    c.wanted_from.ensures ∙ want-link x d a.base.0 a.left a.rel.0 (ebr_in x h) c.in-Ok-Some.next.0 i ∙ b
