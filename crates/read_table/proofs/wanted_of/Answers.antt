use Rattle.base.specs.Said.{refusal_code}
use Rattle.read_table.proofs.Wants.{want-past, want-absent, want-there, want-header-bad, want-header, want-looked, want-no-chain, want-chain}
use Rattle.read_table.specs.Facts.{chain_looks}
use Rattle.read_header.specs.Header.{header_on}
use Rattle.extract.specs.Extract.{disk_of}
use Rattle.record_mbr.specs.Mbr.{primaries, extended_of}
use Rattle.record_mbr.specs.declared.MBRHeader.{MBRHeader}
use lib.ListN.{length}
use borrow.Author.Tests.{eqb-true, eqb-false}
use Prim.Native.Nat.{ℕ, ◌<◌}
use mathlib.Core.List.{List}
use mathlib.Core.Path.{◌≡◌, sym, ap, ◌∙◌}
use native.Mathlib.Omega.{arith}
use Rattle.read_table.proofs.wanted_of.Goals as goal

above : {d s : ℕ} → (d ≡ 0 → ⊥) → d ≡ s → 0 < s
above h q = omega arith

there : {r q : List ℕ} → (length r ≡ 0 → ⊥) → r ≡ q → length q ≡ 0 → ⊥
there h e z = h (ap length e ∙ z)

pub returns-then-size-eq0 : goal.returns-then-size-eq0
returns-then-size-eq0 c =
    let d = disk_of c.args.x.now in
    let f : MBRHeader → List ℕ = λ h. chain_looks d (extended_of (primaries h)) in
    (want-past c.args.x.now 0 (header_on d) f (omega (arith, c.if-size-eq0.true, c.requires.size_value)) ∙ want-looked c.args.x.now)

pub returns-then-is_empty : goal.returns-then-is_empty
returns-then-is_empty c =
    let d = disk_of c.args.x.now in
    let f : MBRHeader → List ℕ = λ h. chain_looks d (extended_of (primaries h)) in
    (want-absent c.args.x.now 0 (header_on d) f (above c.if-size-eq0.false c.requires.size_value) (sym (ap length c.record_of-r.ensures) ∙ eqb-true _ _ (sym c.is_empty.ensures ∙ c.if-is_empty.true)) ∙ want-looked c.args.x.now)

pub returns-in_default : goal.returns-in_default
returns-in_default c =
    let d = disk_of c.args.x.now in
    let f : MBRHeader → List ℕ = λ h. chain_looks d (extended_of (primaries h)) in
    let h = above c.if-size-eq0.false c.requires.size_value in
    let nz = there (eqb-false _ _ (sym c.is_empty.ensures ∙ c.if-is_empty.false)) c.record_of-r.ensures in
    want-header-bad c.args.x.now (refusal_code c.in_default.field-0) f c.in_default.ensures ∙ want-there c.args.x.now 0 (header_on d) f h nz ∙ want-looked c.args.x.now

pub returns-in_err-extended : goal.returns-in_err-extended
returns-in_err-extended c =
    let d = disk_of c.args.x.now in
    let f : MBRHeader → List ℕ = λ h. chain_looks d (extended_of (primaries h)) in
    let h = above c.if-size-eq0.false c.requires.size_value in
    let nz = there (eqb-false _ _ (sym c.is_empty.ensures ∙ c.if-is_empty.false)) c.record_of-r.ensures in
    c.from_residual.ensures
    ∙ want-no-chain c.args.x.now d (extended_of (primaries c.in-Ok.header)) (sym c.in_err-extended.ensures)
    ∙ want-header c.args.x.now c.in-Ok.header f c.in-Ok.ensures ∙ want-there c.args.x.now 0 (header_on d) f h nz ∙ want-looked c.args.x.now

pub returns : goal.returns
returns c =
    let d = disk_of c.args.x.now in
    let f : MBRHeader → List ℕ = λ h. chain_looks d (extended_of (primaries h)) in
    let h = above c.if-size-eq0.false c.requires.size_value in
    let nz = there (eqb-false _ _ (sym c.is_empty.ensures ∙ c.if-is_empty.false)) c.record_of-r.ensures in
    rw c.area_of.ensures at c.wanted_from.ensures
    ∙ want-chain c.args.x.now d (extended_of (primaries c.in-Ok.header)) c.in_ok-extended.extended (sym c.in_ok-extended.ensures)
    ∙ want-header c.args.x.now c.in-Ok.header f c.in-Ok.ensures ∙ want-there c.args.x.now 0 (header_on d) f h nz ∙ want-looked c.args.x.now
