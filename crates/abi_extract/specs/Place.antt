-- Where a looked-up record stands in an extract. Assumes nothing.
use Rattle.std.specs.Prelude.{ℕ, ◌+◌, ◌*◌, List, [], ◌∷◌, eqb, take, drop}
use Rattle.std.specs.Prelude.{Option, None, Some}
use Rattle.base.specs.Pick.{pick}
use Rattle.base.specs.Checks.{checked}
use Rattle.extract.specs.Extract.{count, lbas, look_checks}

-- the offset of the record of LBA a, where the records of these LBAs stand one behind the other from an offset on
unfoldable pub record_place : ℕ → List ℕ → ℕ → Option ℕ
record_place at [] a = None
record_place at (l ∷ ls) a = pick (eqb a l) (Some at) (record_place (at + 512) ls a)

-- none if absent or refused (rule Z27)
abbrev pub looked_place : List ℕ → ℕ → Option ℕ
looked_place x a = checked (look_checks x a) (λ k. None) (record_place (24 + count x * 4) (lbas x) a)

-- the record at an offset of the extract; none is the empty part
abbrev pub record_there : List ℕ → Option ℕ → List ℕ
record_there x None = []
record_there x (Some at) = take 512 (drop at x)
