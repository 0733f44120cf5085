-- The rules of an extract's header. Assumes nothing.
use Rattle.std.specs.Prelude.{ℕ, ◌+◌, ◌*◌, List, [], ◌∷◌, Bool, eqb, leb}
use Rattle.base.specs.Pick.{among}
use Rattle.base.specs.Checks.{Check, ◌!◌}

-- a power of two from 512 to 4,096 (rule X3)
abbrev pub size_ok : ℕ → Bool
size_ok s = among s (512 ∷ 1024 ∷ 2048 ∷ 4096 ∷ [])

-- how many records an extract may have (rule X3)
abbrev pub most_records : ℕ
most_records = 64

-- the rules of the header's words, in their order, for a lent length (rule X1)
abbrev pub word_checks : ℕ → ℕ → ℕ → ℕ → ℕ → ℕ → List Check
word_checks long size n list records total =
    (1 ! size_ok size) ∷
    (1 ! leb n most_records) ∷
    (1 ! eqb list 24) ∷
    (1 ! eqb records (24 + n * 4)) ∷
    (1 ! eqb total (24 + n * 516)) ∷
    (1 ! eqb total long) ∷
    []
