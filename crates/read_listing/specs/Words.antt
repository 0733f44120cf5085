-- The listing's fixed words, and the lines made of them and of numbers. Assumes nothing.
use Rattle.std.specs.Prelude.{ℕ, List, [], ◌∷◌, ◌++◌}
use Rattle.read_listing.specs.Text.{decimal, newline}

-- the fixed words: `disk `, ` align `, ` logical `, `refused `
abbrev pub disk_word : List ℕ
disk_word = 100 ∷ 105 ∷ 115 ∷ 107 ∷ 32 ∷ []

abbrev pub align_word : List ℕ
align_word = 32 ∷ 97 ∷ 108 ∷ 105 ∷ 103 ∷ 110 ∷ 32 ∷ []

abbrev pub logical_word : List ℕ
logical_word = 32 ∷ 108 ∷ 111 ∷ 103 ∷ 105 ∷ 99 ∷ 97 ∷ 108 ∷ 32 ∷ []

abbrev pub refused_word : List ℕ
refused_word = 114 ∷ 101 ∷ 102 ∷ 117 ∷ 115 ∷ 101 ∷ 100 ∷ 32 ∷ []

-- D, alignment, logical count (rule T1)
unfoldable pub first_line : ℕ → ℕ → ℕ → List ℕ
first_line disk align count = disk_word ++ decimal disk ++ align_word ++ decimal align ++ logical_word ++ decimal count ++ newline

-- a refusal prints its number only (rule T12)
unfoldable pub refused_text : ℕ → List ℕ
refused_text k = refused_word ++ decimal k ++ newline
