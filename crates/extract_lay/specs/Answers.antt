-- What laying a record over an extract says, and what it leaves in the output. Assumes nothing.
use Rattle.std.specs.Prelude.{ℕ, List, length}
use Rattle.base.specs.Put.{put}
use Rattle.base.specs.Said.{Said}
use Rattle.base.specs.Checks.{answer, checked}
use Rattle.extract_lay.specs.Layover.{new_extract, room_checks, lay_checks}

-- behind the refusals of room: the new extract's length; the new extract in the output
abbrev pub room_says : List ℕ → ℕ → List ℕ → ℕ → Said ℕ
room_says x a r room = answer (room_checks x a r room) (length (new_extract x a r))

abbrev pub room_leaves : List ℕ → ℕ → List ℕ → List ℕ → List ℕ
room_leaves x a r out = checked (room_checks x a r (length out)) (λ k. out) (put out 0 (new_extract x a r))

-- the new extract's length, or the first refusal (rules O12 and Z27)
unfoldable pub lay_says : List ℕ → ℕ → List ℕ → ℕ → Said ℕ
lay_says x a r room = answer (lay_checks x a r room) (length (new_extract x a r))

-- the new extract at the start of the output, the rest of it as before; all as before if refused (rule O12)
unfoldable pub lay_leaves : List ℕ → ℕ → List ℕ → List ℕ → List ℕ
lay_leaves x a r out = checked (lay_checks x a r (length out)) (λ k. out) (put out 0 (new_extract x a r))
