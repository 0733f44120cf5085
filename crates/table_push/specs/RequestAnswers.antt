-- What a rounded place's answer says in the numbers of docs/RULES.md. Assumes nothing.
use Rattle.std.specs.Prelude.{ℕ}
use Rattle.table_push.specs.declared.request.EbrPlace.{EbrPlace}

abbrev pub at_place : ℕ → ℕ → EbrPlace
at_place p s = record { at = p; size = s }
