-- None of 20, 17 and 19 of a careful removal. Assumes nothing.
use mathlib.Core.Path.{◌≡◌}
use mathlib.Core.Bool.{true}
use Rattle.std.specs.Prelude.{None}
use Prim.Native.Nat.{ℕ, ◌-◌, ◌≤◌, ◌<◌}
use lib.ListN.{length}
use borrow.Author.Tests.{lt-ltb, le-leb}
use Rattle.base.specs.Checks.{first-fail}
use Rattle.sound.specs.Sound.{Contents, soundb}
use Rattle.careful.specs.Careful.{remove_refusals}
use Rattle.careful_stores.specs.Stored.{room_needed}

module _ (room n : ℕ) (t : Contents) where
  pub remove-holds : soundb t ≡ true → 5 ≤ n → n - 5 < length t.logicals → room_needed ≤ room → first-fail (remove_refusals room n t) ≡ None
  unfolding remove_refusals
  remove-holds h k l m = rw (h, le-leb 5 n k, lt-ltb (n - 5) (length t.logicals) l, le-leb room_needed room m)
