-- The entry of a primary's number. Assumes nothing.
use mathlib.Core.Path.{◌≡◌, refl}
use Rattle.std.specs.Prelude.{Some}
use Prim.Native.Nat.{ℕ, zero, suc, ◌-◌, ◌≤◌, ◌<◌}
use native.Mathlib.Omega.{arith}
use lib.ListN.{get_or}
use Rattle.record_entry.specs.Entry.{no_entry}
use Rattle.record_mbr.specs.declared.MBRHeader.{MBRHeader}
use Rattle.record_mbr.specs.Mbr.{primaries, primary_of}

pub primary-is : (h : MBRHeader) (n : ℕ) → 1 ≤ n → n < 5 → primary_of h n ≡ Some (get_or (primaries h) (n - 1) no_entry)
primary-is h zero p q = absurd (omega arith)
primary-is h (suc zero) p q = refl
primary-is h (suc (suc zero)) p q = refl
primary-is h (suc (suc (suc zero))) p q = refl
primary-is h (suc (suc (suc (suc zero)))) p q = refl
primary-is h (suc (suc (suc (suc (suc n))))) p q = absurd (omega arith)
