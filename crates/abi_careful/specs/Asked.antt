-- What a push asks for, from the numbers of a call. Assumes nothing.
use Rattle.std.specs.Prelude.{ℕ}
use Rattle.table_push.specs.declared.request.Request.{Request}

-- alignment, geometry (cylinders, heads, sectors on a track), type, start, sectors (rule Z73)
abbrev pub request_with : ℕ → ℕ → ℕ → ℕ → ℕ → ℕ → ℕ → Request
request_with align cylinders heads track sys start sectors =
    record {
      align = align;
      geometry = record { cylinders = cylinders; heads = heads; sectors = track };
      sys = sys;
      start = start;
      sectors = sectors;
    }
