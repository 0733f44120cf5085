-- A new table for the disk of an extract, and a table put on it. Assumes nothing.
use Rattle.std.specs.Prelude.{ℕ, List, [], ◌∷◌, replicate}
use Rattle.base.specs.Said.{Said, gives, refuses, and_then}
use Rattle.base.specs.Checks.{checked}
use Rattle.record_mbr.specs.Mbr.{new_header}
use Rattle.extract.specs.declared.Extract.{Extract}
use Rattle.extract.specs.Answers.{check_says}
use Rattle.table.specs.declared.MBR.{MBR}
use Rattle.table.specs.Table.{most, default_align, empty_slot, count_check}

-- a new table: alignment 2,048, no geometry, no logical partitions (rule N3)
unfoldable pub new_table : ℕ → ℕ → List ℕ → MBR
new_table size disk signature =
    record {
      sector_size = size;
      header = new_header signature;
      logical_partitions = replicate most empty_slot;
      count = 0;
      align = default_align;
      cylinders = 0;
      heads = 0;
      sectors = 0;
      disk_size = disk;
    }

-- a new table, or 1 (rules N1, N2 and Z46)
unfoldable pub new_says : List ℕ → List ℕ → Said MBR
new_says x signature = and_then (check_says x) (λ e. gives (new_table e.sector_size e.disk_size signature))

-- the table with the sector size and D of an extract; all else as given (rule N2)
abbrev pub on_disk : MBR → Extract → MBR
on_disk t e =
    record {
      sector_size = e.sector_size;
      header = t.header;
      logical_partitions = t.logical_partitions;
      count = t.count;
      align = t.align;
      cylinders = t.cylinders;
      heads = t.heads;
      sectors = t.sectors;
      disk_size = e.disk_size;
    }

-- 6, then 1 (rules G5 and N1)
unfoldable pub update_says : MBR → List ℕ → Said MBR
update_says t x = checked (count_check t ∷ []) refuses (and_then (check_says x) (λ e. gives (on_disk t e)))
