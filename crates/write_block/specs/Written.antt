-- A block as writing leaves it. Assumes nothing.
use Rattle.std.specs.Prelude.{ℕ, List}
use Rattle.std.specs.Prelude.{Option, None, Some}
use Rattle.record_entry.specs.declared.MBRPartitionEntry.{MBRPartitionEntry}
use Rattle.table.specs.declared.MBR.{MBR}
use Rattle.block.specs.Block.{slots_put}
use Rattle.write_rules.specs.AsWritten.{as_written_in}

-- the slots of the table t in a block, as writing leaves them; as before without an extended entry (rule Z65)
abbrev pub left_in : Option MBRPartitionEntry → List ℕ → MBR → List ℕ
left_in None b t = b
left_in (Some e) b t = slots_put b (as_written_in t e.starting_lba)
