use Rattle.block_write.proofs.Fits.{slot-fits}
use Rattle.write_block.proofs.written_slots.put_fit.Goals as goal

pub returns-clause-slot_fits : goal.returns-clause-slot_fits
returns-clause-slot_fits c = slot-fits c.args.l _ c.well_formed.1.1.0
