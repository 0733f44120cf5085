use Rattle.station_disk.proofs.Room.{laid-fits}
use Rattle.station_disk.proofs.gather.add.Goals as goal

pub returns-in-None : goal.returns-in-None
returns-in-None c = laid-fits _ _ _ _ _ c.in-Ok.ensures.said
