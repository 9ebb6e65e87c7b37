use Rattle.node_store.specs.Disks.{view_of}
use Rattle.solo_desk.proofs.Stepping.{steps_serve}
use Rattle.solo_desk.proofs.laws.steps_serve.Goals as goal

pub returns : goal.returns
returns g c = steps_serve (view_of g.D.Disk.seen g.D.Disk.faults g.D.Disk.clock)
