use Rattle.node_store.specs.Disks.{view_of}
use Rattle.solo_desk.proofs.Stepping.{opened_serve}
use Rattle.solo_desk.proofs.pass.SoloPass.open.Goals as goal

pub new-requires : goal.new-requires
new-requires g c = opened_serve (view_of g.D.Disk.seen g.D.Disk.faults g.D.Disk.clock) c.args.plan c.in-Ok.world c.in-Ok.ensures.opened.begins
