use Rattle.node_store.specs.Disks.{view_of}
use Rattle.board_desk.proofs.Sound.{can_serve, is_sound}
use Rattle.board_desk.proofs.deeds.LeavingDeed.act.Goals as goal

pub returns-clause-did : goal.returns-clause-did
returns-clause-did g c = record {
  made = c.leave_login.ensures.made;
  adds = λ sound. c.leave_login.ensures.adds (can_serve (view_of g.D.Disk.seen g.D.Disk.faults g.D.Disk.clock) c.args.world.now sound);
}

pub returns-clause-sound : goal.returns-clause-sound
returns-clause-sound g c = λ known sound. is_sound (view_of g.D.Disk.seen g.D.Disk.faults g.D.Disk.clock) c.leave_login.new.world (c.leave_login.ensures.serves (can_serve (view_of g.D.Disk.seen g.D.Disk.faults g.D.Disk.clock) c.args.world.now sound))
