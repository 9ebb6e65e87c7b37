use Rattle.node_store.specs.Disks.{view_of}
use Rattle.board_desk.proofs.Sound.{can_serve, is_sound}
use Rattle.board_desk.proofs.deeds.GivingUpDeed.act.Goals as goal

pub returns-clause-did : goal.returns-clause-did
returns-clause-did g c = record {
  made = c.give_up_call.ensures.made;
  adds = λ sound. c.give_up_call.ensures.adds (can_serve (view_of g.D.Disk.seen g.D.Disk.faults g.D.Disk.clock) c.args.world.now sound);
  never = c.give_up_call.ensures.never;
}

pub returns-clause-sound : goal.returns-clause-sound
returns-clause-sound g c = λ known sound. is_sound (view_of g.D.Disk.seen g.D.Disk.faults g.D.Disk.clock) c.give_up_call.new.world (c.give_up_call.ensures.serves (can_serve (view_of g.D.Disk.seen g.D.Disk.faults g.D.Disk.clock) c.args.world.now sound))
