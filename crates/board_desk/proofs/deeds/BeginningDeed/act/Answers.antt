use Rattle.node_store.specs.Disks.{view_of}
use Rattle.board_desk.proofs.Sound.{can_serve, is_sound}
use Rattle.board_desk.proofs.deeds.BeginningDeed.act.Goals as goal

pub returns-clause-did : goal.returns-clause-did
returns-clause-did g c = record {
  made = c.begin_call.ensures.made;
  kind = c.begin_call.ensures.kind;
  adds = λ asked seen sound. c.begin_call.ensures.adds asked seen (can_serve (view_of g.D.Disk.seen g.D.Disk.faults g.D.Disk.clock) c.args.world.now sound);
}

pub returns-clause-sound : goal.returns-clause-sound
returns-clause-sound g c = λ known sound. is_sound (view_of g.D.Disk.seen g.D.Disk.faults g.D.Disk.clock) c.begin_call.new.world (c.begin_call.ensures.serves (can_serve (view_of g.D.Disk.seen g.D.Disk.faults g.D.Disk.clock) c.args.world.now sound))
