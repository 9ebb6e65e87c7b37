use Rattle.std.proofs.Common.{refl, sym, ◌∙◌, subst}
use Rattle.std.specs.Prelude.{Ok}
use Rattle.call_tickets.specs.declared.desk.Posted.TheVariants.{Quiet}
use Rattle.node_store.specs.Disks.{view_of}
use Rattle.shard_board.specs.Parts.{chains}
use Rattle.shard_board.specs.Posts.{FirstMet}
use Rattle.shard_board.proofs.Paged.{both_added, past_clock}
use Rattle.shard_board.proofs.works.PostingWorkPart.run.Goals as goal

pub returns-in-Some-clause-did : goal.returns-in-Some-clause-did
returns-in-Some-clause-did g c = record {
  seconds = c.seconds-seconds.result;
  mid = c.make.new.self;
  ticked = c.make.result;
  tick = c.make.ensures.did;
  fate_is = c.make.ensures.beside.0;
  sound = c.make.ensures.sound refl;
  first = subst (λ o. FirstMet (view_of g.D.Disk.seen g.D.Disk.faults g.D.Disk.clock) g.F.Fate.decides o c.make.new.self c.meet.result c.meet.new.part) (sym c.in-Some.is ∙ c.flying.ensures) c.meet.ensures.met;
  known = both_added (view_of g.D.Disk.seen g.D.Disk.faults g.D.Disk.clock) c.args.part.now c.make.new.self c.meet.new.part (c.make.ensures.known refl) c.meet.ensures.known;
}

pub returns-in-None-clause-did : goal.returns-in-None-clause-did
returns-in-None-clause-did g c = record {
  seconds = c.seconds-seconds.result;
  mid = c.make.new.self;
  ticked = c.make.result;
  tick = c.make.ensures.did;
  fate_is = c.make.ensures.beside.0;
  sound = c.make.ensures.sound refl;
  first = subst (λ o. FirstMet (view_of g.D.Disk.seen g.D.Disk.faults g.D.Disk.clock) g.F.Fate.decides o c.make.new.self (Ok Quiet) c.make.new.self) (sym c.in-None.is ∙ c.flying.ensures) (refl, refl, refl);
  known = c.make.ensures.known refl;
}

pub returns-in-Some-clause-keeps : goal.returns-in-Some-clause-keeps
returns-in-Some-clause-keeps g c =
    let on = view_of g.D.Disk.seen g.D.Disk.faults g.D.Disk.clock in
    chains on c.args.part.now c.make.new.self c.meet.new.part (past_clock on c.args.part.now _ c.make.new.self c.make.ensures.keeps refl refl refl) c.meet.ensures.keeps

pub returns-in-Some-clause-grows : goal.returns-in-Some-clause-grows
returns-in-Some-clause-grows g c =
    let on = view_of g.D.Disk.seen g.D.Disk.faults g.D.Disk.clock in
    (chains on c.args.part.now c.make.new.self c.meet.new.part (past_clock on c.args.part.now _ c.make.new.self c.make.ensures.keeps refl refl refl) c.meet.ensures.keeps).grows
