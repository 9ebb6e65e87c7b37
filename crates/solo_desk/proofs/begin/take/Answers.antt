use Rattle.std.proofs.Common.{inr}
use Rattle.node_store.specs.Disks.{view_of}
use Rattle.cluster_world.specs.declared.step.Step.TheVariants.{GiveUp}
use Rattle.solo_desk.proofs.Stepping.{steps_serve}
use Rattle.solo_desk.proofs.Posting.{give_up_adds}
use Rattle.solo_desk.proofs.begin.take.Goals as goal

pub returns-in-Err-clause-serves : goal.returns-in-Err-clause-serves
returns-in-Err-clause-serves g c = λ serves.
    let on = view_of g.D.Disk.seen g.D.Disk.faults g.D.Disk.clock in
    steps_serve on c.step.result (GiveUp c.args.ticket) c.args.world.now c.step.new.self c.step.ensures.is (inr tt) tt c.step.ensures.ready serves

pub returns-in-Err-clause-takes : goal.returns-in-Err-clause-takes
returns-in-Err-clause-takes g c =
    let on = view_of g.D.Disk.seen g.D.Disk.faults g.D.Disk.clock in
    record {
      kind_is = c.in-Err.ensures.err;
      longer = c.step.ensures.is.did.books;
      adds = λ serves. give_up_adds on c.args.world.now c.step.new.self serves c.step.result c.args.ticket c.step.ensures.is;
    }
