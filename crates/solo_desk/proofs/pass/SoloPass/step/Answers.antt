use Rattle.node_store.specs.Disks.{view_of}
use Rattle.solo_desk.proofs.Stepping.{steps_serve}
use Rattle.solo_desk.proofs.Passing.{still_belongs}
use Rattle.solo_desk.proofs.pass.SoloPass.step.Goals as goal

pub returns-clause-belongs : goal.returns-clause-belongs
returns-clause-belongs g c =
    let on = view_of g.D.Disk.seen g.D.Disk.faults g.D.Disk.clock in
    let old = c.args.self.now in
    still_belongs on old c.requires.belongs c.step.new.self old.tally
    (steps_serve on c.step.result c.args.step old.world c.step.new.self c.step.ensures.is c.requires.known c.requires.ended c.step.ensures.ready c.requires.belongs.serves)
    c.step.ensures.is.did.books
