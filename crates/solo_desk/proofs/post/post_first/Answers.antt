use Rattle.std.proofs.Common.{inr, sym, ◌∙◌}
use Rattle.node_store.specs.Disks.{view_of}
use Rattle.std.proofs.Common.{false}
use Rattle.cluster_world.specs.declared.step.Step.TheVariants.{Post}
use Rattle.solo_desk.proofs.Stepping.{steps_serve}
use Rattle.solo_desk.proofs.Posting.{post_adds, posted_by}
use Rattle.solo_desk.proofs.post.post_first.Goals as goal

pub returns-clause-serves : goal.returns-clause-serves
returns-clause-serves g c = λ serves.
    let on = view_of g.D.Disk.seen g.D.Disk.faults g.D.Disk.clock in
    steps_serve on c.step-said.result (Post c.in-Some.letter false) c.args.world.now c.step-said.new.self c.step-said.ensures.is (inr tt) tt c.step-said.ensures.ready serves

pub returns-clause-longer : goal.returns-clause-longer
returns-clause-longer g c = c.step-said.ensures.is.did.books

pub returns-clause-adds : goal.returns-clause-adds
returns-clause-adds g c = λ serves.
    let on = view_of g.D.Disk.seen g.D.Disk.faults g.D.Disk.clock in
    post_adds on c.args.world.now c.step-said.new.self serves c.step-said.result c.in-Some.letter c.step-said.ensures.is

pub returns-clause-made : goal.returns-clause-made
returns-clause-made g c =
    let on = view_of g.D.Disk.seen g.D.Disk.faults g.D.Disk.clock in
    posted_by on c.args.world.now c.step-said.new.self c.in-Some.letter c.step-said.result c.posted.result (sym c.flying.ensures ∙ c.in-Some.is) c.step-said.ensures.is c.posted.ensures.posted
