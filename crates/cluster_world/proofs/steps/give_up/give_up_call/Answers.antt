use Rattle.std.proofs.Common.{◌≡◌, ◌∙◌, ap, sym, Some, nat_le}
use Rattle.cluster_model.specs.Steps.{letters_end}
use Rattle.node_store.specs.Disks.{view_of}
use Rattle.cluster_world.specs.Lives.{of_node}
use Rattle.cluster_world.proofs.Asked.{if_there}
use Rattle.cluster_world.specs.declared.life.Life.TheVariants.{Up}
use Rattle.cluster_world.proofs.Given.{stands_up, stood_at, give_up_whole, too_late, given_ready, given_falls, given_settled, given_did}
use Rattle.cluster_world.proofs.steps.give_up.give_up_call.Goals as goal

pub returns-then-is_worn-clause-did : goal.returns-then-is_worn-clause-did
returns-then-is_worn-clause-did g c = λ seconds book.
    let s = stands_up c.args.ticket.now (of_node c.args.nodes.now.lives.items c.args.ticket.now.node) c.requires.mail in
    too_late (view_of g.D.Disk.seen g.D.Disk.faults g.D.Disk.clock) c.args.ticket.now c.args.nodes.now c.requires.fit c.requires.ready s.node s.up c.args.flying.now seconds book s.stood
    (ap (nat_le letters_end) (sym c.sent.ensures) ∙ sym c.is_worn.ensures ∙ c.if-is_worn.true)

pub give_up-requires-clause-up : goal.give_up-requires-clause-up
give_up-requires-clause-up g c =
    let s = stands_up c.args.ticket.now (of_node c.args.nodes.now.lives.items c.args.ticket.now.node) c.requires.mail in
    if_there _ (Up s.node) s.up (give_up_whole (view_of g.D.Disk.seen g.D.Disk.faults g.D.Disk.clock) c.args.ticket.now c.args.nodes.now c.requires.fit c.requires.ready (Up s.node) s.up)

pub returns-clause-did : goal.returns-clause-did
returns-clause-did g c = λ seconds book.
    let ch = c.give_up.ensures in
    given_did (view_of g.D.Disk.seen g.D.Disk.faults g.D.Disk.clock) c.args.ticket.now c.args.nodes.now c.requires.fit c.requires.ready c.give_up.new.self ch c.args.flying.now seconds book
    (stood_at c.args.ticket.now (of_node c.args.nodes.now.lives.items c.args.ticket.now.node) ch.does.0.old c.requires.mail (ch.was ∙ ap Some ch.does.0.was))
    (ap (nat_le letters_end) (sym c.sent.ensures) ∙ sym c.is_worn.ensures ∙ c.if-is_worn.false)

pub returns-clause-ready : goal.returns-clause-ready
returns-clause-ready g c =
    given_ready (view_of g.D.Disk.seen g.D.Disk.faults g.D.Disk.clock) c.args.ticket.now c.args.nodes.now c.requires.fit c.requires.ready c.give_up.new.self c.give_up.ensures

pub returns-clause-settled : goal.returns-clause-settled
returns-clause-settled g c = λ seconds book.
    given_settled (view_of g.D.Disk.seen g.D.Disk.faults g.D.Disk.clock) c.args.ticket.now c.args.nodes.now c.requires.fit c.requires.ready c.give_up.new.self c.give_up.ensures c.args.flying.now seconds book g.D.Disk.settled

pub returns-clause-falls : goal.returns-clause-falls
returns-clause-falls g c =
    given_falls (view_of g.D.Disk.seen g.D.Disk.faults g.D.Disk.clock) c.args.ticket.now c.args.nodes.now c.requires.fit c.requires.ready c.give_up.new.self c.give_up.ensures
