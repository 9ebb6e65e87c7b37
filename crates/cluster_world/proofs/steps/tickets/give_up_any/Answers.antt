use Rattle.std.proofs.Common.{◌≡◌, ◌∙◌, refl, sym, ap, subst, false, Some, is_some}
use Rattle.node_store.specs.Disks.{view_of}
use Rattle.cluster_world.specs.Lives.{of_node}
use Rattle.cluster_world.specs.Telling.{standing_on, reading_on}
use Rattle.cluster_world.specs.declared.life.Life.{Life}
use Rattle.cluster_world.proofs.ReadNone.{giver_there, give_up_of_none}
use Rattle.cluster_world.proofs.steps.tickets.give_up_any.Goals as goal

pub stands_among_mails-requires : goal.stands_among_mails-requires
stands_among_mails-requires g c = record {
  up = giver_there (view_of g.D.Disk.seen g.D.Disk.faults g.D.Disk.clock) c.args.ticket.now c.args.nodes.now c.requires.fit c.requires.ready c.at-life.result.now (ap (of_node c.args.nodes.now.lives.items) (sym c.node_of.ensures) ∙ c.at-life.ensures);
}

pub stands_among_reads-requires : goal.stands_among_reads-requires
stands_among_reads-requires g c = record {
  up = giver_there (view_of g.D.Disk.seen g.D.Disk.faults g.D.Disk.clock) c.args.ticket.now c.args.nodes.now c.requires.fit c.requires.ready c.at-life.result.now (ap (of_node c.args.nodes.now.lives.items) (sym c.node_of.ensures) ∙ c.at-life.ensures);
}

pub returns-clause-did : goal.returns-clause-did
returns-clause-did g c = λ seconds book.
    let there : of_node c.args.nodes.now.lives.items c.args.ticket.now.node ≡ Some c.at-life.result.now = ap (of_node c.args.nodes.now.lives.items) (sym c.node_of.ensures) ∙ c.at-life.ensures in
    let r = giver_there (view_of g.D.Disk.seen g.D.Disk.faults g.D.Disk.clock) c.args.ticket.now c.args.nodes.now c.requires.fit c.requires.ready c.at-life.result.now there in
    give_up_of_none (view_of g.D.Disk.seen g.D.Disk.faults g.D.Disk.clock) c.args.ticket.now c.args.nodes.now c.requires.ready c.args.flying.now seconds book r.node (there ∙ ap Some r.up)
    (subst (λ (l : Life). is_some (standing_on (Some l) c.args.ticket.now) ≡ false) r.up (sym c.if-stands_among_mails.ensures))
    (subst (λ (l : Life). is_some (reading_on (Some l) c.args.ticket.now) ≡ false) r.up (sym c.if-stands_among_reads.ensures))
    c.requires.fit
