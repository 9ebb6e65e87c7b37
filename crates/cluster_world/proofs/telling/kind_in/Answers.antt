use Rattle.std.proofs.Common.{ap, sym, ◌∙◌}
use Rattle.node_core.specs.Standing.{ticket_standing}
use Rattle.node_tickets.specs.Standing.{kind_of_ticket}
use Rattle.node_reads.specs.Asking.{kind_at}
use Rattle.node_reads.specs.Tables.{ticket_at}
use Rattle.cluster_world.proofs.Whole.{mail_kind_on, read_kind_on}
use Rattle.cluster_world.proofs.telling.kind_in.Goals as goal

pub returns-in-Some : goal.returns-in-Some
returns-in-Some c = mail_kind_on c.args.node.now c.args.ticket.now c.in-Some.kind c.kind.result (sym c.in-Some.is)
    (c.kind.ensures ∙ ap (λ m. kind_of_ticket (ticket_standing m c.ticket_of.result)) c.mail.ensures ∙ ap (λ t. kind_of_ticket (ticket_standing c.args.node.now.mail t)) c.ticket_of.ensures)

pub returns-in-None : goal.returns-in-None
returns-in-None c = read_kind_on c.args.node.now c.requires.reads c.args.ticket.now c.requires.own c.kind.result c.kind-in-None.result (sym c.in-None.is)
    (c.kind.ensures ∙ ap (λ m. kind_of_ticket (ticket_standing m c.ticket_of.result)) c.mail.ensures ∙ ap (λ t. kind_of_ticket (ticket_standing c.args.node.now.mail t)) c.ticket_of.ensures)
    (c.kind-in-None.ensures ∙ ap (λ r. kind_at (ticket_at r c.ticket_of-in-None.result)) c.reads.ensures ∙ ap (λ t. kind_at (ticket_at c.args.node.now.reads t)) c.ticket_of-in-None.ensures)
