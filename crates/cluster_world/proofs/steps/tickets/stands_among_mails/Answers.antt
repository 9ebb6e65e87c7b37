use Rattle.std.proofs.Common.{◌∙◌, sym, ap, is_some, Some}
use Rattle.node_core.specs.Standing.{ticket_standing}
use Rattle.cluster_world.specs.Telling.{standing_on}
use Rattle.cluster_world.specs.declared.life.Life.{Life}
use Rattle.cluster_world.proofs.ReadNone.{kind_stands}
use Rattle.cluster_world.proofs.steps.tickets.stands_among_mails.Goals as goal

pub returns : goal.returns
returns c =
    c.is_some.ensures
    ∙ kind_stands c.kind.result (ticket_standing c.mail.result.now c.ticket_of.result) c.kind.ensures
    ∙ (λ i. is_some (ticket_standing (c.mail.ensures i) (c.ticket_of.ensures i)))
    ∙ ap (λ (l : Life). is_some (standing_on (Some l) c.args.ticket.now)) (sym c.in-Up.is)
