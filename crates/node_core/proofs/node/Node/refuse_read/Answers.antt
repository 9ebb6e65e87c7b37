use Rattle.std.proofs.Common.{sym, ◌∙◌}
use Rattle.node_tickets.specs.Seen.{kind_seen}
use Rattle.node_core.proofs.Drawn.{refused_read}
use Rattle.node_core.proofs.node.Node.refuse_read.Goals as goal

pub returns : goal.returns
returns c = (
  sym c.is_worn.ensures.value ∙ c.if-is_worn.false,
  c.draw_ticket.ensures.ticket,
  refused_read c.args.self.now c.draw_ticket.new.self c.open_failed.new.self (kind_seen c.args.kind) _ c.few_if.ensures c.open_failed.ensures.whose c.in_ok-open_failed.ensures.ok c.draw_ticket.ensures.drawn,
)
