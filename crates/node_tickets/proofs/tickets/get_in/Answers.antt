use Rattle.node_tickets.proofs.Stands.{got}
use Rattle.node_tickets.proofs.tickets.get_in.Goals as goal

pub returns : goal.returns
returns c = got _ c.args.seq _ c.get.ensures.value
