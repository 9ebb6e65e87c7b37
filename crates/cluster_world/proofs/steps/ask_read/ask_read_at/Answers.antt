use Rattle.std.proofs.Common.{refl, subst}
use Rattle.whole_node.specs.ReadTickets.{AsksRead}
use Rattle.cluster_world.proofs.steps.ask_read.ask_read_at.Goals as goal

pub returns : goal.returns
returns c =
    let node = c.in-Up.node in
    record {
      old = node;
      new = c.ask_read.new.self;
      was = c.in-Up.is;
      is = refl;
      asks = subst (λ t. AsksRead t c.ask_read.result node c.ask_read.new.self) c.ticket_of.ensures c.ask_read.ensures.asks;
      works = c.ask_read.ensures.works;
    }
