use Rattle.std.proofs.Common.{refl, subst}
use Rattle.node_core.specs.Nodes.{ChangesTickets}
use Rattle.cluster_world.specs.Asking.{tickets_without}
use Rattle.cluster_world.proofs.steps.give_up.give_up_at.Goals as goal

pub returns : goal.returns
returns c =
    let node = c.in-Up.node in
    record {
      old = node;
      new = c.give_up.new.self;
      was = c.in-Up.is;
      is = refl;
      tickets = record {
        mail = subst (λ t. ChangesTickets (tickets_without t node.mail) node.mail c.give_up.new.self.mail) c.ticket_of.ensures c.give_up.ensures.tickets;
        maps = c.give_up.ensures.maps;
        beside = c.give_up.ensures.beside;
        works = c.give_up.ensures.works;
      };
    }
