use Rattle.std.proofs.Common.{◌≡◌, refl, subst}
use Rattle.node_tickets.specs.Standing.{asks_seen, asks_at, asked_out}
use Rattle.node_core.specs.Nodes.{node_seen, ChangesTickets}
use Rattle.node_core.specs.Standing.{ticket_standing}
use Rattle.cluster_world.proofs.steps.ask.ask_at.Goals as goal

pub returns : goal.returns
returns c =
    let node = c.in-Up.node in
    record {
      old = node;
      new = c.ask.new.self;
      was = c.in-Up.is;
      is = refl;
      answer = subst (λ t. asks_seen c.ask.result ≡ asks_at node.mail.shape.confirm (ticket_standing node.mail t)) c.ticket_of.ensures c.ask.ensures.answer;
      tickets = record {
        mail = subst (λ t. ChangesTickets (asked_out node.mail.shape.confirm t.seq (ticket_standing node.mail t) (node_seen node.mail).tickets) node.mail c.ask.new.self.mail) c.ticket_of.ensures c.ask.ensures.tickets;
        maps = c.ask.ensures.maps;
        beside = c.ask.ensures.beside;
        works = c.ask.ensures.works;
      };
    }
