use Rattle.std.proofs.Common.{refl, subst}
use Rattle.whole_node.specs.ReadTickets.{GivesUpRead}
use Rattle.cluster_world.proofs.steps.give_up_read.give_up_read_at.Goals as goal

pub returns : goal.returns
returns c =
    let node = c.in-Up.node in
    record {
      old = node;
      new = c.give_up_read.new.self;
      was = c.in-Up.is;
      is = refl;
      gives = subst (λ t. GivesUpRead t c.give_up_read.result node c.give_up_read.new.self) c.ticket_of.ensures c.give_up_read.ensures.gives_up;
      works = c.give_up_read.ensures.works;
    }
