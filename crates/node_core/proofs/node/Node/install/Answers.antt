use Rattle.std.proofs.Common.{refl}
use Rattle.node_core.specs.Nodes.{IsWhole}
use Rattle.node_core.specs.declared.node.Node.{Node}
use Rattle.node_core.proofs.node.Node.install.Goals as goal

pub returns : goal.returns
returns c =
    let old = c.args.self.now in
    let new : Node = record old { shape = record old.shape { installed = c.args.install } } in
    let whole : IsWhole old → IsWhole new = λ w. record {
      tickets = w.tickets;
      boot = w.boot;
      shape = record { some = w.shape.some; within = w.shape.within; few = w.shape.few; copies = w.shape.copies };
    } in
    record {
      seen = refl;
      store = refl;
      numbers = refl;
      tickets = refl;
      same = λ plan own p. record { own_is = p.own_is; nodes = p.nodes; copies = p.copies; confirm = p.confirm };
      keeps = λ records k. k;
      works = λ seen w. record { store = w.store; whole = whole w.whole };
      whole = whole;
      end_is = refl;
    }
