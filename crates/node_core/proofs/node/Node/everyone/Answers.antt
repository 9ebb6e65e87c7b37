use Rattle.std.proofs.Common.{ℕ, ◌<◌, subst, sym, arith}
use Rattle.node_core.proofs.Everyone.{some_nodes}
use Rattle.node_core.proofs.node.Node.everyone.Goals as goal

pub returns-clause-some : goal.returns-clause-some
returns-clause-some c =
    let whole = c.requires.whole in
    subst (λ (n : ℕ). 0 < n) (sym c.all_nodes.ensures) (some_nodes c.args.self.now.shape.nodes (omega (arith, whole.shape.some, whole.shape.within)))
