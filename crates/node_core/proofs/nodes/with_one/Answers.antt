use Rattle.std.proofs.Common.{◌≤◌, ℕ, subst}
use Rattle.node_core.proofs.Everyone.{with_some}
use Rattle.node_core.proofs.nodes.with_one.Goals as goal

pub returns-clause-some : goal.returns-clause-some
returns-clause-some c = with_some c.args.set c.args.node (subst (λ (n : ℕ). 1 ≤ n) c.number-number.ensures.number c.number-number.ensures.low) _ c.with.ensures.mask
