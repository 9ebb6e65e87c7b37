use Rattle.std.proofs.Common.{ℕ, ap, ◌∙◌}
use Rattle.object_model.specs.Sets.{has}
use Rattle.node_core.proofs.node.Node.is_member.Goals as goal

pub returns : goal.returns
returns c = c.has.ensures ∙ ap (λ (m : ℕ). has m c.args.to) c.member_set.ensures
