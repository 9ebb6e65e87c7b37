use Rattle.std.proofs.Common.{◌≡◌, ℕ, ap, ◌∙◌}
use Rattle.std.proofs.lemmas.Result.{IfOk-weaker}
use Rattle.object_model.specs.Sets.{nodes_in}
use Rattle.cluster_model.specs.Cluster.{members_of}
use Rattle.node_core.specs.Nodes.{node_seen}
use Rattle.node_core.proofs.node.Node.members.Goals as goal

pub returns : goal.returns
returns c =
    let n = c.args.self.now.shape.nodes in
    IfOk-weaker c.nodes_in.result (λ l. l.items ≡ nodes_in c.member_set.result n) (λ l. l.items ≡ nodes_in (members_of (node_seen c.args.self.now)) n)
    (λ l e. e ∙ ap (λ (m : ℕ). nodes_in m n) c.member_set.ensures) c.nodes_in.ensures
