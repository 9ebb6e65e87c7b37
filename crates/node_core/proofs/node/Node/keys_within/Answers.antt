use Rattle.std.proofs.Common.{ℕ, List, map, take, sym, ap, ◌∙◌}
use Rattle.std.specs.FinMap as fin
use Rattle.mail_model.specs.Identity.{Key}
use Rattle.mail_base.specs.declared.key.Key as code
use Rattle.mail_base.specs.Seen.{key_seen}
use Rattle.cluster_model.specs.Cluster.{epoch_of}
use Rattle.cluster_model.specs.Rules.{push_of}
use Rattle.node_core.specs.Nodes.{node_seen}
use Rattle.node_core.specs.Pushing.{first_within}
use Rattle.node_core.proofs.node.Node.keys_within.Goals as goal

pub returns : goal.returns
returns c = λ records k.
    let node = c.args.self.now in
    let own = node.store.own in
    let f = λ (key : Key). push_of own c.args.to (epoch_of (node_seen node)) records key (fin.get node.store.log key) in
    let same = c.deref.ensures.value in
    ap (map key_seen) (c.truncate.ensures.items ∙ ap (λ (xs : List code.Key). take c.count_within-count.result xs) (sym same))
    ∙ c.count_within-count.ensures.first own records k
    ∙ ap (λ (n : ℕ). first_within f c.args.most n (map key_seen c.deref.result.now)) c.from.ensures
    ∙ ap (first_within f c.args.most c.args.room) (ap (map key_seen) same ∙ c.in_ok-keys.ensures)
