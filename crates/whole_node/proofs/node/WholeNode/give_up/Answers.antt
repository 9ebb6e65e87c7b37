use Rattle.std.proofs.Common.{refl, ap}
use Rattle.cluster_model.specs.Cluster.{Node}
use Rattle.whole_node.specs.declared.node.WholeNode.{WholeNode}
use Rattle.whole_node.proofs.Beside.{idle_beside}
use Rattle.whole_node.proofs.Called.{works_same}
use Rattle.whole_node.proofs.node.WholeNode.give_up.Goals as goal

pub returns-clause-works : goal.returns-clause-works
returns-clause-works c =
    let old = c.args.self.now in
    let new : WholeNode = record old { mail = c.give_up.new.self } in
    let t = c.give_up.ensures.tickets in
    λ seen w. works_same old w.maps w.reads new seen t.same (ap (λ (n : Node). n.boot) t.seen) (ap (λ (n : Node). n.installed) t.seen) t.keeps refl (record { reads = refl; locks = refl }) (t.works seen w.mail)

pub returns-clause-beside : goal.returns-clause-beside
returns-clause-beside c =
    let old = c.args.self.now in
    idle_beside old (record old { mail = c.give_up.new.self }) refl (record { reads = refl; locks = refl })
