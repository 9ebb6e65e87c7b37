use Rattle.std.proofs.Common.{[], refl, sym, ap, ◌∙◌}
use Rattle.object_model.specs.Letters.{Letter}
use Rattle.object_model.specs.Letters.Body.{FetchTold}
use Rattle.mail_base.specs.Bodies.{part_seen}
use Rattle.cluster_model.specs.Cluster.{epoch_of}
use Rattle.node_core.specs.Nodes.{node_seen}
use Rattle.whole_node.specs.declared.node.WholeNode.{WholeNode}
use Rattle.whole_node.proofs.HeardReads.{told_heard}
use Rattle.whole_node.proofs.node.WholeNode.hear_fetch_told.Goals as goal

pub returns-clause-ok : goal.returns-clause-ok
returns-clause-ok c plan tells records k =
    let old = c.args.self.now in
    let new : WholeNode = record old { reads = c.hear_part.new.self } in
    told_heard old new (record { mail = refl; maps = refl }) c.requires.reads.maps c.requires.reads.reads refl tells c.args.letter.now (FetchTold (part_seen c.in_ok-copy.field-0)) c.in-Some.ticket c.letter.inside.from c.new-2.result
    (sym c.ticket_of.ensures ∙ c.in-Some.is) (sym (ap (λ (l : Letter). l.from) c.letter.view_is)) (c.requires.body ∙ ap (λ p. FetchTold (part_seen p)) (sym c.in_ok-copy.ensures)) c.new-2.ensures
    (c.hear_part.ensures.did (epoch_of (node_seen old.mail)) [])
