use Rattle.std.proofs.Common.{ℕ, List, ◌++◌, map, ap, subst, ◌∙◌}
use Rattle.std.specs.Prelude.{Ok}
use Rattle.object_model.specs.Letters.{Letter}
use Rattle.mail_base.specs.Seen.{key_seen}
use Rattle.cluster_model.specs.Rules.{push}
use Rattle.node_store.specs.Disks.{view_of}
use Rattle.node_core.specs.Nodes.{node_seen}
use Rattle.node_core.specs.Pushing.{PushesOut}
use Rattle.node_core.specs.PushReads.{ReadsLetters}
use Rattle.node_core.proofs.PushRead.{pushed_out}
use Rattle.node_core.proofs.node.Node.push.Goals as goal

pub returns-clause-pushes : goal.returns-clause-pushes
returns-clause-pushes g c = λ plan own p.
    let on = view_of g.D.Disk.seen g.D.Disk.faults g.D.Disk.clock in
    let node = c.args.self.now in
    let before = c.args.disk.now in
    let after = c.with_pushes.new.disk in
    let keys = map key_seen c.deref.result.now in
    let read = subst (λ (l : List Letter). ReadsLetters on node before after (λ records. l ++ (push node.store.own c.args.to keys (node_seen node) records).out) (Ok c.in_ok-letters.letters)) c.no_letters.ensures c.in_ok-letters.ensures.read in
    subst (λ (o : ℕ). PushesOut on o c.args.to c.args.most c.args.room node before node after (Ok c.sent.result)) p.own_is
    (pushed_out on node c.args.to c.args.most c.args.room before after keys (λ records k. ap (map key_seen) c.deref.ensures.value ∙ c.in_ok-keys.ensures records k)
    c.sent.result c.in_ok-letters.letters c.sent.ensures.letters c.sent.ensures.thrown read)
