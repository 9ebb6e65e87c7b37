use Rattle.std.proofs.Common.{List, ◌++◌, map, sym, subst}
use Rattle.std.specs.FinMap as fin
use Rattle.mail_base.specs.declared.key.Key as code
use Rattle.mail_base.specs.Seen.{key_seen}
use Rattle.cluster_model.specs.Cluster.{epoch_of}
use Rattle.cluster_model.specs.Rules.{push_of, push}
use Rattle.node_store.specs.Disks.{view_of}
use Rattle.node_core.specs.Nodes.{node_seen}
use Rattle.node_core.specs.PushReads.{ReadsLetters}
use Rattle.node_core.proofs.PushRead.{pushed_on}
use Rattle.node_core.proofs.node.Node.+with_pushes.Goals as goal

pub returns-clause-read : goal.returns-clause-read
returns-clause-read g t c =
    let on = view_of g.D.Disk.seen g.D.Disk.faults g.D.Disk.clock in
    let node = c.args.self.now in
    let own = node.store.own in
    let first = key_seen c.in-Some.key.now in
    let others = map key_seen c.in-Some.others.now in
    subst (λ (ks : List code.Key). ReadsLetters on node c.args.disk.now c.with_pushes.new.disk (λ records. c.args.letters ++ (push own c.args.to (map key_seen ks) (node_seen node) records).out) c.with_pushes.result)
    (sym c.in-Some.ensures.cases.0)
    (pushed_on on node c.args.disk.now c.with_push.new.disk c.with_pushes.new.disk c.args.letters c.in_ok-letters.letters
    (λ records. push_of own c.args.to (epoch_of (node_seen node)) records first (fin.get node.store.log first))
    (λ records. (push own c.args.to others (node_seen node) records).out) c.in_ok-letters.ensures.read.0 c.with_pushes.result c.with_pushes.ensures.read)
