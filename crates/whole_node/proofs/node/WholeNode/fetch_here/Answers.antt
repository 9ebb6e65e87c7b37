use Rattle.std.proofs.Common.{◌≡◌, ℕ, List, [], ap, subst}
use Rattle.mail_base.specs.Bodies.{part_seen}
use Rattle.login_model.specs.Rules.{begin_fetch}
use Rattle.node_store.specs.Disks.{view_of}
use Rattle.cluster_model.specs.Cluster.{epoch_of}
use Rattle.node_core.specs.Nodes.{node_seen}
use Rattle.node_reads.specs.Tables.{Begins}
use Rattle.whole_node.specs.declared.node.WholeNode.{WholeNode}
use Rattle.whole_node.proofs.Fetched.{told_here}
use Rattle.whole_node.proofs.node.WholeNode.fetch_here.Goals as goal

pub returns-clause-fetches : goal.returns-clause-fetches
returns-clause-fetches g c =
    let on = view_of g.D.Disk.seen g.D.Disk.faults g.D.Disk.clock in
    let old = c.args.self.now in
    let new : WholeNode = record old { reads = c.begin_own_fetch.new.self } in
    let t = c.in_ok-part.ensures.tells in
    let part = part_seen c.in_ok-part.part in
    told_here on c.args.user c.args.id c.args.from c.args.most c.args.asked c.args.ticket old c.args.disk.now new c.told_part.new.disk part c.new.result c.requires.own c.requires.works.reads t.those
    (λ here. subst (λ (q : ℕ). Begins (epoch_of (node_seen old.mail)) q (λ u. begin_fetch u c.args.user c.args.id c.args.from c.args.most c.args.asked part) [] old.reads new.reads) (ap (λ n. n.seq) c.ticket.view_is)
    (c.in_ok-begin_own_fetch.ensures.ok (epoch_of (node_seen old.mail)) c.args.asked here)) c.new.ensures t.read t.quiet
