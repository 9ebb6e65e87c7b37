use Rattle.std.proofs.Common.{◌≡◌, ◌+◌}
use Rattle.maps_model.specs.Cluster.{Disk}
use Rattle.maps_model.specs.Rules.{started}
use Rattle.node_store.specs.Disks.{view_of}
use Rattle.node_core.specs.Nodes.{node_seen}
use Rattle.node_maps.specs.Nodes.{node_of}
use Rattle.whole_node.specs.Nodes.{AreReadsOf, HasMaps, HasNoReads}
use Rattle.whole_node.specs.declared.node.WholeNode.{WholeNode}
use Rattle.whole_node.proofs.Beside.{started_beside}
use Rattle.whole_node.proofs.Found.{ok_at}
use Rattle.whole_node.proofs.Restarted.{whole_started_of, start_short}
use Rattle.whole_node.proofs.node.WholeNode.start.Goals as goal

pub with_maps-requires-clause-whole : goal.with_maps-requires-clause-whole
with_maps-requires-clause-whole g c = c.in_ok-mail.ensures.starts.started.works.whole

pub with_maps-requires-clause-without : goal.with_maps-requires-clause-without
with_maps-requires-clause-without g c = c.in_ok-mail.ensures.starts.started.without

pub with_maps-requires-clause-some : goal.with_maps-requires-clause-some
with_maps-requires-clause-some g c = c.in_ok-mail.ensures.starts.started.some

pub returns-in-Ok-clause-starts : goal.returns-in-Ok-clause-starts
returns-in-Ok-clause-starts g c =
    let on = view_of g.D.Disk.seen g.D.Disk.faults g.D.Disk.clock in
    let mail = c.in_ok-mail.mail in
    whole_started_of on c.args.plan.now c.args.number c.args.disk.now c.start_with_promise.new.disk mail c.in_ok-mail.promise c.in-Ok.node
    (ok_at (λ (node : WholeNode). node.mail ≡ mail) c.with_maps.result c.in-Ok.node c.in-Ok.is c.with_maps.ensures.mail)
    (ok_at (λ (node : WholeNode). (image : Disk) → image.boot + 1 ≡ (node_seen mail).boot → image.promise ≡ c.in_ok-mail.promise → node_of node.maps ≡ started image) c.with_maps.result c.in-Ok.node c.in-Ok.is c.with_maps.ensures.starts)
    c.in_ok-mail.ensures.starts
    (ok_at HasMaps c.with_maps.result c.in-Ok.node c.in-Ok.is c.with_maps.ensures.has_maps)
    (ok_at (λ (node : WholeNode). AreReadsOf node.mail node.reads) c.with_maps.result c.in-Ok.node c.in-Ok.is c.with_maps.ensures.reads)
    (ok_at HasNoReads c.with_maps.result c.in-Ok.node c.in-Ok.is c.with_maps.ensures.blank)

pub returns-in-Ok-clause-beside : goal.returns-in-Ok-clause-beside
returns-in-Ok-clause-beside g c = started_beside c.in-Ok.node (ok_at HasNoReads c.with_maps.result c.in-Ok.node c.in-Ok.is c.with_maps.ensures.blank)

pub returns-in-Err-clause-starts : goal.returns-in-Err-clause-starts
returns-in-Err-clause-starts g c =
    start_short (view_of g.D.Disk.seen g.D.Disk.faults g.D.Disk.clock) c.args.plan.now c.args.number c.args.disk.now c.start_with_promise.new.disk c.in_ok-mail.mail
    (g.met.D.Disk.settled_is_only c.start_with_promise.new.disk c.in_ok-mail.ensures.settled) c.start_with_promise.ensures.told c.in_ok-mail.ensures.starts.started
