use Rattle.std.proofs.Common.{◌≡◌, length, sym, ◌∙◌}
use Rattle.node_store.specs.Disks.{view_of}
use Rattle.cluster_world.proofs.FlightLaws.{counted_more}
use Rattle.cluster_world.proofs.Queues.{finds_room, finds_none, flies_now}
use Rattle.cluster_world.proofs.queue.look_at.Goals as goal

pub returns-then-finds_room-clause-counted : goal.returns-then-finds_room-clause-counted
returns-then-finds_room-clause-counted g c =
    rw (c.push.ensures.items, c.new.ensures, c.octets_of.ensures.is)
    (counted_more _ _ _ _ _ c.requires.counted c.requires.heard (sym c.finds_room.ensures ∙ c.if-finds_room.true))

pub returns-then-finds_room-clause-looks : goal.returns-then-finds_room-clause-looks
returns-then-finds_room-clause-looks g c =
    let count : c.len.result ≡ length c.args.roomy.now.flights.items = search in
    finds_room (view_of g.D.Disk.seen g.D.Disk.faults g.D.Disk.clock) c.args.letter c.len.result c.args.roomy.now.octets c.args.nodes.now _ _ count c.requires.counted.sum (sym c.finds_room.ensures ∙ c.if-finds_room.true)
    (flies_now _ _ _ _ _ c.push.ensures.items c.new.ensures)

pub returns-else-finds_room-clause-looks : goal.returns-else-finds_room-clause-looks
returns-else-finds_room-clause-looks g c =
    let count : c.len.result ≡ length c.args.roomy.now.flights.items = search in
    finds_none (view_of g.D.Disk.seen g.D.Disk.faults g.D.Disk.clock) c.args.letter c.befall_in.result c.len.result c.args.roomy.now.octets c.args.nodes.now c.befall_in.new.nodes _ count c.requires.counted.sum (sym c.finds_room.ensures ∙ c.if-finds_room.false)
    c.befall_in.ensures.befallen
