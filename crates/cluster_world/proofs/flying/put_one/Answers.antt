use Rattle.std.proofs.Common.{sym, ◌∙◌}
use Rattle.cluster_world.proofs.FlightLaws.{counted_more}
use Rattle.cluster_world.proofs.flying.put_one.Goals as goal

pub returns-then-finds_room-clause-counted : goal.returns-then-finds_room-clause-counted
returns-then-finds_room-clause-counted c =
    rw (c.push.ensures.items, c.new.ensures, c.octets_of.ensures.is)
    (counted_more _ _ _ _ _ c.requires.counted c.requires.heard (sym c.finds_room.ensures ∙ c.if-finds_room.true))
