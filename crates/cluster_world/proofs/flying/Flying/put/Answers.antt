use Rattle.cluster_world.proofs.FlightLaws.{counted_left}
use Rattle.cluster_world.proofs.flying.Flying.put.Goals as goal

pub put_all-requires-clause-counted : goal.put_all-requires-clause-counted
put_all-requires-clause-counted c =
    rw c.take_out_named.ensures.items
    (counted_left _ _ _ c.args.posted _ (rw c.in_ok-reserve.ensures.items c.self.invariant) (rw c.take_out_named.ensures.items at c.take_out_named.ensures.octets))
