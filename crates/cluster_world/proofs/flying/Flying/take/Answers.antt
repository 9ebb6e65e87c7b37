use Rattle.cluster_world.proofs.FlightLaws.{counted_without}
use Rattle.cluster_world.proofs.flying.Flying.take.Goals as goal

pub invariant_of-self : goal.invariant_of-self
invariant_of-self c =
    rw c.take_out.ensures.items (counted_without _ _ _ c.args.number _ c.self.invariant (rw c.take_out.ensures.items at c.take_out.ensures.octets))
