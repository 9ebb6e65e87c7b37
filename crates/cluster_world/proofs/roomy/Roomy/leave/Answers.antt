use Rattle.cluster_world.proofs.FlightLaws.{counted_left}
use Rattle.cluster_world.proofs.roomy.Roomy.leave.Goals as goal

pub returns-clause-counted : goal.returns-clause-counted
returns-clause-counted c =
    rw c.take_out_named.ensures.items (counted_left _ _ _ c.args.posted _ c.requires (rw c.take_out_named.ensures.items at c.take_out_named.ensures.octets))
