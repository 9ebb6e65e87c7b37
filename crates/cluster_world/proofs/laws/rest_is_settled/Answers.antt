use Rattle.cluster_world.proofs.AtRest.{rest_is_settled as law}
use Rattle.cluster_world.proofs.laws.rest_is_settled.Goals as goal

pub returns : goal.returns
returns g c = law _
