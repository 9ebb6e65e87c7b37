use Rattle.std.proofs.Common.{ap, ◌∙◌}
use Rattle.node_maps.specs.Nodes.{node_of}
use Rattle.whole_node.proofs.node.WholeNode.over.Goals as goal

pub returns-in-Ok-clause-starts : goal.returns-in-Ok-clause-starts
returns-in-Ok-clause-starts c = λ image boot promise. ap node_of c.with_nothing.ensures.maps ∙ c.in-Ok.ensures.starts image boot promise
