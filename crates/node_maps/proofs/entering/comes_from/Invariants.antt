use Rattle.std.proofs.Common.{◌≡◌, drop}
use Rattle.maps_model.specs.Cluster.{member_of}
use Rattle.node_maps.proofs.entering.comes_from.Given as goal

abbrev pub invariant-loop-member : goal.invariant-loop-member
invariant-loop-member l = member_of (drop l.member-index l.members) l.node ≡ member_of l.members l.node
