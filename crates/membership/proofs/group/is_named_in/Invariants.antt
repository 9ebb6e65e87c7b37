use Rattle.std.proofs.Common.{◌≡◌, drop}
use Rattle.maps_model.specs.Cluster.{member_of}
use Rattle.membership.proofs.group.is_named_in.Given as goal

abbrev pub invariant-loop-member : goal.invariant-loop-member
invariant-loop-member l = member_of (drop l.member-index l.members) l.node ≡ member_of l.members l.node
