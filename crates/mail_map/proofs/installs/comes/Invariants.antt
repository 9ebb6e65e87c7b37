use Rattle.std.proofs.Common.{◌≡◌, drop}
use Rattle.maps_model.specs.Cluster.{member_of}
use Rattle.mail_map.proofs.installs.comes.Given as goal

abbrev pub invariant-loop-member : goal.invariant-loop-member
invariant-loop-member l = member_of (drop l.member-index l.members) l.fn.teller.node ≡ member_of l.members l.fn.teller.node
