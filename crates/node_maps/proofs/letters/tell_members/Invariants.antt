use Rattle.std.proofs.Common.{◌≡◌, ◌++◌, drop}
use Rattle.node_maps.specs.Nodes.{installs_to}
use Rattle.node_maps.proofs.letters.tell_members.Given as goal

abbrev pub invariant-loop-member : goal.invariant-loop-member
invariant-loop-member l = l.letters ++ installs_to l.own l.install (drop l.member-index l.members) ≡ l.initial.letters ++ installs_to l.own l.install l.members
