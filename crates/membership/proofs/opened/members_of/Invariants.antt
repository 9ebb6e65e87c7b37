use Rattle.std.proofs.Common.{◌≡◌, take, map}
use Rattle.membership.proofs.opened.members_of.Given as goal

abbrev pub invariant-loop-join : goal.invariant-loop-join
invariant-loop-join l = l.members ≡ map (λ join. join.member) (take l.join-index l.joins)
