use Rattle.std.proofs.Common.{◌≡◌, take}
use Rattle.membership.proofs.group.copy_of.Given as goal

abbrev pub invariant-loop-claim : goal.invariant-loop-claim
invariant-loop-claim l = l.copy ≡ take l.claim-index l.claims
