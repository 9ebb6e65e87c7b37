use Rattle.std.proofs.Common.{◌≡◌, ◌++◌, take}
use Rattle.membership.proofs.opened.append.Given as goal

abbrev pub invariant-loop-claim : goal.invariant-loop-claim
invariant-loop-claim l = l.claims ≡ l.initial.claims ++ take l.claim-index l.more
