use Rattle.std.proofs.Common.{◌≡◌, take, flat_map}
use Rattle.membership.proofs.opened.claims_of.Given as goal

abbrev pub invariant-loop-join : goal.invariant-loop-join
invariant-loop-join l = l.claims ≡ flat_map (λ join. join.claims) (take l.join-index l.joins)
