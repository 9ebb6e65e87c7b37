use Rattle.std.proofs.Common.{◌≡◌, fold, drop}
use Rattle.user_map.specs.Plain.{with_claim, claimed_cells}
use Rattle.user_map.proofs.cells.claimed_cells.Given as goal

abbrev pub invariant-loop-claim : goal.invariant-loop-claim
invariant-loop-claim l = fold (with_claim l.members) l.cells.items (drop l.claim-index l.claims) ≡ claimed_cells l.claims l.members l.buckets
