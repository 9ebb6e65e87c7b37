use Rattle.std.proofs.Common.{◌≡◌, ◌++◌, drop}
use Rattle.maps_model.specs.Rules.{claims_from}
use Rattle.membership.proofs.group.claims_of.Given as goal

abbrev pub invariant-loop-bucket : goal.invariant-loop-bucket
invariant-loop-bucket l = l.claims ++ claims_from l.own l.bucket (drop l.bucket l.map) ≡ claims_from l.own 0 l.map
