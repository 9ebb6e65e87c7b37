use Rattle.std.proofs.Common.{◌≡◌, ◌++◌, drop, not}
use Rattle.std.specs.List.{filter}
use Rattle.node_maps.specs.Entering.{is_spared}
use Rattle.node_maps.proofs.entering.unspared.Given as goal

abbrev pub invariant-loop-user : goal.invariant-loop-user
invariant-loop-user l = l.due.items ++ filter (λ user. not (is_spared l.old l.new user)) (drop l.user-index l.users) ≡ filter (λ user. not (is_spared l.old l.new user)) l.users
