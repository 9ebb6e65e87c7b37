use Rattle.std.proofs.Common.{◌≡◌, ◌&&◌, not, List, ℕ, drop}
use Rattle.map_rebuild.specs.Users.{has_user}
use Rattle.map_rebuild.proofs.marks.take_each.Given as goal

abbrev pub invariant-loop-user : goal.invariant-loop-user
invariant-loop-user l = (q : List ℕ) → (has_user l.marked.keys q && not (has_user (drop l.user-index l.users) q)) ≡ (has_user l.initial.marked.keys q && not (has_user l.users q))
