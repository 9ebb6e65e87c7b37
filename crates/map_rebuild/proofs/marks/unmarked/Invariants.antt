use Rattle.std.proofs.Common.{◌≡◌, ◌≤◌, ◌++◌, drop, length, not}
use Rattle.std.specs.List.{filter}
use Rattle.map_rebuild.specs.Users.{has_user}
use Rattle.map_rebuild.proofs.marks.unmarked.Given as goal

abbrev pub invariant-loop-user : goal.invariant-loop-user
invariant-loop-user l = record {
  those : l.fresh.items ++ filter (λ user. not (has_user l.marked.keys user)) (drop l.user-index l.users) ≡ filter (λ user. not (has_user l.marked.keys user)) l.users;
  few : length l.fresh.items ≤ l.user-index;
}
