use Rattle.std.proofs.Common.{◌≡◌, ◌≤◌, ◌+◌, ◌||◌, List, ℕ, drop, length}
use Rattle.map_rebuild.specs.Users.{has_user}
use Rattle.map_rebuild.proofs.marks.put_each.Given as goal

abbrev pub invariant-loop-user : goal.invariant-loop-user
invariant-loop-user l = record {
  all : (q : List ℕ) → (has_user l.marked.keys q || has_user (drop l.user-index l.users) q) ≡ (has_user l.initial.marked.keys q || has_user l.users q);
  more : length l.initial.marked.keys ≤ length l.marked.keys;
  few : length l.marked.keys ≤ length l.initial.marked.keys + l.user-index;
}
