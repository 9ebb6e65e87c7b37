use Rattle.std.proofs.Common.{◌≡◌, ◌≤◌, ◌-◌, ◌++◌, take, length}
use Rattle.std.specs.List.{filter}
use Rattle.user_map.specs.Managers.{is_managed_by}
use Rattle.map_rebuild.proofs.marks.due_in.Given as goal

abbrev pub invariant-loop-user : goal.invariant-loop-user
invariant-loop-user l = record {
  found : l.users ++ take (l.most - length l.users) (filter (is_managed_by l.map l.to) l.user-iterator) ≡ take l.most (filter (is_managed_by l.map l.to) l.marked.keys);
  few : length l.users ≤ l.most;
}
