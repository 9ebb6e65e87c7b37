use Rattle.std.proofs.Common.{◌≡◌, ◌≤◌, ◌-◌, ◌++◌, map, take, length}
use Rattle.mail_base.specs.Seen.{key_seen}
use Rattle.update_log.specs.Dues.{due_of}
use Rattle.update_log.proofs.log.due_in.Given as goal

abbrev pub invariant-loop-key : goal.invariant-loop-key
invariant-loop-key l = record {
  found : map key_seen l.keys.items ++ take (l.most - length l.keys.items) (due_of l.to l.key-iterator) ≡ take l.most (due_of l.to l.entries.entries);
  few : length l.keys.items ≤ l.most;
}
