use Rattle.std.proofs.Common.{◌≡◌, ◌≤◌, ◌+◌, ◌-◌, map, take, length, vec_len, vec_capacity}
use Rattle.node_tickets.proofs.progress.confirmers_of.Given as goal

abbrev pub invariant-loop-want : goal.invariant-loop-want
invariant-loop-want l = record {
  items : l.confirmers.items ≡ map (λ want. want.confirmed) (take l.want-index l.wants);
  room : length l.wants ≤ (vec_capacity l.confirmers - vec_len l.confirmers) + l.want-index;
}
