use Rattle.std.proofs.Common.{ℕ, List, drop}
use Rattle.node_disk.specs.Memory.{Reaches}
use Rattle.node_disk.proofs.held.front_left.Given as goal

-- what the writes that are left may make of it, all writes may make of what was synced
abbrev pub invariant-loop-range : goal.invariant-loop-range
invariant-loop-range l = record {
  reached : (c : List ℕ) → Reaches l.left.items (drop l.range-index l.ranges) c → Reaches l.fn.synced l.ranges c;
}
