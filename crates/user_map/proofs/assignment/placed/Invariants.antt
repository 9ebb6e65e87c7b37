use Rattle.std.proofs.Common.{◌≡◌, ◌≤◌, ◌+◌, ◌++◌, ℕ, length, drop}
use Rattle.user_map.specs.Plain.{claimed_loads, placed}
use Rattle.user_map.specs.Loads.{load_in}
use Rattle.user_map.proofs.assignment.placed.Given as goal

abbrev pub invariant-loop-cell : goal.invariant-loop-cell
invariant-loop-cell l = record {
  rows : l.rows.items ++ placed l.epoch l.members (load_in l.loads.of_node) (drop l.cell-index l.cells) ≡ placed l.epoch l.members (claimed_loads l.cells) l.cells;
  bounded : (n : ℕ) → load_in l.loads.of_node n ≤ length l.cells + l.cell-index;
}
