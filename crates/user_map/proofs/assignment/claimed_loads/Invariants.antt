use Rattle.std.proofs.Common.{◌≡◌, ◌≤◌, ℕ, fold, drop}
use Rattle.user_map.specs.Plain.{with_cell, claimed_loads}
use Rattle.user_map.specs.Loads.{load_in}
use Rattle.user_map.proofs.assignment.claimed_loads.Given as goal

abbrev pub invariant-loop-cell : goal.invariant-loop-cell
invariant-loop-cell l = record {
  folded : fold with_cell (load_in l.loads.of_node) (drop l.cell-index l.cells) ≡ claimed_loads l.cells;
  bounded : (n : ℕ) → load_in l.loads.of_node n ≤ l.cell-index;
}
