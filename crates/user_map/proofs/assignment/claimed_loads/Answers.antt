use Rattle.std.proofs.Common.{ℕ, ap, arith, fold}
use Rattle.user_map.specs.Plain.{with_cell}
use Rattle.user_map.specs.Loads.{load_in}
use Rattle.user_map.proofs.Placing.{counted_more}
use Rattle.user_map.proofs.Turns.{left_is, counted_next}
use Rattle.user_map.proofs.assignment.claimed_loads.Goals as goal

pub loop-cell-init : goal.loop-cell-init
loop-cell-init c = record {
  folded = ap (λ f. fold with_cell f c.args.cells.now) c.new-loads.ensures;
  bounded = λ n. omega (arith, ap (λ (f : ℕ → ℕ). f n) c.new-loads.ensures);
}

pub loop-cell-preserved : goal.loop-cell-preserved
loop-cell-preserved c = record {
  folded = counted_next c.args.cells.now c.loop-cell.cell-index c.cell-item.result (load_in c.loop-cell.loads.of_node) (load_in c.count.new.loads.of_node) _
      (left_is c.args.cells.now c.loop-cell.cell-index c.cell-item.result c.loop-cell-test.true c.cell-item.is) c.count.ensures c.loop-cell.invariant.folded;
  bounded = λ n. omega (arith, ap (λ (f : ℕ → ℕ). f n) c.count.ensures, counted_more (load_in c.loop-cell.loads.of_node) c.cell-item.result n, c.loop-cell.invariant.bounded n);
}
