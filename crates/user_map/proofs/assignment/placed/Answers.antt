use Rattle.std.proofs.Common.{ℕ, ap, arith}
use Rattle.user_map.specs.Loads.{load_in}
use Rattle.user_map.proofs.Placing.{placed_more}
use Rattle.user_map.proofs.Turns.{left_is, placed_next}
use Rattle.user_map.proofs.assignment.placed.Goals as goal

pub loop-cell-preserved : goal.loop-cell-preserved
loop-cell-preserved c = record {
  rows = placed_next c.args.epoch c.args.members.now c.args.cells.now c.loop-cell.cell-index c.cell-item.result c.place.result c.loop-cell.rows.items c.push.new.self.items _
      (load_in c.loop-cell.loads.of_node) (load_in c.place.new.loads.of_node)
      (left_is c.args.cells.now c.loop-cell.cell-index c.cell-item.result c.loop-cell-test.true c.cell-item.is) c.place.ensures.loads c.place.ensures.row c.in_ok-push.ensures.items
      c.loop-cell.invariant.rows;
  bounded = λ n. omega (arith, ap (λ (f : ℕ → ℕ). f n) c.place.ensures.loads, placed_more c.args.members.now (load_in c.loop-cell.loads.of_node) c.cell-item.result n, c.loop-cell.invariant.bounded n);
}
