use Rattle.std.proofs.Common.{ap, sym, ◌∙◌, eqb-true}
use Rattle.node_store.specs.Disks.{view_of}
use Rattle.shard_board.specs.Boards.{plan_of_board}
use Rattle.shard_board.specs.Orders.{ordered_by, is_blind_order}
use Rattle.shard_board.proofs.Turning.{obeyed, regrouped, settled, mapped, counted, order_still}
use Rattle.shard_board.proofs.board.Board.console.Goals as goal

pub returns-in-Crash-clause-turn : goal.returns-in-Crash-clause-turn
returns-in-Crash-clause-turn g c = obeyed (view_of g.D.Disk.seen g.D.Disk.faults g.D.Disk.clock) (ordered_by c.args.order) _ c.args.self.now c.args.pass.now _ _ _ (ap ordered_by c.in-Crash.is) c.told.ensures c.step.ensures.turn

pub returns-in-Start-clause-turn : goal.returns-in-Start-clause-turn
returns-in-Start-clause-turn g c = obeyed (view_of g.D.Disk.seen g.D.Disk.faults g.D.Disk.clock) (ordered_by c.args.order) _ c.args.self.now c.args.pass.now _ _ _ (ap ordered_by c.in-Start.is) c.told-in-Start.ensures c.step-in-Start.ensures.turn

pub returns-in-Lose-clause-turn : goal.returns-in-Lose-clause-turn
returns-in-Lose-clause-turn g c = obeyed (view_of g.D.Disk.seen g.D.Disk.faults g.D.Disk.clock) (ordered_by c.args.order) _ c.args.self.now c.args.pass.now _ _ _ (ap ordered_by c.in-Lose.is) c.told-in-Lose.ensures c.step-in-Lose.ensures.turn

pub returns-in-Push-clause-turn : goal.returns-in-Push-clause-turn
returns-in-Push-clause-turn g c = obeyed (view_of g.D.Disk.seen g.D.Disk.faults g.D.Disk.clock) (ordered_by c.args.order) _ c.args.self.now c.args.pass.now _ _ _ (ap ordered_by c.in-Push.is) c.told-in-Push.ensures c.step-in-Push.ensures.turn

pub returns-in-Widen-clause-turn : goal.returns-in-Widen-clause-turn
returns-in-Widen-clause-turn g c = obeyed (view_of g.D.Disk.seen g.D.Disk.faults g.D.Disk.clock) (ordered_by c.args.order) _ c.args.self.now c.args.pass.now _ _ _ (ap ordered_by c.in-Widen.is) c.told-in-Widen.ensures c.step-in-Widen.ensures.turn

pub returns-in-Regroup-clause-turn : goal.returns-in-Regroup-clause-turn
returns-in-Regroup-clause-turn g c = regrouped (view_of g.D.Disk.seen g.D.Disk.faults g.D.Disk.clock) (ordered_by c.args.order) _ c.args.self.now c.args.pass.now _ _ _ (ap ordered_by c.in-Regroup.is) c.told_regroup.ensures c.regroup.ensures.turn

pub returns-in-Report-clause-turn : goal.returns-in-Report-clause-turn
returns-in-Report-clause-turn g c = obeyed (view_of g.D.Disk.seen g.D.Disk.faults g.D.Disk.clock) (ordered_by c.args.order) _ c.args.self.now c.args.pass.now _ _ _ (ap ordered_by c.in-Report.is) c.told-in-Report.ensures c.step-in-Report.ensures.turn

pub returns-in-Settle-clause-turn : goal.returns-in-Settle-clause-turn
returns-in-Settle-clause-turn g c = settled (view_of g.D.Disk.seen g.D.Disk.faults g.D.Disk.clock) (ordered_by c.args.order) c.args.self.now c.args.pass.now _ _ _ (ap ordered_by c.in-Settle.is) c.told_settle.ensures c.settle.ensures.turn

pub returns-in-Maps-clause-turn : goal.returns-in-Maps-clause-turn
returns-in-Maps-clause-turn g c = mapped (view_of g.D.Disk.seen g.D.Disk.faults g.D.Disk.clock) (ordered_by c.args.order) _ c.args.self.now c.args.pass.now _ _ (ap ordered_by c.in-Maps.is) c.maps.ensures.turn

pub returns-in-Sum-clause-turn : goal.returns-in-Sum-clause-turn
returns-in-Sum-clause-turn g c = counted (view_of g.D.Disk.seen g.D.Disk.faults g.D.Disk.clock) (ordered_by c.args.order) c.args.self.now c.args.pass.now _ _ (ap ordered_by c.in-Sum.is) c.sum.ensures.turn

pub returns-in-Crash-clause-still : goal.returns-in-Crash-clause-still
returns-in-Crash-clause-still g c = order_still (plan_of_board c.args.self.now).nodes (ordered_by c.args.order) _ (ap ordered_by c.in-Crash.is) c.step.ensures.still

pub returns-in-Start-clause-still : goal.returns-in-Start-clause-still
returns-in-Start-clause-still g c = order_still (plan_of_board c.args.self.now).nodes (ordered_by c.args.order) _ (ap ordered_by c.in-Start.is) c.step-in-Start.ensures.still

pub returns-in-Lose-clause-still : goal.returns-in-Lose-clause-still
returns-in-Lose-clause-still g c = order_still (plan_of_board c.args.self.now).nodes (ordered_by c.args.order) _ (ap ordered_by c.in-Lose.is) c.step-in-Lose.ensures.still

pub returns-in-Push-clause-still : goal.returns-in-Push-clause-still
returns-in-Push-clause-still g c = order_still (plan_of_board c.args.self.now).nodes (ordered_by c.args.order) _ (ap ordered_by c.in-Push.is) c.step-in-Push.ensures.still

pub returns-in-Widen-clause-still : goal.returns-in-Widen-clause-still
returns-in-Widen-clause-still g c = order_still (plan_of_board c.args.self.now).nodes (ordered_by c.args.order) _ (ap ordered_by c.in-Widen.is) c.step-in-Widen.ensures.still

pub returns-in-Report-clause-still : goal.returns-in-Report-clause-still
returns-in-Report-clause-still g c = order_still (plan_of_board c.args.self.now).nodes (ordered_by c.args.order) _ (ap ordered_by c.in-Report.is) c.step-in-Report.ensures.still

pub returns-in-Settle-clause-still : goal.returns-in-Settle-clause-still
returns-in-Settle-clause-still g c = λ blind. c.settle.ensures.still (eqb-true (plan_of_board c.args.self.now).nodes 1 (ap (is_blind_order (plan_of_board c.args.self.now).nodes) (sym (ap ordered_by c.in-Settle.is)) ∙ blind))

pub returns-in-Maps-clause-still : goal.returns-in-Maps-clause-still
returns-in-Maps-clause-still g c = λ blind. c.maps.ensures.still

pub returns-in-Regroup-clause-still : goal.returns-in-Regroup-clause-still
returns-in-Regroup-clause-still g c = λ blind. c.regroup.ensures.still

pub returns-in-Sum-clause-still : goal.returns-in-Sum-clause-still
returns-in-Sum-clause-still g c = λ blind. c.sum.ensures.still
