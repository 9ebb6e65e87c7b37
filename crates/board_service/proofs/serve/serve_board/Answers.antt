use Rattle.std.proofs.Common.{sym, subst}
use Rattle.node_store.specs.Disks.{view_of}
use Rattle.mail_service.specs.Services.{HasOpened}
use Rattle.board_service.specs.Served.{ServesOver}
use Rattle.board_service.proofs.Earned.{service_begins}
use Rattle.board_service.proofs.Over.{over_counts, unserved_runs}
use Rattle.board_service.proofs.serve.serve_board.Goals as goal

pub serve_over-doors-requires-clause-belongs : goal.serve_over-doors-requires-clause-belongs
serve_over-doors-requires-clause-belongs g c κs within =
    service_begins (view_of g.Y.Store.Disk.seen g.Y.Store.Disk.faults g.Y.Store.Disk.clock) c.in-Ok-make_board.board c.args.plan.now c.args.world _ c.in-Ok-make_board.pass
    c.in-Ok-make_board.ensures.made c.in-Ok-make_board.ensures.served

-- the doors were opened before the board was made
pub returns-in-Ok-make_board-clause-counted : goal.returns-in-Ok-make_board-clause-counted
returns-in-Ok-make_board-clause-counted g c =
    let opens : HasOpened c.args.ports.now c.in-Ok.made.0.items (g.Y.Yard.opened c.args.yard.now) (g.Y.Yard.opened c.make_board.new.yard) (g.Y.Yard.closed c.args.yard.now) (g.Y.Yard.closed c.make_board.new.yard) =
    subst (λ yard. HasOpened c.args.ports.now c.in-Ok.made.0.items (g.Y.Yard.opened c.args.yard.now) (g.Y.Yard.opened yard) (g.Y.Yard.closed c.args.yard.now) (g.Y.Yard.closed yard))
    (sym c.in-Ok-make_board.ensures.same) c.in-Ok.ensures.doors in
    over_counts g.Y.Door.Door.left g.Y.Door.Door.quiets g.Y.Door.Door.faults (view_of g.Y.Store.Disk.seen g.Y.Store.Disk.faults g.Y.Store.Disk.clock) c.args.plan.now c.args.ports.now c.in-Ok.made.0.items
    (g.Y.Yard.opened c.args.yard.now) (g.Y.Yard.opened c.make_board.new.yard) (g.Y.Yard.closed c.args.yard.now) (g.Y.Yard.closed c.make_board.new.yard) opens
    c.serve_over-doors.result.0 c.serve_over-doors.result.1 (g.Y.Yard.opened c.serve_over-doors.new.yard) (g.Y.Yard.closed c.serve_over-doors.new.yard) c.args.world c.serve_over-doors.result.2
    c.serve_over-doors.ensures.opened
    (subst (λ world. ServesOver g.Y.Door.Door.left g.Y.Door.Door.quiets g.Y.Door.Door.faults (view_of g.Y.Store.Disk.seen g.Y.Store.Disk.faults g.Y.Store.Disk.clock) c.args.plan.now c.serve_over-doors.result.0
    c.in-Ok.made.0.items (g.Y.Yard.closed c.make_board.new.yard) (g.Y.Yard.closed c.serve_over-doors.new.yard) world c.serve_over-doors.result.2) c.in-Ok-make_board.ensures.made.world_is c.serve_over-doors.ensures.served)

-- and so where there was no memory for it
pub returns-in-Err-make_board-clause-ran : goal.returns-in-Err-make_board-clause-ran
returns-in-Err-make_board-clause-ran g c =
    let opens : HasOpened c.args.ports.now c.in-Ok.made.0.items (g.Y.Yard.opened c.args.yard.now) (g.Y.Yard.opened c.make_board.new.yard) (g.Y.Yard.closed c.args.yard.now) (g.Y.Yard.closed c.make_board.new.yard) =
    subst (λ yard. HasOpened c.args.ports.now c.in-Ok.made.0.items (g.Y.Yard.opened c.args.yard.now) (g.Y.Yard.opened yard) (g.Y.Yard.closed c.args.yard.now) (g.Y.Yard.closed yard))
    (sym c.in-Err-make_board.ensures.same) c.in-Ok.ensures.doors in
    unserved_runs g.Y.Door.Door.left g.Y.Door.Door.quiets g.Y.Door.Door.faults (view_of g.Y.Store.Disk.seen g.Y.Store.Disk.faults g.Y.Store.Disk.clock) c.args.plan.now c.args.ports.now c.in-Ok.made.0.items
    (g.Y.Yard.opened c.args.yard.now) (g.Y.Yard.opened c.make_board.new.yard) (g.Y.Yard.closed c.args.yard.now) (g.Y.Yard.closed c.make_board.new.yard) opens
    (g.Y.Yard.opened c.shut_all.new.yard) (g.Y.Yard.closed c.shut_all.new.yard) c.shut_all.ensures.opened c.shut_all.ensures.closed
