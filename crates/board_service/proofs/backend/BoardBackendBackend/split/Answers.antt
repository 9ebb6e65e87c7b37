use Rattle.std.proofs.Common.{refl}
use Rattle.node_store.specs.Disks.{view_of}
use Rattle.board_service.proofs.Earned.{service_splits}
use Rattle.board_service.proofs.backend.BoardBackendBackend.split.Goals as goal

pub returns-clause-belong : goal.returns-clause-belong
returns-clause-belong g c =
    service_splits (view_of g.D.Disk.seen g.D.Disk.faults g.D.Disk.clock) c.args.self.now.board.now c.args.self.now.plan.now c.args.part c.args.pass.now
    (record { board = c.split-board.new.pass; served = c.args.pass.now.served }) (record { board = c.split-board.result; served = 0 }) c.requires.belongs c.split-board.ensures.belong c.split-board.ensures.split refl refl
