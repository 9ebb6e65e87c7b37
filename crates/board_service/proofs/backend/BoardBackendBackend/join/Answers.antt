use Rattle.node_store.specs.Disks.{view_of}
use Rattle.board_service.proofs.Earned.{service_joins}
use Rattle.board_service.proofs.backend.BoardBackendBackend.join.Goals as goal

pub returns-clause-belongs : goal.returns-clause-belongs
returns-clause-belongs g c =
    service_joins (view_of g.D.Disk.seen g.D.Disk.faults g.D.Disk.clock) c.args.self.now.board.now c.args.self.now.plan.now c.args.pass.now c.args.other
    (record { board = c.join.new.pass; served = c.saturating_add-pass.result }) c.requires.belong.0 c.requires.belong.1 c.join.ensures.pass c.join.ensures.join c.saturating_add-pass.ensures
