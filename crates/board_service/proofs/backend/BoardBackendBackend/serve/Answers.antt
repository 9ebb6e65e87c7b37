use Rattle.node_store.specs.Disks.{view_of}
use Rattle.board_service.proofs.Earned.{service_serves}
use Rattle.board_service.proofs.backend.BoardBackendBackend.serve.Goals as goal

pub returns-clause-belongs : goal.returns-clause-belongs
returns-clause-belongs g c =
    service_serves (view_of g.D.Disk.seen g.D.Disk.faults g.D.Disk.clock) c.args.self.now.board.now c.args.self.now.plan.now c.args.pass.now
    (record { board = c.serve_client.new.pass; served = c.saturating_add-pass.result }) c.args.line _ _ _ _ c.requires.belongs c.serve_client.ensures.stays c.serve_client.ensures.serves c.saturating_add-pass.ensures
