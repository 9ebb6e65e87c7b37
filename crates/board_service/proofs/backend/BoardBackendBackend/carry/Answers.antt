use Rattle.std.proofs.Common.{refl}
use Rattle.node_store.specs.Disks.{view_of}
use Rattle.board_service.proofs.Earned.{service_goes}
use Rattle.board_service.proofs.backend.BoardBackendBackend.carry.Goals as goal

pub returns-clause-belongs : goal.returns-clause-belongs
returns-clause-belongs g c =
    service_goes (view_of g.D.Disk.seen g.D.Disk.faults g.D.Disk.clock) c.args.self.now.board.now c.args.self.now.plan.now c.args.pass.now
    (record { board = c.carry_one.new.pass; served = c.args.pass.now.served }) c.requires.belongs c.carry_one.ensures.goes refl
