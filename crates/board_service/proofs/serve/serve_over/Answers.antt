use Rattle.node_store.specs.Disks.{view_of}
use Rattle.board_service.proofs.Over.{serves_over}
use Rattle.board_service.proofs.serve.serve_over.Goals as goal

pub returns-clause-served : goal.returns-clause-served
returns-clause-served g c =
    serves_over g.Y.Door.Door.left g.Y.Door.Door.quiets g.Y.Door.Door.faults (view_of g.D.Disk.seen g.D.Disk.faults g.D.Disk.clock) c.args.plan.now c.args.board c.serve_by-doors.result.2 c.close-world.result
    c.serve_by-doors.result.0 c.settled.result c.serve_by-doors.result.3 c.args.entrances.items (g.Y.Yard.closed c.args.yard.now) (g.Y.Yard.closed c.serve_by-doors.new.yard)
    c.serve_by-doors.ensures.belongs c.close-world.ensures.closed c.settled.ensures c.serve_by-doors.ensures.served
