use Rattle.std.proofs.Common.{arith}
use Rattle.cluster_world.proofs.OwedRows.{room_is_there, no_room}
use Rattle.cluster_world.proofs.steps.report.lacks_room_at.Goals as goal

pub returns-then-room-gt0 : goal.returns-then-room-gt0
returns-then-room-gt0 c = room_is_there c.args.to c.args.room c.args.life.now c.requires.up (λ none. omega (arith, c.if-room-gt0.true, none))

pub returns : goal.returns
returns c = no_room c.args.to c.args.room c.owes_rows_at.result c.args.life.now (omega (arith, c.if-room-gt0.false)) c.owes_rows_at.ensures
