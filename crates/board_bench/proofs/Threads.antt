-- What threads share may be shared, at either lock, and a pass may go to a thread.
use denote.Param.Send.{IsSend, IsSync, sendable}
use denote.Param.SendFields.{declared_send}
use denote.Struct.Field.{u32-field}
use Rattle.std.specs.contracts.sync.Mutex as mutex
use Rattle.std.proofs.Crossing as std
use Rattle.io_edge.specs.contracts.plain_disk.PlainDisk as plain
use Rattle.io_edge.specs.contracts.plain_disk.PlainDiskDisk.TheImpl.{ghosts as of_plain}
use Rattle.io_edge.specs.contracts.fate.CarryAll as fate
use Rattle.io_edge.specs.contracts.fate.SetClock as clock
use Rattle.shard_board.specs.contracts.board.Board as board
use Rattle.shard_board.specs.contracts.board.BoardPass as pass
use Rattle.board_threads.proofs.Mail.{node_no_send}
use Rattle.board_threads.proofs.Worlds.{world_send}
use Rattle.board_threads.proofs.Boards.{board_sync, pass_send}
use Rattle.board_bench.specs.contracts.guarded.Guarded as guarded
use Rattle.board_bench.specs.contracts.guarded.Guarded.TheInside as guarded_inside
use Rattle.board_bench.specs.contracts.words.Work as work

plain_send : IsSend plain.the_row
plain_send = search (std.crosses, sendable) depth 20

fate_send : IsSend fate.the_row
fate_send = search sendable depth 20

clock_send : IsSend clock.the_row
clock_send = search sendable depth 20

guarded_inside_send : IsSend guarded_inside.the_row
guarded_inside_send = declared_send guarded_inside.the_type (world_send plain.the_row plain_send, (node_no_send, tt))

guarded_send : IsSend guarded.the_row
guarded_send = search (guarded_inside_send, sendable) depth 20

pub mutex_sync : IsSync (mutex.the_row guarded.the_row)
mutex_sync = search (guarded_send, std.crosses, sendable) depth 20

pub shared_sync : IsSync (board.the_row plain.the_row fate.the_row clock.the_row of_plain)
shared_sync = board_sync plain.the_row fate.the_row clock.the_row of_plain plain_send fate_send clock_send

pub hand_send : IsSend (pass.the_row plain.the_row fate.the_row clock.the_row)
hand_send = pass_send plain.the_row fate.the_row clock.the_row plain_send fate_send clock_send

pub count_sync : IsSync u32-field.row
count_sync = search sendable depth 20

pub work_sync : IsSync work.the_row
work_sync = search sendable depth 20
