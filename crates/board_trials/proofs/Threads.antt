-- Boards of the tests may be shared by threads, and their passes may go to them.
use denote.Param.Send.{IsSend, IsSync, sendable}
use Rattle.std.proofs.Crossing as lists
use Rattle.io_edge.specs.contracts.plain_disk.PlainDisk as plain
use Rattle.io_edge.specs.contracts.plain_disk.PlainDiskDisk.TheImpl.{ghosts as of_plain}
use Rattle.io_edge.specs.contracts.fate.SetClock as clock
use Rattle.node_disk.specs.contracts.memory.MemoryDisk as memory
use Rattle.node_disk.specs.contracts.memory.MemoryDiskDisk.TheImpl.{ghosts as of_memory}
use Rattle.board_trials.specs.contracts.lots.Lots as lots
use Rattle.shard_board.specs.contracts.board.Board as board
use Rattle.shard_board.specs.contracts.board.BoardPass as pass
use Rattle.board_threads.proofs.Boards.{board_sync, pass_send}

plain_send : IsSend plain.the_row
plain_send = search (lists.crosses, sendable) depth 20

memory_send : IsSend memory.the_row
memory_send = search (lists.crosses, sendable) depth 30

lots_send : IsSend lots.the_row
lots_send = search sendable depth 20

clock_send : IsSend clock.the_row
clock_send = search sendable depth 20

pub plain_pass_send : IsSend (pass.the_row plain.the_row lots.the_row clock.the_row)
plain_pass_send = pass_send plain.the_row lots.the_row clock.the_row plain_send lots_send clock_send

pub plain_board_sync : IsSync (board.the_row plain.the_row lots.the_row clock.the_row of_plain)
plain_board_sync = board_sync plain.the_row lots.the_row clock.the_row of_plain plain_send lots_send clock_send

pub memory_pass_send : IsSend (pass.the_row memory.the_row lots.the_row clock.the_row)
memory_pass_send = pass_send memory.the_row lots.the_row clock.the_row memory_send lots_send clock_send

pub memory_board_sync : IsSync (board.the_row memory.the_row lots.the_row clock.the_row of_memory)
memory_board_sync = board_sync memory.the_row lots.the_row clock.the_row of_memory memory_send lots_send clock_send
