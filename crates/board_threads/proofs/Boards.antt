-- A board may be shared by threads, and each of its passes may go to another, where its disks, its fate and its clock may go.
use denote.RattleType.{RattleType}
use denote.Param.Send.{IsSend, IsSync, sendable}
use denote.Param.SendFields.{declared_send, declared_sync, as_row_send}
use denote.Hole.{as_row}
use denote.Struct.Field.{row_field, u64-field}
use Rattle.std.proofs.Crossing as lists
use Rattle.io_edge.specs.declared.disk.Disk as disk
use Rattle.call_tickets.specs.contracts.tally.Tally as tally
use Rattle.shard_board.specs.contracts.page.Page as page
use Rattle.shard_board.specs.contracts.part.Part as part
use Rattle.shard_board.specs.contracts.board.Board as board
use Rattle.shard_board.specs.contracts.board.BoardPass as pass
use Rattle.board_threads.proofs.Tables.{turnstile_sync, lower_send}
use Rattle.board_threads.proofs.Worlds.{world_send}

page_send : (D : RattleType) → IsSend (page.the_row D)
page_send D = search (lists.crosses, sendable) depth 20

count_send : IsSend (as_row u64-field)
count_send = search sendable depth 20

tally_send : IsSend tally.the_row
tally_send = declared_send tally.the_type (
  count_send,
  (count_send, (count_send, (count_send, (count_send, (count_send, (count_send, (count_send, (count_send, (count_send, (count_send, (count_send, tt))))))))))),
)

module _ (D F C : RattleType) where
  pub part_send : IsSend D → IsSend F → IsSend C → IsSend (part.the_row D F C)
  part_send d f c = declared_send (part.the_type D F C) (
    world_send D d,
    (as_row_send (row_field F) f, (as_row_send (row_field C) c, (search (lists.crosses, sendable) depth 20, (search (page_send D, lists.crosses, sendable) depth 20, tt)))),
  )

  pub pass_send : IsSend D → IsSend F → IsSend C → IsSend (pass.the_row D F C)
  pass_send d f c = declared_send (pass.the_type D F C) (lower_send (part.the_row D F C) (page.the_row D) (part_send d f c), (tally_send, tt))

  pub board_sync : (g : disk.Ghosts D.Denot) → IsSend D → IsSend F → IsSend C → IsSync (board.the_row D F C g)
  board_sync g d f c = let s : IsSend (part.the_row D F C) = part_send d f c in declared_sync (board.the_type D F C g) (search (turnstile_sync, sendable) depth 20, tt)
