-- Threads share a board as a backend, and its passes go to them.
use denote.RattleType.{RattleType}
use denote.Param.Send.{IsSend, IsSync, sendable}
use denote.Param.SendFields.{declared_send, declared_sync}
use denote.Hole.{as_row}
use denote.Ref.{NamedLft}
use denote.Struct.Field.{u64-field}
use Rattle.std.proofs.Crossing as lists
use Rattle.io_edge.specs.declared.disk.Disk as disk
use Rattle.shard_board.specs.contracts.board.Board as board
use Rattle.board_threads.proofs.Boards.{pass_send, board_sync}
use Rattle.board_threads.proofs.Mail.{plan_sync}
use Rattle.board_service.specs.contracts.pass.ServicePass as pass
use Rattle.board_service.specs.contracts.backend.BoardBackend as backend

count_send : IsSend (as_row u64-field)
count_send = search sendable depth 20

module _ (D F C : RattleType) where
  pub service_pass_send : IsSend D → IsSend F → IsSend C → IsSend (pass.the_row D F C)
  service_pass_send d f c = declared_send (pass.the_type D F C) (pass_send D F C d f c, (count_send, tt))

  pub backend_sync : (a : NamedLft) (R G : RattleType) (g : disk.Ghosts D.Denot) → IsSync R → IsSync G → IsSend D → IsSend F → IsSend C → IsSync (backend.the_row a R D F C G g)
  backend_sync a R G g r h d f c = let b : IsSync (board.the_row D F C g) = board_sync D F C g d f c in
      declared_sync (backend.the_type a R D F C G g) (
        search sendable depth 20,
        (search sendable depth 20, (search sendable depth 20, (search (sendable, plan_sync) depth 20, (search (sendable, lists.crosses) depth 20, tt)))),
      )
