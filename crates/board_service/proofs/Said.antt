-- What is said of an order that a board was given.
use Rattle.std.proofs.Common.{◌≡◌, ℕ, List, ◌++◌, Some}
use Rattle.std.specs.Prelude.{OnOk, Result, Ok, Err}
use Rattle.node_store.specs.Disks.{View}
use Rattle.cluster_world.specs.declared.fault.StepFault.{StepFault}
use Rattle.shard_board.specs.declared.board.Board.{Board}
use Rattle.shard_board.specs.declared.board.BoardPass.{BoardPass}
use Rattle.shard_board.specs.declared.order.Order.{Order}
use Rattle.shard_board.specs.declared.order.Told.{Told}
use Rattle.shard_board.specs.Boards.{IsTurnOf}
use Rattle.shard_board.specs.Orders.{ordered_by, Obeys}
use Rattle.board_service.specs.declared.orders.ConsoleOrder.{ConsoleOrder}
use Rattle.board_service.specs.ConsoleAnswers.{answer_to}
use Rattle.board_service.specs.Obeying.{IsOrdered}

module _ {D F C E : Type 0} (on : View D) (board : Board D F C) (order : ConsoleOrder) (number : ℕ) (ordered : Order) (old new : BoardPass D F C) (came : Result Told StepFault)
    (turn : IsTurnOf on (Obeys on (ordered_by ordered)) board old new came) where
  pub ordered_so : (result : Result (Unit {0}) E) (before after : List ℕ) → OnOk result ((said : List ℕ) × (answer_to number order came ≡ Some said) × (after ≡ before ++ said))
      → OnOk result ((said : List ℕ) × (after ≡ before ++ said) × IsOrdered on board order number ordered old said new)
  ordered_so (Ok done) before after (said, answer, appended) = (said, appended, record { told = came; turn = turn; said_is = answer })
  ordered_so (Err why) before after told = tt
