-- What a line of the console comes to.
use Rattle.std.specs.Prelude.{◌≡◌, ℕ, List, Option, Some, None, Result, codes}
use Rattle.mail_model.specs.Plan.{Plan}
use Rattle.node_store.specs.Disks.{View}
use Rattle.cluster_world.specs.declared.fault.StepFault.{StepFault}
use Rattle.shard_board.specs.declared.board.Board.{Board}
use Rattle.shard_board.specs.declared.board.BoardPass.{BoardPass}
use Rattle.shard_board.specs.declared.order.Order.{Order}
use Rattle.shard_board.specs.declared.order.Told.{Told}
use Rattle.shard_board.specs.Boards.{IsTurnOf}
use Rattle.shard_board.specs.Orders.{ordered_by, Obeys}
use Rattle.board_service.specs.declared.orders.ConsoleOrder.{ConsoleOrder}
use Rattle.board_service.specs.ConsoleLines.{order_heard, board_order}
use Rattle.board_service.specs.ConsoleAnswers.{refused_line, answer_to}

module _ {D F C : Type 0} (on : View D) (board : Board D F C) where
  -- The board did what was ordered, and what came of it is said.
  pub record IsOrdered (order : ConsoleOrder) (number : ℕ) (ordered : Order) (old : BoardPass D F C) (said : List ℕ) (new : BoardPass D F C) : Type 0 where
    pub told : Result Told StepFault
    pub turn : IsTurnOf on (Obeys on (ordered_by ordered)) board old new told
    pub said_is : answer_to number order told ≡ Some said

  -- or no plan has the node
  abbrev pub OrdersBy : ConsoleOrder → ℕ → Option Order → BoardPass D F C → List ℕ → BoardPass D F C → Type 0
  OrdersBy order number None old said new = (said ≡ refused_line number (codes "NoSuchNode")) × (new ≡ old)
  OrdersBy order number (Some ordered) old said new = IsOrdered order number ordered old said new

  -- or the line is not known
  abbrev pub HearsOrder : Option ConsoleOrder → ℕ → BoardPass D F C → List ℕ → BoardPass D F C → Type 0
  HearsOrder None number old said new = (said ≡ refused_line number (codes "BadLine")) × (new ≡ old)
  HearsOrder (Some order) number old said new = OrdersBy order number (board_order order) old said new

  -- what is said of the line of this number
  abbrev pub ObeysLine : Plan → BoardPass D F C → List ℕ → ℕ → List ℕ → BoardPass D F C → Type 0
  ObeysLine plan old line number said new = HearsOrder (order_heard plan line) number old said new
