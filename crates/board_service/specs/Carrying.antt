-- What the courier of a board does.
use Rattle.std.specs.Prelude.{◌≡◌, ◌⊎◌, ℕ, Bool, true, false, Option, Some, None, Result, Ok, Err}
use Rattle.io_edge.specs.declared.fate.Luck.{Luck}
use Rattle.call_tickets.specs.declared.desk.Posted.{Posted}
use Rattle.call_tickets.specs.declared.desk.Posted.TheVariants.{Did, Quiet}
use Rattle.call_tickets.specs.declared.desk.DeskFault.{DeskFault}
use Rattle.call_tickets.specs.declared.desk.Life.{Life}
use Rattle.node_store.specs.Disks.{View}
use Rattle.cluster_world.specs.declared.fault.StepFault.{StepFault}
use Rattle.cluster_world.specs.declared.step.Step.{Step}
use Rattle.cluster_world.specs.declared.step.Step.TheVariants as step
use Rattle.shard_board.specs.declared.board.Board.{Board}
use Rattle.shard_board.specs.declared.board.BoardPass.{BoardPass}
use Rattle.shard_board.specs.declared.order.Told.{Told}
use Rattle.shard_board.specs.Boards.{IsTurnOf}
use Rattle.shard_board.specs.Orders.{Obeys}
use Rattle.shard_board.specs.Orders.Ordered.{OneStep}
use Rattle.shard_board.specs.Posts.{PostsOne}
use Rattle.shard_board.specs.Reads.{TellsLife}

-- a letter was looked at
abbrev pub has_posted : Result Posted DeskFault → Bool
has_posted (Ok Did) = true
has_posted (Ok Quiet) = false
has_posted (Err why) = false

module _ {D F C : Type 0} (on : View D) (board : Board D F C) where
  -- this step was ordered, and made where it could be
  pub record WasOrdered (one : Step) (old new : BoardPass D F C) : Type 0 where
    pub told : Result Told StepFault
    pub turn : IsTurnOf on (Obeys on (OneStep one)) board old new told

  -- one node sent to this one what it owes, and then told it, as its manager, what it has of users
  pub record PushesAndReports (to : ℕ) (old new : BoardPass D F C) : Type 0 where
    pub from : ℕ
    pub mid : BoardPass D F C
    pub pushed : WasOrdered (step.Push from to) old mid
    pub reported : WasOrdered (step.Report from to) mid new

  -- it did, where the receiver is up
  abbrev pub PushesTo : ℕ → Option Life → BoardPass D F C → BoardPass D F C → Type 0
  PushesTo to (Some life) old new = PushesAndReports to old new
  PushesTo to None old new = new ≡ old

  -- The board was asked how the receiver is.
  pub record AsksAndPushes (old new : BoardPass D F C) : Type 0 where
    pub to : ℕ
    pub life : Option Life
    pub mid : BoardPass D F C
    pub asked : IsTurnOf on (TellsLife to) board old mid life
    pub push : PushesTo to life mid new

  -- it was, or nothing was done
  abbrev pub MayPush : BoardPass D F C → BoardPass D F C → Type 0
  MayPush old new = AsksAndPushes old new ⊎ (new ≡ old)

  -- where a letter was looked at, nothing else is done
  abbrev pub PushesAfter : Bool → BoardPass D F C → BoardPass D F C → Type 0
  PushesAfter true old new = new ≡ old
  PushesAfter false old new = MayPush old new

  -- What fate decides of the letter of the lowest number was done; where there was none, a node may have sent another that is up what it owes, and told what it has.
  pub record Carries (decides : F → ℕ → Luck → F → Type 0) (old : BoardPass D F C) (did : Bool) (new : BoardPass D F C) : Type 0 where
    pub mid : BoardPass D F C
    pub posted : Result Posted DeskFault
    pub post : IsTurnOf on (PostsOne on decides) board old mid posted
    pub did_is : did ≡ has_posted posted
    pub push : PushesAfter did mid new
