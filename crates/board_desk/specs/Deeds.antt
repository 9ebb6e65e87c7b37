-- What the calls of a desk do to a world: which step they make, and what that adds to the book, where the world was sound.
use Rattle.std.specs.Prelude.{◌≡◌, ℕ, Some, Result}
use Rattle.session_model.specs.Calls as model
use Rattle.call_tickets.specs.Seen.{call_seen}
use Rattle.call_tickets.specs.declared.answer.Ask.{Ask}
use Rattle.call_tickets.specs.declared.call.Call.{Call}
use Rattle.call_tickets.specs.declared.desk.DeskFault.{DeskFault}
use Rattle.call_tickets.specs.declared.desk.DeskTicket.{DeskTicket}
use Rattle.node_store.specs.Disks.{View}
use Rattle.cluster_world.specs.declared.world.World.{World}
use Rattle.desk_model.specs.Added.{AreQuiet}
use Rattle.desk_model.specs.Entries.{BeginsWith, AsksWith}
use Rattle.desk_model.specs.Growing.{BeginsInKind, AnswersInKind}
use Rattle.desk_model.specs.Tallies.{IsNeverDown}
use Rattle.shard_board.specs.Worlds.{IsSoundWorld}
use Rattle.solo_desk.specs.Serving.{AddsTo}
use Rattle.solo_desk.specs.Steps.{BeginsBy, LeavesBy, AsksBy, GivesUpBy}

module _ {D : Type 0} (on : View D) where
  -- a call began, or was refused
  pub record Begins (node : ℕ) (call : Call) (result : Result DeskTicket DeskFault) (old new : World D) : Type 0 where
    pub made : BeginsBy on node call result old new
    pub kind : (asked : model.Call) → call_seen call ≡ Some asked → BeginsInKind asked result
    pub adds : (asked : model.Call) → call_seen call ≡ Some asked → IsSoundWorld on old → AddsTo (BeginsWith asked result) old new

  -- a Leave began, or was refused
  pub record Leaves (node : ℕ) (call : Call) (result : Result (Unit {0}) DeskFault) (old new : World D) : Type 0 where
    pub made : LeavesBy on node call result old new
    pub adds : IsSoundWorld on old → AddsTo AreQuiet old new

  -- it was asked what became of a call
  pub record Asks (ticket : DeskTicket) (result : Result Ask DeskFault) (old new : World D) : Type 0 where
    pub made : AsksBy on ticket result old new
    pub kind : AnswersInKind ticket.begun result
    pub adds : IsSoundWorld on old → AddsTo (AsksWith ticket.begun result) old new

  -- a call was given up, if it still stood
  pub record GivesUp (ticket : DeskTicket) (result : Result (Unit {0}) DeskFault) (old new : World D) : Type 0 where
    pub made : GivesUpBy on ticket result old new
    pub adds : IsSoundWorld on old → AddsTo AreQuiet old new
    pub never : IsNeverDown result
