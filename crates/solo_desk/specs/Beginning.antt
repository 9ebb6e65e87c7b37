-- What is handed out of a call that begins.
use Rattle.std.specs.Prelude.{◌≡◌, ◌⊎◌, ⊤, Option, Some, None, Result, Ok, Err}
use Rattle.object_model.specs.Letters.{Number}
use Rattle.mail_base.specs.declared.filing.Begun.{Begun}
use Rattle.mail_base.specs.declared.filing.CallKind.{CallKind}
use Rattle.mail_base.specs.declared.filing.CallKind.TheVariants.{Deliver}
use Rattle.call_tickets.specs.declared.desk.DeskFault.{DeskFault}
use Rattle.call_tickets.specs.declared.desk.DeskTicket.{DeskTicket}
use Rattle.cluster_model.specs.Cluster.{NodeFiling}
use Rattle.node_tickets.specs.Standing.{filed_seen, filing_at}
use Rattle.node_store.specs.Disks.{View}
use Rattle.cluster_world.specs.Books.{IsLongerBook}
use Rattle.cluster_world.specs.Telling.{standing_in}
use Rattle.cluster_world.specs.Worlds.{book_of}
use Rattle.cluster_world.specs.declared.world.World.{World}
use Rattle.cluster_world.specs.declared.step.Said.{Said}
use Rattle.cluster_world.specs.declared.step.Said.TheVariants as said
use Rattle.cluster_world.specs.declared.fault.StepFault.{StepFault}
use Rattle.cluster_world.specs.declared.fault.StepFault.TheVariants as fault
use Rattle.desk_model.specs.Added.{AreQuiet}
use Rattle.solo_desk.specs.Serving.{CanServe, AddsTo}
use Rattle.solo_desk.specs.Steps.{BeginsAs, refusal_of}

-- what a step may say that begins a call with an answer
abbrev pub IsSaidOfBegin : Result Said StepFault → Type 0
IsSaidOfBegin (Ok (said.Begun ticket stirs)) = ⊤
IsSaidOfBegin (Ok (said.Faulted node)) = ⊤
IsSaidOfBegin (Ok what) = ⊥
IsSaidOfBegin (Err why) = ⊤

-- it was refused, and the world is as it was
abbrev pub RefusedAs : Result Said StepFault → DeskFault → Type 0
RefusedAs (Ok what) why = ⊥
RefusedAs (Err (fault.NoMemory (Some node))) why = ⊥
RefusedAs (Err cause) why = why ≡ refusal_of cause

-- the ticket of a call that has begun; none where its node went down as it began
abbrev pub TicketOf : Result Said StepFault → Result (Option Number) DeskFault → Type 0
TicketOf (Ok (said.Begun ticket stirs)) (Ok (Some number)) = number ≡ ticket
TicketOf (Ok (said.Faulted node)) (Ok None) = ⊤
TicketOf (Err (fault.NoMemory (Some node))) (Ok None) = ⊤
TicketOf came (Ok found) = ⊥
TicketOf came (Err why) = RefusedAs came why

-- what was begun is of this kind, and a delivery filed this
abbrev pub FindsFiled : CallKind → Option NodeFiling → Begun → Type 0
FindsFiled kind found begun = (begun.kind ≡ kind) × (kind ≡ Deliver → filed_seen begun.filing ≡ found)

-- what stands under the ticket of a call that has begun; where its node went down as it began, nothing was filed
abbrev pub FindsUnder : {D : Type 0} → CallKind → Result Said StepFault → World D → Begun → Type 0
FindsUnder kind (Ok (said.Begun ticket stirs)) world begun = FindsFiled kind (filing_at (standing_in world ticket)) begun
FindsUnder kind came world begun = (begun.kind ≡ kind) × (begun.filing ≡ None)

-- A call of this kind was given up, for which nothing else was done.
pub record IsGivenUp {D : Type 0} (on : View D) (kind : CallKind) (old new : World D) : Type 0 where
  pub kind_is : kind ≡ Deliver
  pub longer : IsLongerBook (book_of old) (book_of new)
  pub adds : CanServe on old → AddsTo AreQuiet old new

-- What stands under the ticket was taken; or memory ran out for what a delivery filed, and the call was given up.
abbrev pub Takes : {D : Type 0} → View D → CallKind → Number → Result DeskTicket DeskFault → World D → World D → Type 0
Takes on kind number (Ok ticket) old new = (new ≡ old) × (ticket.ticket ≡ number) × FindsFiled kind (filing_at (standing_in old number)) ticket.begun
Takes on kind number (Err why) old new = IsGivenUp on kind old new

-- The call has begun, and this is its ticket. Or it was refused; or memory ran out for what a delivery filed, and it was given up.
abbrev pub HandsOut : {D : Type 0} → View D → CallKind → Result Said StepFault → Result DeskTicket DeskFault → World D → World D → Type 0
HandsOut on kind came (Ok ticket) old new = (new ≡ old) × BeginsAs came ticket.ticket × FindsUnder kind came old ticket.begun
HandsOut on kind came (Err why) old new = ((new ≡ old) × RefusedAs came why) ⊎ (((number : Number) × BeginsAs came number) × IsGivenUp on kind old new)
