-- What holds of a world that was driven, beside what it owes: of tickets that wait, and of disks in the midst of a step.
use Rattle.std.specs.Prelude.{◌≡◌, ℕ, true, List, [], Some, Result, IfSome}
use Rattle.io_edge.specs.Moments.{Passed}
use Rattle.mail_model.specs.Identity.{Id}
use Rattle.mail_model.specs.Identity.Key.{Message}
use Rattle.mail_model.specs.Plan.{Plan}
use Rattle.mail_model.specs.Record.{Record, IsJournal, SaysGone, payloads_of}
use Rattle.mail_model.specs.Book.{Acked}
use Rattle.mail_model.specs.Book.BookEntry.{Acknowledged, Struck, Dropped}
use Rattle.object_model.specs.Sets.{has}
use Rattle.object_model.specs.Lists.{Among}
use Rattle.object_model.specs.Letters.{Number}
use Rattle.session_model.specs.Events.NodeLife.{Lost}
use Rattle.cluster_model.specs.Cluster as plain
use Rattle.cluster_model.specs.Room.{Flight}
use Rattle.cluster_model.specs.Progress.{ask_of}
use Rattle.cluster_model.specs.Progress.Ask.{Pending}
use Rattle.cluster_model.specs.StepLaws.{HasCopyIn}
use Rattle.login_model.specs.Progress.{ask_read}
use Rattle.login_model.specs.Progress.ReadAsk.{Pending as ReadPending}
use Rattle.login_model.specs.Readings.{ReadTicket}
use Rattle.node_store.specs.Disks.{View}
use Rattle.cluster_world.specs.Worlds.{state_of, book_of, life_of, disk_of_node}
use Rattle.cluster_world.specs.Telling.{standing_in, reading_in}
use Rattle.cluster_world.specs.Ended.{IsEnded}
use Rattle.cluster_world.specs.Steps.{IsStep, StepIsKnown}
use Rattle.cluster_world.specs.Opens.{IsAtBeginning}
use Rattle.cluster_world.specs.Outcomes.{Outcome, Awaited, Makes}
use Rattle.cluster_world.specs.Owing.{AreKnown, AreOfSessions}
use Rattle.cluster_world.specs.declared.world.World.{World}
use Rattle.cluster_world.specs.declared.step.Step.{Step}
use Rattle.cluster_world.specs.declared.step.Said.{Said}
use Rattle.cluster_world.specs.declared.fault.StepFault.{StepFault}

-- From its opening on a world made the steps of which these outcomes came, for calls of sessions.
pub record WasDriven {D : Type 0} (on : View D) (plan : Plan) (lines : List (List ℕ)) (outcomes : List Outcome) (left : List Awaited) (start last : World D) : Type 0 where
  pub begins : IsAtBeginning on plan start
  pub known : AreKnown on start outcomes
  pub makes : Makes on outcomes [] start left last
  pub sessions : AreOfSessions lines outcomes

-- a letter of the ticket is in flight
abbrev pub HasLetter : {D : Type 0} → World D → Number → Type 0
HasLetter world number = (flight : Flight) × Among flight (state_of world).flying.flights × (flight.letter.ticket ≡ Some number)

-- A ticket that the world would answer as pending has a letter of its own in flight, be it one of messages or one of a call that reads.
pub record AllHaveLetters {D : Type 0} (confirm : ℕ) (world : World D) : Type 0 where
  pub mails : (number : Number) (ticket : plain.Ticket) → standing_in world number ≡ Some ticket → (got wanted : ℕ) → ask_of confirm ticket ≡ Pending got wanted → HasLetter world number
  pub reads : (number : Number) (ticket : ReadTicket) → reading_in world number ≡ Some ticket → (got wanted : ℕ) → ask_read ticket ticket.reading ≡ ReadPending got wanted → HasLetter world number

abbrev pub PendingHasLetter : {D : Type 0} → View D → Type 0
PendingHasLetter {D} on = (plan : Plan) (lines : List (List ℕ)) (outcomes : List Outcome) (left : List Awaited) (start last : World D) → WasDriven on plan lines outcomes left start last
    → AllHaveLetters plan.confirm last

-- the octets are a journal of the node, of records that have this
abbrev pub IsJournalWith : ℕ → (List Record → Type 0) → List ℕ → Type 0
IsJournalWith own P octets = (records : List Record) × IsJournal own octets (payloads_of records) × P records

-- Whatever a stop of the machine leaves, at any moment from one world to the next, of the disk of a node that is not lost: what the book of the later world says was acknowledged and
-- never struck is there with its octets, if this node confirmed it; and what it says was dropped is gone there.
pub record KeepsThrough {D : Type 0} (on : View D) (old new : World D) : Type 0 where
  pub acknowledged : (copy : Acked) → Among (Acknowledged copy) (book_of new) → (Among (Struck copy.user copy.id) (book_of new) → ⊥) → (m : ℕ) → has copy.confirmers m ≡ true → (life_of old m ≡ Lost → ⊥)
      → (disk disk' : D) → disk_of_node old m ≡ Some disk → disk_of_node new m ≡ Some disk' → IfSome (on.seen disk) (λ _. Passed on.clock disk disk' (IsJournalWith m (HasCopyIn copy)))
  pub dropped : (user : List ℕ) (id : Id) (confirmers : ℕ) → Among (Dropped user id confirmers) (book_of new) → (m : ℕ) → has confirmers m ≡ true → (life_of old m ≡ Lost → ⊥)
      → (disk disk' : D) → disk_of_node old m ≡ Some disk → disk_of_node new m ≡ Some disk' → IfSome (on.seen disk) (λ _. Passed on.clock disk disk' (IsJournalWith m (SaysGone (Message user id))))

-- So it is in each step of a world that was driven.
abbrev pub ConfirmedInEveryImage : {D : Type 0} → View D → Type 0
ConfirmedInEveryImage {D} on = (plan : Plan) (lines : List (List ℕ)) (outcomes : List Outcome) (left : List Awaited) (start mid last : World D) → WasDriven on plan lines outcomes left start mid
    → (result : Result Said StepFault) (step : Step) → StepIsKnown on.seen (state_of mid) step → IsEnded step → IsStep on result step mid last → KeepsThrough on mid last
