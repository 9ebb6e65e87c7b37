-- What holds in a sound cluster of the tickets that wait, and of what disks hold in the midst of a step.
use Rattle.std.specs.Prelude.{◌≡◌, ◌⊎◌, ℕ, Bool, true, List, [], ◌++◌, length, Some}
use Rattle.sha2.specs.Sha256.{sha256}
use Rattle.mail_model.specs.Identity.{Id}
use Rattle.mail_model.specs.Identity.Key.{Message}
use Rattle.mail_model.specs.Plan.{Plan}
use Rattle.mail_model.specs.Record.{Record, SaysHere, SaysGone, HoldsOctets}
use Rattle.mail_model.specs.Book.{Acked}
use Rattle.mail_model.specs.Book.BookEntry.{Acknowledged, Struck, Dropped}
use Rattle.object_model.specs.Sets.{has}
use Rattle.object_model.specs.Lists.{Among}
use Rattle.object_model.specs.Letters.{Number, Letter}
use Rattle.cluster_model.specs.Cluster.{Ticket, Node, Slot, Cluster, slot_at, pending_of}
use Rattle.cluster_model.specs.Claims.{all_records}
use Rattle.cluster_model.specs.Parts.{Sound}
use Rattle.cluster_model.specs.Deeds.{slot_up}
use Rattle.cluster_model.specs.Rules.{ticket_at}
use Rattle.cluster_model.specs.Progress.{ask_of}
use Rattle.cluster_model.specs.Progress.Ask.{Pending}
use Rattle.cluster_model.specs.World.{World, cluster_of}
use Rattle.cluster_model.specs.WorldLaws.{InPlan}
use Rattle.cluster_model.specs.Steps.{Step, StepOutcome}
use Rattle.cluster_model.specs.Makes.{MakesStep}

-- A ticket that an Ask would find pending has a letter of its own in flight.
abbrev pub PendingHasLetter : Type 0
PendingHasLetter = (confirm : ℕ) (w : Cluster) → Sound confirm w → (number : Number) (node : Node) (disk : List Record) (ticket : Ticket) → slot_at w.slots number.node ≡ Some (slot_up node disk)
    → ticket_at number.node node (Some number) ≡ Some ticket → (got wanted : ℕ) → ask_of confirm ticket ≡ Pending got wanted
    → (letter : Letter) × Among letter w.flying × (letter.ticket ≡ Some number)

-- these records have the copy with its octets
pub record HasCopyIn (copy : Acked) (records : List Record) : Type 0 where
  pub here : SaysHere (Message copy.user copy.id) records
  pub octets : List ℕ
  pub holds : HoldsOctets copy.id octets records
  pub size : copy.size ≡ length octets
  pub digest : copy.digest ≡ sha256 octets

-- Records that a disk may turn out to hold in the midst of a step: those that stood, what was pending or nothing, and the first of those that the step added.
pub record IsFrontOf (slot slot' : Slot) (records : List Record) : Type 0 where
  pub kept : List Record
  pub pending_is : (kept ≡ []) ⊎ (kept ≡ pending_of slot.life)
  pub front : List Record
  pub rest : List Record
  pub before : List Record
  pub grew : all_records slot' ≡ (slot.disk ++ before) ++ (front ++ rest)
  pub is : records ≡ (slot.disk ++ kept) ++ front

-- In the midst of each step, whatever of it is on the disk of a node: what the book that the step leaves says was acknowledged and never struck is there with its octets on each
-- confirmer, and what it says was dropped is gone there. The disk of a node that is lost stays as it was.
pub record KeepInMidst (old new : World) : Type 0 where
  pub acknowledged : (copy : Acked) → Among (Acknowledged copy) new.book → (Among (Struck copy.user copy.id) new.book → ⊥) → (m : ℕ) → has copy.confirmers m ≡ true
      → (slot slot' : Slot) → slot_at old.slots m ≡ Some slot → slot_at new.slots m ≡ Some slot' → (records : List Record) → IsFrontOf slot slot' records → HasCopyIn copy records
  pub dropped : (user : List ℕ) (id : Id) (confirmers : ℕ) → Among (Dropped user id confirmers) new.book → (m : ℕ) → has confirmers m ≡ true
      → (slot slot' : Slot) → slot_at old.slots m ≡ Some slot → slot_at new.slots m ≡ Some slot' → (records : List Record) → IsFrontOf slot slot' records
      → SaysGone (Message user id) records

abbrev pub StepsKeepInMidst : Type 0
StepsKeepInMidst = (plan : Plan) (tells : Bool) (old new : World) (step : Step) (outcome : StepOutcome) → MakesStep plan tells old step outcome new → InPlan plan.nodes old.slots
    → Sound plan.confirm (cluster_of old) → KeepInMidst old new
