-- That letters are put in flight comes to an end, since a rule sends letters of one ticket.
use Rattle.std.specs.Prelude.{◌≡◌, ◌⊎◌, ◌+◌, ◌≤◌, ℕ, Bool, true, List, length, map, Option, Some, None}
use Rattle.mail_model.specs.Identity.{Id}
use Rattle.mail_model.specs.Plan.{Plan, Proof}
use Rattle.mail_model.specs.Record.{Record}
use Rattle.object_model.specs.Lists.{Among}
use Rattle.object_model.specs.Letters.{Number, Body, Letter}
use Rattle.object_model.specs.Mishaps.{MishapKind}
use Rattle.login_model.specs.Readings.{Reading, ReadTicket}
use Rattle.login_model.specs.Rules.{next_number, read_at}
use Rattle.login_model.specs.Progress.{chances}
use Rattle.joint_model.specs.Joint.{Node, Life, Slot, slot_at, whole_slot, read_node}
use Rattle.joint_model.specs.Joint.Life.{Up, Down, Lost}
use Rattle.joint_world.specs.World.{World}
use Rattle.joint_world.specs.Rules.{Reaction, LogsIn, Fetches, Hears, befallen, given_up, left}
use Rattle.joint_world.specs.Putting.{put}

-- how many letters mishaps may still send for a ticket, if it stands
abbrev pub chances_of : Option ReadTicket → ℕ
chances_of None = 0
chances_of (Some ticket) = chances ticket.reading

abbrev pub chances_in : Number → Life → ℕ
chances_in number (Up node) = chances_of (read_at number.node (read_node true node) (Some number))
chances_in number (Down pending) = 0
chances_in number Lost = 0

abbrev pub chances_at : Number → Option Slot → ℕ
chances_at number None = 0
chances_at number (Some slot) = chances_in number slot.life

abbrev pub chances_left : World → Number → ℕ
chances_left w number = chances_at number (slot_at w.slots number.node)

-- letters of one ticket, or of none
abbrev pub AreOfTicket : Number → List Letter → Type 0
AreOfTicket number letters = (letter : Letter) → Among letter letters → (letter.ticket ≡ None) ⊎ (letter.ticket ≡ Some number)

-- The letters that a step sends for a call are of its ticket. So many looks at them are enough: each mishap takes a chance of the call away with the letter that it sends.
abbrev pub PutsEnd : Type 0
PutsEnd = (tells : Bool) (number : Number) (queue : List Letter) (w : World) → AreOfTicket number queue → (new : World) × (put tells (length queue + chances_left w number) queue w ≡ Some new)

-- one letter at most
abbrev pub IsOne : List Letter → Type 0
IsOne letters = length letters ≤ 1

-- What each rule sends is of the ticket that it serves, or of none; and a ticket that is given up, a mishap and a Leave send one letter at most.
pub record RulesSendForOne : Type 0 where
  pub logs_in : (plan : Plan) (tells : Bool) (own : ℕ) (node : Node) (disk : List Record) (user : List ℕ) (proof : Proof) (did : Reaction) → LogsIn plan tells own node disk user proof did
      → AreOfTicket (next_number own (read_node tells node)) did.out
  pub fetches : (tells : Bool) (own : ℕ) (node : Node) (disk : List Record) (user : List ℕ) (id : Id) (at most holders : ℕ) (did : Reaction) → Fetches tells own node disk user id at most holders did
      → AreOfTicket (next_number own (read_node tells node)) did.out
  pub hears : (plan : Plan) (tells : Bool) (own : ℕ) (node : Node) (disk : List Record) (letter : Letter) (body : Body) (did : Reaction) → Hears plan tells own node disk letter body did
      → (one : Letter) → Among one did.out → (one.ticket ≡ None) ⊎ (one.ticket ≡ letter.ticket)
  pub befalls : (tells : Bool) (own : ℕ) (kind : MishapKind) (at : ℕ) (node : Node) (number : Number) → AreOfTicket number (befallen tells own kind at node number).out × IsOne (befallen tells own kind at node number).out
  pub gives_up : (tells : Bool) (own : ℕ) (node : Node) (number : Number) (reading : Reading) → AreOfTicket number (given_up tells own node number reading).out × IsOne (given_up tells own node number reading).out
  pub leaves : (tells : Bool) (own : ℕ) (node : Node) (user : List ℕ) (login : Number) (manager : ℕ)
      → ((one : Letter) → Among one (left tells own node user login manager).out → one.ticket ≡ None) × IsOne (left tells own node user login manager).out

-- As letters are put in flight, the whole machine sees no node change.
abbrev pub PutsKeepWhole : Type 0
PutsKeepWhole = (tells : Bool) (fuel : ℕ) (queue : List Letter) (w new : World) → put tells fuel queue w ≡ Some new
    → (map whole_slot new.slots ≡ map whole_slot w.slots) × (new.seconds ≡ w.seconds) × (new.book ≡ w.book)
