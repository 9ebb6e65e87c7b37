-- What can be done with a world, what it answers, and what is refused.
use Rattle.std.specs.Prelude.{ℕ, ◌+◌, ◌-◌, ◌^◌, max, Bool, true, false, not, ◌&&◌, ◌||◌, nat_eq, nat_lt, nat_le, List, [], ◌∷◌, length, bit_and, Option, Some, None, is_some, if◌then◌else◌}
use Rattle.std.specs.List.{list_all}
use Rattle.mail_model.specs.Identity.{Id, EpochId}
use Rattle.mail_model.specs.Plan.{Plan, Proof}
use Rattle.mail_model.specs.Told.{Mail}
use Rattle.object_model.specs.Letters.{Number, Letter}
use Rattle.object_model.specs.Sets.{count_in, nodes_in}
use Rattle.object_model.specs.Mishaps.{Mishaps, no_mishaps, counted, mishaps_of}
use Rattle.object_model.specs.Mishaps.MishapKind.{FewMembers, Year}
use Rattle.cluster_model.specs.Cluster.{Node, Life, Slot, slot_at, members_of}
use Rattle.cluster_model.specs.Cluster.Life.{Up, Down, Lost}
use Rattle.cluster_model.specs.Rules.{ticket_at}
use Rattle.cluster_model.specs.Thrown.{Why}
use Rattle.cluster_model.specs.Progress.{Ask}
use Rattle.cluster_model.specs.Room.{Flight, due_to, keys_pushed}
use Rattle.cluster_model.specs.World.{World}

-- a copy that is to be deleted, with the targets that its listing told
pub record Struck : Type 0 where
  pub id : Id
  pub targets : ℕ

-- The calls: that a message be stored, that a user's mailbox be listed, that a part of a message be read, that copies of a user be deleted, and that a login end. A part is of the
-- octets from one on, and at most so many, and is asked of these holders. A login ends at its manager.
pub data NodeCall : Type 0 where
  Deliver : (mail : Mail) → NodeCall
  Login : (user : List ℕ) (proof : Proof) → NodeCall
  Fetch : (user : List ℕ) (id : Id) (from most holders : ℕ) → NodeCall
  Strike : (user : List ℕ) (items : List Struck) → NodeCall
  Leave : (user : List ℕ) (login : Number) (manager : ℕ) → NodeCall

pub data Step : Type 0 where
  Begin : (node : ℕ) (call : NodeCall) → Step
  AskFor : (ticket : Number) → Step
  GiveUp : (ticket : Number) → Step
  -- a letter is handed to its receiver, and kept in flight or not
  Post : (letter : ℕ) (keep : Bool) → Step
  DropLetter : (letter : ℕ) → Step
  PushTo : (from to : ℕ) → Step
  Widen : (at : ℕ) (user : List ℕ) (id : Id) (to : ℕ) → Step
  -- a node opens or concludes a group, or reports what it has of users
  Form : (node : ℕ) → Step
  Crash : (node : ℕ) → Step
  Start : (node : ℕ) → Step
  Lose : (node : ℕ) → Step
  Tick : (seconds : ℕ) → Step

-- what a step answers
pub data Said : Type 0 where
  Begun : (ticket : Number) → Said
  -- a Leave was heard, which has no ticket
  Noted : Said
  Asked : (ask : Ask) → Said
  Heard : Said
  Thrown : (why : Why) → Said
  Sent : (letters : ℕ) → Said
  Widened : (did : Bool) → Said
  -- a group was opened, and one was concluded with these members
  Grouped : (epoch : EpochId) → Said
  Concluded : (epoch : EpochId) (members : ℕ) → Said
  NodeUp : (boot : ℕ) → Said
  Finished : Said
  -- the disk of the node failed, and the node is down
  Faulted : (node : ℕ) → Said

-- why a step is refused
pub data StepFault : Type 0 where
  NoSuchNode : StepFault
  NodeLost : StepFault
  NodeDown : StepFault
  NodeIsUp : StepFault
  NoSuchLetter : StepFault
  NoSuchTicket : StepFault
  Worn : StepFault
  NoRoom : StepFault
  -- the node has no group open
  NotAGroup : StepFault

-- What comes of a step: what it says, its refusal, or that memory ran out, which may have taken a node down.
pub data StepOutcome : Type 0 where
  Says : (said : Said) → StepOutcome
  Refused : (fault : StepFault) → StepOutcome
  NoMemory : (down : Option ℕ) → StepOutcome

-- the nodes that a call names beside its own
abbrev pub nodes_of_call : NodeCall → List ℕ
nodes_of_call (Leave user login manager) = manager ∷ []
nodes_of_call call = []

-- the nodes that a step names; the node in an id is not meant
abbrev pub nodes_named : Step → List ℕ
nodes_named (Begin node call) = node ∷ nodes_of_call call
nodes_named (AskFor ticket) = ticket.node ∷ []
nodes_named (GiveUp ticket) = ticket.node ∷ []
nodes_named (Post letter keep) = []
nodes_named (DropLetter letter) = []
nodes_named (PushTo from to) = from ∷ to ∷ []
nodes_named (Widen at user id to) = at ∷ to ∷ []
nodes_named (Form node) = node ∷ []
nodes_named (Crash node) = node ∷ []
nodes_named (Start node) = node ∷ []
nodes_named (Lose node) = node ∷ []
nodes_named (Tick seconds) = []

-- the node that acts, or that a Crash, Start or Lose names
abbrev pub actor_of : Step → Option ℕ
actor_of (Begin node call) = Some node
actor_of (AskFor ticket) = Some ticket.node
actor_of (GiveUp ticket) = Some ticket.node
actor_of (Post letter keep) = None
actor_of (DropLetter letter) = None
actor_of (PushTo from to) = Some from
actor_of (Widen at user id to) = Some at
actor_of (Form node) = Some node
actor_of (Crash node) = Some node
actor_of (Start node) = Some node
actor_of (Lose node) = Some node
actor_of (Tick seconds) = None

-- what is wrong with the life of the node that is to act
abbrev pub life_fault : Step → Life → Option StepFault
life_fault step Lost = Some NodeLost
life_fault (Start node) (Up state) = Some NodeIsUp
life_fault (Start node) (Down pending) = None
life_fault (Lose node) life = None
life_fault step (Down pending) = Some NodeDown
life_fault step (Up state) = None

abbrev pub slot_fault : Step → Option Slot → Option StepFault
slot_fault step None = Some NoSuchNode
slot_fault step (Some slot) = life_fault step slot.life

abbrev pub actor_fault : Step → List Slot → Option ℕ → Option StepFault
actor_fault step slots None = None
actor_fault step slots (Some node) = slot_fault step (slot_at slots node)

-- the letter of this number, if it is in flight
abbrev pub letter_at : ℕ → List Flight → Option Letter
letter_at number [] = None
letter_at number (flight ∷ flying) = if nat_eq flight.number number then Some flight.letter else letter_at number flying

abbrev pub letter_fault : Step → List Flight → Option StepFault
letter_fault (Post letter keep) flying = if is_some (letter_at letter flying) then None else Some NoSuchLetter
letter_fault (DropLetter letter) flying = if is_some (letter_at letter flying) then None else Some NoSuchLetter
letter_fault step flying = None

-- whether a ticket of messages stands
abbrev pub ticket_stands_in : Number → Life → Bool
ticket_stands_in number (Up node) = is_some (ticket_at number.node node (Some number))
ticket_stands_in number (Down pending) = false
ticket_stands_in number Lost = false

abbrev pub stands_at : Number → Option Slot → Bool
stands_at number None = false
stands_at number (Some slot) = ticket_stands_in number slot.life

-- Whether the node's epoch has fewer than F members, or none. A node without an epoch has none.
abbrev pub has_few_members : Plan → Node → Bool
has_few_members plan node = nat_lt (length (nodes_in (members_of node) plan.nodes)) (max 1 plan.confirm)

-- the first second after the last year that a date can have
abbrev pub end_of_dates : ℕ
end_of_dates = 253402300800

-- What makes a call fail at once: a Deliver or a Strike with too few members, a Deliver that has no date, a Login at a node without an epoch, and a Fetch of which no holder is a
-- member. A Login fails so also where the map has no manager of its user, which messages do not see.
abbrev pub few_mishaps : Plan → Node → Mishaps
few_mishaps plan node = if has_few_members plan node then counted FewMembers no_mishaps else no_mishaps

abbrev pub epoch_mishaps : Node → Mishaps
epoch_mishaps node = if is_some node.installed then no_mishaps else counted FewMembers no_mishaps

-- the holders that are members of the node's epoch
abbrev pub asked_of : Node → ℕ → ℕ
asked_of node holders = bit_and holders (members_of node)

abbrev pub holder_mishaps : Node → ℕ → Mishaps
holder_mishaps node holders = if nat_eq (count_in (asked_of node holders)) 0 then counted FewMembers no_mishaps else no_mishaps

abbrev pub mishaps_of_call : Plan → ℕ → Node → NodeCall → Mishaps
mishaps_of_call plan seconds node (Deliver mail) = if nat_le end_of_dates seconds then counted Year (few_mishaps plan node) else few_mishaps plan node
mishaps_of_call plan seconds node (Login user proof) = epoch_mishaps node
mishaps_of_call plan seconds node (Fetch user id from most holders) = holder_mishaps node holders
mishaps_of_call plan seconds node (Strike user items) = few_mishaps plan node
mishaps_of_call plan seconds node (Leave user login manager) = no_mishaps

abbrev pub fails_at_once : Plan → ℕ → Node → NodeCall → Bool
fails_at_once plan seconds node call = nat_lt 0 (mishaps_of (mishaps_of_call plan seconds node call))

-- the greatest numbers of messages, stamps and tickets, and of boots; and the number from which on no letter is sent
abbrev pub greatest : ℕ
greatest = 2 ^ 64 - 1

abbrev pub greatest_boot : ℕ
greatest_boot = 2 ^ 32 - 1

abbrev pub letters_end : ℕ
letters_end = 2 ^ 64 - 2 ^ 32

-- how many stamps a call draws, and how many numbers of messages
abbrev pub stamps_drawn : NodeCall → ℕ
stamps_drawn (Deliver mail) = 1
stamps_drawn (Strike user items) = length items
stamps_drawn call = 0

abbrev pub ids_drawn : NodeCall → ℕ
ids_drawn (Deliver mail) = 1
ids_drawn call = 0

-- and of tickets: a Leave has none
abbrev pub tickets_drawn : NodeCall → ℕ
tickets_drawn (Leave user login manager) = 0
tickets_drawn call = 1

-- Whether the call would draw a number above the greatest. One that fails at once draws no stamp. Which boot a start would be it finds only on the disk.
abbrev pub is_worn_for : Plan → ℕ → Node → NodeCall → Bool
is_worn_for plan seconds node call =
    nat_lt greatest (node.calls + tickets_drawn call) || nat_lt greatest (node.drawn + ids_drawn call) || (not (fails_at_once plan seconds node call) && nat_lt greatest (node.count + stamps_drawn call))

abbrev pub is_worn_slot : Plan → ℕ → Step → Slot → Life → Bool
is_worn_slot plan seconds (Begin node call) slot (Up state) = is_worn_for plan seconds state call
is_worn_slot plan seconds step slot life = false

abbrev pub is_worn_at : Plan → ℕ → Step → Option Slot → Bool
is_worn_at plan seconds step None = false
is_worn_at plan seconds step (Some slot) = is_worn_slot plan seconds step slot slot.life

abbrev pub is_worn_by : Plan → World → Step → Option ℕ → Bool
is_worn_by plan w step None = false
is_worn_by plan w step (Some node) = is_worn_at plan w.seconds step (slot_at w.slots node)

abbrev pub has_ticket : Option Letter → Bool
has_ticket None = false
has_ticket (Some letter) = is_some letter.ticket

-- whether the step may lead to letters
abbrev pub may_send : Step → List Flight → Bool
may_send (AskFor ticket) flying = false
may_send (DropLetter letter) flying = has_ticket (letter_at letter flying)
may_send (Crash node) flying = false
may_send (Lose node) flying = false
may_send (Tick seconds) flying = false
may_send step flying = true

abbrev pub worn_fault : Plan → Step → World → Option StepFault
worn_fault plan step w = if (may_send step w.flying && nat_le letters_end w.sent) || is_worn_by plan w step (actor_of step) then Some Worn else None

-- whether letters are due, and not even the first finds room
abbrev pub is_crowded_slot : List Flight → ℕ → ℕ → Slot → Life → Bool
is_crowded_slot flying from to slot (Up node) = nat_lt 0 (length (due_to from to node)) && nat_eq (length (keys_pushed flying from to node slot.disk)) 0
is_crowded_slot flying from to slot life = false

abbrev pub is_crowded_at : List Flight → ℕ → ℕ → Option Slot → Bool
is_crowded_at flying from to None = false
is_crowded_at flying from to (Some slot) = is_crowded_slot flying from to slot slot.life

abbrev pub room_fault : Step → World → Option StepFault
room_fault (PushTo from to) w = if is_crowded_at w.flying from to (slot_at w.slots from) then Some NoRoom else None
room_fault step w = None

abbrev pub is_node : Plan → ℕ → Bool
is_node plan n = nat_lt 0 n && nat_le n plan.nodes

abbrev pub node_name_fault : Plan → Step → Option StepFault
node_name_fault plan step = if list_all (is_node plan) (nodes_named step) then None else Some NoSuchNode

-- the first fault there is
abbrev pub first_fault : List (Option StepFault) → Option StepFault
first_fault [] = None
first_fault (None ∷ faults) = first_fault faults
first_fault (Some fault ∷ faults) = Some fault

-- Why a step is refused, if it is: the first that applies. Whether a ticket stands that messages do not have is not seen here.
abbrev pub step_fault : Plan → Step → World → Option StepFault
step_fault plan step w = first_fault (
    node_name_fault plan step ∷ actor_fault step w.slots (actor_of step) ∷ letter_fault step w.flying ∷ worn_fault plan step w ∷ room_fault step w ∷ []
    )
