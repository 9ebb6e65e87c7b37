-- What can be done with a whole world, what it answers, and what is refused.
use Rattle.std.specs.Prelude.{◌≡◌, ◌≢◌, ◌⊎◌, ◌≤◌, ℕ, ◌-◌, ◌/◌, ◌^◌, Bool, true, false, ◌&&◌, nat_le, nat_lt, min, List, [], ◌∷◌, length, Option, Some, None, if◌then◌else◌}
use Rattle.std.specs.Cmp.Lexicographic.{slice_cmp}
use Rattle.std.specs.List.Sorted.{IsStrictlySortedBy}
use Rattle.std.specs.Option.{option_map}
use Rattle.std.specs.Ordering.{nat_cmp}
use Rattle.std.specs.declared.cmp.Ordering.TheVariants.{Less}
use Rattle.mail_model.specs.Identity.{EpochId}
use Rattle.mail_model.specs.Plan.{Plan}
use Rattle.object_model.specs.Lists.{Among}
use Rattle.cluster_model.specs.Steps as mail
use Rattle.cluster_model.specs.Steps.Step.{PushTo}
use Rattle.cluster_model.specs.Steps.StepFault.{NoSuchNode, Worn, NoRoom}
use Rattle.cluster_model.specs.Room.{Flight, octets_flying, most_letters, most_octets}
use Rattle.maps_model.specs.Cluster as maps
use Rattle.whole_model.specs.Whole.{Life, Slot, slot_at}
use Rattle.whole_model.specs.Whole.Life.{Up}
use Rattle.whole_world.specs.World.{World, mail_world_of}

-- the steps for messages and of a node's life, and those for membership and maps
pub data Step : Type 0 where
  OfMessages : (step : mail.Step) → Step
  OpenGroup : (node : ℕ) → Step
  ConcludeGroup : (node : ℕ) → Step
  ReportTo : (from to : ℕ) → Step

pub data Said : Type 0 where
  Told : (said : mail.Said) → Said
  Grouped : (epoch : EpochId) → Said
  Concluded : (epoch : EpochId) (members : ℕ) → Said

pub data StepFault : Type 0 where
  Fault : (fault : mail.StepFault) → StepFault
  NotAGroup : StepFault

pub data StepOutcome : Type 0 where
  Says : (said : Said) → StepOutcome
  Refused : (fault : StepFault) → StepOutcome
  NoMemory : (down : Option ℕ) → StepOutcome

-- a Report sends at most so many letters
abbrev pub most_reports : ℕ
most_reports = 64

-- whether a user's row is due to that manager
abbrev pub is_due : ℕ → maps.Node → List ℕ → Bool
is_due to node user = node.marked user && maps.manages_in node.installed to user

-- how many letters of 64 octets there is room for
abbrev pub room_left : List Flight → ℕ
room_left flying = min (most_letters - length flying) ((most_octets - octets_flying flying) / 64)

-- how many Reports go at once
abbrev pub most_at_once : List Flight → ℕ
most_at_once flying = min (room_left flying) most_reports

-- The first users whose rows are due to that manager, so many at most, whether or not the plan has them: each is due, they stand in order of names, and whoever else is due comes after all of them. Where they are fewer, nobody else is due.
pub record AreFirstDue (to most : ℕ) (node : maps.Node) (users : List (List ℕ)) : Type 0 where
  pub due : (user : List ℕ) → Among user users → is_due to node user ≡ true
  pub in_order : IsStrictlySortedBy (slice_cmp nat_cmp) users
  pub few : length users ≤ most
  pub others : (user : List ℕ) → is_due to node user ≡ true → Among user users ⊎ ((length users ≡ most) × ((one : List ℕ) → Among one users → slice_cmp nat_cmp one user ≡ Less))

-- some row is due to another node,
abbrev pub HasDue : ℕ → ℕ → maps.Node → Type 0
HasDue own to node = (to ≢ own) × (user : List ℕ) × (is_due to node user ≡ true)

-- or none is. Without an epoch none is, and none ever is to the node itself.
abbrev pub HasNoneDue : ℕ → ℕ → maps.Node → Type 0
HasNoneDue own to node = to ≢ own → (user : List ℕ) → is_due to node user ≡ false

-- the node that acts
abbrev pub actor_fault : ℕ → World → Option mail.StepFault
actor_fault n w = mail.actor_fault (PushTo n n) (mail_world_of w).slots (Some n)

abbrev pub letters_worn : World → Option mail.StepFault
letters_worn w = if nat_le mail.letters_end w.sent then Some Worn else None

-- the greatest count of an epoch
abbrev pub greatest_epoch : ℕ
greatest_epoch = 2 ^ 64 - 1

abbrev pub first_refusal : List (Option StepFault) → Option StepFault
first_refusal [] = None
first_refusal (None ∷ faults) = first_refusal faults
first_refusal (Some fault ∷ faults) = Some fault

abbrev pub group_size : Option maps.OpenGroup → ℕ
group_size None = 0
group_size (Some group) = length group.joins

abbrev pub group_fault : Option maps.OpenGroup → Option StepFault
group_fault None = Some NotAGroup
group_fault (Some group) = None

-- what is refused of an opening and a conclusion of a group, by the state of the node
abbrev pub open_fault : Plan → World → Life → Option StepFault
open_fault plan w (Up node) = if nat_le greatest_epoch node.maps.heard then Some (Fault Worn) else if nat_lt (room_left w.flying) (plan.nodes - 1) then Some (Fault NoRoom) else None
open_fault plan w life = None

abbrev pub conclude_fault : World → Life → Option StepFault
conclude_fault w (Up node) = first_refusal (group_fault node.maps.group ∷ option_map Fault (letters_worn w) ∷ (if nat_lt (room_left w.flying) (group_size node.maps.group - 1) then Some (Fault NoRoom) else None) ∷ [])
conclude_fault w life = None

abbrev pub by_slot : (Life → Option StepFault) → Option Slot → Option StepFault
by_slot fault None = None
by_slot fault (Some slot) = fault slot.life

abbrev pub node_fault : Plan → List ℕ → Option StepFault
node_fault plan [] = None
node_fault plan (n ∷ ns) = if mail.is_node plan n then node_fault plan ns else Some (Fault NoSuchNode)

-- Why a step is refused, if it is: the first that applies. That a Report has no room is told by its rows, and stands with what it does. Numbers of rows that are used up are left out here.
abbrev pub step_fault : Plan → Step → World → Option StepFault
step_fault plan (OfMessages step) w = option_map Fault (mail.step_fault plan step (mail_world_of w))
step_fault plan (OpenGroup n) w = first_refusal (node_fault plan (n ∷ []) ∷ option_map Fault (actor_fault n w) ∷ option_map Fault (letters_worn w) ∷ by_slot (open_fault plan w) (slot_at w.slots n) ∷ [])
step_fault plan (ConcludeGroup n) w = first_refusal (node_fault plan (n ∷ []) ∷ option_map Fault (actor_fault n w) ∷ by_slot (conclude_fault w) (slot_at w.slots n) ∷ [])
step_fault plan (ReportTo from to) w = first_refusal (node_fault plan (from ∷ to ∷ []) ∷ option_map Fault (actor_fault from w) ∷ option_map Fault (letters_worn w) ∷ [])
