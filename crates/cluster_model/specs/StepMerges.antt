-- What disks say once a step was made: of what was taken the join, and of all else what they said.
use Rattle.std.specs.Prelude.{◌≡◌, ◌≢◌, ℕ, Bool, List, [], ◌∷◌, ⊤, Option, Some, None}
use Rattle.mail_model.specs.Identity.{Id, Stamp, Key, State}
use Rattle.mail_model.specs.Identity.Key.{Message}
use Rattle.mail_model.specs.Plan.{Plan}
use Rattle.mail_model.specs.Record.{Record}
use Rattle.object_model.specs.Sets.{all_nodes}
use Rattle.object_model.specs.States.{join_after}
use Rattle.object_model.specs.Said.{said}
use Rattle.object_model.specs.Letters.{DeletionMark, Body}
use Rattle.object_model.specs.Letters.Body.{File, Strike as StrikeBody, Push}
use Rattle.cluster_model.specs.Cluster.{Slot, slot_at}
use Rattle.cluster_model.specs.Store.{Update, here_updates, gone_updates, updates_of}
use Rattle.cluster_model.specs.World.{World, Flies}
use Rattle.cluster_model.specs.Steps.{Step, Said}
use Rattle.cluster_model.specs.Steps.NodeCall.{Deliver, Strike}
use Rattle.cluster_model.specs.Steps.Step.{Begin, Post, Widen, Start, Lose}
use Rattle.cluster_model.specs.Steps.Said.{Faulted}
use Rattle.cluster_model.specs.Steps.StepOutcome.{Says}
use Rattle.cluster_model.specs.Makes.{MakesStep}

-- the records of a disk
abbrev pub disk_at : Option Slot → Option (List Record)
disk_at None = None
disk_at (Some slot) = Some slot.disk

-- the states that a letter makes its receiver take
abbrev pub taken_by_letter : ℕ → Body → List Update
taken_by_letter nodes (File id stamp targets users octets) = here_updates id stamp targets users
taken_by_letter nodes (StrikeBody user marks) = gone_updates user (all_nodes nodes) marks
taken_by_letter nodes (Push key state octets) = record { key = key; state = state } ∷ []
taken_by_letter nodes body = []

-- The states that a step makes node `own` take: none; those of a letter that it hears; its own part of a delivery or of a deletion; or one that gets a target more.
pub data StepTakes (plan : Plan) (old : World) (step : Step) (own : ℕ) (updates : List Update) : Type 0 where
  TakesNone : updates ≡ [] → StepTakes plan old step own updates
  OfLetter : (number : ℕ) (keep : Bool) (flies : Flies old number) → step ≡ Post number keep → own ≡ flies.letter.to → updates ≡ taken_by_letter plan.nodes flies.letter.body → StepTakes plan old step own updates
  OfDelivery : (mail : _) (id : Id) (stamp : Stamp) (targets : ℕ) → step ≡ Begin own (Deliver mail) → updates ≡ here_updates id stamp targets mail.mailboxes → StepTakes plan old step own updates
  OfDeletion : (user : List ℕ) (items : _) (marks : List DeletionMark) → step ≡ Begin own (Strike user items) → updates ≡ gone_updates user (all_nodes plan.nodes) marks → StepTakes plan old step own updates
  OfWidening : (user : List ℕ) (id : Id) (to : ℕ) (state : State) → step ≡ Widen own user id to → updates ≡ record { key = Message user id; state = state } ∷ [] → StepTakes plan old step own updates

-- The disk of node `own` says of each key the join of what it said and of these states, in their order. Each other disk is as it was.
pub record SaysMerge (old new : World) (own : ℕ) (updates : List Update) : Type 0 where
  pub own_says : (disk disk' : List Record) → disk_at (slot_at old.slots own) ≡ Some disk → disk_at (slot_at new.slots own) ≡ Some disk' → (key : Key) → said key disk' ≡ join_after (said key disk) (updates_of key updates)
  pub others : (m : ℕ) → m ≢ own → disk_at (slot_at new.slots m) ≡ disk_at (slot_at old.slots m)

-- A start, a loss and a fault leave more or less of what was pending, or of what was to be written.
abbrev pub IsDoneWhole : Step → Said → Type 0
IsDoneWhole (Start node) said = ⊥
IsDoneWhole (Lose node) said = ⊥
IsDoneWhole step (Faulted node) = ⊥
IsDoneWhole step said = ⊤

-- So each step that is done whole makes one node take some states, and its disk then says the merge; what every disk says of all other keys stays.
abbrev pub StepsSayMerge : Type 0
StepsSayMerge = (plan : Plan) (tells : Bool) (old new : World) (step : Step) (said : Said) → MakesStep plan tells old step (Says said) new → IsDoneWhole step said
    → (own : ℕ) × (updates : List Update) × StepTakes plan old step own updates × SaysMerge old new own updates
