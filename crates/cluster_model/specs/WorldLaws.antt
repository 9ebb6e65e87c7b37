-- What holds of worlds, whatever steps are made.
use Rattle.std.specs.Prelude.{◌≡◌, ◌⊎◌, ◌≤◌, ◌+◌, ℕ, Bool, zero, suc, List, [], ◌∷◌, Some}
use Rattle.mail_model.specs.Identity.{Id}
use Rattle.mail_model.specs.Plan.{Plan}
use Rattle.mail_model.specs.Record.{Record}
use Rattle.mail_model.specs.Record.Record.{Boot, Promise}
use Rattle.mail_model.specs.Told.{Mail}
use Rattle.mail_model.specs.Mail.{IsStored}
use Rattle.object_model.specs.Letters.{MapRow}
use Rattle.cluster_model.specs.Cluster.{Node, Slot, slot_at}
use Rattle.cluster_model.specs.Cluster.Life.{Up}
use Rattle.cluster_model.specs.Parts.{IsHeldSomewhere, Sound}
use Rattle.cluster_model.specs.Starts.{first_epoch, fresh_node}
use Rattle.cluster_model.specs.Deeds.{IsOfPlan}
use Rattle.cluster_model.specs.World.{World, letters_of, cluster_of}
use Rattle.cluster_model.specs.Steps.{Step, StepOutcome}
use Rattle.cluster_model.specs.Steps.NodeCall.{Deliver}
use Rattle.cluster_model.specs.Steps.Step.{Begin}
use Rattle.cluster_model.specs.Makes.{MadeStep, MakesStep, MakesAll, IsUp}

-- each slot is that of a node of the plan
abbrev pub InPlan : ℕ → List Slot → Type 0
InPlan nodes slots = (n : ℕ) (slot : Slot) → slot_at slots n ≡ Some slot → IsOfPlan n nodes

-- whatever steps are made and whatever comes of them, a sound world stays sound
abbrev pub StepsKeepSound : Type 0
StepsKeepSound = (plan : Plan) (tells : Bool) (old new : World) (steps : List MadeStep) → MakesAll plan tells old steps new
    → InPlan plan.nodes old.slots → Sound plan.confirm (cluster_of old) → InPlan plan.nodes new.slots × Sound plan.confirm (cluster_of new)

-- Where a cluster opens over empty disks: each node is in its first boot and in the first epoch. Its disk has the boot, and the promise of that epoch.
abbrev pub fresh_slot : ℕ → List MapRow → Slot
fresh_slot nodes map = record { life = Up (fresh_node nodes map); disk = Boot 1 ∷ Promise first_epoch ∷ [] }

abbrev pub fresh_slots : ℕ → List MapRow → ℕ → List Slot
fresh_slots nodes map zero = []
fresh_slots nodes map (suc k) = fresh_slot nodes map ∷ fresh_slots nodes map k

abbrev pub opening_world : ℕ → List MapRow → World
opening_world nodes map = record { slots = fresh_slots nodes map nodes; flying = []; sent = 0; seconds = 0; book = [] }

-- it is sound, whoever manages the users
abbrev pub OpeningIsSound : Type 0
OpeningIsSound = (nodes confirm : ℕ) (map : List MapRow) → nodes ≤ 64 → InPlan nodes (opening_world nodes map).slots × Sound confirm (cluster_of (opening_world nodes map))

-- a message that a Deliver files has the next id of its node, and is the message that was told, at the seconds of the world
pub record FiledBy (old : World) (own : ℕ) (mail : Mail) (id : Id) (octets : List ℕ) : Type 0 where
  pub node : Node
  pub disk : List Record
  pub up : IsUp old own node disk
  pub same_id : (record { node = own; boot = node.boot; seq = node.drawn + 1 }) ≡ id
  pub stored : IsStored mail id old.seconds octets

-- what a step may bring
abbrev pub MayBring : World → Step → Id → List ℕ → Type 0
MayBring old (Begin own (Deliver mail)) id octets = FiledBy old own mail id octets
MayBring old step id octets = ⊥

-- Whatever octets a sound world holds after a step it held before, or the step is the Deliver of that message.
abbrev pub StepsBring : Type 0
StepsBring = (plan : Plan) (tells : Bool) (old new : World) (step : Step) (outcome : StepOutcome) → MakesStep plan tells old step outcome new
    → InPlan plan.nodes old.slots → Sound plan.confirm (cluster_of old) → (id : Id) (octets : List ℕ) → IsHeldSomewhere new.slots (letters_of new.flying) id octets
    → IsHeldSomewhere old.slots (letters_of old.flying) id octets ⊎ MayBring old step id octets
