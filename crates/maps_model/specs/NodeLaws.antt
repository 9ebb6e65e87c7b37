-- That the rules of a node are acts of the machine.
use Rattle.std.specs.Prelude.{◌≡◌, ◌≢◌, ◌⊎◌, ℕ, zero, suc, Bool, false, List, [], ◌∷◌, Option, Some, None}
use Rattle.mail_model.specs.Identity.{EpochId, no_epoch}
use Rattle.object_model.specs.Letters.{Claim, MapRow, Member, Membership, Row, Letter}
use Rattle.maps_model.specs.Cluster.{NamesNode, Node, Disk, Life, Slot, slot_up}
use Rattle.maps_model.specs.Cluster.Life.{Down, Lost}
use Rattle.maps_model.specs.Rules.{Entering, Reaction, start_group, Concludes, change, Reports, Hears, started, booted}
use Rattle.maps_model.specs.Moves.{NodeAct, IsReady, IsAct}
use Rattle.maps_model.specs.Parts.{Sound}
use Rattle.maps_model.specs.Assign.{IsAssigned}

-- what a node does, with a letter that it hears
abbrev pub act_of : ℕ → Node → Disk → Reaction → Option Letter → NodeAct
act_of own node disk did heard = record { node = own; before = slot_up node disk; after = slot_up did.node did.disk; heard = heard; out = did.out }

abbrev pub NodesHear : Type 0
NodesHear = (own : ℕ) (node : Node) (disk : Disk) (letter : Letter) (did : Reaction) → Hears own node disk letter letter.body did → IsReady own (slot_up node disk) (Some letter)
    → IsAct (act_of own node disk did (Some letter))

abbrev pub NodesGroup : Type 0
NodesGroup = (own nodes : ℕ) (node : Node) (disk : Disk) → IsReady own (slot_up node disk) None → IsAct (act_of own node disk (start_group own nodes node disk) None)

abbrev pub NodesConclude : Type 0
NodesConclude = (own buckets : ℕ) (node : Node) (disk : Disk) (did : Reaction) → Concludes own buckets node disk did → IsReady own (slot_up node disk) None → IsAct (act_of own node disk did None)

abbrev pub NodesChange : Type 0
NodesChange = (own : ℕ) (node : Node) (disk : Disk) (user : List ℕ) (full : Bool) → IsReady own (slot_up node disk) None → IsAct (act_of own node disk (change own node disk user full) None)

abbrev pub NodesReport : Type 0
NodesReport = (own to : ℕ) (users : List (List ℕ)) (node : Node) (disk : Disk) (did : Reaction) → Reports own to users node disk did → IsReady own (slot_up node disk) None → IsAct (act_of own node disk did None)

-- A node that goes down may have failed in its work: then its disk may turn out to hold one more record.
abbrev pub fall_act : ℕ → Slot → Life → NodeAct
fall_act n before life = record { node = n; before = before; after = record { life = life; disk = before.disk }; heard = None; out = [] }

abbrev pub NodesFall : Type 0
NodesFall = (n : ℕ) (before : Slot) (life : Life) → before.life ≢ Lost → (life ≡ Down before.disk) ⊎ (life ≡ Lost) → IsReady n before None → IsAct (fall_act n before life)

-- whatever a node does, a fault of its disk may cut it
abbrev pub cut_act : ℕ → Node → Disk → Reaction → Option Letter → NodeAct
cut_act own node disk did heard = record { node = own; before = slot_up node disk; after = record { life = Down did.disk; disk = disk }; heard = heard; out = [] }

abbrev pub NodesFault : Type 0
NodesFault = (own : ℕ) (node : Node) (disk : Disk) (did : Reaction) (heard : Option Letter) → IsAct (act_of own node disk did heard) → IsAct (cut_act own node disk did heard)

-- A node starts. It finds what its failed append left or not.
abbrev pub start_act : ℕ → Disk → Disk → Disk → NodeAct
start_act n disk might image = record { node = n; before = record { life = Down might; disk = disk }; after = slot_up (started image) (booted image); heard = None; out = [] }

abbrev pub NodesStart : Type 0
NodesStart = (n : ℕ) (disk might image : Disk) → (image ≡ disk) ⊎ (image ≡ might) → IsReady n (record { life = Down might; disk = disk }) None → IsAct (start_act n disk might image)

-- where a cluster opens over empty disks: each node in its first boot, without an epoch
abbrev pub first_image : Disk
first_image = record { boot = 0; promise = no_epoch; holds = λ user. false }

abbrev pub fresh_slots : ℕ → List Slot
fresh_slots zero = []
fresh_slots (suc k) = slot_up (started first_image) (booted first_image) ∷ fresh_slots k

-- it is sound
abbrev pub OpeningIsSound : Type 0
OpeningIsSound = (nodes : ℕ) → Sound (record { slots = fresh_slots nodes; flying = [] })

-- Whoever is named in its boot can enter: each test of marks and rows is decided.
abbrev pub NodesCanEnter : Type 0
NodesCanEnter = (own : ℕ) (node : Node) (disk : Disk) (membership : Membership) → NamesNode membership own node.boot
    → (marked : List ℕ → Bool) × ((rows : ℕ → ℕ → List ℕ → Option Row) × Entering own node disk membership marked rows)

-- One map is assigned to the same claims, members and buckets.
abbrev pub OneMap : Type 0
OneMap = (claims : List Claim) (members : List Member) (buckets : ℕ) (epoch : EpochId) (a b : List MapRow) → IsAssigned claims members buckets epoch a → IsAssigned claims members buckets epoch b → a ≡ b
