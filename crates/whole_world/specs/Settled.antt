-- Live members, settled epochs, and what holds in them.
use Rattle.std.specs.Prelude.{◌≡◌, ◌≢◌, ◌⊎◌, ◌↔◌, ◌≤◌, ℕ, zero, suc, Bool, true, false, List, [], ◌∷◌, Option, Some, None, if◌then◌else◌}
use Rattle.std.specs.FinMap as fin
use Rattle.mail_model.specs.Identity.{Id, Key, State}
use Rattle.mail_model.specs.Identity.Key.{Message}
use Rattle.mail_model.specs.Plan.{Plan}
use Rattle.mail_model.specs.Record.{Record}
use Rattle.mail_model.specs.Listing.{is_here}
use Rattle.object_model.specs.Lists.{Among}
use Rattle.object_model.specs.Sets.{has}
use Rattle.object_model.specs.Said.{said}
use Rattle.object_model.specs.Letters.{Member, Membership, Letter}
use Rattle.object_model.specs.Letters.Body.{Install}
use Rattle.object_model.specs.UpdateLog.{Logged}
use Rattle.cluster_model.specs.World.{letters_of}
use Rattle.maps_model.specs.Cluster as maps
use Rattle.maps_model.specs.Epochs.{IsAtMost}
use Rattle.maps_model.specs.Laws.{named}
use Rattle.whole_model.specs.Whole.{Node, Slot, slot_at, holds_of, promise_of}
use Rattle.whole_model.specs.Whole.Life.{Down}
use Rattle.whole_world.specs.World.{World, IsUp}
use Rattle.whole_world.specs.Laws.{Stands}

-- A member is live in an epoch where it is up in the member's boot and has installed that epoch.
pub record IsLive (w : World) (g : Membership) (member : Member) : Type 0 where
  pub node : Node
  pub disk : List Record
  pub up : IsUp w member.node node disk
  pub boot : node.maps.boot ≡ member.boot
  pub installed : node.maps.installed ≡ Some g

-- It owes nothing to another member, and no row of it is due.
pub record OwesNothing (w : World) (g : Membership) (member : Member) : Type 0 where
  pub live : IsLive w g member
  pub owes : (key : Key) (entry : Logged) → fin.get live.node.mail.log key ≡ Some entry → (other : Member) → Among other g.members → other.node ≢ member.node → has entry.remaining other.node ≡ false
  pub unmarked : (user : List ℕ) → live.node.maps.marked user ≡ false

-- An epoch is settled where each member is live in it, no member's log has another member remaining, and no row of a member is due.
abbrev pub IsSettled : World → Membership → Type 0
IsSettled w g = (member : Member) → Among member g.members → OwesNothing w g member

-- the members whose disk says Here of some copy of the user
abbrev pub holds_at : Option Slot → List ℕ → Bool
holds_at None user = false
holds_at (Some slot) user = holds_of slot.disk user

abbrev pub fragments : List Slot → List ℕ → List Member → List ℕ
fragments slots user [] = []
fragments slots user (member ∷ members) = if holds_at (slot_at slots member.node) user then member.node ∷ fragments slots user members else fragments slots user members

-- some copy of the user is here
pub record HasHere (disk : List Record) (user : List ℕ) : Type 0 where
  pub id : Id
  pub state : State
  pub says : said (Message user id) disk ≡ Some state
  pub here : is_here state.value ≡ true

abbrev pub HoldsHere : Type 0
HoldsHere = (disk : List Record) (user : List ℕ) → (holds_of disk user ≡ true) ↔ HasHere disk user

-- in a settled epoch the manager of a user is up, and names exactly the members that have a copy here
pub record Names (w : World) (g : Membership) (user : List ℕ) (manager : ℕ) : Type 0 where
  pub node : Node
  pub disk : List Record
  pub up : IsUp w manager node disk
  pub same : named node.maps user g.members ≡ fragments w.slots user g.members

abbrev pub MapsNameFragments : Type 0
MapsNameFragments = (plan : Plan) (w : World) → Stands plan w → (g : Membership) → IsSettled w g → (member : Member) → Among member g.members
    → (user : List ℕ) (manager : ℕ) → maps.manager_of g user ≡ Some manager → Names w g user manager

-- two states are one: of the same value and stamp, and with the same targets
pub record IsSameState (a b : State) : Type 0 where
  pub value : a.value ≡ b.value
  pub stamp : a.stamp ≡ b.stamp
  pub targets : (m : ℕ) → has a.targets m ≡ has b.targets m

pub record SaysIt (w : World) (n : ℕ) (key : Key) (state : State) : Type 0 where
  pub slot : Slot
  pub here : slot_at w.slots n ≡ Some slot
  pub held : State
  pub says : said key slot.disk ≡ Some held
  pub same : IsSameState held state

-- In a settled epoch, where a member's disk says a state and another member is a target of it, that member's disk says it too.
abbrev pub MembersAgree : Type 0
MembersAgree = (plan : Plan) (w : World) → Stands plan w → (g : Membership) → IsSettled w g → (a b : Member) → Among a g.members → Among b g.members
    → (slot : Slot) → slot_at w.slots a.node ≡ Some slot → (key : Key) (state : State) → said key slot.disk ≡ Some state → has state.targets b.node ≡ true → SaysIt w b.node key state

-- a node that is up has installed it, or an Install of it flies
abbrev pub IsKnownEpoch : World → Membership → Type 0
IsKnownEpoch w g = ((n : ℕ) × (node : Node) × (disk : List Record) × IsUp w n node disk × (node.maps.installed ≡ Some g))
    ⊎ ((letter : Letter) × Among letter (letters_of w.flying) × (letter.body ≡ Install g))

-- all Installs, members and maps of one epoch are equal,
abbrev pub OneMapPerEpoch : Type 0
OneMapPerEpoch = (plan : Plan) (w : World) → Stands plan w → (a b : Membership) → IsKnownEpoch w a → IsKnownEpoch w b → a.epoch ≡ b.epoch → a ≡ b

-- and what a node has installed is at most its promise, which is on its disk
abbrev pub PromisesStand : Type 0
PromisesStand = (plan : Plan) (w : World) → Stands plan w → (n : ℕ) (node : Node) (disk : List Record) → IsUp w n node disk
    → IsAtMost (maps.epoch_of node.maps) node.maps.promise × (node.maps.promise ≡ promise_of disk) × (node.mail.installed ≡ node.maps.installed)

-- before a cluster opens, over empty disks: no node is up
abbrev pub empty_slots : ℕ → List Slot
empty_slots zero = []
empty_slots (suc k) = record { life = Down []; disk = [] } ∷ empty_slots k

abbrev pub unopened_world : ℕ → World
unopened_world nodes = record { slots = empty_slots nodes; flying = []; sent = 0; seconds = 0; book = [] }

abbrev pub OpeningStands : Type 0
OpeningStands = (plan : Plan) → plan.nodes ≤ 64 → Stands plan (unopened_world plan.nodes)
