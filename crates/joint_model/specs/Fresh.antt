-- When a login of such a cluster lists exactly what stands.
use Rattle.std.specs.Prelude.{◌≡◌, ◌≢◌, ◌≤◌, ◌↔◌, ℕ, true, false, List, length, All, Some}
use Rattle.std.specs.FinMap as fin
use Rattle.mail_model.specs.Identity.{Id, Key, State}
use Rattle.mail_model.specs.Identity.Key.{Message}
use Rattle.mail_model.specs.Record.{Record}
use Rattle.object_model.specs.Sets.{has}
use Rattle.object_model.specs.Lists.{Among}
use Rattle.object_model.specs.Said.{said}
use Rattle.object_model.specs.Letters.{Number, Member, Membership}
use Rattle.object_model.specs.UpdateLog.{Logged}
use Rattle.cluster_model.specs.Cluster.{set_of_members}
use Rattle.gone_model.specs.Gone.{GoneForAll, IsForAll}
use Rattle.maps_model.specs.Cluster as maps
use Rattle.maps_model.specs.Laws.{IsEpochSettled}
use Rattle.whole_model.specs.Whole as whole
use Rattle.login_model.specs.Readings.{Login}
use Rattle.login_model.specs.Listing.{LoginItem, ListsItems, IsFreshLogin, NamesHolders, ListsStanding}
use Rattle.joint_model.specs.Joint.{Node, Slot, Cluster, slot_at, slot_up, whole_of, reads_of}
use Rattle.object_model.specs.Locks.{Held}
use Rattle.login_model.specs.Rules as login_rules
use Rattle.login_model.specs.Facts.{IsDrawn}
use Rattle.joint_model.specs.Moves.{Move, after_moves, MayMoves, Sound}
use Rattle.joint_model.specs.Moves.Move.{Acted, Taken, Entered}
use Rattle.joint_model.specs.Laws.{with_reaction}

-- An epoch is settled: each member is up in it with no row due, and no member's log has another member remaining.
pub record IsSettled (w : Cluster) (membership : Membership) : Type 0 where
  pub quiet : IsEpochSettled (whole.maps_of (whole_of w)).slots membership
  pub logs : (a b : ℕ) → has (set_of_members membership.members) a ≡ true → has (set_of_members membership.members) b ≡ true → a ≢ b → (node : Node) (disk : List Record)
      → slot_at w.slots a ≡ Some (slot_up node disk) → (key : Key) (entry : Logged) → fin.get node.whole.mail.log key ≡ Some entry → has entry.remaining b ≡ false

-- each deletion on a disk has all nodes of the plan as targets
abbrev pub GoneIsForAll : ℕ → List Slot → Type 0
GoneIsForAll nodes slots = (n : ℕ) (slot : Slot) → slot_at slots n ≡ Some slot → (user : List ℕ) (id : Id) (state : State) → said (Message user id) slot.disk ≡ Some state → IsForAll nodes state

-- the members are nodes of the plan
abbrev pub AreOfPlan : ℕ → Membership → Type 0
AreOfPlan nodes membership = (member : Member) → Among member membership.members → (member.node ≢ 0) × (member.node ≤ nodes)

-- A login that is fresh in a settled epoch lists exactly what stands.
abbrev pub FreshListsStanding : Type 0
FreshListsStanding = (confirm nodes : ℕ) (w : Cluster) → Sound confirm w → nodes ≤ 64 → (membership : Membership) → IsSettled w membership → AreOfPlan nodes membership → GoneIsForAll nodes w.slots
    → (number : Number) (login : Login) (items : List LoginItem) → ListsItems (reads_of w) number login items → IsFreshLogin (reads_of w) number login.user
    → (proxy : Node) (disk : List Record) → slot_at w.slots number.node ≡ Some (slot_up proxy disk) → proxy.whole.maps.installed ≡ Some membership
    → (manager : ℕ) → maps.manager_of membership login.user ≡ Some manager
    → ListsStanding (reads_of w).slots (set_of_members membership.members) login.user items

-- a move that changes at most tickets of calls that read, and locks
abbrev pub IsReadingMove : Move → Type 0
IsReadingMove (Acted act) = (node : Node) × (disk : List Record) × (did : login_rules.Reaction) × (locks : Held) × (act.before ≡ slot_up node disk) × (act.after ≡ slot_up (with_reaction node did locks) disk)
IsReadingMove (Taken letter left) = Unit {0}
IsReadingMove (Entered entry) = Unit {0}

-- An epoch that is settled stays so after such moves.
abbrev pub SettledStays : Type 0
SettledStays = (confirm : ℕ) (w : Cluster) (moves : List Move) (membership : Membership) → MayMoves confirm moves w → All IsReadingMove moves → IsSettled w membership → IsSettled (after_moves moves w) membership

-- A login that began in a settled epoch, with nothing but such moves since, lists exactly what stands.
abbrev pub SettledLoginLists : Type 0
SettledLoginLists = (confirm nodes : ℕ) (w : Cluster) (moves : List Move) → Sound confirm w → MayMoves confirm moves w → All IsReadingMove moves
    → nodes ≤ 64 → (membership : Membership) → IsSettled w membership → AreOfPlan nodes membership → GoneIsForAll nodes w.slots
    → (number : Number) → (IsDrawn (reads_of w).slots number → ⊥)
    → (login : Login) (items : List LoginItem) → ListsItems (reads_of (after_moves moves w)) number login items
    → (proxy : Node) (disk : List Record) → slot_at (after_moves moves w).slots number.node ≡ Some (slot_up proxy disk) → proxy.whole.maps.installed ≡ Some membership
    → (manager : ℕ) → maps.manager_of membership login.user ≡ Some manager
    → ListsStanding (reads_of (after_moves moves w)).slots (set_of_members membership.members) login.user items

-- The members of a settled epoch are nodes of the cluster.
abbrev pub MembersAreOfPlan : Type 0
MembersAreOfPlan = (w : Cluster) (membership : Membership) → IsSettled w membership → AreOfPlan (length w.slots) membership

-- And each deletion on a disk is for all nodes, where that is kept as messages see it.
abbrev pub GoneIsSeen : Type 0
GoneIsSeen = (nodes : ℕ) (w : Cluster) → GoneForAll nodes (whole.mail_part_of (whole_of w)) → GoneIsForAll nodes w.slots

-- In a settled epoch the manager of a user names exactly the members whose disk says that some copy of the user is here.
abbrev pub SettledNames : Type 0
SettledNames = (confirm nodes : ℕ) (w : Cluster) → Sound confirm w → nodes ≤ 64 → (membership : Membership) → IsSettled w membership → AreOfPlan nodes membership
    → (n : ℕ) (node : Node) (disk : List Record) → slot_at w.slots n ≡ Some (slot_up node disk) → node.whole.maps.installed ≡ Some membership
    → (user : List ℕ) (manager : ℕ) → maps.manager_of membership user ≡ Some manager → NamesHolders (reads_of w).slots (set_of_members membership.members) user manager

-- These records say of the key what another state says: its value, its stamp and its targets.
pub record SaysSameState (key : Key) (state : State) (records : List Record) : Type 0 where
  pub other : State
  pub says : said key records ≡ Some other
  pub same_value : other.value ≡ state.value
  pub same_stamp : other.stamp ≡ state.stamp
  pub targets : (m : ℕ) → (has state.targets m ≡ true) ↔ (has other.targets m ≡ true)

-- In a settled epoch, where a member's disk says a state of a key and another member is a target of it, that member's disk says it too.
abbrev pub SettledAgree : Type 0
SettledAgree = (confirm : ℕ) (w : Cluster) → Sound confirm w → (membership : Membership) → IsSettled w membership
    → (a b : ℕ) (one other : Slot) → has (set_of_members membership.members) a ≡ true → has (set_of_members membership.members) b ≡ true → slot_at w.slots a ≡ Some one → slot_at w.slots b ≡ Some other
    → (key : Key) (state : State) → said key one.disk ≡ Some state → has state.targets b ≡ true → SaysSameState key state other.disk
