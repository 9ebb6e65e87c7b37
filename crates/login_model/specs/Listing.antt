-- What a login lists, and when it lists exactly what stands.
use Rattle.std.specs.Prelude.{◌≡◌, ◌≢◌, ◌⊎◌, ◌↔◌, ℕ, Bool, true, false, List, length, All, AllPairs, Some}
use Rattle.mail_model.specs.Identity.{Id, Stamp}
use Rattle.mail_model.specs.Identity.Key.{Message}
use Rattle.mail_model.specs.Record.{Record}
use Rattle.mail_model.specs.Listing.{octets_in}
use Rattle.object_model.specs.Sets.{has}
use Rattle.object_model.specs.Lists.{Among}
use Rattle.object_model.specs.Said.{said, is_gone_held}
use Rattle.std.specs.Ordering.{nat_cmp, on, then_cmp, is_lt}
use Rattle.std.specs.declared.cmp.Ordering.{Ordering}
use Rattle.object_model.specs.Letters.{Number, ToldItem}
use Rattle.cluster_model.specs.Reads.{ListedCopy, IsListedCopy, IsListedBefore, is_here_held}
use Rattle.login_model.specs.Readings.{ToldList, Login}
use Rattle.login_model.specs.Readings.LoginStage.{AsksNodes}
use Rattle.login_model.specs.Readings.Reading.{LogsIn}
use Rattle.login_model.specs.Cluster.{Node, Slot, Cluster, slot_at, slot_up, NodesRead}
use Rattle.login_model.specs.Cluster.Life.{Up}
use Rattle.login_model.specs.Facts.{IsDrawn}
use Rattle.login_model.specs.Moves.{Move, after_moves, MayMoves}
use Rattle.login_model.specs.Moves.Move.{Acted, Taken}
use Rattle.login_model.specs.Parts.{Sound}

-- a message of a listing: with the targets that any node told, and the nodes that told it
pub record LoginItem : Type 0 where
  pub id : Id
  pub stamp : Stamp
  pub targets : ℕ
  pub holders : ℕ
  pub size : ℕ

abbrev pub as_copy : LoginItem → ListedCopy
as_copy item = record { id = item.id; stamp = item.stamp; targets = item.targets; size = item.size }

-- node m told this of the message
pub record IsToldOf (told : List ToldList) (id : Id) (m : ℕ) (one : ToldItem) : Type 0 where
  pub list : ToldList
  pub inside : Among list told
  pub from : list.node ≡ m
  pub item : Among one list.items
  pub same : one.id ≡ id

pub record SomeTold (told : List ToldList) (id : Id) (P : ℕ → ToldItem → Type 0) : Type 0 where
  pub m : ℕ
  pub one : ToldItem
  pub is : IsToldOf told id m one
  pub holds : P m one

-- stamps by count, boot and node
abbrev pub stamp_cmp : Stamp → Stamp → Ordering
stamp_cmp = then_cmp (on (λ s. s.count) nat_cmp) (then_cmp (on (λ s. s.boot) nat_cmp) (on (λ s. s.node) nat_cmp))

-- whether a stamp is later than another
abbrev pub is_later : Stamp → Stamp → Bool
is_later a b = is_lt (stamp_cmp b a)

-- What is told of one message is joined: the latest stamp, all targets, and whoever told it.
pub record IsMergedItem (told : List ToldList) (item : LoginItem) : Type 0 where
  pub latest : SomeTold told item.id (λ m one. (one.stamp ≡ item.stamp) × (one.size ≡ item.size))
  pub none_later : (m : ℕ) (one : ToldItem) → IsToldOf told item.id m one → is_later one.stamp item.stamp ≡ false
  pub targets : (n : ℕ) → (has item.targets n ≡ true) ↔ SomeTold told item.id (λ m one. has one.targets n ≡ true)
  pub holders : (n : ℕ) → (has item.holders n ≡ true) ↔ SomeTold told item.id (λ m one. m ≡ n)

-- Each message that was told stands once, in rising order of stamps.
pub record IsMergeOfTold (told : List ToldList) (items : List LoginItem) : Type 0 where
  pub each : (item : LoginItem) → Among item items → IsMergedItem told item
  pub all : (id : Id) (m : ℕ) (one : ToldItem) → IsToldOf told id m one → (item : LoginItem) × Among item items × (item.id ≡ id)
  pub once : AllPairs (λ (a b : LoginItem). a.id ≢ b.id) items
  pub rising : AllPairs (λ (a b : LoginItem). IsListedBefore (as_copy a) (as_copy b)) items

-- A ticket is done with this listing: each node that was named has told.
pub record ListsItems (w : Cluster) (number : Number) (login : Login) (items : List LoginItem) : Type 0 where
  pub reads : NodesRead w.slots number (LogsIn login)
  pub named : ℕ
  pub waiting : ℕ
  pub told : List ToldList
  pub stage : login.stage ≡ AsksNodes named waiting told
  pub nobody : (m : ℕ) → has waiting m ≡ true → ⊥
  pub merge : IsMergeOfTold told items

-- Nothing of the user changed at a node: what it lists, whom it names and who it says manages the user.
pub record SameFor (user : List ℕ) (before now : Slot) : Type 0 where
  pub lists : (copy : ListedCopy) → IsListedCopy user before.disk copy ↔ IsListedCopy user now.disk copy
  pub named : (old new : Node) → before.life ≡ Up old → now.life ≡ Up new → (old.named user ≡ new.named user) × (old.manager user ≡ new.manager user)

-- A ticket is fresh for a user: nothing of the user changed since it began.
abbrev pub IsFreshLogin : Cluster → Number → List ℕ → Type 0
IsFreshLogin w number user = (moment : List Slot) → Among moment w.story → IsDrawn moment number → (n : ℕ) (slot : Slot) → slot_at moment n ≡ Some slot
    → (now : Slot) × (slot_at w.slots n ≡ Some now) × SameFor user slot now

-- A node keeps its disk, and what it says of maps: at most its tickets change.
pub record IsStillSlot (before now : Slot) : Type 0 where
  pub disk : before.disk ≡ now.disk
  pub maps : (old new : Node) → before.life ≡ Up old → now.life ≡ Up new → (old.named ≡ new.named) × (old.manager ≡ new.manager)
  pub up : (old : Node) → before.life ≡ Up old → (new : Node) × (now.life ≡ Up new)

-- so does each node
abbrev pub AreStill : List Slot → List Slot → Type 0
AreStill before now = (n : ℕ) (slot : Slot) → slot_at before n ≡ Some slot → (other : Slot) × (slot_at now n ≡ Some other) × IsStillSlot slot other

-- Each moment of a story is one of an older story, or since then no node changed but its tickets.
abbrev pub IsStillSince : List (List Slot) → List Slot → List (List Slot) → Type 0
IsStillSince old slots story = (moment : List Slot) → Among moment story → Among moment old ⊎ AreStill moment slots

-- a move after which each node has kept its disk and its maps
abbrev pub IsStillMove : Move → Type 0
IsStillMove (Acted act) = IsStillSlot act.before act.after
IsStillMove (Taken letter left) = Unit {0}

-- After moves that change at most tickets, each ticket that began since is fresh, for every user.
abbrev pub StillIsFresh : Type 0
StillIsFresh = (w : Cluster) (moves : List Move) → Sound w → MayMoves moves w → All IsStillMove moves → (number : Number) → (IsDrawn w.slots number → ⊥) → (user : List ℕ)
    → IsFreshLogin (after_moves moves w) number user

-- In a settled epoch: what one member says to be gone all members do; and one id has one content.
pub record AgreesOn (slots : List Slot) (members : ℕ) (user : List ℕ) : Type 0 where
  pub gone : (a b : ℕ) (one other : Slot) → has members a ≡ true → has members b ≡ true → slot_at slots a ≡ Some one → slot_at slots b ≡ Some other
      → (id : Id) → is_gone_held (said (Message user id) one.disk) ≡ true → is_gone_held (said (Message user id) other.disk) ≡ true
  pub contents : (a b : ℕ) (one other : Slot) → slot_at slots a ≡ Some one → slot_at slots b ≡ Some other
      → (id : Id) (octets others : List ℕ) → octets_in id one.disk ≡ Some octets → octets_in id other.disk ≡ Some others → octets ≡ others

-- In a settled epoch the manager of a user names exactly the members that hold a copy of the user.
pub record NamesHolders (slots : List Slot) (members : ℕ) (user : List ℕ) (manager : ℕ) : Type 0 where
  pub node : Node
  pub disk : List Record
  pub here : slot_at slots manager ≡ Some (slot_up node disk)
  pub members_only : (m : ℕ) → has (node.named user) m ≡ true → has members m ≡ true
  pub holds : (m : ℕ) → has (node.named user) m ≡ true → (slot : Slot) × (slot_at slots m ≡ Some slot) × ((id : Id) × (is_here_held (said (Message user id) slot.disk) ≡ true))
  pub holders : (m : ℕ) (slot : Slot) → has members m ≡ true → slot_at slots m ≡ Some slot → (id : Id) → is_here_held (said (Message user id) slot.disk) ≡ true → has (node.named user) m ≡ true

-- a member lists the message
pub record MemberLists (slots : List Slot) (members : ℕ) (user : List ℕ) (id : Id) (m : ℕ) : Type 0 where
  pub member : has members m ≡ true
  pub slot : Slot
  pub here : slot_at slots m ≡ Some slot
  pub copy : ListedCopy
  pub lists : IsListedCopy user slot.disk copy
  pub same : copy.id ≡ id

-- The latest stamp of a message that members list.
pub record IsLatestTold (slots : List Slot) (members : ℕ) (user : List ℕ) (item : LoginItem) : Type 0 where
  pub m : ℕ
  pub lists : MemberLists slots members user item.id m
  pub same : lists.copy.stamp ≡ item.stamp
  pub none_later : (n : ℕ) (other : MemberLists slots members user item.id n) → is_later other.copy.stamp item.stamp ≡ false

-- A message stands: a member says that it is here, and no member that it is gone.
pub record MessageStands (slots : List Slot) (members : ℕ) (user : List ℕ) (id : Id) : Type 0 where
  pub m : ℕ
  pub holds : MemberLists slots members user id m
  pub not_gone : (b : ℕ) (slot : Slot) → has members b ≡ true → slot_at slots b ≡ Some slot → is_gone_held (said (Message user id) slot.disk) ≡ false

-- The listing has exactly what stands, each message once, in rising order of stamps, with its size and its holders.
pub record ListsStanding (slots : List Slot) (members : ℕ) (user : List ℕ) (items : List LoginItem) : Type 0 where
  pub exact : (id : Id) → MessageStands slots members user id ↔ ((item : LoginItem) × Among item items × (item.id ≡ id))
  pub once : AllPairs (λ (a b : LoginItem). a.id ≢ b.id) items
  pub rising : AllPairs (λ (a b : LoginItem). IsListedBefore (as_copy a) (as_copy b)) items
  pub stamps : (item : LoginItem) → Among item items → IsLatestTold slots members user item
  pub sizes : (item : LoginItem) → Among item items → (m : ℕ) (slot : Slot) (octets : List ℕ) → slot_at slots m ≡ Some slot → octets_in item.id slot.disk ≡ Some octets → item.size ≡ length octets
  pub holders : (item : LoginItem) → Among item items → (m : ℕ) → (has item.holders m ≡ true) ↔ MemberLists slots members user item.id m

-- A login that is fresh in a settled epoch lists exactly what stands.
abbrev pub FreshListsStanding : Type 0
FreshListsStanding = (w : Cluster) → Sound w → (number : Number) (login : Login) (items : List LoginItem) → ListsItems w number login items → IsFreshLogin w number login.user
    → (proxy : Node) (disk : List Record) → slot_at w.slots number.node ≡ Some (slot_up proxy disk) → (manager : ℕ) → proxy.manager login.user ≡ Some manager
    → (members : ℕ) → NamesHolders w.slots members login.user manager → AgreesOn w.slots members login.user → ListsStanding w.slots members login.user items
