-- Which messages of a user stand, which nodes hold some of them, and when nodes agree: by the records of the nodes' disks.
use Rattle.std.specs.Prelude.{◌≡◌, ◌≢◌, ◌↔◌, ℕ, zero, suc, ◌<◌, Bool, true, false, List, AllPairs, Option, Some, None, slice_get}
use Rattle.std.specs.Ordering.{nat_cmp, on, then_cmp, is_lt}
use Rattle.std.specs.declared.cmp.Ordering.{Ordering}
use Rattle.mail_model.specs.Identity.{Id, Stamp, Key, State}
use Rattle.mail_model.specs.Identity.Key.{Message}
use Rattle.mail_model.specs.Identity.Value.{Here}
use Rattle.mail_model.specs.Record.{Record}
use Rattle.mail_model.specs.Listing.{is_here, octets_in}
use Rattle.object_model.specs.Lists.{Among}
use Rattle.object_model.specs.Sets.{has}
use Rattle.object_model.specs.Said.{said, is_gone_held}

-- the records of node n, the first being 1
abbrev pub disk_at : List (List Record) → ℕ → Option (List Record)
disk_at disks zero = None
disk_at disks (suc k) = slice_get disks k

-- this is so of the records of node n
abbrev pub OnDisk : List (List Record) → ℕ → (List Record → Type 0) → Type 0
OnDisk disks n is_so = (records : List Record) × (disk_at disks n ≡ Some records) × is_so records

-- a set has these nodes, and no others
abbrev pub HasExactly : ℕ → List ℕ → Type 0
HasExactly set nodes = (n : ℕ) → (has set n ≡ true) ↔ Among n nodes

-- These records say that the user's copy of the message is here, with this stamp, and they have its octets.
pub record HoldsCopy (user : List ℕ) (id : Id) (stamp : Stamp) (records : List Record) : Type 0 where
  pub targets : ℕ
  pub says : said (Message user id) records ≡ Some (record { value = Here; stamp = stamp; targets = targets })
  pub octets : List ℕ
  pub held : octets_in id records ≡ Some octets

-- A copy stands among these members: one of them says that it is here, and none that it is gone.
pub record CopyStands (disks : List (List Record)) (members : List ℕ) (user : List ℕ) (id : Id) : Type 0 where
  pub n : ℕ
  pub member : Among n members
  pub stamp : Stamp
  pub here : OnDisk disks n (HoldsCopy user id stamp)
  pub not_gone : (m : ℕ) → Among m members → OnDisk disks m (λ records. is_gone_held (said (Message user id) records) ≡ true) → ⊥

-- stamps by count, boot and node
abbrev pub stamp_cmp : Stamp → Stamp → Ordering
stamp_cmp = then_cmp (on (λ s. s.count) nat_cmp) (then_cmp (on (λ s. s.boot) nat_cmp) (on (λ s. s.node) nat_cmp))

-- the latest stamp of such a copy, by what members say
pub record IsStampOf (disks : List (List Record)) (members : List ℕ) (user : List ℕ) (id : Id) (stamp : Stamp) : Type 0 where
  pub n : ℕ
  pub member : Among n members
  pub says : OnDisk disks n (HoldsCopy user id stamp)
  pub latest : (m : ℕ) (other : Stamp) → Among m members → OnDisk disks m (HoldsCopy user id other) → is_lt (stamp_cmp stamp other) ≡ false

-- These are the copies of a user that stand, each once, in rising order of stamps.
pub record AreStanding (disks : List (List Record)) (members : List ℕ) (user : List ℕ) (ids : List Id) : Type 0 where
  pub exact : (id : Id) → CopyStands disks members user id ↔ Among id ids
  pub once : AllPairs (λ (a b : Id). a ≢ b) ids
  pub rising : AllPairs (λ (a b : Id). (s t : Stamp) → IsStampOf disks members user a s → IsStampOf disks members user b t → is_lt (stamp_cmp t s) ≡ false) ids

-- whether a state that is held is here
abbrev pub is_here_held : Option State → Bool
is_here_held None = false
is_here_held (Some state) = is_here state.value

-- these records say Here of some copy of the user
pub record HasFragment (user : List ℕ) (records : List Record) : Type 0 where
  pub id : Id
  pub here : is_here_held (said (Message user id) records) ≡ true

-- What is told of a mail map: a member, as the manager of the user, and exactly the members that hold a fragment of the mailbox, in rising order.
pub record NamesFragments (disks : List (List Record)) (members : List ℕ) (user : List ℕ) (told : Option (ℕ × List ℕ)) : Type 0 where
  pub manager : ℕ
  pub nodes : List ℕ
  pub tells : told ≡ Some (manager, nodes)
  pub member : Among manager members
  pub rising : AllPairs (λ (a b : ℕ). a < b) nodes
  pub exact : (n : ℕ) → Among n nodes ↔ (Among n members × OnDisk disks n (HasFragment user))

-- these records say of the key the same as a state: its value, its stamp and its targets
pub record SaysAlike (key : Key) (state : State) (records : List Record) : Type 0 where
  pub other : State
  pub says : said key records ≡ Some other
  pub value : other.value ≡ state.value
  pub stamp : other.stamp ≡ state.stamp
  pub targets : (n : ℕ) → has other.targets n ≡ has state.targets n

-- Whoever is a target of what a member says, and a member itself, says the same.
abbrev pub MembersAgree : List (List Record) → List ℕ → Type 0
MembersAgree disks members = (a b : ℕ) → Among a members → Among b members → (key : Key) (state : State)
    → OnDisk disks a (λ records. said key records ≡ Some state) → has state.targets b ≡ true → OnDisk disks b (SaysAlike key state)
