-- A cluster of several nodes as membership and mail maps see it: lives, disks, and letters in flight.
use Rattle.std.specs.Prelude.{◌≡◌, ℕ, zero, suc, Bool, false, nat_eq, List, [], ◌∷◌, length, Option, Some, None, slice_get, slice_set, if◌then◌else◌}
use Rattle.mail_model.specs.Identity.{EpochId, no_epoch}
use Rattle.object_model.specs.Letters.{Claim, Member, MapRow, Membership, Row, Letter}
use Rattle.mail_base.specs.Buckets.{bucket_at}

-- a node that joined a group, with the buckets that it claims
pub record Joined : Type 0 where
  pub member : Member
  pub claims : List Claim

-- a group that its node has opened and not yet concluded
pub record OpenGroup : Type 0 where
  pub epoch : EpochId
  pub joins : List Joined

-- The soft state of a node. `heard` is the greatest count of an epoch that it promised or heard. Of each user it has a version and whether it is marked, and as a manager the rows of each node and boot.
pub record Node : Type 0 where
  pub boot : ℕ
  pub promise : EpochId
  pub heard : ℕ
  pub group : Option OpenGroup
  pub installed : Option Membership
  pub version : List ℕ → ℕ
  pub marked : List ℕ → Bool
  pub rows : ℕ → ℕ → List ℕ → Option Row

-- what a disk says: the last boot, the greatest promise, and the users of whom it holds a message
pub record Disk : Type 0 where
  pub boot : ℕ
  pub promise : EpochId
  pub holds : List ℕ → Bool

-- A node that is down has no soft state. Where an append failed, the next start may find what the disk would say with that record.
pub data Life : Type 0 where
  Up : (node : Node) → Life
  Down : (might : Disk) → Life
  Lost : Life

pub record Slot : Type 0 where
  pub life : Life
  pub disk : Disk

pub record Cluster : Type 0 where
  pub slots : List Slot
  pub flying : List Letter

-- the slot of node n, numbered from 1
abbrev pub slot_at : List Slot → ℕ → Option Slot
slot_at slots zero = None
slot_at slots (suc k) = slice_get slots k

abbrev pub with_slot : List Slot → ℕ → Slot → List Slot
with_slot slots zero slot = slots
with_slot slots (suc k) slot = slice_set slots k slot

-- a node that is up, with its disk
abbrev pub slot_up : Node → Disk → Slot
slot_up node disk = record { life = Up node; disk = disk }

-- the epoch that a node has installed
abbrev pub epoch_in : Option Membership → EpochId
epoch_in None = no_epoch
epoch_in (Some membership) = membership.epoch

abbrev pub epoch_of : Node → EpochId
epoch_of node = epoch_in node.installed

-- the member of that number
abbrev pub member_of : List Member → ℕ → Option Member
member_of [] n = None
member_of (member ∷ members) n = if nat_eq member.node n then Some member else member_of members n

-- a membership names node n in a boot
pub record NamesNode (membership : Membership) (n boot : ℕ) : Type 0 where
  pub member : Member
  pub is : member_of membership.members n ≡ Some member
  pub same : member.boot ≡ boot

-- and that it comes from that epoch
pub record Comes (membership : Membership) (n boot : ℕ) (was : EpochId) : Type 0 where
  pub member : Member
  pub is : member_of membership.members n ≡ Some member
  pub same : member.boot ≡ boot
  pub from : member.was ≡ was

abbrev pub manager_in : Option MapRow → Option ℕ
manager_in None = None
manager_in (Some row) = Some row.manager

-- who manages a user
abbrev pub manager_of : Membership → List ℕ → Option ℕ
manager_of membership user = manager_in (slice_get membership.map (bucket_at user (length membership.map)))

abbrev pub is_that_node : Option ℕ → ℕ → Bool
is_that_node None n = false
is_that_node (Some m) n = nat_eq m n

-- whether node n manages the user
abbrev pub manages : Membership → ℕ → List ℕ → Bool
manages membership n user = is_that_node (manager_of membership user) n

abbrev pub manages_in : Option Membership → ℕ → List ℕ → Bool
manages_in None n user = false
manages_in (Some membership) n user = manages membership n user

-- a row that is missing counts as empty
abbrev pub is_full : Option Row → Bool
is_full None = false
is_full (Some row) = row.full
