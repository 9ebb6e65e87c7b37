-- What a sound cluster says of rows, marks and the letters that tell them.
use Rattle.std.specs.Prelude.{◌≡◌, ◌≤◌, ℕ, false, List, Some}
use Rattle.object_model.specs.Letters.{Membership, Row, Letter}
use Rattle.object_model.specs.Lists.{Among}
use Rattle.maps_model.specs.Epochs.{IsBefore}
use Rattle.maps_model.specs.Cluster.{Node, Disk, Slot, Cluster, slot_at, slot_up, epoch_of, Comes, manager_of, is_full}
use Rattle.maps_model.specs.Rules.{KeepsAny}
use Rattle.maps_model.specs.Words.{IsReport, IsAck, RowFits, HasAtLeast}
use Rattle.maps_model.specs.Parts.{Sound}

-- a node that is up
pub record IsUp (slots : List Slot) (n : ℕ) (node : Node) (disk : Disk) : Type 0 where
  pub here : slot_at slots n ≡ Some (slot_up node disk)

-- The row of a user that its manager has of a node agrees with what the node says, and so do the letters that tell it.
pub record RowAgrees (flying : List Letter) (n : ℕ) (node : Node) (disk : Disk) (membership : Membership) (user : List ℕ) (other : Node) : Type 0 where
  pub unmarked : node.marked user ≡ false → is_full (other.rows n node.boot user) ≡ disk.holds user
  pub row : (row : Row) → other.rows n node.boot user ≡ Some row → RowFits row (node.version user) (disk.holds user)
  pub report : (letter : Letter) → Among letter flying → letter.from ≡ n → letter.epoch ≡ membership.epoch → (boot : ℕ) (row : Row) → IsReport letter user boot row → RowFits row (node.version user) (disk.holds user)
  pub ack : (letter : Letter) → Among letter flying → letter.to ≡ n → letter.epoch ≡ membership.epoch → (version : ℕ) → IsAck letter user version
      → HasAtLeast (other.rows n node.boot user) version × (version ≤ node.version user)

-- where a node and the manager of a user are in one epoch
abbrev pub InOneEpoch : Type 0
InOneEpoch = (w : Cluster) → Sound w → (n : ℕ) (node : Node) (disk : Disk) → IsUp w.slots n node disk → (membership : Membership) → node.installed ≡ Some membership
    → (user : List ℕ) (manager : ℕ) → manager_of membership user ≡ Some manager → (other : Node) (its : Disk) → IsUp w.slots manager other its → other.installed ≡ Some membership
    → RowAgrees w.flying n node disk membership user other

-- where a node has entered an epoch, and the manager, which manages the user before and after, is still in the epoch from which both come
abbrev pub ManagerBehind : Type 0
ManagerBehind = KeepsAny → (w : Cluster) → Sound w → (n : ℕ) (node : Node) (disk : Disk) → IsUp w.slots n node disk → (membership : Membership) → node.installed ≡ Some membership
    → (user : List ℕ) (manager : ℕ) → manager_of membership user ≡ Some manager → (other : Node) (its : Disk) → IsUp w.slots manager other its
    → (old : Membership) → other.installed ≡ Some old → manager_of old user ≡ Some manager → IsBefore old.epoch membership.epoch
    → Comes membership manager other.boot old.epoch → Comes membership n node.boot old.epoch
    → node.marked user ≡ false → is_full (other.rows n node.boot user) ≡ disk.holds user

-- where the manager has entered an epoch, and the node is still in the epoch from which both come
abbrev pub ManagerAhead : Type 0
ManagerAhead = KeepsAny → (w : Cluster) → Sound w → (n : ℕ) (node : Node) (disk : Disk) → IsUp w.slots n node disk → (old : Membership) → node.installed ≡ Some old
    → (user : List ℕ) (manager : ℕ) → manager_of old user ≡ Some manager → (other : Node) (its : Disk) → IsUp w.slots manager other its
    → (membership : Membership) → other.installed ≡ Some membership → manager_of membership user ≡ Some manager → IsBefore old.epoch membership.epoch
    → Comes membership manager other.boot old.epoch → Comes membership n node.boot old.epoch
    → node.marked user ≡ false → is_full (other.rows n node.boot user) ≡ disk.holds user

-- where the manager has still to enter the node's epoch, and will drop the row: the node marks each user of whom it holds a message
abbrev pub ManagerDrops : Type 0
ManagerDrops = (w : Cluster) → Sound w → (n : ℕ) (node : Node) (disk : Disk) → IsUp w.slots n node disk → (membership : Membership) → node.installed ≡ Some membership
    → (user : List ℕ) (manager : ℕ) → manager_of membership user ≡ Some manager → (other : Node) (its : Disk) → IsUp w.slots manager other its
    → IsBefore (epoch_of other) membership.epoch → Comes membership manager other.boot (epoch_of other)
    → ((old : Membership) → other.installed ≡ Some old → manager_of old user ≡ Some manager → Comes membership n node.boot old.epoch → KeepsAny → ⊥)
    → node.marked user ≡ false → disk.holds user ≡ false
