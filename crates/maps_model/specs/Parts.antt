-- The parts of the invariant, each over the fields that it reads.
use Rattle.std.specs.Prelude.{◌≡◌, ◌≢◌, ◌⊎◌, ◌<◌, ℕ, List, Option, Some}
use Rattle.mail_model.specs.Identity.{EpochId}
use Rattle.object_model.specs.Letters.{Claim, Membership, Row, Letter}
use Rattle.object_model.specs.Lists.{Among}
use Rattle.maps_model.specs.Cluster.{Joined, OpenGroup, Node, Disk, Slot, Cluster, slot_at, slot_up, epoch_of, Comes, manager_of}
use Rattle.object_model.specs.Letters.Body.{Join}
use Rattle.maps_model.specs.Words.{Known, IsOver, HasEntered, JoinStands, IsKeptRow, AllName, ManagersAreMembers, IsReport, IsAck, RowFits, Agrees, RowFor}
use Rattle.maps_model.specs.Moves.{IsInOrder}

-- each node is in order: its promise is on its disk, and what it installed is at most its promise
pub record AllInOrder (slots : List Slot) : Type 0 where
  pub each : (n : ℕ) (slot : Slot) → slot_at slots n ≡ Some slot → IsInOrder n slot.disk slot.life

-- no letter flies to its sender
pub record Apart (flying : List Letter) : Type 0 where
  pub each : (letter : Letter) → Among letter flying → letter.from ≢ letter.to

-- all memberships of one epoch are equal, and nobody concludes that epoch again
pub record OneEach (slots : List Slot) (flying : List Letter) : Type 0 where
  pub one : (a b : Membership) → Known slots flying a → Known slots flying b → a.epoch ≡ b.epoch → a ≡ b
  pub over : (membership : Membership) → Known slots flying membership → IsOver slots membership.epoch
  pub counted : (membership : Membership) → Known slots flying membership → 0 < membership.epoch.count
  pub managers : (membership : Membership) → Known slots flying membership → ManagersAreMembers membership

-- Each join stands: one in flight, one of an open group, and one of a member.
pub record Joins (slots : List Slot) (flying : List Letter) : Type 0 where
  pub named : (membership : Membership) → Known slots flying membership → (n boot : ℕ) (was : EpochId) → Comes membership n boot was → JoinStands slots flying n boot membership.epoch was
  pub joined : (n : ℕ) (node : Node) (disk : Disk) → slot_at slots n ≡ Some (slot_up node disk) → (group : OpenGroup) → node.group ≡ Some group
      → (join : Joined) → Among join group.joins → JoinStands slots flying join.member.node join.member.boot group.epoch join.member.was
  pub joining : (letter : Letter) → Among letter flying → (epoch promise : EpochId) (boot : ℕ) (was : EpochId) (claims : List Claim)
      → letter.body ≡ Join epoch promise boot was claims → JoinStands slots flying letter.from boot epoch was

-- what speaks of an epoch speaks of one that is over, and of a node that has entered it in its boot of it
pub record Spoken (slots : List Slot) (flying : List Letter) : Type 0 where
  pub report_over : (letter : Letter) → Among letter flying → (user : List ℕ) (boot : ℕ) (row : Row) → IsReport letter user boot row → IsOver slots letter.epoch
  pub ack_over : (letter : Letter) → Among letter flying → (user : List ℕ) (version : ℕ) → IsAck letter user version → IsOver slots letter.epoch
  pub reported : (letter : Letter) → Among letter flying → (user : List ℕ) (boot : ℕ) (row : Row) → IsReport letter user boot row
      → HasEntered slots letter.from boot letter.epoch × AllName slots flying letter.epoch letter.from boot
  pub acked : (letter : Letter) → Among letter flying → (user : List ℕ) (version : ℕ) → IsAck letter user version
      → (boot : ℕ) × HasEntered slots letter.to boot letter.epoch × AllName slots flying letter.epoch letter.to boot
  pub rows : (n : ℕ) (node : Node) (disk : Disk) → slot_at slots n ≡ Some (slot_up node disk) → (m boot : ℕ) (user : List ℕ) (row : Row) → node.rows m boot user ≡ Some row
      → HasEntered slots m boot (epoch_of node) ⊎ IsKeptRow slots flying n node m boot user

-- A Report in flight goes to the manager of its epoch, and fits what its sender says in that boot.
pub record Reported (slots : List Slot) (flying : List Letter) : Type 0 where
  pub to : (letter : Letter) → Among letter flying → (user : List ℕ) (boot : ℕ) (row : Row) → IsReport letter user boot row → (membership : Membership) → Known slots flying membership
      → membership.epoch ≡ letter.epoch → manager_of membership user ≡ Some letter.to
  pub fits : (n : ℕ) (node : Node) (disk : Disk) → slot_at slots n ≡ Some (slot_up node disk) → (letter : Letter) → Among letter flying → letter.from ≡ n
      → (user : List ℕ) (boot : ℕ) (row : Row) → IsReport letter user boot row → boot ≡ node.boot → RowFits row (node.version user) (disk.holds user)

-- What a manager has, will have or has kept of a node agrees with what the node says.
pub record RowsAgree (slots : List Slot) (flying : List Letter) : Type 0 where
  pub each : (n : ℕ) (node : Node) (disk : Disk) → slot_at slots n ≡ Some (slot_up node disk) → (membership : Membership) → node.installed ≡ Some membership
      → (user : List ℕ) (manager : ℕ) → manager_of membership user ≡ Some manager
      → (other : Node) (its : Disk) → slot_at slots manager ≡ Some (slot_up other its)
      → (row : Option Row) (epoch : EpochId) → RowFor manager other membership n node.boot user row epoch
      → Agrees flying n user membership.epoch epoch row (node.version user) (disk.holds user) (node.marked user)

pub record Sound (w : Cluster) : Type 0 where
  pub order : AllInOrder w.slots
  pub apart : Apart w.flying
  pub one : OneEach w.slots w.flying
  pub joins : Joins w.slots w.flying
  pub spoken : Spoken w.slots w.flying
  pub reported : Reported w.slots w.flying
  pub told : RowsAgree w.slots w.flying
