-- What the parts of the invariant say of nodes and letters.
use Rattle.std.specs.Prelude.{◌≡◌, ◌⊎◌, ◌<◌, ◌≤◌, ℕ, Bool, false, List, Option, Some, None}
use Rattle.mail_model.specs.Identity.{EpochId, no_epoch}
use Rattle.object_model.specs.Letters.{Membership, Row, Letter}
use Rattle.object_model.specs.Lists.{Among}
use Rattle.maps_model.specs.Epochs.{IsBefore, IsAtMost}
use Rattle.maps_model.specs.Assign.{IsOfMembers}
use Rattle.maps_model.specs.Cluster.{OpenGroup, Node, Disk, Life, Slot, slot_at, slot_up, epoch_of, NamesNode, Comes, manager_of}
use Rattle.maps_model.specs.Cluster.Life.{Up, Down, Lost}
use Rattle.maps_model.specs.Rules.{KeepsAny, IsRowKept}
use Rattle.object_model.specs.Letters.Body.{Install, Report, ReportAck}

-- a node that is up has installed this membership
pub record Installed (slots : List Slot) (membership : Membership) : Type 0 where
  pub n : ℕ
  pub node : Node
  pub disk : Disk
  pub here : slot_at slots n ≡ Some (slot_up node disk)
  pub is : node.installed ≡ Some membership

-- an Install of it is in flight
pub record InstallFlies (flying : List Letter) (membership : Membership) : Type 0 where
  pub letter : Letter
  pub inside : Among letter flying
  pub is : letter.body ≡ Install membership

abbrev pub Known : List Slot → List Letter → Membership → Type 0
Known slots flying membership = Installed slots membership ⊎ InstallFlies flying membership

-- an open group, if there is one, is of a later epoch
abbrev pub OpensLater : Life → EpochId → Type 0
OpensLater (Up node) epoch = (group : OpenGroup) → node.group ≡ Some group → IsBefore epoch group.epoch
OpensLater (Down might) epoch = Unit {0}
OpensLater Lost epoch = Unit {0}

-- the node of an epoch has promised it and concludes it no more
pub record IsOver (slots : List Slot) (epoch : EpochId) : Type 0 where
  pub slot : Slot
  pub here : slot_at slots epoch.node ≡ Some slot
  pub promised : IsAtMost epoch slot.disk.promise
  pub closed : OpensLater slot.life epoch

-- a life that installs that epoch no more
abbrev pub IsPast : Life → EpochId → Type 0
IsPast (Up node) epoch = IsAtMost epoch (epoch_of node)
IsPast (Down might) epoch = Unit {0}
IsPast Lost epoch = Unit {0}

-- node n installs that epoch no more in that boot
pub record HasEntered (slots : List Slot) (n boot : ℕ) (epoch : EpochId) : Type 0 where
  pub slot : Slot
  pub here : slot_at slots n ≡ Some slot
  pub past : (boot < slot.disk.boot) ⊎ ((boot ≡ slot.disk.boot) × IsPast slot.life epoch)

-- every membership of that epoch names node n in that boot
abbrev pub AllName : List Slot → List Letter → EpochId → ℕ → ℕ → Type 0
AllName slots flying epoch n boot = (membership : Membership) → Known slots flying membership → membership.epoch ≡ epoch → NamesNode membership n boot

-- A node that is up in that boot, has promised the epoch and not yet installed it, is still in the epoch from which it comes.
abbrev pub IsStillIn : Life → ℕ → EpochId → EpochId → Type 0
IsStillIn (Up node) boot epoch was = node.boot ≡ boot → node.promise ≡ epoch → IsBefore (epoch_of node) epoch → epoch_of node ≡ was
IsStillIn (Down might) boot epoch was = Unit {0}
IsStillIn Lost boot epoch was = Unit {0}

-- node n has joined that epoch in that boot, from another epoch
pub record HasJoined (slots : List Slot) (n boot : ℕ) (epoch was : EpochId) : Type 0 where
  pub slot : Slot
  pub here : slot_at slots n ≡ Some slot
  pub begun : boot ≤ slot.disk.boot
  pub promised : IsAtMost epoch slot.disk.promise
  pub still : IsStillIn slot.life boot epoch was

-- node n was in that epoch in that boot, if in any
abbrev pub WasIn : List Slot → List Letter → ℕ → ℕ → EpochId → Type 0
WasIn slots flying n boot was = (was ≡ no_epoch) ⊎ (IsOver slots was × HasEntered slots n boot was × AllName slots flying was n boot)

abbrev pub JoinStands : List Slot → List Letter → ℕ → ℕ → EpochId → EpochId → Type 0
JoinStands slots flying n boot epoch was = HasJoined slots n boot epoch was × WasIn slots flying n boot was

-- A row that a manager has kept: both came from one epoch, in which it managed the user too.
pub record IsKeptRow (slots : List Slot) (flying : List Letter) (own : ℕ) (node : Node) (m boot : ℕ) (user : List ℕ) : Type 0 where
  pub membership : Membership
  pub installed : node.installed ≡ Some membership
  pub was : EpochId
  pub over : IsOver slots was
  pub own_comes : Comes membership own node.boot was
  pub comes : Comes membership m boot was
  pub managed : (old : Membership) → Known slots flying old → old.epoch ≡ was → manager_of old user ≡ Some own
  pub counted : 0 < was.count
  pub allowed : KeepsAny

-- whoever manages a user is a member
abbrev pub ManagersAreMembers : Membership → Type 0
ManagersAreMembers membership = (user : List ℕ) (manager : ℕ) → manager_of membership user ≡ Some manager → IsOfMembers membership.members manager

-- letters that carry the epoch of their sender
pub record IsReport (letter : Letter) (user : List ℕ) (boot : ℕ) (row : Row) : Type 0 where
  pub is : letter.body ≡ Report row
  pub of_user : row.user ≡ user
  pub of_boot : row.boot ≡ boot

pub record IsAck (letter : Letter) (user : List ℕ) (version : ℕ) : Type 0 where
  pub is : letter.body ≡ ReportAck user version

-- A row says at most what its node says, and with the node's own version it says what the node says.
pub record RowFits (row : Row) (version : ℕ) (full : Bool) : Type 0 where
  pub bounded : row.version ≤ version
  pub same : row.version ≡ version → row.full ≡ full

pub record HasAtLeast (row : Option Row) (version : ℕ) : Type 0 where
  pub found : Row
  pub is : row ≡ Some found
  pub not_below : version ≤ found.version

abbrev pub IsOneOf : EpochId → EpochId → EpochId → Type 0
IsOneOf a b epoch = (epoch ≡ a) ⊎ (epoch ≡ b)

-- The manager has no row of the user, the node holds no message of it, and no Report of it in these epochs is on its way.
pub record IsUntold (flying : List Letter) (n : ℕ) (user : List ℕ) (a b : EpochId) (row : Option Row) (full : Bool) : Type 0 where
  pub missing : row ≡ None
  pub empty : full ≡ false
  pub silent : (letter : Letter) → Among letter flying → letter.from ≡ n → IsOneOf a b letter.epoch → (boot : ℕ) (told : Row) → IsReport letter user boot told → ⊥

pub record IsLatest (row : Option Row) (version : ℕ) : Type 0 where
  pub found : Row
  pub is : row ≡ Some found
  pub latest : found.version ≡ version

-- The manager's row of node n for a user agrees with what the node says of it, in the node's epoch and in the manager's.
pub record Agrees (flying : List Letter) (n : ℕ) (user : List ℕ) (a b : EpochId) (row : Option Row) (version : ℕ) (full marked : Bool) : Type 0 where
  pub fits : (told : Row) → row ≡ Some told → RowFits told version full
  pub acked : (letter : Letter) → Among letter flying → letter.to ≡ n → IsOneOf a b letter.epoch → (told : ℕ) → IsAck letter user told → HasAtLeast row told
  pub unmarked : marked ≡ false → IsUntold flying n user a b row full ⊎ IsLatest row version

-- What counts as the row that a manager has of a node and boot in a membership, and the manager's epoch in which it may still change.
pub data RowFor (own : ℕ) (node : Node) (membership : Membership) (n boot : ℕ) (user : List ℕ) (row : Option Row) (epoch : EpochId) : Type 0 where
  -- both are in the epoch
  Stands : node.installed ≡ Some membership → row ≡ node.rows n boot user → epoch ≡ membership.epoch → RowFor own node membership n boot user row epoch
  -- the manager has still to enter it, and will drop the row
  WillDrop : IsBefore (epoch_of node) membership.epoch → Comes membership own node.boot (epoch_of node) → (IsRowKept own node membership n boot user → ⊥) → row ≡ None → epoch ≡ membership.epoch
      → RowFor own node membership n boot user row epoch
  -- or will keep it
  WillKeep : IsBefore (epoch_of node) membership.epoch → Comes membership own node.boot (epoch_of node) → IsRowKept own node membership n boot user → row ≡ node.rows n boot user → epoch ≡ epoch_of node
      → RowFor own node membership n boot user row epoch
  -- the manager has gone ahead, and has kept it
  Ahead : KeepsAny → (next : Membership) → node.installed ≡ Some next → IsBefore membership.epoch next.epoch → Comes next own node.boot membership.epoch → Comes next n boot membership.epoch
      → manager_of next user ≡ Some own → row ≡ node.rows n boot user → epoch ≡ next.epoch → RowFor own node membership n boot user row epoch
