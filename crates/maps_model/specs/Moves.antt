-- The moves that a step is made of: a node acts, or a letter is taken out.
use Rattle.std.specs.Prelude.{◌≡◌, ◌≢◌, ◌⊎◌, ◌<◌, ◌≤◌, ℕ, true, false, List, [], ◌∷◌, ◌++◌, Option, Some, None, map}
use Rattle.mail_model.specs.Identity.{EpochId, no_epoch}
use Rattle.object_model.specs.Letters.{Claim, Membership, Row, Letter}
use Rattle.object_model.specs.Lists.{Among}
use Rattle.maps_model.specs.Epochs.{IsBefore, IsAtMost}
use Rattle.maps_model.specs.Cluster.{Joined, OpenGroup, Node, Disk, Life, Slot, Cluster, with_slot, slot_at, epoch_of, NamesNode, Comes, manager_of}
use Rattle.maps_model.specs.Cluster.Life.{Up, Down, Lost}
use Rattle.object_model.specs.Letters.Body.{Join, Install}
use Rattle.maps_model.specs.Words.{ManagersAreMembers, IsReport, IsAck, HasAtLeast}
use Rattle.maps_model.specs.Rules.{own_row, IsRowKept, IsSpared}

-- what a node did, or what befell it: the letter that it heard, and those that it sends
pub record NodeAct : Type 0 where
  pub node : ℕ
  pub before : Slot
  pub after : Slot
  pub heard : Option Letter
  pub out : List Letter

-- A letter that is posted and kept flies on. One that is not, or that is dropped or thrown, is taken out.
pub data Move : Type 0 where
  Acted : (act : NodeAct) → Move
  Taken : (left : List Letter) → Move

abbrev pub after_move : Move → Cluster → Cluster
after_move (Acted act) w = record { slots = with_slot w.slots act.node act.after; flying = w.flying ++ act.out }
after_move (Taken left) w = record w { flying = left }

-- What holds of a node alone: its boot and its promise are on its disk, and what it installed is at most its promise and names it.
pub record NodeInOrder (n : ℕ) (node : Node) (disk : Disk) : Type 0 where
  pub booted : node.boot ≡ disk.boot
  pub promised : node.promise ≡ disk.promise
  pub heard : node.promise.count ≤ node.heard
  pub installed : (membership : Membership) → node.installed ≡ Some membership → IsAtMost membership.epoch node.promise × NamesNode membership n node.boot
  pub group : (group : OpenGroup) → node.group ≡ Some group → (group.epoch ≡ node.promise) × (group.epoch.node ≡ n) × IsBefore (epoch_of node) group.epoch
  pub counted : (group : OpenGroup) → node.group ≡ Some group → 0 < group.epoch.count
  pub joined : (group : OpenGroup) → node.group ≡ Some group → NamesNode (record { epoch = group.epoch; members = map (λ join. join.member) group.joins; map = [] }) n node.boot

abbrev pub IsInOrder : ℕ → Disk → Life → Type 0
IsInOrder n disk (Up node) = NodeInOrder n node disk
IsInOrder n disk (Down might) = (disk.boot ≤ might.boot) × IsAtMost disk.promise might.promise
IsInOrder n disk Lost = Unit {0}

-- the letter that was heard is such a letter
pub record Heard (act : NodeAct) (P : Letter → Type 0) : Type 0 where
  pub letter : Letter
  pub is : act.heard ≡ Some letter
  pub holds : P letter

-- Whoever is up was up in that boot. It keeps its membership, or goes to a later epoch.
pub record WasUp (act : NodeAct) (new : Node) : Type 0 where
  pub old : Node
  pub is : act.before.life ≡ Up old
  pub boot : old.boot ≡ new.boot
  pub epochs : (old.installed ≡ new.installed) ⊎ (IsBefore (epoch_of old) (epoch_of new) × (epoch_of new ≡ new.promise))

-- or begins a later boot, without an epoch
pub record BeginsBoot (act : NodeAct) (new : Node) : Type 0 where
  pub later : act.before.disk.boot < new.boot
  pub without : new.installed ≡ None
  pub unopened : new.group ≡ None
  pub rowless : (m boot : ℕ) (user : List ℕ) → new.rows m boot user ≡ None

-- a group is open as it was
pub record WasOpen (act : NodeAct) (epoch : EpochId) : Type 0 where
  pub old : Node
  pub is : act.before.life ≡ Up old
  pub group : OpenGroup
  pub opened : old.group ≡ Some group
  pub same : group.epoch ≡ epoch

-- the node concludes its open group
pub record Forms (act : NodeAct) (membership : Membership) : Type 0 where
  pub opened : WasOpen act membership.epoch
  pub new : Node
  pub is : act.after.life ≡ Up new
  pub installed : new.installed ≡ Some membership
  pub closed : new.group ≡ None
  pub managers : ManagersAreMembers membership
  pub names : (n boot : ℕ) (was : EpochId) → Comes membership n boot was → (join : Joined) × Among join opened.group.joins × (join.member.node ≡ n) × (join.member.boot ≡ boot) × (join.member.was ≡ was)

pub record HadInstalled (act : NodeAct) (membership : Membership) : Type 0 where
  pub old : Node
  pub is : act.before.life ≡ Up old
  pub installed : old.installed ≡ Some membership

-- a join was there in the group of that epoch, or is the node's own, or was heard
pub record HadJoin (act : NodeAct) (epoch : EpochId) (join : Joined) : Type 0 where
  pub old : Node
  pub is : act.before.life ≡ Up old
  pub group : OpenGroup
  pub opened : old.group ≡ Some group
  pub same : group.epoch ≡ epoch
  pub inside : Among join group.joins

-- A node joins an epoch that it has promised, from its own; where it has promised a later one, from none.
pub record SendsJoin (act : NodeAct) (epoch : EpochId) (boot : ℕ) (was : EpochId) : Type 0 where
  pub new : Node
  pub is : act.after.life ≡ Up new
  pub booted : boot ≡ new.boot
  pub promised : IsAtMost epoch new.promise
  pub from : ((was ≡ no_epoch) × IsBefore epoch new.promise) ⊎ (was ≡ epoch_of new)

pub record IsJoin (letter : Letter) (epoch : EpochId) (join : Joined) : Type 0 where
  pub promise : EpochId
  pub claims : List Claim
  pub from : letter.from ≡ join.member.node
  pub is : letter.body ≡ Join epoch promise join.member.boot join.member.was claims

pub record KeepsMembership (act : NodeAct) : Type 0 where
  pub installed : (new : Node) → act.after.life ≡ Up new → (membership : Membership) → new.installed ≡ Some membership
      → HadInstalled act membership ⊎ Heard act (λ letter. letter.body ≡ Install membership) ⊎ Forms act membership
  pub group : (new : Node) → act.after.life ≡ Up new → (group : OpenGroup) → new.group ≡ Some group → WasOpen act group.epoch ⊎ IsBefore act.before.disk.promise group.epoch
  pub joins : (new : Node) → act.after.life ≡ Up new → (group : OpenGroup) → new.group ≡ Some group → (join : Joined) → Among join group.joins
      → HadJoin act group.epoch join ⊎ ((join.member.node ≡ act.node) × SendsJoin act group.epoch join.member.boot join.member.was) ⊎ Heard act (λ letter. IsJoin letter group.epoch join)
  pub sent_installs : (letter : Letter) → Among letter act.out → (membership : Membership) → letter.body ≡ Install membership → Forms act membership
  pub sent_joins : (letter : Letter) → Among letter act.out → (epoch promise : EpochId) (boot : ℕ) (was : EpochId) (claims : List Claim) → letter.body ≡ Join epoch promise boot was claims → SendsJoin act epoch boot was
  pub sent : (letter : Letter) → Among letter act.out → (letter.from ≡ act.node) × (letter.to ≢ act.node)

-- Where a row of a manager comes from: it stood in the same epoch, or was dropped, or was told by a Report or by the node itself.
pub record TookRow (act : NodeAct) (old new : Node) (m boot : ℕ) (user : List ℕ) : Type 0 where
  pub row : Row
  pub heard : Heard act (λ letter. (letter.from ≡ m) × (letter.epoch ≡ epoch_of new) × IsReport letter user boot row)
  pub within : old.installed ≡ new.installed
  pub is : new.rows m boot user ≡ Some row
  pub newer : (stood : Row) → old.rows m boot user ≡ Some stood → stood.version ≤ row.version

pub data RowFrom (act : NodeAct) (old new : Node) (m boot : ℕ) (user : List ℕ) : Type 0 where
  Stood : old.installed ≡ new.installed → new.rows m boot user ≡ old.rows m boot user → RowFrom act old new m boot user
  Kept : (membership : Membership) → new.installed ≡ Some membership → IsBefore (epoch_of old) (epoch_of new) → IsRowKept act.node old membership m boot user
      → new.rows m boot user ≡ old.rows m boot user → RowFrom act old new m boot user
  Fell : (membership : Membership) → new.installed ≡ Some membership → IsBefore (epoch_of old) (epoch_of new) → (IsRowKept act.node old membership m boot user → ⊥) → new.rows m boot user ≡ None
      → RowFrom act old new m boot user
  Took : TookRow act old new m boot user → RowFrom act old new m boot user
  Told : m ≡ act.node → boot ≡ new.boot → new.rows m boot user ≡ Some (own_row act.node new act.after.disk user) → RowFrom act old new m boot user

-- a node says of a user what it said
pub record SaysSame (act : NodeAct) (old new : Node) (user : List ℕ) : Type 0 where
  pub version : new.version user ≡ old.version user
  pub full : act.after.disk.holds user ≡ act.before.disk.holds user

-- the node manages the user, and has told its own row
pub record TellsItself (act : NodeAct) (new : Node) (user : List ℕ) : Type 0 where
  pub manager : (membership : Membership) → new.installed ≡ Some membership → manager_of membership user ≡ Some act.node
  pub told : new.rows act.node new.boot user ≡ Some (own_row act.node new act.after.disk user)

-- why a user is not marked
pub data Unmarked (act : NodeAct) (old new : Node) (user : List ℕ) : Type 0 where
  Still : old.installed ≡ new.installed → old.marked user ≡ false → SaysSame act old new user → Unmarked act old new user
  Cleared : old.installed ≡ new.installed → Heard act (λ letter. (letter.epoch ≡ epoch_of new) × IsAck letter user (new.version user)) → SaysSame act old new user → Unmarked act old new user
  Own : TellsItself act new user → Unmarked act old new user
  Spared : (membership : Membership) → new.installed ≡ Some membership → IsBefore (epoch_of old) (epoch_of new) → old.marked user ≡ false → SaysSame act old new user
      → (act.after.disk.holds user ≡ false) ⊎ IsSpared old membership user → Unmarked act old new user

-- a Report that goes out
pub record SendsReport (act : NodeAct) (letter : Letter) (user : List ℕ) (boot : ℕ) (row : Row) : Type 0 where
  pub new : Node
  pub is : act.after.life ≡ Up new
  pub membership : Membership
  pub installed : new.installed ≡ Some membership
  pub epoch : membership.epoch ≡ letter.epoch
  pub to : manager_of membership user ≡ Some letter.to
  pub booted : boot ≡ new.boot
  pub due : new.marked user ≡ true
  pub says : row ≡ own_row act.node new act.after.disk user

-- a ReportAck that goes out
pub record SendsAck (act : NodeAct) (letter : Letter) (user : List ℕ) (version : ℕ) : Type 0 where
  pub new : Node
  pub is : act.after.life ≡ Up new
  pub membership : Membership
  pub installed : new.installed ≡ Some membership
  pub epoch : membership.epoch ≡ letter.epoch
  pub boot : ℕ
  pub row : Row
  pub heard : Heard act (λ one. (one.from ≡ letter.to) × (one.epoch ≡ letter.epoch) × IsReport one user boot row)
  pub has : HasAtLeast (new.rows letter.to boot user) version

pub record KeepsMaps (act : NodeAct) : Type 0 where
  pub rows : (old new : Node) → act.before.life ≡ Up old → act.after.life ≡ Up new → (m boot : ℕ) (user : List ℕ) → RowFrom act old new m boot user
  pub versions : (old new : Node) → act.before.life ≡ Up old → act.after.life ≡ Up new → (user : List ℕ) → SaysSame act old new user ⊎ (old.version user < new.version user)
  pub unmarked : (old new : Node) → act.before.life ≡ Up old → act.after.life ≡ Up new → (user : List ℕ) → new.marked user ≡ false → Unmarked act old new user
  pub reports : (letter : Letter) → Among letter act.out → (user : List ℕ) (boot : ℕ) (row : Row) → IsReport letter user boot row → SendsReport act letter user boot row
  pub acks : (letter : Letter) → Among letter act.out → (user : List ℕ) (version : ℕ) → IsAck letter user version → SendsAck act letter user version

-- what a node may count on
pub record IsReady (n : ℕ) (before : Slot) (heard : Option Letter) : Type 0 where
  pub order : IsInOrder n before.disk before.life
  pub came : (letter : Letter) → heard ≡ Some letter → (letter.to ≡ n) × (letter.from ≢ n)
  -- its open group is of a later epoch than an Install of its own that it hears
  pub over : (letter : Letter) → heard ≡ Some letter → (membership : Membership) → letter.body ≡ Install membership → membership.epoch.node ≡ n
      → (node : Node) → before.life ≡ Up node → (group : OpenGroup) → node.group ≡ Some group → IsBefore membership.epoch group.epoch

-- What a node may do. Whoever is lost does nothing.
pub record IsAct (act : NodeAct) : Type 0 where
  pub was : act.before.life ≢ Lost
  pub boots : act.before.disk.boot ≤ act.after.disk.boot
  pub promises : IsAtMost act.before.disk.promise act.after.disk.promise
  pub order : IsInOrder act.node act.after.disk act.after.life
  pub lives : (new : Node) → act.after.life ≡ Up new → WasUp act new ⊎ BeginsBoot act new
  pub membership : KeepsMembership act
  pub maps : KeepsMaps act

-- where a move may be made
abbrev pub MayMove : Move → Cluster → Type 0
MayMove (Acted act) w = (slot_at w.slots act.node ≡ Some act.before) × (IsReady act.node act.before act.heard → IsAct act)
    × ((letter : Letter) → act.heard ≡ Some letter → Among letter w.flying × (letter.to ≡ act.node))
MayMove (Taken left) w = (letter : Letter) → Among letter left → Among letter w.flying

-- a list of moves
abbrev pub after_moves : List Move → Cluster → Cluster
after_moves [] w = w
after_moves (move ∷ moves) w = after_moves moves (after_move move w)

abbrev pub MayMoves : List Move → Cluster → Type 0
MayMoves [] w = Unit {0}
MayMoves (move ∷ moves) w = MayMove move w × MayMoves moves (after_move move w)
