-- What one node does. It sees its own disk and its letters, and nothing of other nodes.
use Rattle.std.specs.Cmp.Lexicographic.{pointwise}
use Rattle.std.specs.Prelude.{◌≡◌, ◌≢◌, ◌⊎◌, ◌≤◌, ◌<◌, ℕ, zero, suc, ◌+◌, max, Bool, true, false, ◌&&◌, nat_eq, nat_lt, List, [], ◌∷◌, map, flat_map, Option, Some, None, if◌then◌else◌}
use Rattle.mail_model.specs.Identity.{EpochId, no_epoch}
use Rattle.object_model.specs.Letters.{Claim, MapRow, Member, Membership, Row, Body, Letter}
use Rattle.object_model.specs.Lists.{Among}
use Rattle.maps_model.specs.Epochs.{IsBefore, IsAtMost}
use Rattle.maps_model.specs.Assign.{IsAssigned}
use Rattle.maps_model.specs.Cluster.{Joined, OpenGroup, Node, Disk, epoch_of, member_of, NamesNode, Comes, manager_of, manages_in}
use Rattle.object_model.specs.Letters.Body.{Group, Join, Install, Report, ReportAck}

-- what is left of the node and of its disk, and the letters that it sends
pub record Reaction : Type 0 where
  pub node : Node
  pub disk : Disk
  pub out : List Letter

abbrev pub idle : Node → Disk → Reaction
idle node disk = record { node = node; disk = disk; out = [] }

-- Letters of membership carry no epoch of their sender.
abbrev pub letter_to : ℕ → Body → ℕ → Letter
letter_to own body to = record { from = own; to = to; epoch = no_epoch; ticket = None; body = body }

-- the nodes from n down to 1 without `own`
abbrev pub others : ℕ → ℕ → List ℕ
others own zero = []
others own (suc k) = if nat_eq (suc k) own then others own k else suc k ∷ others own k

-- the buckets that a node manages, each with its `since`
abbrev pub claims_from : ℕ → ℕ → List MapRow → List Claim
claims_from own at [] = []
claims_from own at (row ∷ rows) =
    if nat_eq row.manager own then record { node = own; bucket = at; since = row.since } ∷ claims_from own (suc at) rows else claims_from own (suc at) rows

abbrev pub claims_in : ℕ → Option Membership → List Claim
claims_in own None = []
claims_in own (Some membership) = claims_from own 0 membership.map

-- how a node joins
abbrev pub own_join : ℕ → Node → Joined
own_join own node = record { member = record { node = own; boot = node.boot; was = epoch_of node }; claims = claims_in own node.installed }

-- the node and its disk with a promise
abbrev pub promised : Node → EpochId → Node
promised node epoch = record node { promise = epoch; heard = max node.heard epoch.count; group = None }

-- a group opens: its epoch is promised, its node joins, and all other nodes are asked
abbrev pub next_epoch : ℕ → Node → EpochId
next_epoch own node = record { count = node.heard + 1; node = own }

abbrev pub start_group : ℕ → ℕ → Node → Disk → Reaction
start_group own nodes node disk = record {
  node = record (promised node (next_epoch own node)) { group = Some (record { epoch = next_epoch own node; joins = own_join own node ∷ [] }) };
  disk = record disk { promise = next_epoch own node };
  out = map (letter_to own (Group (next_epoch own node))) (others own nodes);
}

abbrev pub join_letter : ℕ → Node → EpochId → ℕ → Letter
join_letter own node epoch to = letter_to own (Join epoch node.promise node.boot (epoch_of node) (claims_in own node.installed)) to

-- A Group of a greater epoch is promised. It closes a group of the node's own, and the node joins.
abbrev pub join_group : ℕ → Node → Disk → EpochId → ℕ → Reaction
join_group own node disk epoch to = record {
  node = promised node epoch;
  disk = record disk { promise = epoch };
  out = join_letter own (promised node epoch) epoch to ∷ [];
}

-- A Group equal to the promise is answered again. A smaller one is told the promise.
pub data HearsGroup (own : ℕ) (node : Node) (disk : Disk) (from : ℕ) (epoch : EpochId) (did : Reaction) : Type 0 where
  Rises : IsBefore node.promise epoch → did ≡ join_group own node disk epoch from → HearsGroup own node disk from epoch did
  Again : epoch ≡ node.promise → did ≡ record { node = node; disk = disk; out = join_letter own node epoch from ∷ [] } → HearsGroup own node disk from epoch did
  Old : IsBefore epoch node.promise
      → did ≡ record { node = node; disk = disk; out = letter_to own (Join epoch node.promise node.boot no_epoch []) from ∷ [] }
      → HearsGroup own node disk from epoch did

-- joins by number of node; of one node the one of the greatest boot, and the earlier among equals
abbrev pub with_join : Joined → List Joined → List Joined
with_join new [] = new ∷ []
with_join new (old ∷ olds) =
    if nat_lt new.member.node old.member.node then new ∷ old ∷ olds
    else if nat_lt old.member.node new.member.node then old ∷ with_join new olds
    else if nat_lt old.member.boot new.member.boot then new ∷ olds
    else old ∷ olds

-- A Join is late where its group is not open. One with a greater promise only raises the count that was heard.
pub data HearsJoin (node : Node) (disk : Disk) (from : ℕ) (epoch promise : EpochId) (boot : ℕ) (was : EpochId) (claims : List Claim) (did : Reaction) : Type 0 where
  Late : ((group : OpenGroup) → node.group ≡ Some group → group.epoch ≢ epoch) → did ≡ idle node disk → HearsJoin node disk from epoch promise boot was claims did
  Above : (group : OpenGroup) → node.group ≡ Some group → group.epoch ≡ epoch → IsBefore epoch promise
      → did ≡ idle (record node { heard = max node.heard promise.count }) disk → HearsJoin node disk from epoch promise boot was claims did
  Joins : (group : OpenGroup) → node.group ≡ Some group → group.epoch ≡ epoch → IsAtMost promise epoch
      → did ≡ idle (record node {
        group = Some (record group { joins = with_join (record { member = record { node = from; boot = boot; was = was }; claims = claims }) group.joins });
      }) disk → HearsJoin node disk from epoch promise boot was claims did

-- what a node says of a user; it has no profile of the user yet
abbrev pub own_row : ℕ → Node → Disk → List ℕ → Row
own_row own node disk user = record { user = user; node = own; boot = node.boot; version = node.version user; full = disk.holds user; profile = None }

-- Whether rows and marks are kept at all. Where they are not, put ⊥ here: an install then drops all rows and marks every user that is held.
abbrev pub KeepsAny : Type 0
KeepsAny = Unit {0}

-- A manager keeps a row where it manages the user in its old and its new map, and the row's node comes in that boot from the manager's own old epoch.
pub record IsRowKept (own : ℕ) (node : Node) (membership : Membership) (m boot : ℕ) (user : List ℕ) : Type 0 where
  pub old : Membership
  pub installed : node.installed ≡ Some old
  pub managed : manager_of old user ≡ Some own
  pub manages : manager_of membership user ≡ Some own
  pub comes : Comes membership m boot old.epoch
  pub allowed : KeepsAny

-- A user is spared where its manager is the same in the node's old and new map, and comes from the node's own old epoch.
pub record IsSpared (node : Node) (membership : Membership) (user : List ℕ) : Type 0 where
  pub old : Membership
  pub installed : node.installed ≡ Some old
  pub manager : ℕ
  pub before : manager_of old user ≡ Some manager
  pub after : manager_of membership user ≡ Some manager
  pub member : Member
  pub is : member_of membership.members manager ≡ Some member
  pub from : member.was ≡ old.epoch
  pub allowed : KeepsAny

-- whose row is to be told anew at an install: marks made earlier stay
abbrev pub IsRowDue : Node → Disk → Membership → List ℕ → Type 0
IsRowDue node disk membership user = (node.marked user ≡ true) ⊎ ((disk.holds user ≡ true) × (IsSpared node membership user → ⊥))

-- the mark of a user once the node has installed a membership
pub data MarkAt (own : ℕ) (node : Node) (disk : Disk) (membership : Membership) (user : List ℕ) (marked : Bool) : Type 0 where
  TellsItself : manager_of membership user ≡ Some own → marked ≡ false → MarkAt own node disk membership user marked
  Marks : (manager_of membership user ≡ Some own → ⊥) → IsRowDue node disk membership user → marked ≡ true → MarkAt own node disk membership user marked
  Spares : (manager_of membership user ≡ Some own → ⊥) → node.marked user ≡ false → (disk.holds user ≡ false) ⊎ IsSpared node membership user → marked ≡ false → MarkAt own node disk membership user marked

-- a row that a node has once it has installed a membership
pub data RowAt (own : ℕ) (node : Node) (disk : Disk) (membership : Membership) (m boot : ℕ) (user : List ℕ) (row : Option Row) : Type 0 where
  Tells : m ≡ own → boot ≡ node.boot → manager_of membership user ≡ Some own → IsRowDue node disk membership user → row ≡ Some (own_row own node disk user) → RowAt own node disk membership m boot user row
  Keeps : IsRowKept own node membership m boot user → (m ≡ own → IsRowDue node disk membership user → ⊥) → row ≡ node.rows m boot user → RowAt own node disk membership m boot user row
  Drops : (IsRowKept own node membership m boot user → ⊥) → (m ≡ own → boot ≡ node.boot → manager_of membership user ≡ Some own → IsRowDue node disk membership user → ⊥) → row ≡ None
      → RowAt own node disk membership m boot user row

abbrev pub entered : Node → Membership → (List ℕ → Bool) → (ℕ → ℕ → List ℕ → Option Row) → Node
entered node membership marked rows = record node { installed = Some membership; marked = marked; rows = rows }

-- what installing makes of marks and rows
pub record Entering (own : ℕ) (node : Node) (disk : Disk) (membership : Membership) (marked : List ℕ → Bool) (rows : ℕ → ℕ → List ℕ → Option Row) : Type 0 where
  pub marks : (user : List ℕ) → MarkAt own node disk membership user (marked user)
  pub keeps : (m boot : ℕ) (user : List ℕ) → RowAt own node disk membership m boot user (rows m boot user)

-- the open group is concluded: those who joined are the members
abbrev pub membership_of : OpenGroup → List MapRow → Membership
membership_of group rows = record { epoch = group.epoch; members = map (λ join. join.member) group.joins; map = rows }

abbrev pub conclude : ℕ → Node → Disk → OpenGroup → List MapRow → (List ℕ → Bool) → (ℕ → ℕ → List ℕ → Option Row) → Reaction
conclude own node disk group rows marked told = record {
  node = record (entered node (membership_of group rows) marked told) { group = None };
  disk = disk;
  out = flat_map (λ join. if nat_eq join.member.node own then [] else letter_to own (Install (membership_of group rows)) join.member.node ∷ []) group.joins;
}

pub record Concludes (own buckets : ℕ) (node : Node) (disk : Disk) (did : Reaction) : Type 0 where
  pub some : 0 < buckets
  pub group : OpenGroup
  pub opened : node.group ≡ Some group
  pub rows : List MapRow
  pub assigned : IsAssigned (flat_map (λ join. join.claims) group.joins) (map (λ join. join.member) group.joins) buckets group.epoch rows
  pub marked : List ℕ → Bool
  pub told : ℕ → ℕ → List ℕ → Option Row
  pub entering : Entering own node disk (membership_of group rows) marked told
  pub is : did ≡ conclude own node disk group rows marked told

-- An Install is heard where its epoch is the promise, is greater than the installed one, and names the node in its boot.
pub data HearsInstall (own : ℕ) (node : Node) (disk : Disk) (membership : Membership) (did : Reaction) : Type 0 where
  Old : IsBefore membership.epoch node.promise ⊎ IsAtMost membership.epoch (epoch_of node) → did ≡ idle node disk → HearsInstall own node disk membership did
  NotPromised : IsBefore node.promise membership.epoch → did ≡ idle node disk → HearsInstall own node disk membership did
  NotMember : (NamesNode membership own node.boot → ⊥) → did ≡ idle node disk → HearsInstall own node disk membership did
  Enters : membership.epoch ≡ node.promise → IsBefore (epoch_of node) membership.epoch → NamesNode membership own node.boot
      → (marked : List ℕ → Bool) (rows : ℕ → ℕ → List ℕ → Option Row) → Entering own node disk membership marked rows
      → did ≡ record { node = entered node membership marked rows; disk = disk; out = [] } → HearsInstall own node disk membership did

-- a function with another value at one user
abbrev pub set_at : {X : Type 0} → (List ℕ → X) → List ℕ → X → List ℕ → X
set_at f user x u = if pointwise nat_eq u user then x else f u

abbrev pub set_row : (ℕ → ℕ → List ℕ → Option Row) → ℕ → ℕ → List ℕ → Row → ℕ → ℕ → List ℕ → Option Row
set_row rows m boot user row n b u = if nat_eq n m && nat_eq b boot && pointwise nat_eq u user then Some row else rows n b u

-- A node comes to hold a message of a user, or holds none any more. It marks the user, or where it is the manager it tells its row.
abbrev pub change : ℕ → Node → Disk → List ℕ → Bool → Reaction
change own node disk user full =
    let changed = record node { version = set_at node.version user (node.version user + 1) } in
    record {
      node = if manages_in node.installed own user
          then record changed { rows = set_row node.rows own node.boot user (record (own_row own node disk user) { version = node.version user + 1; full = full }) }
          else record changed { marked = set_at node.marked user true };
      disk = record disk { holds = set_at disk.holds user full };
      out = [];
    }

-- A node reports some of its marked users to their manager.
pub record Reports (own to : ℕ) (users : List (List ℕ)) (node : Node) (disk : Disk) (did : Reaction) : Type 0 where
  pub membership : Membership
  pub within : node.installed ≡ Some membership
  pub other : to ≢ own
  pub due : (user : List ℕ) → Among user users → (node.marked user ≡ true) × (manager_of membership user ≡ Some to)
  pub is : did ≡ record {
    node = node;
    disk = disk;
    out = map (λ user. record { from = own; to = to; epoch = membership.epoch; ticket = None; body = Report (own_row own node disk user) }) users;
  }

-- the answer to a Report or to whatever carries an epoch
abbrev pub ack_letter : Letter → List ℕ → Row → Letter
ack_letter letter user row = record { from = letter.to; to = letter.from; epoch = letter.epoch; ticket = None; body = ReportAck user row.version }

-- A Report of another epoch is stale. A row is taken where it is not older than what stands of that node and boot, and it is acknowledged in every case.
pub data HearsReport (node : Node) (disk : Disk) (letter : Letter) (user : List ℕ) (boot : ℕ) (row : Row) (did : Reaction) : Type 0 where
  Stale : ((membership : Membership) → node.installed ≡ Some membership → membership.epoch ≢ letter.epoch) → did ≡ idle node disk → HearsReport node disk letter user boot row did
  Takes : (membership : Membership) → node.installed ≡ Some membership → membership.epoch ≡ letter.epoch
      → ((stood : Row) → node.rows letter.from boot user ≡ Some stood → stood.version ≤ row.version)
      → did ≡ record { node = record node { rows = set_row node.rows letter.from boot user row }; disk = disk; out = ack_letter letter user row ∷ [] }
      → HearsReport node disk letter user boot row did
  Older : (membership : Membership) → node.installed ≡ Some membership → membership.epoch ≡ letter.epoch
      → (stood : Row) → node.rows letter.from boot user ≡ Some stood → row.version < stood.version
      → did ≡ record { node = node; disk = disk; out = ack_letter letter user row ∷ [] }
      → HearsReport node disk letter user boot row did

-- A ReportAck clears the mark of a user whose version it names.
pub data HearsAck (node : Node) (disk : Disk) (letter : Letter) (user : List ℕ) (version : ℕ) (did : Reaction) : Type 0 where
  Stale : ((membership : Membership) → node.installed ≡ Some membership → membership.epoch ≢ letter.epoch) → did ≡ idle node disk → HearsAck node disk letter user version did
  Clears : (membership : Membership) → node.installed ≡ Some membership → membership.epoch ≡ letter.epoch → node.version user ≡ version
      → did ≡ idle (record node { marked = set_at node.marked user false }) disk → HearsAck node disk letter user version did
  Other : (membership : Membership) → node.installed ≡ Some membership → membership.epoch ≡ letter.epoch → node.version user ≢ version
      → did ≡ idle node disk → HearsAck node disk letter user version did

-- A node starts in a later boot. What its failed append left it finds or not.
abbrev pub started : Disk → Node
started image = record {
  boot = image.boot + 1;
  promise = image.promise;
  heard = image.promise.count;
  group = None;
  installed = None;
  version = λ user. 0;
  marked = λ user. false;
  rows = λ m boot user. None;
}

abbrev pub booted : Disk → Disk
booted image = record image { boot = image.boot + 1 }

-- what a node does with a letter, by its body
abbrev pub Hears : ℕ → Node → Disk → Letter → Body → Reaction → Type 0
Hears own node disk letter (Group epoch) did = HearsGroup own node disk letter.from epoch did
Hears own node disk letter (Join epoch promise boot was claims) did = HearsJoin node disk letter.from epoch promise boot was claims did
Hears own node disk letter (Install membership) did = HearsInstall own node disk membership did
Hears own node disk letter (Report row) did = HearsReport node disk letter row.user row.boot row did
Hears own node disk letter (ReportAck user version) did = HearsAck node disk letter user version did
Hears own node disk letter other did = did ≡ idle node disk
