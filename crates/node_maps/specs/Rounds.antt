-- What a node makes of a group of its own, and of rows that are due.
use Rattle.std.specs.Prelude.{◌≡◌, ℕ, Bool, true, List, [], Option, Some, None, Result, Ok, Err, if◌then◌else◌}
use Rattle.mail_model.specs.Identity.{EpochId, Id}
use Rattle.object_model.specs.Letters.{Membership, Letter}
use Rattle.maps_model.specs.Cluster.{OpenGroup, Node, Disk, manages_in}
use Rattle.maps_model.specs.Rules as rules
use Rattle.maps_model.specs.Rules.{next_epoch}
use Rattle.maps_model.specs.Moves.{NodeInOrder}
use Rattle.map_rebuild.specs.Rows.{due_users}
use Rattle.mailbox_fragment.specs.Here.{SetsMessage, flips}
use Rattle.node_maps.specs.Nodes.{node_of, own_of, holds_in, IsDisk, KeepsNode, installs_to}
use Rattle.node_maps.specs.Hearing.{left_by}
use Rattle.node_maps.specs.declared.concluding.Concluded.{Concluded}
use Rattle.node_maps.specs.declared.maps.NodeMaps.{NodeMaps}

-- the node opens a group, once its promise is on the disk
pub record OpensGroup (nodes : ℕ) (letters : List Letter) (old new : NodeMaps) : Type 0 where
  pub did : (disk : Disk) → rules.start_group (own_of old) nodes (node_of old) disk ≡ left_by new (Some (next_epoch (own_of old) (node_of old))) disk letters
  pub own : own_of new ≡ own_of old
  pub held : new.fragments ≡ old.fragments

abbrev pub StartsAs : {E : Type 0} → ℕ → Result (List Letter) E → NodeMaps → NodeMaps → Type 0
StartsAs nodes (Ok letters) old new = OpensGroup nodes letters old new
StartsAs nodes (Err refused) old new = KeepsNode old new

-- The membership is installed, and told by an Install to each other member, in the order of members.
pub record TellsMembers (old new : NodeMaps) (done : Concluded) : Type 0 where
  pub membership : Membership
  pub installed : new.group.installed ≡ Some membership
  pub epoch : membership.epoch ≡ done.epoch
  pub letters : done.letters ≡ installs_to (own_of old) membership membership.members

-- The open group is concluded. Where the node's own join stands in it, that is done by the machine's rule.
pub record ConcludesGroup (buckets : ℕ) (done : Concluded) (old new : NodeMaps) : Type 0 where
  pub did : (disk : Disk) → IsDisk old disk → NodeInOrder (own_of old) (node_of old) disk → rules.Concludes (own_of old) buckets (node_of old) disk (left_by new None disk done.letters)
  pub epoch : (group : OpenGroup) × (old.group.opened ≡ Some group) × (done.epoch ≡ group.epoch)
  pub tells : TellsMembers old new done
  pub own : own_of new ≡ own_of old
  pub boot : (node_of new).boot ≡ (node_of old).boot
  pub held : new.fragments ≡ old.fragments

abbrev pub ConcludesOrNot : ℕ → Option Concluded → NodeMaps → NodeMaps → Type 0
ConcludesOrNot buckets None old new = (old.group.opened ≡ None) × KeepsNode old new
ConcludesOrNot buckets (Some done) old new = ConcludesGroup buckets done old new

-- Where memory ran out nothing is said: the node has to go down.
abbrev pub ConcludesAs : {E : Type 0} → ℕ → Result (Option Concluded) E → NodeMaps → NodeMaps → Type 0
ConcludesAs buckets (Ok done) old new = ConcludesOrNot buckets done old new
ConcludesAs buckets (Err refused) old new = Unit {0}

-- The first rows that are due go out, as many as are wanted. Without an epoch nothing does.
abbrev pub ReportsIn : Option Membership → ℕ → ℕ → List Letter → NodeMaps → Type 0
ReportsIn None to most letters maps = letters ≡ []
ReportsIn (Some membership) to most letters maps =
    (disk : Disk) → IsDisk maps disk → rules.Reports (own_of maps) to (due_users membership.map to most maps.reports) (node_of maps) disk (left_by maps None disk letters)

abbrev pub ReportsAs : {E : Type 0} → ℕ → ℕ → Result (List Letter) E → NodeMaps → Type 0
ReportsAs to most (Ok letters) maps = ReportsIn maps.group.installed to most letters maps
ReportsAs to most (Err refused) maps = Unit {0}

-- The node's row of the user changes as the machine has it, whatever the disk says.
pub record Turns (user : List ℕ) (old new : NodeMaps) : Type 0 where
  pub node : (disk : Disk) → node_of new ≡ (rules.change (own_of old) (node_of old) disk user (holds_in old user)).node
  pub group : new.group ≡ old.group
  pub held : new.fragments ≡ old.fragments

-- as the user's manager
abbrev pub TellsOwn : List ℕ → NodeMaps → NodeMaps → Type 0
TellsOwn user old new = manages_in old.group.installed (own_of old) user ≡ true → Turns user old new

-- the node, where the user became full or empty: its row of the user has changed
abbrev pub turned : Bool → NodeMaps → NodeMaps → Disk → List ℕ → Node
turned flipped old new disk user = if flipped then (rules.change (own_of old) (node_of old) disk user (holds_in new user)).node else node_of old

-- whether a message is here was noted
pub record NotesMessage (user : List ℕ) (id : Id) (here : Bool) (old new : NodeMaps) : Type 0 where
  pub message : SetsMessage old.fragments new.fragments user id here
  pub node : (disk : Disk) → node_of new ≡ turned (flips old.fragments new.fragments user) old new disk user
  pub own : own_of new ≡ own_of old
