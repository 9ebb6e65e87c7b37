-- What a node makes of a group of its own: it opens it, and concludes it.
use Rattle.std.specs.Prelude.{◌≡◌, ◌≢◌, ℕ, nat_le, List, [], ◌++◌, reverse, All, true, false, ⊤, Option, Some, None, Result, Ok, Err}
use Rattle.mail_model.specs.Identity.{EpochId}
use Rattle.mail_model.specs.Record.{Record}
use Rattle.object_model.specs.Lists.{Among}
use Rattle.object_model.specs.Letters.{Membership, Letter}
use Rattle.cluster_model.specs.Forms.{IsPlainMaps}
use Rattle.maps_model.specs.Cluster.{OpenGroup}
use Rattle.maps_model.specs.Rules as rules
use Rattle.maps_model.specs.Moves.{NodeInOrder}
use Rattle.whole_model.specs.Whole.{maps_disk_of}
use Rattle.whole_model.specs.Rules.{promise_records}
use Rattle.whole_world.specs.Steps.{greatest_epoch}
use Rattle.whole_world.specs.Makes.{done_for_maps}
use Rattle.node_store.specs.Disks.{View}
use Rattle.node_maps.specs.Nodes.{node_of, KeepsNode, installs_to}
use Rattle.node_maps.specs.Rounds as rounds
use Rattle.node_maps.specs.declared.concluding.Concluded.{Concluded}
use Rattle.node_core.specs.Nodes.{node_seen, NodeKeeps, IsAsBefore}
use Rattle.node_core.specs.Installing.{HasInstalled}
use Rattle.node_core.specs.Spelling.{AllCanBeTaken}
use Rattle.node_core.specs.Works.{NodeFailed}
use Rattle.node_core.specs.declared.fault.NodeFault.{NodeFault}
use Rattle.node_core.specs.declared.fault.NodeFault.TheVariants.{Disk, Worn, NoMemory}
use Rattle.whole_node.specs.Nodes.{whole_seen}
use Rattle.whole_node.specs.Forming.{forms_by, FormsOn}
use Rattle.whole_node.specs.Hearing.{FitsMaps}
use Rattle.whole_node.specs.declared.grouping.Grouped.{Grouped}
use Rattle.whole_node.specs.declared.node.WholeNode.{WholeNode}

-- the epoch of the node's next group
abbrev pub next_of : WholeNode → EpochId
next_of node = rules.next_epoch node.mail.store.own (node_of node.maps)

module _ {D : Type 0} (on : View D) (nodes : ℕ) (old : WholeNode) (before : D) (new : WholeNode) (after : D) where
  -- The group is open, and its promise stands on the disk. Its letters are in rising order of receiver.
  pub record GroupOpened (done : Grouped) : Type 0 where
    pub fresh : nat_le greatest_epoch (node_of old.maps).heard ≡ false
    pub epoch : done.epoch ≡ next_of old
    pub rule : (records : List Record) → NodeKeeps records old.mail
        → record { node = whole_seen new; disk = records ++ promise_records (Some (next_of old)); out = done.letters }
        ≡ done_for_maps (whole_seen old) records (rules.start_group old.mail.store.own nodes (node_of old.maps) (maps_disk_of records)) (Some (next_of old))
        (reverse (rules.start_group old.mail.store.own nodes (node_of old.maps) (maps_disk_of records)).out)
    pub mail : FormsOn on (λ node. node) (node_seen old.mail).installed (Some (next_of old)) old.mail before new.mail after done.letters
    pub fits : All FitsMaps done.letters

  -- nothing was changed
  pub record Unopened : Type 0 where
    pub as_before : IsAsBefore old.mail new.mail
    pub maps : new.maps ≡ old.maps
    pub untouched : after ≡ before

  -- the work stopped as the node promised: the record stands, or may stand, or does not, and nothing is sent
  pub record StopsOpening (fault : NodeFault) : Type 0 where
    pub fresh : nat_le greatest_epoch (node_of old.maps).heard ≡ false
    pub failed : NodeFailed on (forms_by (λ node. node) None (Some (next_of old)) []) ⊤ fault old.mail before new.mail after

  -- A group is opened, but exactly where the count of epochs is used up.
  abbrev pub OpensGroup : Result Grouped NodeFault → Type 0
  OpensGroup (Ok done) = GroupOpened done
  OpensGroup (Err Disk) = StopsOpening Disk
  OpensGroup (Err Worn) = (nat_le greatest_epoch (node_of old.maps).heard ≡ true) × Unopened
  OpensGroup (Err (NoMemory true)) = StopsOpening (NoMemory true)
  OpensGroup (Err (NoMemory false)) = Unopened

-- over these records the group was concluded by the rule
pub record ConcludedBy (buckets : ℕ) (done : Concluded) (old new : WholeNode) (records : List Record) : Type 0 where
  pub did : rules.Reaction
  pub concludes : rules.Concludes old.mail.store.own buckets (node_of old.maps) (maps_disk_of records) did
  pub left : record { node = whole_seen new; disk = records ++ promise_records None; out = done.letters } ≡ done_for_maps (whole_seen old) records did None did.out

-- The membership is installed, and told by an Install to each other member.
pub record TellsMembers (own : ℕ) (new : WholeNode) (done : Concluded) : Type 0 where
  pub membership : Membership
  pub installed : (node_of new.maps).installed ≡ Some membership
  pub epoch : membership.epoch ≡ done.epoch
  pub letters : done.letters ≡ installs_to own membership membership.members

-- The group is concluded. Its letters are in rising order of receiver. Where the node is in order, its own join stands in its open group, and that is done by the machine's rule.
pub record GroupConcluded (buckets : ℕ) (done : Concluded) (old new : WholeNode) : Type 0 where
  pub rule : (records : List Record) → NodeKeeps records old.mail → NodeInOrder old.mail.store.own (node_of old.maps) (maps_disk_of records) → ConcludedBy buckets done old new records
  pub epoch : (group : OpenGroup) × ((node_of old.maps).group ≡ Some group) × (done.epoch ≡ group.epoch)
  pub mail : HasInstalled (node_of new.maps).installed old.mail new.mail
  pub letters : TellsMembers old.mail.store.own new done
  pub sends : (letter : Letter) → Among letter done.letters → IsPlainMaps letter
  pub taken : AllCanBeTaken done.letters
  pub fits : All FitsMaps done.letters

abbrev pub ConcludesOrNot : ℕ → Option Concluded → WholeNode → WholeNode → Type 0
ConcludesOrNot buckets None old new = ((node_of old.maps).group ≡ None) × KeepsNode old.maps new.maps × (new.mail ≡ old.mail)
ConcludesOrNot buckets (Some done) old new = GroupConcluded buckets done old new

-- what the maps made of the open group, and that messages go by its epoch
abbrev pub SharesWhere : Option Concluded → WholeNode → WholeNode → Type 0
SharesWhere None old new = new.mail ≡ old.mail
SharesWhere (Some done) old new = HasInstalled (node_of new.maps).installed old.mail new.mail

abbrev pub ConcludesBoth : {E : Type 0} → ℕ → Result (Option Concluded) E → WholeNode → WholeNode → Type 0
ConcludesBoth buckets (Ok done) old new = rounds.ConcludesOrNot buckets done old.maps new.maps × SharesWhere done old new
ConcludesBoth buckets (Err refused) old new = new.mail ≡ old.mail

-- A group is concluded exactly where one is open. Where memory runs out nothing is said of the maps: the node has to go down.
abbrev pub ConcludesGroup : ℕ → Result (Option Concluded) NodeFault → WholeNode → WholeNode → Type 0
ConcludesGroup buckets (Ok done) old new = ConcludesOrNot buckets done old new
ConcludesGroup buckets (Err (NoMemory true)) old new = new.mail ≡ old.mail
ConcludesGroup buckets (Err other) old new = ⊥
