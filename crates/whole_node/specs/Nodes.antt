-- A whole node of the code: what it has for messages, and its maps, which know what its disk says is here.
use Rattle.std.specs.Prelude.{◌≡◌, ℕ, true, List, Option}
use Rattle.std.specs.FinMap as fin
use Rattle.mail_model.specs.Identity.{Id}
use Rattle.mail_model.specs.Identity.Key.{Message}
use Rattle.mail_model.specs.Record.{Record}
use Rattle.object_model.specs.Locks.{no_locks}
use Rattle.object_model.specs.Said.{said}
use Rattle.cluster_model.specs.Reads.{is_here_held}
use Rattle.mailbox_fragment.specs.Here.{is_here_in}
use Rattle.map_rebuild.specs.Users.{has_user}
use Rattle.whole_model.specs.Whole as whole
use Rattle.joint_model.specs.Joint as joint
use Rattle.node_reads.specs.Tables.{reads_in, IsOf}
use Rattle.node_reads.specs.declared.reads.NodeReads.{NodeReads}
use Rattle.node_maps.specs.Nodes.{node_of, own_of}
use Rattle.node_maps.specs.declared.maps.NodeMaps.{NodeMaps}
use Rattle.node_core.specs.Nodes.{node_seen, NodeKeeps, IsWhole, CanWork}
use Rattle.node_core.specs.declared.node.Node.{Node}
use Rattle.whole_node.specs.declared.node.WholeNode.{WholeNode}

-- the node in the words of the machines
abbrev pub whole_seen : WholeNode → whole.Node
whole_seen node = record { mail = node_seen node.mail; maps = node_of node.maps }

-- so with its tickets of calls that read, and with the locks of the maildrops that it manages
abbrev pub joint_seen : WholeNode → joint.Node
joint_seen node = record { whole = whole_seen node; reads = reads_in node.reads; locks = node.locks }

-- the maps know of each message whether these records say that it is here
abbrev pub KnowsHere : List Record → NodeMaps → Type 0
KnowsHere records maps = (user : List ℕ) (id : Id) → is_here_in maps.fragments user id ≡ is_here_held (said (Message user id) records)

-- The maps are those of this node in this boot, messages go by the membership that they have installed, and they know what its disk says is here.
pub record AreMapsOf (mail : Node) (maps : NodeMaps) : Type 0 where
  pub own : own_of maps ≡ mail.store.own
  pub boot : (node_of maps).boot ≡ (node_seen mail).boot
  pub epoch : (node_seen mail).installed ≡ maps.group.installed
  pub records : List Record
  pub keeps : NodeKeeps records mail
  pub knows : KnowsHere records maps

abbrev pub HasMaps : WholeNode → Type 0
HasMaps node = AreMapsOf node.mail node.maps

-- the tickets of calls that read are those of this node in this boot
abbrev pub AreReadsOf : Node → NodeReads → Type 0
AreReadsOf mail reads = IsOf mail.store.own (node_seen mail).boot reads

-- what holds of each whole node that is up, over a disk that tells this
pub record WholeWorks (seen : Option (List ℕ)) (node : WholeNode) : Type 0 where
  pub mail : CanWork seen node.mail
  pub maps : HasMaps node
  pub reads : AreReadsOf node.mail node.reads

-- the same whatever its disk is
pub record HasReads (node : WholeNode) : Type 0 where
  pub whole : IsWhole node.mail
  pub maps : HasMaps node
  pub reads : AreReadsOf node.mail node.reads

-- its tickets of calls that read, and its locks, are as they were
pub record KeepsBeside (old new : WholeNode) : Type 0 where
  pub reads : new.reads ≡ old.reads
  pub locks : new.locks ≡ old.locks

-- it has no tickets of calls that read, and no locks
pub record HasNoReads (node : WholeNode) : Type 0 where
  pub none : reads_in node.reads ≡ fin.empty
  pub free : node.locks ≡ no_locks

-- It keeps some records, and all users of whom they say that a message is here are named.
pub record KeepsNamed (users : List (List ℕ)) (node : Node) : Type 0 where
  pub records : List Record
  pub keeps : NodeKeeps records node
  pub named : (user : List ℕ) (id : Id) → is_here_held (said (Message user id) records) ≡ true → has_user users user ≡ true
