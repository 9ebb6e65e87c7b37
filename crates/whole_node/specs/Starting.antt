-- A whole node in its first boot: it is in the first epoch, which it has made itself.
use Rattle.std.specs.Prelude.{◌≡◌, ℕ, Bool, List, [], ◌∷◌, Option, Some, None, Result, Ok, Err}
use Rattle.mail_model.specs.Identity.{no_epoch}
use Rattle.mail_model.specs.Plan.{Plan}
use Rattle.mail_model.specs.Record.{payloads_of}
use Rattle.mail_model.specs.Record.Record.{Boot, Promise}
use Rattle.object_model.specs.Letters.{MapRow, Membership, Row}
use Rattle.cluster_model.specs.Starts.{first_epoch, first_members, first_membership, fresh_node}
use Rattle.maps_model.specs.Rules.{Entering, entered}
use Rattle.whole_world.specs.First.{first_maps}
use Rattle.user_map.specs.Plain.{assigned}
use Rattle.disk_journal.specs.Journal.{TellsJournal}
use Rattle.node_store.specs.Disks.{View}
use Rattle.node_core.specs.First.{StartsFirst}
use Rattle.node_core.specs.Nodes.{node_seen, NodeKeeps, end_in, IsWhole, CanWork, IsNodeOf}
use Rattle.node_core.specs.Installing.{HasInstalled}
use Rattle.node_core.specs.declared.fault.NodeFault.{NodeFault}
use Rattle.node_core.specs.declared.node.Node.{Node}
use Rattle.node_maps.specs.Nodes.{node_of, own_of, holds_in}
use Rattle.node_maps.specs.declared.maps.NodeMaps.{NodeMaps}
use Rattle.whole_node.specs.Nodes.{AreReadsOf, HasMaps, HasNoReads, KeepsBeside}
use Rattle.whole_node.specs.declared.node.WholeNode.{WholeNode}

-- who manages each bucket in the first epoch: the buckets are spread evenly over all nodes, as where nobody claims any
abbrev pub first_map : Plan → List MapRow
first_map plan = assigned [] (first_members plan.nodes) plan.buckets first_epoch

-- what a node has for messages, once it has promised the first epoch
pub record HasPromisedFirst (plan : Plan) (mail : Node) : Type 0 where
  pub whole : IsWhole mail
  pub nodes : mail.shape.nodes ≡ plan.nodes
  pub boot : (node_seen mail).boot ≡ 1
  pub without : (node_seen mail).installed ≡ None
  pub keeps : NodeKeeps (Boot 1 ∷ Promise first_epoch ∷ []) mail

-- its maps are what the machine's rule makes of them
pub record EntersMaps (membership : Membership) (old new : NodeMaps) : Type 0 where
  pub marked : List ℕ → Bool
  pub rows : ℕ → ℕ → List ℕ → Option Row
  pub entering : Entering (own_of old) (node_of old) (record { boot = 0; promise = no_epoch; holds = holds_in old }) membership marked rows
  pub is : node_of new ≡ entered (node_of old) membership marked rows

-- a node enters an epoch: both halves go by it
pub record EntersEpoch (membership : Membership) (old new : WholeNode) : Type 0 where
  pub rule : EntersMaps membership old.maps new.maps
  pub mail : HasInstalled (Some membership) old.mail new.mail
  pub installed : (node_of new.maps).installed ≡ Some membership
  pub promise : (node_of new.maps).promise ≡ (node_of old.maps).promise
  pub group : (node_of new.maps).group ≡ (node_of old.maps).group
  pub own : own_of new.maps ≡ own_of old.maps
  pub boot : (node_of new.maps).boot ≡ (node_of old.maps).boot
  pub held : new.maps.fragments ≡ old.maps.fragments
  pub beside : KeepsBeside old new

-- its maps have promised the first epoch, and have no open group; it has no tickets of calls that read, and no locks
pub record HasFirstMaps (node : WholeNode) : Type 0 where
  pub promise : (node_of node.maps).promise ≡ first_epoch
  pub none_open : (node_of node.maps).group ≡ None
  pub has_maps : HasMaps node
  pub reads : AreReadsOf node.mail node.reads
  pub blank : HasNoReads node

-- it has entered the first epoch
pub record HasEnteredFirst (plan : Plan) (before : Node) (node : WholeNode) : Type 0 where
  pub mail : HasInstalled (Some (first_membership plan.nodes (first_map plan))) before node.mail
  pub maps : HasFirstMaps node
  pub maps_are : node_of node.maps ≡ first_maps plan.nodes (first_map plan)

module _ {D : Type 0} (on : View D) (plan : Plan) (own : ℕ) (before after : D) where
  -- The node has done nothing and goes by the first membership, and its disk has the record of this boot and that of its promise alone.
  pub record IsInFirstEpoch (node : Node) : Type 0 where
    pub seen_is : node_seen node ≡ fresh_node plan.nodes (first_map plan)
    pub of_plan : IsNodeOf plan own node
    pub works : CanWork (on.seen after) node
    pub keeps : NodeKeeps (Boot 1 ∷ Promise first_epoch ∷ []) node
    pub tells : TellsJournal (on.seen after) own (payloads_of (Boot 1 ∷ Promise first_epoch ∷ [])) (end_in node)
    pub quiet : on.faults after ≡ on.faults before

  -- so it is of both halves: its maps know of nothing but that epoch
  pub record IsFirstWhole (node : WholeNode) : Type 0 where
    pub mail : IsInFirstEpoch node.mail
    pub maps : HasFirstMaps node
    pub maps_are : node_of node.maps ≡ first_maps plan.nodes (first_map plan)

  -- what comes of it
  abbrev pub StartsFirstWhole : Result WholeNode NodeFault → Type 0
  StartsFirstWhole (Ok node) = IsFirstWhole node
  StartsFirstWhole (Err fault) = StartsFirst on plan own before after (Err fault)
