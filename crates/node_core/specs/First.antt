-- The first boot of a node.
use Rattle.std.specs.Prelude.{◌≡◌, ℕ, [], ◌∷◌, None, ⊤, Result, Ok, Err}
use Rattle.std.specs.FinMap as fin
use Rattle.io_edge.specs.Causes.{Rose}
use Rattle.mail_model.specs.Plan.{Plan}
use Rattle.mail_model.specs.Record.{payloads_of}
use Rattle.mail_model.specs.Record.Record.{Boot}
use Rattle.cluster_model.specs.Cluster as plain
use Rattle.disk_journal.specs.Journal.{TellsJournal}
use Rattle.node_store.specs.Disks.{View}
use Rattle.node_core.specs.Nodes.{node_seen, NodeKeeps, end_in, CanWork, IsNodeOf}
use Rattle.node_core.specs.declared.fault.NodeFault.{NodeFault}
use Rattle.node_core.specs.declared.fault.NodeFault.TheVariants.{Disk, Worn, NoMemory}
use Rattle.node_core.specs.declared.node.Node.{Node}

-- a node that is up in its first boot, and has done nothing: it has no epoch
abbrev pub unformed_node : plain.Node
unformed_node = record { boot = 1; drawn = 0; count = 0; calls = 0; installed = None; log = fin.empty; tickets = fin.empty }

module _ {D : Type 0} (on : View D) (plan : Plan) (own : ℕ) (before after : D) where
  -- the node is such a one of the plan, and its disk has the record of this boot alone
  pub record IsFirst (node : Node) : Type 0 where
    pub seen_is : node_seen node ≡ unformed_node
    pub of_plan : IsNodeOf plan own node
    pub works : CanWork (on.seen after) node
    pub keeps : NodeKeeps (Boot 1 ∷ []) node
    pub tells : TellsJournal (on.seen after) own (payloads_of (Boot 1 ∷ [])) (end_in node)
    pub quiet : on.faults after ≡ on.faults before

  -- What comes of it. Out of memory may come at any time.
  abbrev pub StartsFirst : Result Node NodeFault → Type 0
  StartsFirst (Ok node) = IsFirst node
  StartsFirst (Err Disk) = Rose (on.faults before) (on.faults after)
  StartsFirst (Err Worn) = ⊥
  StartsFirst (Err (NoMemory down)) = ⊤
