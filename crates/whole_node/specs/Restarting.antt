-- A whole node that starts over its disk.
use Rattle.std.specs.Prelude.{◌≡◌, ℕ, List, ◌++◌, Result, Ok, Err}
use Rattle.mail_model.specs.Plan.{Plan}
use Rattle.mail_model.specs.Record.{Record}
use Rattle.whole_world.specs.Makes.{started}
use Rattle.node_store.specs.Disks.{View}
use Rattle.node_core.specs.Starting.{WhereItHolds, StartedOver, NodeStarted, NodeStarts}
use Rattle.node_core.specs.declared.fault.NodeFault.{NodeFault}
use Rattle.whole_node.specs.Nodes.{whole_seen, WholeWorks, HasNoReads}
use Rattle.whole_node.specs.declared.node.WholeNode.{WholeNode}

module _ {D : Type 0} (on : View D) (plan : Plan) (own : ℕ) (before after : D) where
  -- these records stand now, and the node is what the whole machine starts over those that it found before it recorded its boot
  pub record WholeStartedOver (node : WholeNode) (records pending : List Record) : Type 0 where
    pub mail : StartedOver on plan own before after node.mail records pending
    pub starts : whole_seen node ≡ started own plan.nodes (records ++ mail.starts.kept) mail.new

  pub record WholeNodeStarted (node : WholeNode) : Type 0 where
    pub mail : NodeStarted on plan own before after node.mail
    pub works : WholeWorks (on.seen after) node
    pub blank : HasNoReads node
    pub over : WhereItHolds on before own (WholeStartedOver node)

  -- what a start leaves
  abbrev pub StartsWhole : Result WholeNode NodeFault → Type 0
  StartsWhole (Ok node) = WholeNodeStarted node
  StartsWhole (Err fault) = NodeStarts on plan own before after (Err fault)
