-- The tickets of a node.
use Rattle.std.specs.Prelude.{Option, Some}
use Rattle.object_model.specs.Letters.{Number}
use Rattle.cluster_model.specs.Cluster as plain
use Rattle.cluster_model.specs.Rules.{ticket_at}
use Rattle.node_core.specs.Nodes.{node_seen}
use Rattle.node_core.specs.declared.node.Node.{Node}

-- the ticket of this number, if it stands at the node
abbrev pub ticket_standing : Node → Number → Option plain.Ticket
ticket_standing node number = ticket_at node.store.own (node_seen node) (Some number)
