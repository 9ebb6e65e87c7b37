-- A node of the code as the machine's node, and what holds of it between its calls.
use Rattle.std.specs.Prelude.{◌≡◌, ◌≤◌, ◌<◌, ℕ, List, Option}
use Rattle.mail_model.specs.Plan.{Plan}
use Rattle.mail_model.specs.Record.{Record}
use Rattle.cluster_model.specs.Cluster as plain
use Rattle.disk_journal.specs.Journal.{end_of}
use Rattle.node_store.specs.Keeps.{KeepsRecords, CanGoOn}
use Rattle.node_tickets.specs.Standing.{IsOf, tickets_in}
use Rattle.node_core.specs.declared.shape.Shape.{Shape}
use Rattle.node_core.specs.declared.node.Node.{Node}

-- the node in the machine's words
abbrev pub node_seen : Node → plain.Node
node_seen node = record {
  boot = node.numbers.boot;
  drawn = node.numbers.drawn;
  count = node.numbers.count;
  calls = node.numbers.calls;
  installed = node.shape.installed;
  log = node.store.log;
  tickets = tickets_in node.tickets;
}

-- these are the records of its disk, as far as the node can tell
abbrev pub NodeKeeps : List Record → Node → Type 0
NodeKeeps records node = KeepsRecords records node.store

-- where its journal ends
abbrev pub end_in : Node → ℕ
end_in node = end_of node.store.journal

-- the plan has these numbers, and this node
pub record IsShape (own : ℕ) (shape : Shape) : Type 0 where
  pub some : 0 < own
  pub within : own ≤ shape.nodes
  pub few : shape.nodes ≤ 16
  pub copies : 0 < shape.copies

-- What holds of a node whatever its disk is: its tickets are its own, and its boot was recorded.
pub record IsWhole (node : Node) : Type 0 where
  pub tickets : IsOf node.store.own node.numbers.boot node.shape.confirm node.tickets
  pub boot : 0 < node.numbers.boot
  pub shape : IsShape node.store.own node.shape

-- what holds of each node that is up, over a disk that tells this
pub record CanWork (seen : Option (List ℕ)) (node : Node) : Type 0 where
  pub store : CanGoOn seen node.store
  pub whole : IsWhole node

-- it is this node of the plan
pub record IsNodeOf (plan : Plan) (own : ℕ) (node : Node) : Type 0 where
  pub own_is : node.store.own ≡ own
  pub nodes : node.shape.nodes ≡ plan.nodes
  pub copies : node.shape.copies ≡ plan.copies
  pub confirm : node.shape.confirm ≡ plan.confirm

-- both are one node of one plan
abbrev pub IsSameNode : Node → Node → Type 0
IsSameNode old new = (plan : Plan) (own : ℕ) → IsNodeOf plan own old → IsNodeOf plan own new

-- nothing was changed
pub record IsAsBefore (old new : Node) : Type 0 where
  pub seen : node_seen new ≡ node_seen old
  pub same : IsSameNode old new
  pub keeps : (records : List Record) → NodeKeeps records old → NodeKeeps records new
  pub works : (seen : Option (List ℕ)) → CanWork seen old → CanWork seen new
  pub end_is : end_in new ≡ end_in old

-- its tickets may have changed, and nothing else
pub record ChangesTickets (tickets : plain.Tickets) (old new : Node) : Type 0 where
  pub seen : node_seen new ≡ record (node_seen old) { tickets = tickets }
  pub same : IsSameNode old new
  pub keeps : (records : List Record) → NodeKeeps records old → NodeKeeps records new
  pub works : (seen : Option (List ℕ)) → CanWork seen old → CanWork seen new
  pub end_is : end_in new ≡ end_in old

-- it is this node in the machine's words, and its store is as it was
pub record Becomes (seen : plain.Node) (old new : Node) : Type 0 where
  pub seen_is : node_seen new ≡ seen
  pub store : new.store ≡ old.store
  pub same : IsSameNode old new
  pub keeps : (records : List Record) → NodeKeeps records old → NodeKeeps records new
  pub works : (seen : Option (List ℕ)) → CanWork seen old → CanWork seen new
  pub whole : IsWhole old → IsWhole new
  pub end_is : end_in new ≡ end_in old
