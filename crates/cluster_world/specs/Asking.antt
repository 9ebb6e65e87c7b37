-- What is known of a ticket that is asked at a node.
use Rattle.std.specs.Prelude.{◌≡◌, ℕ, Bool, true, false, List, [], Option, is_some, MatchBool}
use Rattle.object_model.specs.Letters.{Number}
use Rattle.cluster_model.specs.Cluster as plain
use Rattle.cluster_model.specs.Progress.{Ask, wants_entries}
use Rattle.cluster_model.specs.Progress.Ask.{Pending, Done}
use Rattle.cluster_model.specs.Progress.NodeAnswer.{Stored, Dropped, Read, Failed}
use Rattle.joint_model.specs.Joint as joint
use Rattle.joint_world.specs.Staying.{KeepsReads}
use Rattle.call_tickets.specs.declared.answer.Ask as code
use Rattle.node_tickets.specs.Standing.{asks_seen, asks_at, asked_out, done_at, wants_at, ticket_taken_out}
use Rattle.node_core.specs.Nodes.{node_seen, IsWhole, ChangesTickets}
use Rattle.node_core.specs.Standing.{ticket_standing}
use Rattle.node_core.specs.declared.node.Node.{Node}
use Rattle.whole_node.specs.Nodes.{joint_seen, WholeWorks}
use Rattle.whole_node.specs.declared.node.WholeNode.{WholeNode}
use Rattle.world_book.specs.declared.entry.Entry.{Entry}
use Rattle.cluster_world.specs.Books.{entries_seen}
use Rattle.cluster_world.specs.Telling.{standing_on}
use Rattle.cluster_world.specs.declared.life.Life.{Life}
use Rattle.cluster_world.specs.declared.life.Life.TheVariants.{Up, Down, Lost}

-- a node that is up, with its tickets as they have to be
pub record IsUpWhole (life : Life) : Type 0 where
  pub node : WholeNode
  pub up : life ≡ Up node
  pub whole : IsWhole node.mail

-- the answer says that what was wanted is confirmed
abbrev pub confirms : Ask → Bool
confirms (Pending got wanted) = false
confirms (Done (Stored id confirmers)) = true
confirms (Done (Dropped confirmers)) = true
confirms (Done (Read found)) = false
confirms (Done (Failed mishaps)) = false

-- the call of the ticket is done at a node that is up
abbrev pub IsDoneAt : Number → Life → Type 0
IsDoneAt ticket (Up node) = done_at node.mail.shape.confirm (ticket_standing node.mail ticket) ≡ true
IsDoneAt ticket Down = ⊥
IsDoneAt ticket Lost = ⊥

-- the entries of what the ticket wants, where it is done, and none where it is not
abbrev pub AreForTicket : Number → Life → List Entry → Type 0
AreForTicket ticket (Up node) entries =
    MatchBool (done_at node.mail.shape.confirm (ticket_standing node.mail ticket)) (entries_seen entries ≡ wants_entries (wants_at (ticket_standing node.mail ticket))) (entries ≡ [])
AreForTicket ticket Down entries = entries ≡ []
AreForTicket ticket Lost entries = entries ≡ []

-- A node has these tickets in place of its own, and nothing else is changed.
pub record HasTickets (tickets : plain.Tickets) (old new : WholeNode) : Type 0 where
  pub mail : ChangesTickets tickets old.mail new.mail
  pub maps : new.maps ≡ old.maps
  pub beside : KeepsReads (joint.Life.Up (joint_seen old)) (joint_seen new)
  pub works : (seen : Option (List ℕ)) → WholeWorks seen old → WholeWorks seen new

-- the node was asked
pub record AsksNode (ticket : Number) (result : Option code.Ask) (life life' : Life) : Type 0 where
  pub old : WholeNode
  pub new : WholeNode
  pub was : life ≡ Up old
  pub is : life' ≡ Up new
  pub answer : asks_seen result ≡ asks_at old.mail.shape.confirm (ticket_standing old.mail ticket)
  pub tickets : HasTickets (asked_out old.mail.shape.confirm ticket.seq (ticket_standing old.mail ticket) (node_seen old.mail).tickets) old new

-- and its disk was not touched
abbrev pub IsAskedOn : {D : Type 0} → Number → Option code.Ask → Life → D → Life → D → Type 0
IsAskedOn ticket result life disk life' disk' = AsksNode ticket result life life' × (disk' ≡ disk)

-- so it is of a node that is up
pub record IsRetold (left_of : Node → plain.Tickets) (life life' : Life) : Type 0 where
  pub old : WholeNode
  pub new : WholeNode
  pub was : life ≡ Up old
  pub is : life' ≡ Up new
  pub tickets : HasTickets (left_of old.mail) old new

abbrev pub IsRetoldOn : {D : Type 0} → (Node → plain.Tickets) → Life → D → Life → D → Type 0
IsRetoldOn left_of life disk life' disk' = IsRetold left_of life life' × (disk' ≡ disk)

-- what is left of its tickets once one is given up, where it stands
abbrev pub tickets_without : Number → Node → plain.Tickets
tickets_without ticket node = ticket_taken_out ticket.seq (ticket_standing node ticket) (node_seen node).tickets

-- a ticket of messages stands at a node that is up
abbrev pub StandsAmongMails : Number → Option Life → Type 0
StandsAmongMails ticket life = is_some (standing_on life ticket) ≡ true
