-- What is known of a ticket of a call that reads that is asked or given up at a node.
use Rattle.std.specs.Prelude.{◌≡◌, ℕ, true, false, List, Option, is_some, Result}
use Rattle.object_model.specs.Letters.{Number, Letter}
use Rattle.call_tickets.specs.declared.answer.Ask.{Ask}
use Rattle.whole_node.specs.Nodes.{HasReads, WholeWorks}
use Rattle.whole_node.specs.ReadTickets.{AsksRead, GivesUpRead}
use Rattle.whole_node.specs.declared.node.WholeNode.{WholeNode}
use Rattle.cluster_world.specs.Telling.{standing_on, reading_on}
use Rattle.cluster_world.specs.declared.life.Life.{Life}
use Rattle.cluster_world.specs.declared.life.Life.TheVariants.{Up}

-- this node is up, with its tickets of calls that read as they have to be
pub record IsReader (own : ℕ) (life : Life) : Type 0 where
  pub node : WholeNode
  pub up : life ≡ Up node
  pub own_is : node.mail.store.own ≡ own
  pub reads : HasReads node

-- a ticket of a call that reads stands at a node that is up, and none of messages
pub record StandsAmongReads (ticket : Number) (life : Option Life) : Type 0 where
  pub none : is_some (standing_on life ticket) ≡ false
  pub some : is_some (reading_on life ticket) ≡ true

-- the node was asked
pub record AsksReading {E : Type 0} (ticket : Number) (result : Result (Option Ask) E) (life life' : Life) : Type 0 where
  pub old : WholeNode
  pub new : WholeNode
  pub was : life ≡ Up old
  pub is : life' ≡ Up new
  pub asks : AsksRead ticket result old new
  pub works : (seen : Option (List ℕ)) → WholeWorks seen old → WholeWorks seen new

-- and its disk was not touched
abbrev pub IsReadAskedOn : {D E : Type 0} → Number → Result (Option Ask) E → Life → D → Life → D → Type 0
IsReadAskedOn ticket result life disk life' disk' = AsksReading ticket result life life' × (disk' ≡ disk)

-- the ticket was given up, and this letter is to be sent
pub record GivesReading (ticket : Number) (letter : Option Letter) (life life' : Life) : Type 0 where
  pub old : WholeNode
  pub new : WholeNode
  pub was : life ≡ Up old
  pub is : life' ≡ Up new
  pub gives : GivesUpRead ticket letter old new
  pub works : (seen : Option (List ℕ)) → WholeWorks seen old → WholeWorks seen new

abbrev pub IsReadGivenOn : {D : Type 0} → Number → Option Letter → Life → D → Life → D → Type 0
IsReadGivenOn ticket letter life disk life' disk' = GivesReading ticket letter life life' × (disk' ≡ disk)
