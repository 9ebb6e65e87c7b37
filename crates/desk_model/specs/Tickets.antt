-- What the tickets of a cluster ask for.
use Rattle.std.specs.Prelude.{◌≡◌, ℕ, List, [], ◌∷◌, ⊤, Option, Some, None}
use Rattle.std.specs.FinMap as fin
use Rattle.mail_model.specs.Record.{Record}
use Rattle.object_model.specs.Letters.{Number}
use Rattle.cluster_model.specs.Cluster.{NodeFiling, AskedOfNodes, Want, Ticket, Node, Slot, slot_at}
use Rattle.cluster_model.specs.Cluster.AskedOfNodes.{Copies, Deletion}
use Rattle.cluster_model.specs.Deeds.{slot_up}

-- a deletion is asked
abbrev pub IsDeletion : AskedOfNodes → Type 0
IsDeletion (Copies filing) = ⊥
IsDeletion (Deletion user id) = ⊤

abbrev pub AreDeletions : List Want → Type 0
AreDeletions [] = ⊤
AreDeletions (want ∷ wants) = IsDeletion want.asked × AreDeletions wants

-- what may be asked beside this: beside the copies of a message nothing, and beside a deletion other deletions
abbrev pub MayStandBeside : AskedOfNodes → List Want → Type 0
MayStandBeside (Copies filing) wants = wants ≡ []
MayStandBeside (Deletion user id) wants = AreDeletions wants

-- One thing is asked: the copies of one message, or deletions. A call that failed at once asks for nothing.
abbrev pub AskOneThing : List Want → Type 0
AskOneThing [] = ⊤
AskOneThing (want ∷ wants) = MayStandBeside want.asked wants

-- each ticket that stands asks for one thing
abbrev pub TicketsAskOneThing : List Slot → Type 0
TicketsAskOneThing slots = (n : ℕ) (node : Node) (disk : List Record) → slot_at slots n ≡ Some (slot_up node disk)
    → (seq : ℕ) (ticket : Ticket) → fin.get node.tickets seq ≡ Some ticket → AskOneThing ticket.wants

-- what a ticket filed, if it is of a delivery that filed something
abbrev pub filing_asked : AskedOfNodes → Option NodeFiling
filing_asked (Copies filing) = Some filing
filing_asked (Deletion user id) = None

abbrev pub filing_in : List Want → Option NodeFiling
filing_in [] = None
filing_in (want ∷ wants) = filing_asked want.asked

-- the ticket of this number stands at a node that is up, in the boot that it names
pub record StandsUnder (slots : List Slot) (number : Number) (ticket : Ticket) : Type 0 where
  pub node : Node
  pub disk : List Record
  pub up : slot_at slots number.node ≡ Some (slot_up node disk)
  pub boot : number.boot ≡ node.boot
  pub here : fin.get node.tickets number.seq ≡ Some ticket
