-- What becomes of a letter of a call that reads that is posted, and of its receiver.
use Rattle.std.specs.Prelude.{◌≡◌, ℕ, Bool, List, Option, Some, None, Result, Ok, Err}
use Rattle.mail_model.specs.Plan.{Plan}
use Rattle.object_model.specs.Letters.{Letter}
use Rattle.object_model.specs.Mishaps.{MishapKind, MishapKind as mishap}
use Rattle.cluster_model.specs.Steps.{letter_at}
use Rattle.node_store.specs.Disks.{View}
use Rattle.node_core.specs.Works.{LeavesUp}
use Rattle.node_core.specs.declared.fault.NodeFault.{NodeFault}
use Rattle.node_core.specs.declared.fault.NodeFault.TheVariants.{Disk}
use Rattle.node_core.specs.declared.outbox.Outbox.{Outbox}
use Rattle.node_core.specs.declared.outbox.Why.{Why}
use Rattle.node_core.specs.declared.outbox.Why.TheVariants.{Stale}
use Rattle.node_reads.specs.Readings.{listed}
use Rattle.whole_node.specs.Nodes.{WholeWorks}
use Rattle.whole_node.specs.Reading.{HearsRead}
use Rattle.whole_node.specs.declared.node.WholeNode.{WholeNode}
use Rattle.world_book.specs.declared.book.Book.{Book}
use Rattle.cluster_world.specs.Flights.{InFlight, taken_out}
use Rattle.cluster_world.specs.Posts.{out_of, IsEntered}
use Rattle.cluster_world.specs.Reading.{HasBefallen, PutsQueue}
use Rattle.cluster_world.specs.Turning.{life_left}
use Rattle.cluster_world.specs.Unfinished.{said_of_fault}
use Rattle.cluster_world.specs.declared.life.Life.{Life}
use Rattle.cluster_world.specs.declared.life.Life.TheVariants.{Up}
use Rattle.cluster_world.specs.declared.nodes.Nodes.{Nodes}
use Rattle.cluster_world.specs.declared.step.Said.{Said}
use Rattle.cluster_world.specs.declared.step.Said.TheVariants.{Heard, Thrown, Faulted}
use Rattle.cluster_world.specs.declared.fault.StepFault.{StepFault}

-- A node that is up did this for a call that reads. It goes down where its work stopped, and can work where it may stay up.
pub record ReadTurns {T D : Type 0} (seen : D → Option (List ℕ)) (Did : Result T NodeFault → WholeNode → D → WholeNode → D → Type 0) (result : Result T NodeFault) (life : Life) (before : D) (life' : Life) (after : D) : Type 0 where
  pub old : WholeNode
  pub new : WholeNode
  pub was : life ≡ Up old
  pub did : Did result old before new after
  pub is : life' ≡ life_left result new
  pub works : LeavesUp result → WholeWorks (seen after) new

-- node n, which is up, heard the letter with its disk, or threw it, or its work stopped
abbrev pub HearsReadAt : {D : Type 0} → View D → (D → Type 0) → Plan → ℕ → Letter → Result Outbox NodeFault → Life → D → Life → D → Type 0
HearsReadAt on is_settled plan n letter result life disk life' disk' =
    ReadTurns on.seen (λ result old before new after. HearsRead on plan n old before new after letter result) result life disk life' disk' × (LeavesUp result → is_settled disk → is_settled disk')

-- what is said of a letter that was heard, or thrown
abbrev pub said_of_heard : Option Why → Said
said_of_heard None = Heard
said_of_heard (Some why) = Thrown why

module _ {D : Type 0} (on : View D) (number : ℕ) (keep : Bool) where
  -- The letter is lost: its mishap is noted, it leaves unless it is kept, and what is sent for that is put in flight.
  pub record IsLost (kind : MishapKind) (letter : Letter) (old : Nodes D) (flying : InFlight) (new : Nodes D) (flying' : InFlight) : Type 0 where
    pub mid : Nodes D
    pub out : Option Letter
    pub befell : HasBefallen on kind letter out old mid
    pub puts : PutsQueue on (listed out) mid (taken_out (out_of number keep) flying) new flying'

  abbrev pub LosesLetter : MishapKind → Nodes D → InFlight → Nodes D → InFlight → Type 0
  LosesLetter kind old flying new flying' = (letter : Letter) → letter_at number flying.flights ≡ Some letter → IsLost kind letter old flying new flying'

  -- one that was thrown is lost where it is of another epoch, and else leaves
  abbrev pub ThrowsRead : Why → Nodes D → InFlight → Nodes D → InFlight → Type 0
  ThrowsRead Stale old flying new flying' = LosesLetter mishap.Stale old flying new flying'
  ThrowsRead why old flying new flying' = (new ≡ old) × (flying' ≡ taken_out (out_of number keep) flying)

  -- one that was heard leaves, and what is answered is put in flight
  abbrev pub EndsHeardRead : Option Why → List Letter → Nodes D → InFlight → Nodes D → InFlight → Type 0
  EndsHeardRead None letters old flying new flying' = PutsQueue on letters old (taken_out (out_of number keep) flying) new flying'
  EndsHeardRead (Some why) letters old flying new flying' = ThrowsRead why old flying new flying'

  -- what is made of a letter that was handed to node n
  abbrev pub EndsRead : ℕ → Result Outbox NodeFault → Result Said StepFault → Nodes D → InFlight → Book → Nodes D → InFlight → Book → Type 0
  EndsRead n (Ok outbox) result old flying book new flying' book' = (result ≡ Ok (said_of_heard outbox.thrown)) × EndsHeardRead outbox.thrown outbox.letters old flying new flying' × (book' ≡ book)
  EndsRead n (Err Disk) result old flying book new flying' book' = (result ≡ Ok (Faulted n)) × LosesLetter mishap.Disk old flying new flying' × IsEntered n book book'
  EndsRead n (Err why) result old flying book new flying' book' = (result ≡ said_of_fault n why) × (new ≡ old) × (flying' ≡ flying) × (book' ≡ book)
