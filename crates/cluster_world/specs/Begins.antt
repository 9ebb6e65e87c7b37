-- A call that begins at a node of the world.
use Rattle.std.specs.Prelude.{◌≡◌, ℕ, ◌≤◌, List, [], ◌∷◌, ◌++◌, length, ⊤, Option, Some, None, Result, Ok, Err, if◌then◌else◌}
use Rattle.mail_model.specs.Plan.{Plan}
use Rattle.mail_model.specs.Book.{BookEntry}
use Rattle.object_model.specs.Letters.{Number, Letter}
use Rattle.node_store.specs.Disks.{View}
use Rattle.cluster_model.specs.Steps.{NodeCall}
use Rattle.cluster_model.specs.Steps.NodeCall.{Strike}
use Rattle.cluster_model.specs.Makes.{struck_entries}
use Rattle.node_core.specs.Beginning.{NodeBegins}
use Rattle.node_core.specs.Works.{LeavesUp}
use Rattle.node_core.specs.declared.fault.NodeFault.{NodeFault}
use Rattle.node_core.specs.declared.outbox.Outbox.{Outbox}
use Rattle.world_book.specs.Books.{entries_of}
use Rattle.world_book.specs.declared.book.Book.{Book}
use Rattle.world_book.specs.declared.entry.Entry.{Entry}
use Rattle.world_book.specs.declared.entry.Entry.TheVariants as entry
use Rattle.cluster_world.specs.Changes.{ChangesNode, IsTurnedTo}
use Rattle.cluster_world.specs.Flights.{InFlight}
use Rattle.cluster_world.specs.Missing.{SentOff}
use Rattle.whole_node.specs.Following.{FollowsCall}
use Rattle.cluster_world.specs.Turning.{TurnsBy}
use Rattle.cluster_world.specs.Unfinished.{said_of_fault, takes_down}
use Rattle.cluster_world.specs.declared.life.Life.{Life}
use Rattle.cluster_world.specs.declared.life.Life.TheVariants as lives
use Rattle.cluster_world.specs.declared.nodes.Nodes.{Nodes}
use Rattle.cluster_world.specs.declared.step.Said.{Said}
use Rattle.cluster_world.specs.declared.step.Said.TheVariants as said
use Rattle.cluster_world.specs.declared.fault.StepFault.{StepFault}
use Rattle.cluster_world.specs.declared.fault.StepFault.TheVariants as fault

-- node n, which is up, began it with its disk
abbrev pub BeginsAt : {D : Type 0} → View D → (D → Type 0) → Plan → ℕ → ℕ → NodeCall → Result (Option Number × Outbox) NodeFault → Life → D → Life → D → Type 0
BeginsAt on is_settled plan n seconds call result life disk life' disk' =
    TurnsBy on.seen (λ result old before new after. NodeBegins on plan n seconds call old before new after result) (λ result old before new after. FollowsCall on plan n seconds call result old before new after)
    result life disk life' disk'
    × (LeavesUp result → is_settled disk → is_settled disk')

-- the entries of the book for what the call is to delete
abbrev pub strikes_of_call : NodeCall → List BookEntry
strikes_of_call (Strike user items) = struck_entries user items
strikes_of_call call = []

-- what is said of a call that has begun: a Leave has no ticket
abbrev pub said_of_begin : Option Number → Said
said_of_begin (Some ticket) = said.Begun ticket 0
said_of_begin None = said.Noted

-- what the book has of a call that node n did not begin, or did not end beginning: what is to be deleted, where that may be on the disk, and that the node went down
abbrev pub entries_of_failure : ℕ → List Entry → NodeFault → List Entry
entries_of_failure n entries why = if takes_down why then entries ++ entry.Down n ∷ [] else []

module _ {D : Type 0} (on : View D) (n : ℕ) (entries : List Entry) (result : Result Said StepFault) (old : Nodes D) (flying : InFlight) (book : Book) (new : Nodes D) (flying' : InFlight) (book' : Book) where
  -- A call has begun: its letters are in flight. Or memory ran out for them, and its node is down.
  pub data GoesOn (ticket : Option Number) (letters : List Letter) : Type 0 where
    Flies : result ≡ Ok (said_of_begin ticket) → SentOff on old.plan letters None flying flying' old new → entries_of book' ≡ entries_of book ++ entries → GoesOn ticket letters
    Falls : result ≡ Err (fault.NoMemory (Some n)) → 1 ≤ length letters → flying' ≡ flying → ChangesNode n (IsTurnedTo lives.Down) old new
        → entries_of book' ≡ entries_of book ++ (entries ++ entry.Down n ∷ []) → GoesOn ticket letters

  -- it has not
  pub record Fails (why : NodeFault) : Type 0 where
    pub said_is : result ≡ said_of_fault n why
    pub nodes_are : new ≡ old
    pub flies : flying' ≡ flying
    pub wrote : entries_of book' ≡ entries_of book ++ entries_of_failure n entries why

  -- what comes of what the node did
  abbrev pub Concludes : Result (Option Number × Outbox) NodeFault → Type 0
  Concludes (Ok begun) = GoesOn begun.0 begun.1.letters
  Concludes (Err why) = Fails why
