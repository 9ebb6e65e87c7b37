-- A call that reads begins at a node of the world.
use Rattle.std.specs.Prelude.{◌≡◌, ◌≤◌, ◌++◌, ℕ, Bool, true, false, List, length, Option, Some, None, ⊤, Result, Ok, Err}
use Rattle.mail_model.specs.Plan.{Plan}
use Rattle.mail_model.specs.Record.{Record}
use Rattle.object_model.specs.Letters.{Number, Letter}
use Rattle.object_model.specs.Sets.{has}
use Rattle.cluster_model.specs.Rules.{new_number}
use Rattle.cluster_model.specs.Steps.{NodeCall, is_worn_for, asked_of}
use Rattle.cluster_model.specs.Steps.NodeCall.{Login, Fetch, Leave}
use Rattle.joint_model.specs.Joint as joint
use Rattle.joint_world.specs.Rules.{Reaction, left}
use Rattle.node_store.specs.Disks.{View}
use Rattle.node_core.specs.Nodes.{node_seen, IsNodeOf}
use Rattle.node_core.specs.Works.{LeavesUp, ReadFailed}
use Rattle.node_core.specs.declared.fault.NodeFault.{NodeFault}
use Rattle.node_core.specs.declared.fault.NodeFault.TheVariants.{Disk, Worn, NoMemory}
use Rattle.node_core.specs.declared.outbox.Outbox.{Outbox}
use Rattle.whole_node.specs.Nodes.{WholeWorks}
use Rattle.whole_node.specs.Reading.{BeginsBy, FetchesBy, ReadDid, ReadDone, RanShort, IsUnchanged}
use Rattle.whole_node.specs.declared.node.WholeNode.{WholeNode}
use Rattle.world_book.specs.Books.{entries_of}
use Rattle.world_book.specs.declared.book.Book.{Book}
use Rattle.cluster_world.specs.Begins.{said_of_begin}
use Rattle.cluster_world.specs.Flights.{InFlight}
use Rattle.cluster_world.specs.Hears.{AllCanBeHeard}
use Rattle.cluster_world.specs.Reading.{AreOfOne, PutsQueue}
use Rattle.cluster_world.specs.Turning.{life_left}
use Rattle.cluster_world.specs.Unfinished.{said_of_fault, entries_of_fault}
use Rattle.cluster_world.specs.declared.life.Life.{Life}
use Rattle.cluster_world.specs.declared.life.Life.TheVariants.{Up}
use Rattle.cluster_world.specs.declared.nodes.Nodes.{Nodes}
use Rattle.cluster_world.specs.declared.step.Said.{Said}
use Rattle.cluster_world.specs.declared.fault.StepFault.{StepFault}

-- the calls that read, and a Leave
abbrev pub IsReadCall : NodeCall → Type 0
IsReadCall (Login user proof) = ⊤
IsReadCall (Fetch user id at most holders) = ⊤
IsReadCall (Leave user login manager) = ⊤
IsReadCall call = ⊥

-- What a node does for such a call, and the letters that it sends. Whether disks tell what they hold is of account where the own one is read.
abbrev pub BeginsAs : Plan → ℕ → NodeCall → Bool → joint.Node → List Record → Reaction → Type 0
BeginsAs plan own (Login user proof) told node disk did = (tells : Bool) → BeginsBy plan own user proof tells node disk did
BeginsAs plan own (Fetch user id at most holders) told node disk did = FetchesBy own user id at most holders told node disk did
BeginsAs plan own (Leave user login manager) told node disk did = (tells : Bool) → did ≡ left tells own node user login manager
BeginsAs plan own call told node disk did = ⊥

-- a Leave has no ticket
abbrev pub ticket_of_call : Number → NodeCall → Option Number
ticket_of_call number (Leave user login manager) = None
ticket_of_call number call = Some number

-- the call reads the own disk
abbrev pub ReadsOwnDisk : ℕ → WholeNode → NodeCall → Type 0
ReadsOwnDisk own node (Fetch user id at most holders) = has (asked_of (node_seen node.mail) holders) own ≡ true
ReadsOwnDisk own node call = ⊥

module _ {D : Type 0} (on : View D) (plan : Plan) (own seconds : ℕ) (call : NodeCall) (old : WholeNode) (before : D) (new : WholeNode) (after : D) where
  -- it has begun
  pub record BeganReading (ticket : Option Number) (letters : List Letter) : Type 0 where
    pub fresh : is_worn_for plan seconds (node_seen old.mail) call ≡ false
    pub ticket_is : ticket ≡ ticket_of_call (new_number own (node_seen old.mail)) call
    pub done : ReadDone on (BeginsAs plan own call) old before new after letters

  -- the own disk failed as it was read
  pub record FailsBeginning : Type 0 where
    pub fresh : is_worn_for plan seconds (node_seen old.mail) call ≡ false
    pub reads : ReadsOwnDisk own old call
    pub failed : ReadFailed on own old.mail before new.mail after

  -- What comes of it. It is worn exactly where the number of its ticket is used up.
  abbrev pub BeginsReading : Result (Option Number × Outbox) NodeFault → Type 0
  BeginsReading (Ok begun) = BeganReading begun.0 begun.1.letters
  BeginsReading (Err Disk) = FailsBeginning
  BeginsReading (Err Worn) = (is_worn_for plan seconds (node_seen old.mail) call ≡ true) × IsUnchanged old new × (after ≡ before)
  BeginsReading (Err (NoMemory true)) = ⊥
  BeginsReading (Err (NoMemory false)) = RanShort on old before new after

-- a session left
pub record HasLeft (user : List ℕ) (login : Number) (manager : ℕ) (old : WholeNode) (ticket : Option Number) (letters : List Letter) (new : WholeNode) : Type 0 where
  pub fresh : (plan : Plan) (seconds : ℕ) → is_worn_for plan seconds (node_seen old.mail) (Leave user login manager) ≡ false
  pub none : ticket ≡ None
  pub did : ReadDid (λ tells node disk did. did ≡ left tells old.mail.store.own node user login manager) old new letters

abbrev pub LeavesAs : List ℕ → Number → ℕ → Result (Option Number × Outbox) NodeFault → WholeNode → WholeNode → Type 0
LeavesAs user login manager (Ok begun) old new = HasLeft user login manager old begun.0 begun.1.letters new
LeavesAs user login manager (Err Disk) old new = ⊥
LeavesAs user login manager (Err Worn) old new = ⊥
LeavesAs user login manager (Err (NoMemory true)) old new = ⊥
LeavesAs user login manager (Err (NoMemory false)) old new = new ≡ old

-- a node that is up does it with its disk
pub record BeginsReadAt {D : Type 0} (on : View D) (is_settled : D → Type 0) (call : NodeCall) (result : Result (Option Number × Outbox) NodeFault) (plan : Plan) (own : ℕ) (life : Life) (before : D) (life' : Life) (after : D) : Type 0 where
  pub old : WholeNode
  pub new : WholeNode
  pub was : life ≡ Up old
  pub of : IsNodeOf plan own old.mail
  pub can : WholeWorks (on.seen before) old
  pub did : (seconds : ℕ) → BeginsReading on plan own seconds call old before new after result
  pub is : life' ≡ life_left result new
  pub works : LeavesUp result → WholeWorks (on.seen after) new
  pub settled : LeavesUp result → is_settled before → is_settled after

-- so a life, whatever its plan and its node
pub record TurnsReading {D : Type 0} (on : View D) (is_settled : D → Type 0) (call : NodeCall) (plan : Plan) (result : Result (Option Number × Outbox) NodeFault) (life : Life) (before : D) (life' : Life) (after : D) : Type 0 where
  pub old : WholeNode
  pub new : WholeNode
  pub was : life ≡ Up old
  pub did : (own seconds : ℕ) → IsNodeOf plan own old.mail → BeginsReading on plan own seconds call old before new after result
  pub is : life' ≡ life_left result new
  pub works : LeavesUp result → WholeWorks (on.seen after) new
  pub settled : LeavesUp result → is_settled before → is_settled after

-- these letters can be put in flight, in a step with room for them
pub record CanBePut (letters : List Letter) : Type 0 where
  pub few : length letters ≤ 64
  pub heard : AllCanBeHeard letters
  pub one : AreOfOne letters

module _ {D : Type 0} (on : View D) (n : ℕ) (result : Result Said StepFault) (old : Nodes D) (flying : InFlight) (book : Book) (new : Nodes D) (flying' : InFlight) (book' : Book) where
  -- the call has begun, and its letters were put in flight
  pub record GoesOut (ticket : Option Number) (letters : List Letter) : Type 0 where
    pub said_is : result ≡ Ok (said_of_begin ticket)
    pub puts : PutsQueue on letters old flying new flying'
    pub same : book' ≡ book

  -- it has not
  pub record FellShort (why : NodeFault) : Type 0 where
    pub said_is : result ≡ said_of_fault n why
    pub nodes_are : new ≡ old
    pub flies : flying' ≡ flying
    pub wrote : entries_of book' ≡ entries_of book ++ entries_of_fault n why

  -- what comes of what the node did
  abbrev pub ConcludesReading : Result (Option Number × Outbox) NodeFault → Type 0
  ConcludesReading (Ok begun) = GoesOut begun.0 begun.1.letters
  ConcludesReading (Err why) = FellShort why
