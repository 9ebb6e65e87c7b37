-- What a node finds on its disk as it starts.
use Rattle.std.specs.Prelude.{◌≡◌, ◌⊎◌, ◌≤◌, ℕ, List, [], ◌++◌, All, true, false, None, IfSome, ⊤, Result, Ok, Err}
use Rattle.io_edge.specs.Causes.{Rose}
use Rattle.io_edge.specs.Moments.{Passed, Restarts}
use Rattle.mail_model.specs.Identity.{EpochId}
use Rattle.mail_model.specs.Plan.{Plan}
use Rattle.mail_model.specs.Record.{Record, IsJournal, payloads_of}
use Rattle.mail_model.specs.Grammar.{IsRecord}
use Rattle.cluster_model.specs.Claims.{boot_of}
use Rattle.cluster_model.specs.Starts.{StartsNode, StopsStart}
use Rattle.cluster_model.specs.Steps.{greatest_boot}
use Rattle.whole_model.specs.Whole.{promise_of}
use Rattle.disk_journal.specs.Journal.{TellsJournal}
use Rattle.node_store.specs.Disks.{View}
use Rattle.node_store.specs.Reopens.{IsReopened, KeepsNoRecords}
use Rattle.node_store.specs.declared.recovered.Recovered.{Recovered}
use Rattle.node_store.specs.declared.store.NodeStore.{NodeStore}
use Rattle.node_core.specs.Nodes.{node_seen, NodeKeeps, end_in, CanWork, IsNodeOf}
use Rattle.node_core.specs.declared.fault.NodeFault.{NodeFault}
use Rattle.node_core.specs.declared.fault.NodeFault.TheVariants.{Disk, Worn, NoMemory}
use Rattle.node_core.specs.declared.node.Node.{Node}

-- A stop of the machine may leave the journal of these records, or of these and the pending ones, and a record can spell each of them.
pub record MayHold {D : Type 0} (on : View D) (disk : D) (own : ℕ) (records pending : List Record) : Type 0 where
  pub images : (c : List ℕ) → on.clock.is_image disk c → IsJournal own c (payloads_of records) ⊎ IsJournal own c (payloads_of (records ++ pending))
  pub fit : All IsRecord (records ++ pending)

-- where the octets are told, whatever records the disk may hold
abbrev pub WhereItHolds : {D : Type 0} → View D → D → ℕ → (List Record → List Record → Type 0) → Type 0
WhereItHolds on disk own P = IfSome (on.seen disk) (λ _. (records pending : List Record) → MayHold on disk own records pending → P records pending)

-- What a stop of the machine leaves during a start that keeps what was pending, or loses it, and then adds these: the first of them.
pub record IsStartStop (own : ℕ) (records pending added : List Record) (c : List ℕ) : Type 0 where
  pub kept : List Record
  pub pending_is : (kept ≡ []) ⊎ (kept ≡ pending)
  pub front : List Record
  pub rest : List Record
  pub split : front ++ rest ≡ added
  pub is : IsJournal own c (payloads_of ((records ++ kept) ++ front))

module _ {D : Type 0} (on : View D) (plan : Plan) (own : ℕ) (before after : D) where
  -- at each moment of the start a stop leaves the records, what was pending or not, and the first of what was added; at its end these may all stand
  pub record StartKeeps (records pending all : List Record) : Type 0 where
    pub kept : List Record
    pub pending_is : (kept ≡ []) ⊎ (kept ≡ pending)
    pub added : List Record
    pub grew : all ≡ (records ++ kept) ++ added
    pub moments : Passed on.clock before after (IsStartStop own records pending added)

  -- these records stand now, and the node is what the machine starts over them
  pub record StartedOver (node : Node) (records pending : List Record) : Type 0 where
    pub new : List Record
    pub starts : StartsNode own records pending (node_seen node) new
    pub keeps : NodeKeeps new node
    pub tells : TellsJournal (on.seen after) own (payloads_of new) (end_in node)
    pub stops_keep : StartKeeps records pending new

  -- the record of the boot may stand, or nothing was added
  pub record StoppedOver (records pending : List Record) : Type 0 where
    pub next : List Record
    pub new : List Record
    pub stops : StopsStart records pending next new
    pub holds : MayHold on after own new next
    pub stops_keep : StartKeeps records pending (new ++ next)

  -- the boot of the last life is the greatest
  pub record WornOver (records pending : List Record) : Type 0 where
    pub kept : List Record
    pub pending_is : (kept ≡ []) ⊎ (kept ≡ pending)
    pub last : greatest_boot ≤ boot_of (records ++ kept)
    pub holds : MayHold on after own records pending
    pub stops_keep : StartKeeps records pending (records ++ pending)

  pub record NodeStarted (node : Node) : Type 0 where
    pub of_plan : IsNodeOf plan own node
    pub works : CanWork (on.seen after) node
    pub without : (node_seen node).installed ≡ None
    pub quiet : on.faults after ≡ on.faults before
    pub over : WhereItHolds on before own (StartedOver node)
    pub some : (records : List Record) × NodeKeeps records node

  -- What a start leaves. Out of memory that comes before the boot is recorded leaves the disk as a restart does.
  abbrev pub NodeStarts : Result Node NodeFault → Type 0
  NodeStarts (Ok node) = NodeStarted node
  NodeStarts (Err Disk) = WhereItHolds on before own (λ records pending. StoppedOver records pending × Rose (on.faults before) (on.faults after))
  NodeStarts (Err Worn) = WhereItHolds on before own WornOver
  NodeStarts (Err (NoMemory true)) = WhereItHolds on before own StoppedOver
  NodeStarts (Err (NoMemory false)) = WhereItHolds on before own (λ records pending. MayHold on after own records pending × StartKeeps records pending (records ++ pending))

  -- these records stand now, the node is what the machine starts over them, and this is the last promise among them
  pub record PromisedOver (node : Node) (promise : EpochId) (records pending : List Record) : Type 0 where
    pub over : StartedOver node records pending
    pub promise_is : promise ≡ promise_of over.new

  pub record NodeStartedWith (node : Node) (promise : EpochId) : Type 0 where
    pub started : NodeStarted node
    pub over : WhereItHolds on before own (PromisedOver node promise)

  -- what a start leaves that also tells the promise
  abbrev pub StartsWithPromise : Result (Node × EpochId) NodeFault → Type 0
  StartsWithPromise (Ok started) = NodeStartedWith started.0 started.1
  StartsWithPromise (Err fault) = NodeStarts (Err fault)

-- the disk was started again, and a store stands over the journal that it then held
pub record HasReopened {D : Type 0} (on : View D) (own : ℕ) (before after : D) (store : NodeStore) (found : Recovered) : Type 0 where
  pub reopened : IsReopened own (on.seen after) store found
  pub quiet : on.faults after ≡ on.faults before
  pub image : Restarts on.clock before (on.seen before) (on.seen after)

-- what a disk then holds is no journal of the node with records
pub record HoldsNoJournal {D : Type 0} (on : View D) (own : ℕ) (before : D) : Type 0 where
  pub image : List ℕ
  pub was : on.clock.is_image before image
  pub none : KeepsNoRecords own image

-- what comes of it
abbrev pub ReopensStore : {D : Type 0} → View D → ℕ → D → D → Result (NodeStore × Recovered) NodeFault → Type 0
ReopensStore on own before after (Ok opened) = HasReopened on own before after opened.0 opened.1
ReopensStore on own before after (Err Disk) = Rose (on.faults before) (on.faults after) ⊎ IfSome (on.seen before) (λ _. HoldsNoJournal on own before)
ReopensStore on own before after (Err Worn) = ⊥
ReopensStore on own before after (Err (NoMemory true)) = ⊥
ReopensStore on own before after (Err (NoMemory false)) = ⊤

-- What comes of a creation: the journal of the node without records, which each stop of the machine leaves from then on, or nothing where memory was out.
abbrev pub NodeCreated : {D : Type 0} → View D → ℕ → D → D → Result Unit NodeFault → Type 0
NodeCreated on own before after (Ok _) = IfSome (on.seen after) (λ held. IsJournal own held [] × MayHold on after own [] []) × (on.faults after ≡ on.faults before)
NodeCreated on own before after (Err Disk) = Rose (on.faults before) (on.faults after)
NodeCreated on own before after (Err Worn) = ⊥
NodeCreated on own before after (Err (NoMemory true)) = ⊥
NodeCreated on own before after (Err (NoMemory false)) = (on.seen after ≡ on.seen before) × (on.faults after ≡ on.faults before)
