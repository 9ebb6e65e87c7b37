-- What a call makes of a node and of its disk, in the machine's words, whatever the records of the disk are.
use Rattle.std.specs.Prelude.{◌≡◌, ◌⊎◌, ◌≤◌, ◌+◌, ℕ, List, [], ◌++◌, All, true, false, ⊤, None, Result, Ok, Err}
use Rattle.io_edge.specs.Causes.{Rose}
use Rattle.io_edge.specs.Moments.{Keeps as KeepsImages}
use Rattle.mail_model.specs.Record.{Record, payloads_of}
use Rattle.mail_model.specs.Grammar.{IsRecord}
use Rattle.object_model.specs.Letters.{Body, Letter}
use Rattle.cluster_model.specs.Cluster as plain
use Rattle.cluster_model.specs.Rules.{Reaction, hear_told}
use Rattle.cluster_model.specs.Makes.{IsWorkCut}
use Rattle.disk_journal.specs.Journal.{TellsJournal}
use Rattle.node_store.specs.Disks.{View}
use Rattle.node_store.specs.Appends.{AppendsRecords, StopsAfter, Fails}
use Rattle.node_store.specs.declared.fault.KeepFault.{KeepFault}
use Rattle.node_store.specs.declared.fault.KeepFault.TheVariants as keep
use Rattle.cluster_model.specs.Thrown.{with_stamps}
use Rattle.node_tickets.specs.Standing.{IsOf}
use Rattle.node_core.specs.Nodes.{node_seen, NodeKeeps, end_in, IsWhole, CanWork, IsSameNode, IsAsBefore}
use Rattle.node_core.specs.Spelling.{AllCanBeTaken}
use Rattle.node_core.specs.declared.fault.NodeFault.{NodeFault}
use Rattle.node_core.specs.declared.fault.NodeFault.TheVariants.{Disk, Worn, NoMemory}
use Rattle.node_core.specs.declared.node.Node.{Node}

-- a store that stopped takes the node down
abbrev pub fault_of : KeepFault → NodeFault
fault_of keep.Disk = Disk
fault_of keep.NoMemory = NoMemory true

-- what the machine's node does, and what becomes of the records of its disk
abbrev pub Rule : Type 0
Rule = plain.Node → List Record → Reaction

-- It was done. Whatever records the node's disk had, the node, its records and its letters are those of the rule, and what was added stands on the disk.
pub record NodeDid {D : Type 0} (on : View D) (rule : Rule) (old : Node) (before : D) (new : Node) (after : D) (sent : List Letter) : Type 0 where
  pub added : List Record
  pub disk : (records : List Record) → NodeKeeps records old → (rule (node_seen old) records).disk ≡ records ++ added
  pub node : (records : List Record) → NodeKeeps records old → (rule (node_seen old) records).node ≡ node_seen new
  pub out : (records : List Record) → NodeKeeps records old → (rule (node_seen old) records).out ≡ sent
  pub keeps : (records : List Record) → NodeKeeps records old → NodeKeeps (records ++ added) new
  pub boot : (node_seen new).boot ≡ (node_seen old).boot
  pub same : IsSameNode old new
  pub works : CanWork (on.seen after) new
  pub appends : AppendsRecords on before after (end_in old) (end_in new) added
  pub fits : AllCanBeTaken sent

-- It stopped. Of the records that the rule adds the first stand on the disk, and one more may: the front, and what is pending.
pub record NodeStopped {D : Type 0} (on : View D) (rule : Rule) (old : Node) (before after : D) : Type 0 where
  pub front : List Record
  pub pending : List Record
  pub cut : (records : List Record) → NodeKeeps records old → IsWorkCut records (rule (node_seen old) records).disk front pending
  pub stops : StopsAfter on before after (end_in old) front pending
  pub fit : (records : List Record) → NodeKeeps records old → All IsRecord (rule (node_seen old) records).disk

-- the disk was read, and no more
pub record IsOnlyRead {D : Type 0} (on : View D) (before after : D) : Type 0 where
  pub seen : on.seen after ≡ on.seen before
  pub images : KeepsImages on.clock before after

-- A read failed: the count of faults rose, or the disk tells nothing, or what it tells is not the journal of the node's records. Nothing was changed.
pub record ReadFailed {D : Type 0} (on : View D) (own : ℕ) (old : Node) (before : D) (new : Node) (after : D) : Type 0 where
  pub as_before : IsAsBefore old new
  pub read : IsOnlyRead on before after
  pub later : on.faults before ≤ on.faults after
  pub cause : (on.seen before ≡ None) ⊎ Rose (on.faults before) (on.faults after)
      ⊎ ((records : List Record) → NodeKeeps records old → TellsJournal (on.seen before) own (payloads_of records) (end_in old) → ⊥)

-- the node may stay up after such an answer
abbrev pub LeavesUp : {T : Type 0} → Result T NodeFault → Type 0
LeavesUp (Ok _) = ⊤
LeavesUp (Err Disk) = ⊥
LeavesUp (Err Worn) = ⊤
LeavesUp (Err (NoMemory true)) = ⊥
LeavesUp (Err (NoMemory false)) = ⊤

-- What a fault of a call leaves that may begin its work only where this holds. After it stopped the node has to go down, so nothing is said of the node.
abbrev pub NodeFailed : {D : Type 0} → View D → Rule → Type 0 → NodeFault → Node → D → Node → D → Type 0
NodeFailed on rule may Disk old before new after = may × NodeStopped on rule old before after × Fails keep.Disk (on.faults before) (on.faults after)
NodeFailed on rule may Worn old before new after = ⊥
NodeFailed on rule may (NoMemory true) old before new after = may × NodeStopped on rule old before after × Fails keep.NoMemory (on.faults before) (on.faults after)
NodeFailed on rule may (NoMemory false) old before new after = IsAsBefore old new × (after ≡ before)

-- Work that was begun: it was done and sent these letters, or it stopped, and the node has to go down.
abbrev pub WroteNode : {T D : Type 0} → View D → Rule → List Letter → Result T KeepFault → Node → D → Node → D → Type 0
WroteNode on rule sent (Ok _) old before new after = NodeDid on rule old before new after sent
WroteNode on rule sent (Err fault) old before new after = NodeStopped on rule old before after × Fails fault (on.faults before) (on.faults after)

-- the same, where it answers its letters
abbrev pub SentLetters : {D : Type 0} → View D → Rule → Result (List Letter) KeepFault → Node → D → Node → D → Type 0
SentLetters on rule (Ok sent) old before new after = NodeDid on rule old before new after sent
SentLetters on rule (Err fault) old before new after = NodeStopped on rule old before after × Fails fault (on.faults before) (on.faults after)

-- the node knows the stamps of a letter, and nothing else is changed
pub record HasLearned (body : Body) (old new : Node) : Type 0 where
  pub seen : node_seen new ≡ with_stamps body (node_seen old)
  pub store : new.store ≡ old.store
  pub shape : new.shape ≡ old.shape
  pub same : IsSameNode old new
  pub whole : IsWhole old → IsWhole new

-- a change leaves the node what it was, but for its store, its numbers and its tickets; those of them that name it are its own
pub record IsLikewise (old new : Node) : Type 0 where
  pub boot : new.numbers.boot ≡ old.numbers.boot
  pub shape : new.shape ≡ old.shape
  pub tickets : (own boot confirm : ℕ) → IsOf own boot confirm old.tickets → IsOf own boot confirm new.tickets

-- the tickets were told a letter, and nothing else is changed
pub record TicketsAreTold (letter : Letter) (old new : Node) : Type 0 where
  pub seen : node_seen new ≡ (hear_told old.store.own (node_seen old) [] letter).node
  pub store : new.store ≡ old.store
  pub like : IsLikewise old new
