-- When a node with its disk stands for a slot of the machine.
use Rattle.std.specs.Prelude.{◌≡◌, ℕ, suc, List, ◌++◌, length, All, Some, IfSome, slice_get}
use Rattle.mail_model.specs.Record.{Record, IsJournal, payloads_of}
use Rattle.mail_model.specs.Grammar.{IsRecord}
use Rattle.cluster_model.specs.Cluster as plain
use Rattle.disk_journal.specs.Journal.{TellsJournal, EndsAt}
use Rattle.node_store.specs.Disks.{View}
use Rattle.node_core.specs.Nodes.{node_seen, NodeKeeps, end_in}
use Rattle.node_core.specs.Starting.{MayHold}
use Rattle.node_core.specs.declared.node.Node.{Node}
use Rattle.cluster_world.specs.declared.life.Life.{Life}
use Rattle.cluster_world.specs.declared.life.Life.TheVariants.{Up, Down, Lost}

module _ {D : Type 0} (on : View D) (own : ℕ) where
  -- The node is this one of the machine, and keeps these records. Where its disk tells what it holds, these are its records, and each stop of the machine would leave them.
  pub record StandsUp (node : Node) (disk : D) (seen : plain.Node) (records : List Record) : Type 0 where
    pub seen_is : node_seen node ≡ seen
    pub keeps : NodeKeeps records node
    pub tells : TellsJournal (on.seen disk) own (payloads_of records) (end_in node)
    pub images : IfSome (on.seen disk) (λ _. (c : List ℕ) → on.clock.is_image disk c → EndsAt own c (payloads_of records) (end_in node))

  -- a disk that tells what it holds has these records, or these and what is pending
  abbrev pub DiskHolds : D → List Record → List Record → Type 0
  DiskHolds disk records pending = IfSome (on.seen disk) (λ _. MayHold on disk own records pending)

  abbrev pub SlotStands : Life → D → plain.Slot → Type 0
  SlotStands (Up node) disk slot = (seen : plain.Node) × (slot.life ≡ plain.Life.Up seen) × StandsUp node.mail disk seen slot.disk
  SlotStands Down disk slot = (pending : List Record) × (slot.life ≡ plain.Life.Down pending) × All IsRecord (slot.disk ++ pending) × DiskHolds disk slot.disk pending
  SlotStands Lost disk slot = (slot.life ≡ plain.Life.Lost) × All IsRecord slot.disk × IfSome (on.seen disk) (λ held. IsJournal own held (payloads_of slot.disk))

-- nodes with their disks stand for slots, one for one
pub record SlotsStand {D : Type 0} (on : View D) (lives : List Life) (disks : List D) (slots : List plain.Slot) : Type 0 where
  pub count : length slots ≡ length lives
  pub each : (k : ℕ) (life : Life) (disk : D) (slot : plain.Slot) → slice_get lives k ≡ Some life → slice_get disks k ≡ Some disk → slice_get slots k ≡ Some slot
      → SlotStands on (suc k) life disk slot
