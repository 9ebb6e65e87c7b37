-- What a node's work does to its slot of the machine.
use Rattle.std.specs.Prelude.{◌≡◌, ◌≤◌, ℕ, List, ◌++◌, length}
use Rattle.mail_model.specs.Record.{Record}
use Rattle.object_model.specs.Letters.{Letter}
use Rattle.cluster_model.specs.Cluster as plain
use Rattle.cluster_model.specs.Deeds.{slot_up}
use Rattle.cluster_model.specs.Makes.{IsWorkCut}
use Rattle.node_store.specs.Disks.{View}
use Rattle.node_core.specs.Works.{Rule}
use Rattle.cluster_world.specs.Stands.{SlotStands}
use Rattle.cluster_world.specs.Moments.{StopsKeep}
use Rattle.cluster_world.specs.declared.life.Life.{Life}

-- the slot of a node that does this, and is up afterwards
abbrev pub slot_after : Rule → plain.Node → List Record → plain.Slot
slot_after rule node records = slot_up (rule node records).node (rule node records).disk

module _ {D : Type 0} (on : View D) (own : ℕ) (rule : Rule) (old : Life) (before : D) (new : Life) (after : D) where
  -- the node was up, and did this
  pub record SlotTurned (sent : List Letter) (slot : plain.Slot) : Type 0 where
    pub node : plain.Node
    pub was : slot ≡ slot_up node slot.disk
    pub stands : SlotStands on own new after (slot_after rule node slot.disk)
    pub out : (rule node slot.disk).out ≡ sent
    pub keeps : StopsKeep on own before after slot (slot_after rule node slot.disk)

  -- it was up, and went down in it
  pub record SlotCut (slot : plain.Slot) : Type 0 where
    pub node : plain.Node
    pub was : slot ≡ slot_up node slot.disk
    pub front : List Record
    pub pending : List Record
    pub one : length pending ≤ 1
    pub cut : IsWorkCut slot.disk (rule node slot.disk).disk front pending
    pub stands : SlotStands on own new after (record { life = plain.Life.Down pending; disk = slot.disk ++ front })
    pub keeps : StopsKeep on own before after slot (record { life = plain.Life.Down pending; disk = slot.disk ++ front })
