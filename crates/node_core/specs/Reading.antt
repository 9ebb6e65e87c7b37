-- What a node tells of a part of a message.
use Rattle.std.specs.Prelude.{◌≡◌, ℕ, true, false, List, length, Option, None, is_some, option_map, Result, Ok, Err, if◌then◌else◌}
use Rattle.mail_model.specs.Identity.{Id}
use Rattle.mail_model.specs.Identity.Key.{Message}
use Rattle.mail_model.specs.Listing.{octets_in}
use Rattle.mail_model.specs.Record.{Record, payloads_of}
use Rattle.object_model.specs.Said.{said}
use Rattle.mail_base.specs.declared.told.ToldPart.{ToldPart}
use Rattle.mail_base.specs.Bodies.{part_seen}
use Rattle.cluster_model.specs.Reads.{is_here_held}
use Rattle.login_model.specs.Facts.{IsToldPart}
use Rattle.disk_journal.specs.Journal.{TellsJournal}
use Rattle.node_store.specs.Disks.{View}
use Rattle.node_core.specs.Nodes.{NodeKeeps, end_in}
use Rattle.node_core.specs.Works.{IsOnlyRead, ReadFailed}
use Rattle.node_core.specs.declared.fault.NodeFault.{NodeFault}
use Rattle.node_core.specs.declared.fault.NodeFault.TheVariants.{Disk, Worn, NoMemory}
use Rattle.node_core.specs.declared.node.Node.{Node}

-- how many octets the user's copy of the message has, where it is here with its octets
abbrev pub copy_size : List ℕ → Id → List Record → Option ℕ
copy_size user id records = if is_here_held (said (Message user id) records) then option_map length (octets_in id records) else None

module _ {D : Type 0} (on : View D) (user : List ℕ) (id : Id) (at most : ℕ) (node : Node) (before after : D) where
  -- The part is what the disk says, whatever its records are. The disk was read, and no more.
  pub record PartTold (part : ToldPart) : Type 0 where
    pub those : (records : List Record) → NodeKeeps records node → TellsJournal (on.seen before) node.store.own (payloads_of records) (end_in node)
        → IsToldPart (is_some (on.seen before)) user id at most records (part_seen part)
    pub read : IsOnlyRead on before after
    pub quiet : on.faults after ≡ on.faults before

  -- Where the disk fails the node has to go down. Out of memory changes nothing.
  abbrev pub TellsPart : Result ToldPart NodeFault → Type 0
  TellsPart (Ok part) = PartTold part
  TellsPart (Err Disk) = ReadFailed on node.store.own node before node after
  TellsPart (Err Worn) = ⊥
  TellsPart (Err (NoMemory true)) = ⊥
  TellsPart (Err (NoMemory false)) = IsOnlyRead on before after × (on.faults after ≡ on.faults before)
