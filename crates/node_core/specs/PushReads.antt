-- What a node reads of its disk for what it pushes.
use Rattle.std.specs.Prelude.{◌≡◌, ℕ, List, length, map, true, false, Option, option_map, IfSome, Result, Ok, Err}
use Rattle.mail_model.specs.Record.{Record, payloads_of}
use Rattle.object_model.specs.Letters.{Letter}
use Rattle.disk_journal.specs.Journal.{TellsJournal}
use Rattle.node_store.specs.Disks.{View}
use Rattle.node_core.specs.Nodes.{NodeKeeps, end_in}
use Rattle.node_core.specs.Spelling.{IsShort, AllCanBeTaken}
use Rattle.node_core.specs.Works.{IsOnlyRead, ReadFailed}
use Rattle.node_core.specs.Pushing.{untold}
use Rattle.node_core.specs.declared.fault.NodeFault.{NodeFault}
use Rattle.node_core.specs.declared.fault.NodeFault.TheVariants.{Disk, Worn, NoMemory}
use Rattle.node_core.specs.declared.node.Node.{Node}

-- octets that go into a letter, if there are any
abbrev pub OctetsAreShort : Option (List ℕ) → Type 0
OctetsAreShort octets = IfSome octets IsShort

module _ {D : Type 0} (on : View D) (node : Node) (before after : D) where
  -- the disk was read, and did not fail
  pub record IsRead : Type 0 where
    pub read : IsOnlyRead on before after
    pub quiet : on.faults after ≡ on.faults before

  -- This was given for what was wanted of the node's records. Where the disk tells them it is just that. Whatever the disk gives, both have one form.
  pub record Gives {T U : Type 0} (form : T → U) (wanted : List Record → T) (given : T) : Type 0 where
    pub told : IfSome (on.seen before) (λ _. (records : List Record) → NodeKeeps records node → TellsJournal (on.seen before) node.store.own (payloads_of records) (end_in node) → wanted records ≡ given)
    pub alike : (records : List Record) → NodeKeeps records node → form (wanted records) ≡ form given
    pub is_read : IsRead

  -- it was given, and fits, or the reading failed
  abbrev pub Reads : {T U : Type 0} → (T → U) → (T → Type 0) → (List Record → T) → Result T NodeFault → Type 0
  Reads form Fits wanted (Ok given) = Gives form wanted given × Fits given
  Reads form Fits wanted (Err Disk) = ReadFailed on node.store.own node before node after
  Reads form Fits wanted (Err Worn) = ⊥
  Reads form Fits wanted (Err (NoMemory true)) = ⊥
  Reads form Fits wanted (Err (NoMemory false)) = IsRead

  -- octets of a message: of others than those of the records it is known that they are as many
  abbrev pub ReadsOctets : (List Record → Option (List ℕ)) → Result (Option (List ℕ)) NodeFault → Type 0
  ReadsOctets = Reads (option_map length) OctetsAreShort

  -- letters: of others than those of the rule it is known that they are alike but for their octets
  abbrev pub ReadsLetters : (List Record → List Letter) → Result (List Letter) NodeFault → Type 0
  ReadsLetters = Reads (map untold) AllCanBeTaken
