-- What a node pushes, and how it widens a copy.
use Rattle.std.specs.Prelude.{◌≡◌, ◌≤◌, ◌-◌, ℕ, zero, suc, nat_le, List, [], ◌∷◌, length, map, replicate, Bool, true, false, Option, Some, None, option_map, IfSome, Result, Ok, Err, ⊤, if◌then◌else◌}
use Rattle.std.specs.FinMap as fin
use Rattle.mail_model.specs.Identity.{Key}
use Rattle.mail_model.specs.Record.{Record, payloads_of}
use Rattle.object_model.specs.Said.{said}
use Rattle.object_model.specs.Letters.{Body, Letter}
use Rattle.object_model.specs.Letters.Body.{Push}
use Rattle.cluster_model.specs.Cluster as plain
use Rattle.cluster_model.specs.Cluster.{epoch_of}
use Rattle.cluster_model.specs.Rules.{push_of, push, can_widen, widen}
use Rattle.cluster_model.specs.Room.{octets_of_all, due_to}
use Rattle.disk_journal.specs.Journal.{TellsJournal}
use Rattle.node_store.specs.Disks.{View}
use Rattle.node_core.specs.Nodes.{node_seen, NodeKeeps, end_in, IsAsBefore}
use Rattle.node_core.specs.Spelling.{AllCanBeTaken}
use Rattle.node_core.specs.Works.{NodeDid, NodeFailed, IsOnlyRead, ReadFailed}
use Rattle.node_core.specs.declared.fault.NodeFault.{NodeFault}
use Rattle.node_core.specs.declared.fault.NodeFault.TheVariants.{Disk, Worn, NoMemory}
use Rattle.node_core.specs.declared.outbox.Outbox.{Outbox}
use Rattle.node_core.specs.declared.node.Node.{Node}

-- how many octets these are, if there are any
abbrev pub pushed_size : Option (List ℕ) → ℕ
pushed_size None = 0
pushed_size (Some octets) = length octets

-- the first of these keys, at most so many, whose letters together have at most so many octets
abbrev pub first_within : (Key → List Letter) → ℕ → ℕ → List Key → List Key
first_within letter_of most room [] = []
first_within letter_of zero room (key ∷ keys) = []
first_within letter_of (suc most) room (key ∷ keys) =
    if nat_le (octets_of_all (letter_of key)) room then key ∷ first_within letter_of most (room - octets_of_all (letter_of key)) keys else []

-- of the keys that are due to a node those whose letters find room
abbrev pub keys_within : ℕ → ℕ → ℕ → ℕ → plain.Node → List Record → List Key
keys_within most room own to node disk = first_within (λ key. push_of own to (epoch_of node) disk key (fin.get node.log key)) most room (due_to own to node)

-- A letter whose octets are not told, but how many they are: zeros stand for the octets of a Push.
abbrev pub zeros : Option ℕ → Option (List ℕ)
zeros None = None
zeros (Some size) = Some (replicate size 0)

abbrev pub untold_body : Body → Body
untold_body (Push key state octets) = Push key state (zeros (option_map length octets))
untold_body body = body

abbrev pub untold : Letter → Letter
untold letter = record letter { body = untold_body letter.body }

-- the letters that the rule has the node push, by these records of its disk
abbrev pub pushed_by : ℕ → ℕ → ℕ → ℕ → plain.Node → List Record → List Letter
pushed_by own to most room node records = (push own to (keys_within most room own to node records) node records).out

module _ {D : Type 0} (on : View D) (own to most room : ℕ) (old : Node) (before : D) (new : Node) (after : D) where
  -- The letters are those of the rule, where the disk tells what it holds. What a disk gives that tells nothing is not known: there they are those of the rule but for the
  -- octets, of which it is known how many they are.
  pub record NodePushed (sent : List Letter) : Type 0 where
    pub told : IfSome (on.seen before) (λ _. (records : List Record) → NodeKeeps records old → TellsJournal (on.seen before) own (payloads_of records) (end_in old)
        → pushed_by own to most room (node_seen old) records ≡ sent)
    pub alike : (records : List Record) → NodeKeeps records old → map untold (pushed_by own to most room (node_seen old) records) ≡ map untold sent
    pub count : (records : List Record) → NodeKeeps records old → length sent ≡ length (keys_within most room own to (node_seen old) records)
    pub few : (records : List Record) → NodeKeeps records old → length sent ≤ most
    pub small : (records : List Record) → NodeKeeps records old → octets_of_all sent ≤ room
    pub fits : AllCanBeTaken sent
    pub as_before : IsAsBefore old new
    pub read : IsOnlyRead on before after
    pub quiet : on.faults after ≡ on.faults before

  abbrev pub PushesOut : Result Outbox NodeFault → Type 0
  PushesOut (Ok outbox) = (outbox.thrown ≡ None) × NodePushed outbox.letters
  PushesOut (Err Disk) = ReadFailed on own old before new after
  PushesOut (Err Worn) = ⊥
  PushesOut (Err (NoMemory true)) = ⊥
  PushesOut (Err (NoMemory false)) = IsAsBefore old new × IsOnlyRead on before after × (on.faults after ≡ on.faults before)

module _ {D : Type 0} (on : View D) (own to : ℕ) (key : Key) (old : Node) (before : D) (new : Node) (after : D) where
  -- a copy gets a target more, where it is here and has not that target
  abbrev pub WidensCopy : Result Bool NodeFault → Type 0
  WidensCopy (Ok did) = ((records : List Record) → NodeKeeps records old → did ≡ can_widen to (said key records)) × NodeDid on (λ node disk. widen own to key node disk) old before new after []
  WidensCopy (Err fault) = NodeFailed on (λ node disk. widen own to key node disk) ⊤ fault old before new after
