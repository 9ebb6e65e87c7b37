-- What is read of the octets of a message.
use Rattle.std.specs.Prelude.{◌≡◌, ℕ, ◌≤◌, List, length, take, drop, Vec, Option, Some, None, option_map, IfSome, Result, Ok, Err}
use Rattle.std.specs.declared.alloc.Global.{Global}
use Rattle.io_edge.specs.Causes.{Rose}
use Rattle.mail_model.specs.Identity.{Id}
use Rattle.mail_model.specs.Listing.{octets_in}
use Rattle.mail_model.specs.Record.{Record, IsJournal, payloads_of}
use Rattle.disk_journal.specs.declared.place.Place.{Place}
use Rattle.message_store.specs.Fetches.{GivesOctets, IsNoMessageAt}
use Rattle.node_store.specs.Keeps.{KeepsRecords}
use Rattle.node_store.specs.declared.store.NodeStore.{NodeStore}
use Rattle.node_store.specs.declared.fault.ReadFault.{ReadFault}
use Rattle.node_store.specs.declared.fault.ReadFault.TheVariants.{Disk, NotAJournal, NoMemory}

-- a part of the message's octets: from that offset on, and so many at most
abbrev pub part_in : Id → ℕ → ℕ → List Record → Option (List ℕ)
part_in id start most records = option_map (λ octets. take most (drop start octets)) (octets_in id records)

-- the octets that a buffer has
abbrev pub given_octets : Option (Vec ℕ Global) → Option (List ℕ)
given_octets None = None
given_octets (Some buffer) = Some buffer.items

-- the octets are the journal of the store with the records that it keeps
abbrev pub TellsKept : NodeStore → List ℕ → List Record → Type 0
TellsKept store held records = KeepsRecords records store × IsJournal store.own held (payloads_of records)

-- What was wanted of the records that the store keeps: so many octets, and none where it keeps none. Where the disk tells the journal of these records they are exactly those.
pub record GivesWanted (seen : Option (List ℕ)) (store : NodeStore) (wanted : List Record → Option (List ℕ)) (given : Option (List ℕ)) : Type 0 where
  pub sized : (records : List Record) → KeepsRecords records store → option_map length given ≡ option_map length (wanted records)
  pub those : IfSome seen (λ held. (records : List Record) → TellsKept store held records → given ≡ wanted records)

-- a fetch of as many octets of a message as are wanted, where its place is noted
abbrev pub FetchesAll : {T : Type 0} → Result T ReadFault → Option Place → Id → ℕ → List ℕ → Option (List ℕ) → ℕ → ℕ → Type 0
FetchesAll (Ok _) place id start into seen before now = ((there : Place) → place ≡ Some there → IfSome seen (λ held. (count : ℕ) × GivesOctets held there id start count into)) × (now ≡ before)
FetchesAll (Err Disk) place id start into seen before now = (before ≤ now) × Rose before now
FetchesAll (Err NotAJournal) place id start into seen before now = ((there : Place) → place ≡ Some there → IfSome seen (λ held. IsNoMessageAt held there id)) × (now ≡ before)
FetchesAll (Err NoMemory) place id start into seen before now = ⊥

-- what a reading gives, and why it gives nothing
abbrev pub ReadsWanted : Result (Option (Vec ℕ Global)) ReadFault → NodeStore → (List Record → Option (List ℕ)) → Option (List ℕ) → ℕ → ℕ → Type 0
ReadsWanted (Ok given) store wanted seen before now = GivesWanted seen store wanted (given_octets given) × (now ≡ before)
ReadsWanted (Err Disk) store wanted seen before now = (before ≤ now) × Rose before now
ReadsWanted (Err NotAJournal) store wanted seen before now = IfSome seen (λ held. (records : List Record) → TellsKept store held records → ⊥) × (now ≡ before)
ReadsWanted (Err NoMemory) store wanted seen before now = now ≡ before
