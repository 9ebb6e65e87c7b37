-- What an opening finds of a journal that is there.
use Rattle.std.specs.Prelude.{◌≡◌, ℕ, ◌≤◌, List, Vec, Option, IfSome, Result, Ok, Err, All}
use Rattle.std.specs.declared.alloc.Global.{Global}
use Rattle.io_edge.specs.Causes.{Rose}
use Rattle.mail_model.specs.Grammar.{IsRecord}
use Rattle.mail_model.specs.Record.{Record, IsJournal, payloads_of}
use Rattle.cluster_model.specs.Starts.{recovered}
use Rattle.disk_journal.specs.Journal.{TellsJournal, end_of}
use Rattle.disk_journal.specs.Reading.{IsOpened, IsNoJournal}
use Rattle.disk_journal.specs.declared.journal.Journal.{Journal}
use Rattle.disk_journal.specs.declared.place.Place.{Place}
use Rattle.node_store.specs.Keeps.{KeepsRecords, CanGoOn}
use Rattle.node_store.specs.Recovers.{Recovers}
use Rattle.node_store.specs.declared.recovered.Recovered.{Recovered}
use Rattle.node_store.specs.declared.store.NodeStore.{NodeStore}
use Rattle.node_store.specs.declared.fault.ReadFault.{ReadFault}
use Rattle.node_store.specs.declared.fault.ReadFault.TheVariants.{Disk, NotAJournal, NoMemory}

-- The store keeps some records, its log is the one that a start over them finds, and so is what was found beside it.
-- Where the disk tells its octets, they are the journal of the node with these records, and with no others.
pub record IsReopened (own : ℕ) (seen : Option (List ℕ)) (store : NodeStore) (found : Recovered) : Type 0 where
  pub records : List Record
  pub own_is : store.own ≡ own
  pub keeps : KeepsRecords records store
  pub log : store.log ≡ recovered own records
  pub names : Recovers own records found
  pub sound : CanGoOn seen store
  pub stand : TellsJournal seen own (payloads_of records) (end_of store.journal)
  pub only : IfSome seen (λ held. (others : List Record) → All IsRecord others → IsJournal own held (payloads_of others) → others ≡ records)

-- the octets are no journal of the node with payloads that all spell records
abbrev pub KeepsNoRecords : ℕ → List ℕ → Type 0
KeepsNoRecords own held = (records : List Record) → All IsRecord records → IsJournal own held (payloads_of records) → ⊥

-- what was found of a journal alone: the places of exactly its records
abbrev pub JournalFound : Result (Journal × Vec Place Global) ReadFault → ℕ → Option (List ℕ) → ℕ → ℕ → Type 0
JournalFound (Ok opened) own seen before now = IfSome seen (λ held. IsOpened own held (end_of opened.0) opened.1.items) × (now ≡ before)
JournalFound (Err Disk) own seen before now = (before ≤ now) × Rose before now
JournalFound (Err NotAJournal) own seen before now = IfSome seen (IsNoJournal own) × (now ≡ before)
JournalFound (Err NoMemory) own seen before now = now ≡ before

-- what an opening gives, and why it gives no store
abbrev pub StoreReopened : Result (NodeStore × Recovered) ReadFault → ℕ → Option (List ℕ) → ℕ → ℕ → Type 0
StoreReopened (Ok opened) own seen before now = IsReopened own seen opened.0 opened.1 × (now ≡ before)
StoreReopened (Err Disk) own seen before now = (before ≤ now) × Rose before now
StoreReopened (Err NotAJournal) own seen before now = IfSome seen (KeepsNoRecords own) × (now ≡ before)
StoreReopened (Err NoMemory) own seen before now = now ≡ before
