-- What the calls of a store make of it, in the machine's words.
use Rattle.std.specs.Prelude.{◌≡◌, ℕ, Bool, true, false, if◌then◌else◌, None, Some, List, [], ◌∷◌, ◌++◌, Option, Result, Ok, Err}
use Rattle.std.specs.FinMap as fin
use Rattle.io_edge.specs.Causes.{Rose}
use Rattle.mail_model.specs.Identity.{Id, EpochId, Key, State}
use Rattle.mail_model.specs.Record.{Record}
use Rattle.mail_model.specs.Record.Record.{Boot, Promise, Retired}
use Rattle.object_model.specs.Said.{said}
use Rattle.object_model.specs.UpdateLog.{retired, is_of}
use Rattle.update_log.specs.Answers.{answer_at}
use Rattle.update_log.specs.declared.logged.Acked.{Acked}
use Rattle.update_log.specs.declared.logged.Acked.TheVariants.{Cleared, Emptied, Other}
use Rattle.replica_push.specs.Acks.{after_ack}
use Rattle.replica_push.specs.Pushes.{wider}
use Rattle.replica_push.specs.Rules.{retired_by}
use Rattle.cluster_model.specs.Store.{Store, take_one, with_octets}
use Rattle.disk_journal.specs.Journal.{TellsJournal, HasGate, end_of}
use Rattle.disk_journal.specs.declared.journal.Journal.{Journal}
use Rattle.node_store.specs.Keeps.{KeepsRecords, CanGoOn}
use Rattle.node_store.specs.declared.store.NodeStore.{NodeStore}
use Rattle.node_store.specs.declared.fault.KeepFault.{KeepFault}
use Rattle.node_store.specs.declared.fault.KeepFault.TheVariants.{Disk, NoMemory}

-- a store that keeps no records
pub record IsNew (own : ℕ) (store : NodeStore) : Type 0 where
  pub own_is : store.own ≡ own
  pub keeps : KeepsRecords [] store
  pub log : store.log ≡ fin.empty

-- what a new journal leaves, or nothing where memory was out
abbrev pub HasJournal : Result Journal KeepFault → ℕ → Option (List ℕ) → Option (List ℕ) → ℕ → ℕ → Type 0
HasJournal (Ok journal) own old new before now = TellsJournal new own [] (end_of journal) × HasGate new (end_of journal) × (now ≡ before) × (end_of journal ≡ 16)
HasJournal (Err Disk) own old new before now = Rose before now
HasJournal (Err NoMemory) own old new before now = (new ≡ old) × (now ≡ before)

-- what a creation leaves: a journal without records, or nothing where memory was out
abbrev pub StoreCreated : Result NodeStore KeepFault → ℕ → Option (List ℕ) → Option (List ℕ) → ℕ → ℕ → Type 0
StoreCreated (Ok store) own old new before now = IsNew own store × CanGoOn new store × TellsJournal new own [] (end_of store.journal) × (now ≡ before)
StoreCreated (Err Disk) own old new before now = Rose before now
StoreCreated (Err NoMemory) own old new before now = (new ≡ old) × (now ≡ before)

-- a boot is recorded
abbrev pub with_boot : ℕ → Store → Store
with_boot boot store = record { log = store.log; disk = store.disk ++ Boot boot ∷ [] }

-- a promise is recorded
abbrev pub with_promise : EpochId → Store → Store
with_promise epoch store = record { log = store.log; disk = store.disk ++ Promise epoch ∷ [] }

-- octets are stored where they are wanted
abbrev pub with_stored : Id → List (List ℕ) → List ℕ → Store → Store
with_stored id users octets store = record { log = store.log; disk = with_octets id users octets store.disk }

-- A node acknowledged a state: it is taken out of the log's entry, and with the last one the state is retired.
abbrev pub acked_by : Key → State → ℕ → Store → Store
acked_by key state by store = record {
  log = after_ack key state by (answer_at state by (fin.get store.log key)) store.log;
  disk = store.disk ++ retired_by key state (answer_at state by (fin.get store.log key));
}

-- whether an acknowledgement took the entry out
abbrev pub is_emptied : Acked → Bool
is_emptied Emptied = true
is_emptied Cleared = false
is_emptied Other = false

-- that a state is retired is recorded where its entry was taken out
abbrev pub retired_where : Key → State → Bool → List Record
retired_where key state b = if b then Retired key state ∷ [] else []

-- All targets of a state have it: the entry of that very state is taken out.
abbrev pub retired_in : Key → State → Store → Store
retired_in key state store = record { log = retired key state store.log; disk = store.disk ++ retired_where key state (is_of state (fin.get store.log key)) }

-- the wider state is taken, where there is one
abbrev pub take_wider : ℕ → Key → Option State → Store → Store
take_wider own key None store = store
take_wider own key (Some next) store = take_one own (record { key = key; state = next }) store

-- a copy that is here gets a target more
abbrev pub widened_in : ℕ → Key → ℕ → Store → Store
widened_in own key to store = take_wider own key (wider (said key store.disk) to) store
