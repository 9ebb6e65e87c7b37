-- What a node's store has of the records that stand in its journal.
use Rattle.std.specs.Prelude.{◌≡◌, ℕ, List, length, Option, Some, option_map, All}
use Rattle.std.specs.FinMap as fin
use Rattle.mail_model.specs.Identity.{Id, Key, State}
use Rattle.mail_model.specs.Grammar.{IsRecord, IsObject}
use Rattle.mail_model.specs.Record.{Record, journal_of, payloads_of}
use Rattle.cluster_model.specs.Store.{Store}
use Rattle.object_model.specs.UpdateLog.{Logged, Log}
use Rattle.disk_journal.specs.Journal.{end_of, HasGate}
use Rattle.message_store.specs.Places.{place_of}
use Rattle.object_table.specs.Tables.{Table}
use Rattle.replica_push.specs.Rules.{TableTells}
use Rattle.node_store.specs.Places.{span_of, span_in}
use Rattle.node_store.specs.declared.store.NodeStore.{NodeStore}

-- The journal ends where these records end; the table holds what they say; the octets of each message are found at their first record.
pub record KeepsRecords (records : List Record) (store : NodeStore) : Type 0 where
  pub ends : end_of store.journal ≡ length (journal_of store.own (payloads_of records))
  pub says : TableTells store.objects records
  pub finds : (id : Id) → option_map span_of (place_of store.messages id) ≡ span_in id 16 records
  pub fit : All IsRecord records

-- the store in the machine's words: its log, and the records of its disk
abbrev pub seen_with : NodeStore → List Record → Store
seen_with store records = record { log = store.log; disk = records }

-- a record can spell each state that stands
abbrev pub HoldsObjects : Table → Type 0
HoldsObjects table = (key : Key) (state : State) → fin.get table key ≡ Some state → IsObject key state

-- so it can of each entry of a log
abbrev pub HoldsLogged : Log → Type 0
HoldsLogged log = (key : Key) (entry : Logged) → fin.get log key ≡ Some entry → IsObject key entry.state

-- What holds of each store that is up: it can go on, whatever its records are.
pub record CanGoOn (seen : Option (List ℕ)) (store : NodeStore) : Type 0 where
  pub gate : HasGate seen (end_of store.journal)
  pub objects : HoldsObjects store.objects
  pub logged : HoldsLogged store.log
