-- What a call that changes a store does, beside the machine's function of stores.
use Rattle.std.specs.Prelude.{◌≡◌, List, ◌++◌, Result, Ok, Err}
use Rattle.mail_model.specs.Record.{Record}
use Rattle.cluster_model.specs.Store.{Store}
use Rattle.cluster_model.specs.Makes.{IsWorkCut}
use Rattle.disk_journal.specs.Journal.{end_of}
use Rattle.node_store.specs.Disks.{View}
use Rattle.node_store.specs.Appends.{AppendsRecords, StopsAfter, Fails}
use Rattle.node_store.specs.Keeps.{KeepsRecords, seen_with, CanGoOn}
use Rattle.node_store.specs.declared.store.NodeStore.{NodeStore}
use Rattle.node_store.specs.declared.fault.KeepFault.{KeepFault}

-- It was done. Whatever records the store kept, its log and its records are those that the function makes, and what it added stands on the disk.
pub record Done {D : Type 0} (on : View D) (f : Store → Store) (old : NodeStore) (before : D) (new : NodeStore) (after : D) : Type 0 where
  pub added : List Record
  pub whole : (records : List Record) → KeepsRecords records old → (f (seen_with old records)).disk ≡ records ++ added
  pub log : (records : List Record) → KeepsRecords records old → (f (seen_with old records)).log ≡ new.log
  pub keeps : (records : List Record) → KeepsRecords records old → KeepsRecords (records ++ added) new
  pub own : new.own ≡ old.own
  pub sound : CanGoOn (on.seen after) new
  pub appends : AppendsRecords on before after (end_of old.journal) (end_of new.journal) added

-- It stopped. Of the records that the function makes the first stand on the disk, and one more may: the front, and what is pending.
pub record WorkIsCutShort {D : Type 0} (on : View D) (f : Store → Store) (old : NodeStore) (before after : D) : Type 0 where
  pub front : List Record
  pub pending : List Record
  pub cut : (records : List Record) → KeepsRecords records old → IsWorkCut records (f (seen_with old records)).disk front pending
  pub stops : StopsAfter on before after (end_of old.journal) front pending

-- What was done, or how it stopped. After it stopped the node goes down, so nothing is said of the store.
abbrev pub WroteChange : {T D : Type 0} → View D → (Store → Store) → Result T KeepFault → NodeStore → D → NodeStore → D → Type 0
WroteChange on f (Ok _) old before new after = Done on f old before new after
WroteChange on f (Err fault) old before new after = WorkIsCutShort on f old before after × Fails fault (on.faults before) (on.faults after)
