-- How the records of a journal that is there are read, one after another.
use Rattle.std.specs.Prelude.{◌≡◌, ℕ, ◌+◌, ◌≤◌, min, List, ◌∷◌, [], ◌++◌, length, take, drop, Option, Some, None, option_map, IfSome, Result, Ok, Err, All, if◌then◌else◌}
use Rattle.io_edge.specs.Causes.{Rose}
use Rattle.mail_model.specs.Identity.{Id}
use Rattle.mail_model.specs.Grammar.{IsRecord}
use Rattle.mail_model.specs.Listing.{is_same_id}
use Rattle.mail_model.specs.Record.{Record, IsJournal, journal_of, payload_of, payloads_of}
use Rattle.mail_model.specs.Record.Record.{Boot, Promise, Octets, Stated, Retired}
use Rattle.cluster_model.specs.Starts.{recovered, log_after}
use Rattle.disk_journal.specs.Journal.{HasGate, end_of}
use Rattle.disk_journal.specs.Reading.{AreAt, LieInRow, MayEndBefore}
use Rattle.disk_journal.specs.declared.place.Place.{Place}
use Rattle.record_form.specs.Entries.{IsEntryOf}
use Rattle.record_form.specs.declared.entry.DiskEntry.{DiskEntry}
use Rattle.message_store.specs.Places.{place_of, first_of}
use Rattle.object_table.specs.Tables.{Table, taken}
use Rattle.replica_push.specs.Rules.{TableTells}
use Rattle.node_store.specs.Places.{span_of, span_in}
use Rattle.node_store.specs.Keeps.{HoldsObjects}
use Rattle.node_store.specs.Recovers.{Recovers}
use Rattle.node_store.specs.Reopens.{KeepsNoRecords}
use Rattle.node_store.specs.declared.recovered.Recovered.{Recovered}
use Rattle.node_store.specs.declared.store.NodeStore.{NodeStore}
use Rattle.node_store.specs.declared.fault.ReadFault.{ReadFault}
use Rattle.node_store.specs.declared.fault.ReadFault.TheVariants.{Disk, NotAJournal, NoMemory}

-- the first octets of a payload, as many as fit
abbrev pub ReadsFront : Result ℕ ReadFault → Place → List ℕ → Option (List ℕ) → ℕ → ℕ → Type 0
ReadsFront (Ok count) place into seen before now = (count ≡ min (length into) place.length) × IfSome seen (λ held. take count into ≡ take count (drop place.at held)) × (now ≡ before)
ReadsFront (Err Disk) place into seen before now = (before ≤ now) × Rose before now
ReadsFront (Err NotAJournal) place into seen before now = MayEndBefore seen (place.at + place.length) × (now ≡ before)
ReadsFront (Err NoMemory) place into seen before now = ⊥

-- the id whose octets the record has
abbrev pub id_filed : Record → Option Id
id_filed (Octets id octets) = Some id
id_filed (Boot boot) = None
id_filed (Promise epoch) = None
id_filed (Stated key state) = None
id_filed (Retired key state) = None

-- the octets reach to the end of the place
abbrev pub HoldsPlace : List ℕ → Place → Type 0
HoldsPlace held place = place.at + place.length ≤ length held

abbrev pub payload_at : List ℕ → Place → List ℕ
payload_at held place = take place.length (drop place.at held)

-- the entry is that of a record whose payload is as long as the place
pub record FitsPlace (place : Place) (entry : DiskEntry) : Type 0 where
  pub one : Record
  pub is : IsEntryOf entry one
  pub fits : IsRecord one
  pub size : place.length ≡ length (payload_of one)

-- and its payload lies there, where the disk tells that
pub record LiesThere (seen : Option (List ℕ)) (place : Place) (entry : DiskEntry) : Type 0 where
  pub fitting : FitsPlace place entry
  pub told : IfSome seen (λ held. HoldsPlace held place → payload_at held place ≡ payload_of fitting.one)

-- no record's payload lies there
abbrev pub SpellsNone : Place → List ℕ → Type 0
SpellsNone place held = HoldsPlace held place → (one : Record) → IsRecord one → payload_at held place ≡ payload_of one → ⊥

-- what was read at a place
abbrev pub FoundEntry : Result DiskEntry ReadFault → Option (List ℕ) → Place → ℕ → ℕ → Type 0
FoundEntry (Ok entry) seen place before now = LiesThere seen place entry × (now ≡ before)
FoundEntry (Err Disk) seen place before now = (before ≤ now) × Rose before now
FoundEntry (Err NotAJournal) seen place before now = IfSome seen (SpellsNone place) × (now ≡ before)
FoundEntry (Err NoMemory) seen place before now = now ≡ before

-- what one more record makes of the table
abbrev pub table_with : Record → Table → Table
table_with (Stated key state) table = taken key state table
table_with (Boot boot) table = table
table_with (Promise epoch) table = table
table_with (Octets id octets) table = table
table_with (Retired key state) table = table

-- where a message is found, once one more record came whose payload lies at this place
abbrev pub place_with : Place → Record → Id → Option Place → Option Place
place_with place (Octets id octets) other held = if is_same_id id other then first_of held place else held
place_with place (Boot boot) other held = held
place_with place (Promise epoch) other held = held
place_with place (Stated key state) other held = held
place_with place (Retired key state) other held = held

-- the store takes one more record, whose payload lies at this place
pub record Retakes (place : Place) (one : Record) (old new : NodeStore) : Type 0 where
  pub own : new.own ≡ old.own
  pub ends : end_of new.journal ≡ end_of old.journal
  pub places : (id : Id) → place_of new.messages id ≡ place_with place one id (place_of old.messages id)
  pub objects : new.objects ≡ table_with one old.objects
  pub log : (records : List Record) → TableTells old.objects records → new.log ≡ log_after old.own records old.log (one ∷ [])

-- Of the records of a journal the first were read. The places of those that are left are where the others lie.
pub record HasReread (seen : Option (List ℕ)) (store : NodeStore) (found : Recovered) (left : List Place) : Type 0 where
  pub records : List Record
  pub says : TableTells store.objects records
  pub finds : (id : Id) → option_map span_of (place_of store.messages id) ≡ span_in id 16 records
  pub log : store.log ≡ recovered store.own records
  pub names : Recovers store.own records found
  pub fit : All IsRecord records
  pub objects : HoldsObjects store.objects
  pub row : LieInRow (length (journal_of store.own (payloads_of records))) left (end_of store.journal)
  pub gate : HasGate seen (end_of store.journal)
  pub told : IfSome seen (λ held. (others : List (List ℕ)) × IsJournal store.own held (payloads_of records ++ others)
      × AreAt (length (journal_of store.own (payloads_of records))) left others)

-- what reading more records gives, and why it stopped
abbrev pub Rereads : {T : Type 0} → Result T ReadFault → Option (List ℕ) → ℕ → NodeStore → Recovered → List Place → ℕ → ℕ → Type 0
Rereads (Ok _) seen own store found left before now = HasReread seen store found left × (store.own ≡ own) × (now ≡ before)
Rereads (Err Disk) seen own store found left before now = (before ≤ now) × Rose before now
Rereads (Err NotAJournal) seen own store found left before now = IfSome seen (KeepsNoRecords own) × (now ≡ before)
Rereads (Err NoMemory) seen own store found left before now = now ≡ before
