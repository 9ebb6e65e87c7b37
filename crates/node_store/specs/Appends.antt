-- Records that are appended to a node's journal, one after another.
use Rattle.std.specs.Prelude.{◌≡◌, ◌⊎◌, ℕ, ◌+◌, ◌≤◌, List, ◌++◌, length, flat_map, Option, IfSome, Result, Ok, Err}
use Rattle.io_edge.specs.Causes.{Rose}
use Rattle.io_edge.specs.Octets.{IsToldAlike}
use Rattle.io_edge.specs.Moments.{Clock}
use Rattle.mail_model.specs.Record.{Record, IsJournal, payloads_of, framed}
use Rattle.disk_journal.specs.Journal.{TellsJournal, HasGate, EndsAt}
use Rattle.disk_journal.specs.Images.{Adds, AddsAll}
use Rattle.node_store.specs.Disks.{View}
use Rattle.node_store.specs.declared.fault.KeepFault.{KeepFault}
use Rattle.node_store.specs.declared.fault.KeepFault.TheVariants.{Disk, NoMemory}

-- The records follow those that stood, and each stop of the machine leaves them. At each moment a stop left the first of them.
pub record AppendsRecords {D : Type 0} (on : View D) (old new : D) (end end' : ℕ) (wanted : List Record) : Type 0 where
  pub quiet : on.faults new ≡ on.faults old
  pub gate : HasGate (on.seen new) end'
  pub told : IsToldAlike (on.seen old) (on.seen new)
  pub grew : end' ≡ end + length (flat_map framed (payloads_of wanted))
  pub stand : (own : ℕ) (records : List Record) → TellsJournal (on.seen old) own (payloads_of records) end → TellsJournal (on.seen new) own (payloads_of (records ++ wanted)) end'
  pub moments : IfSome (on.seen old) (λ _. Adds on.clock old new end (payloads_of wanted))
  pub images : IfSome (on.seen old) (λ _. AddsAll on.clock old new end end' (payloads_of wanted))

-- where the octets are told, they are the journal of the node with these records, or with those that were pending too
abbrev pub HoldsFrontOrMore : Option (List ℕ) → ℕ → List Record → List Record → Type 0
HoldsFrontOrMore seen own records pending = IfSome seen (λ held. IsJournal own held (payloads_of records) ⊎ IsJournal own held (payloads_of (records ++ pending)))

-- The octets come from an image of old: where that was a journal with its gate at `end`, they are the journal with its records and then the front, or with what was pending too.
pub record IsEither {D : Type 0} (clock : Clock D) (old : D) (end : ℕ) (front pending : List Record) (c : List ℕ) : Type 0 where
  pub base : List ℕ
  pub was : clock.is_image old base
  pub is : (own : ℕ) (records : List Record) → EndsAt own base (payloads_of records) end
      → IsJournal own c (payloads_of (records ++ front)) ⊎ IsJournal own c (payloads_of ((records ++ front) ++ pending))

-- Work on a journal stopped: the front follows the records that stood, and one more record may.
pub record StopsAfter {D : Type 0} (on : View D) (old new : D) (end : ℕ) (front pending : List Record) : Type 0 where
  pub one : length pending ≤ 1
  pub told : IsToldAlike (on.seen old) (on.seen new)
  pub holds : (own : ℕ) (records : List Record) → TellsJournal (on.seen old) own (payloads_of records) end → HoldsFrontOrMore (on.seen new) own (records ++ front) pending
  pub moments : IfSome (on.seen old) (λ _. Adds on.clock old new end (payloads_of (front ++ pending)))
  pub images : IfSome (on.seen old) (λ _. (c : List ℕ) → on.clock.is_image new c → IsEither on.clock old end front pending c)

-- these are the first of the records that were wanted
pub record StopsWithin {D : Type 0} (on : View D) (old new : D) (end : ℕ) (wanted : List Record) : Type 0 where
  pub front : List Record
  pub pending : List Record
  pub missing : List Record
  pub is : wanted ≡ (front ++ pending) ++ missing
  pub stops : StopsAfter on old new end front pending

-- why work stopped: the count of faults rose, or memory ran out
abbrev pub Fails : KeepFault → ℕ → ℕ → Type 0
Fails Disk before now = (before ≤ now) × Rose before now
Fails NoMemory before now = before ≤ now

-- what was done to the journal where these records were to be appended
abbrev pub Written : {T D : Type 0} → View D → Result T KeepFault → D → D → ℕ → ℕ → List Record → Type 0
Written on (Ok _) old new end end' wanted = AppendsRecords on old new end end' wanted
Written on (Err fault) old new end end' wanted = StopsWithin on old new end wanted × Fails fault (on.faults old) (on.faults new)
