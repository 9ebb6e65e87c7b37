-- Entries of a journal, and the payloads that spell them.
use Rattle.std.specs.Prelude.{◌≡◌, ℕ, List, [], length, Option, Some, None, Result, Ok, Err}
use Rattle.mail_model.specs.Record.{Record, payload_of}
use Rattle.mail_model.specs.Record as plain
use Rattle.mail_model.specs.Grammar.{IsRecord}
use Rattle.mail_base.specs.Seen.{key_seen}
use Rattle.record_form.specs.declared.entry.DiskEntry.{DiskEntry}
use Rattle.record_form.specs.declared.entry.DiskEntry.TheVariants.{Boot, Promise, Octets, State, Retired}

-- the record of the entry, without the octets of a message
abbrev pub head_record : DiskEntry → Record
head_record (Boot boot) = plain.Record.Boot boot
head_record (Promise epoch) = plain.Record.Promise epoch
head_record (Octets id count) = plain.Record.Octets id []
head_record (State key state) = plain.Record.Stated (key_seen key) state
head_record (Retired key state) = plain.Record.Retired (key_seen key) state

-- The entry is that of the record: of a message's octets it says how many they are.
abbrev pub IsEntryOf : DiskEntry → Record → Type 0
IsEntryOf (Boot boot) one = one ≡ plain.Record.Boot boot
IsEntryOf (Promise epoch) one = one ≡ plain.Record.Promise epoch
IsEntryOf (Octets id count) one = (octets : List ℕ) × (length octets ≡ count) × (one ≡ plain.Record.Octets id octets)
IsEntryOf (State key state) one = one ≡ plain.Record.Stated (key_seen key) state
IsEntryOf (Retired key state) one = one ≡ plain.Record.Retired (key_seen key) state

-- the payload is the one spelling of a record, and the entry is that of the record
pub record Spells (payload : List ℕ) (entry : DiskEntry) : Type 0 where
  pub one : Record
  pub told : IsEntryOf entry one
  pub fits : IsRecord one
  pub whole : payload ≡ payload_of one

-- what a payload is read as: the entry that it spells, or nothing where it spells no record
abbrev pub ReadsAs : List ℕ → Option DiskEntry → Type 0
ReadsAs payload (Some entry) = Spells payload entry
ReadsAs payload None = (one : Record) → IsRecord one → payload ≡ payload_of one → ⊥

-- what a function found: the entry of this record, or nothing where there is none
abbrev pub FindsEntry : Option DiskEntry → Option Record → Type 0
FindsEntry None read = read ≡ None
FindsEntry (Some entry) read = (one : Record) × (read ≡ Some one) × IsEntryOf entry one

-- a function that needs memory found the entry of this record, or nothing where there is none, or memory ran out
abbrev pub AnswersEntry : {E : Type 0} → Result (Option DiskEntry) E → Option Record → Type 0
AnswersEntry (Err e) read = Unit {0}
AnswersEntry (Ok found) read = FindsEntry found read
