-- What is spelt in octets has one reading: a payload, a journal, and a line of a transcript.
use Rattle.std.specs.Prelude.{◌≡◌, ◌<◌, ◌^◌, ℕ, List, All, ⊤}
use Rattle.mail_model.specs.Transcript.{Entry, entry_line}
use Rattle.mail_model.specs.Transcript.Entry.{Said, Event, Refused}
use Rattle.mail_model.specs.Record.{Record, IsJournal, payload_of, payloads_of}
use Rattle.mail_model.specs.Grammar.{IsRecord}

-- records of one payload are one record
abbrev pub OneSpelling : Type 0
OneSpelling = (one other : Record) → IsRecord one → IsRecord other → payload_of one ≡ payload_of other → one ≡ other

-- the same octets are the journal of one list of records
abbrev pub OneReadingOfJournal : Type 0
OneReadingOfJournal = (node : ℕ) (octets : List ℕ) (records others : List Record) → All IsRecord records → All IsRecord others
    → IsJournal node octets (payloads_of records) → IsJournal node octets (payloads_of others) → records ≡ others

-- the number of the session, if it has one, is one of 64 bits
abbrev pub IsNumbered : Entry → Type 0
IsNumbered (Said session text) = session < 2 ^ 64
IsNumbered (Event text) = ⊤
IsNumbered (Refused text) = ⊤

-- entries of one line are one entry
abbrev pub OneEntry : Type 0
OneEntry = (one other : Entry) → IsNumbered one → IsNumbered other → entry_line one ≡ entry_line other → one ≡ other
