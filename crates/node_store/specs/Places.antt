-- Where the octets of a message lie in a journal.
use Rattle.std.specs.Prelude.{ℕ, ◌+◌, List, [], ◌∷◌, length, Option, Some, None, if◌then◌else◌}
use Rattle.mail_model.specs.Identity.{Id}
use Rattle.mail_model.specs.Listing.{is_same_id}
use Rattle.mail_model.specs.Record.{Record, payload_of, framed}
use Rattle.mail_model.specs.Record.Record.{Boot, Promise, Octets, Stated, Retired}
use Rattle.disk_journal.specs.declared.place.Place.{Place}

-- how many octets of a disk lie before some of them, and how many they are
pub record Span : Type 0 where
  pub at : ℕ
  pub count : ℕ

abbrev pub span_of : Place → Span
span_of place = record { at = place.at; count = place.length }

-- where the record's payload lies, where it has octets of the message; the record begins at this octet
abbrev pub span_at : Id → ℕ → Record → Option Span
span_at id at (Octets other octets) = if is_same_id other id then Some (record { at = at + 5; count = 14 + length octets }) else None
span_at id at (Boot boot) = None
span_at id at (Promise epoch) = None
span_at id at (Stated key state) = None
span_at id at (Retired key state) = None

-- the first of both that is there
abbrev pub first : Option Span → Option Span → Option Span
first None other = other
first (Some span) other = Some span

-- where the first record of the message's octets lies, where the records begin at this octet
abbrev pub span_in : Id → ℕ → List Record → Option Span
span_in id at [] = None
span_in id at (one ∷ records) = first (span_at id at one) (span_in id (at + length (framed (payload_of one))) records)
