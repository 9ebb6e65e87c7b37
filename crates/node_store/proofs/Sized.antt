-- How many octets of a message are stored.
use Rattle.std.proofs.Common.{◌≡◌, ℕ, ◌+◌, ◌-◌, List, [], ◌∷◌, length, Bool, true, false, Option, Some, None, refl, ap, ◌∙◌, arith, if◌then◌else◌}
use Rattle.std.specs.Prelude.{option_map}
use Rattle.mail_model.specs.Identity.{Id}
use Rattle.mail_model.specs.Listing.{is_same_id, octets_in}
use Rattle.mail_model.specs.Record.{Record, payload_of, framed}
use Rattle.mail_model.specs.Record.Record.{Boot, Promise, Octets, Stated, Retired}
use Rattle.disk_journal.specs.declared.place.Place.{Place}
use Rattle.message_store.specs.Places.{place_of, count_at}
use Rattle.node_store.specs.Places.{Span, span_of, first, span_in}
use Rattle.node_store.specs.Keeps.{KeepsRecords}
use Rattle.node_store.specs.declared.store.NodeStore.{NodeStore}

abbrev octets_of : Span → ℕ
octets_of span = span.count - 14

span_sized : (id : Id) (at : ℕ) (records : List Record) → option_map octets_of (span_in id at records) ≡ option_map length (octets_in id records)
span_sized id at [] = refl
span_sized id at (Boot boot ∷ records) = span_sized id _ records
span_sized id at (Promise epoch ∷ records) = span_sized id _ records
span_sized id at (Stated key state ∷ records) = span_sized id _ records
span_sized id at (Retired key state ∷ records) = span_sized id _ records
span_sized id at (Octets other octets ∷ records) = by (is_same_id other id) (span_sized id (at + length (framed (payload_of (Octets other octets)))) records)
  where
    more : ℕ
    more = at + length (framed (payload_of (Octets other octets)))

    fourteen : (n : ℕ) → 14 + n - 14 ≡ n
    fourteen n = omega arith

    by : (b : Bool) → option_map octets_of (span_in id more records) ≡ option_map length (octets_in id records)
        → option_map octets_of (first (if b then Some (record { at = at + 5; count = 14 + length octets }) else None) (span_in id more records))
        ≡ option_map length (if b then Some octets else octets_in id records)
    by true rest = ap Some (fourteen (length octets))
    by false rest = rest

counted : (o : Option Place) → option_map count_at o ≡ option_map octets_of (option_map span_of o)
counted None = refl
counted (Some place) = refl

pub length_is : (id : Id) (store : NodeStore) (records : List Record) → KeepsRecords records store → option_map count_at (place_of store.messages id) ≡ option_map length (octets_in id records)
length_is id store records k = counted (place_of store.messages id) ∙ ap (option_map octets_of) (k.finds id) ∙ span_sized id 16 records
