-- Entries that were read at a place: what they say of the payload that lies there.
use Rattle.std.proofs.Common.{◌≡◌, ⊎_elim, ℕ, ◌+◌, ◌-◌, ◌≤◌, ◌<◌, List, [], ◌++◌, length, take, drop, take_all, min, Option, Some, None, refl, sym, ap, ◌∙◌, subst, arith}
use Rattle.std.specs.Prelude.{IfSome}
use Rattle.std.proofs.lemmas.List.{take-append-drop, length-take, length-drop, length-replicate, take-append-le}
use Rattle.std.proofs.Math.ListN.{replicate}
use Rattle.std.proofs.lemmas.Bool.{cases_lt}
use Rattle.mail_model.specs.Identity.{Id}
use Rattle.mail_model.specs.Grammar.{IsRecord, IsId}
use Rattle.mail_model.specs.Record.{Record, payload_of}
use Rattle.mail_model.specs.Record.Record.{Boot, Promise, Octets, Stated, Retired}
use Rattle.mail_model.proofs.OneRecord.{one_spelling}
use Rattle.disk_journal.specs.declared.place.Place.{Place}
use Rattle.record_form.specs.Entries.{IsEntryOf, Spells, ReadsAs}
use Rattle.record_form.specs.declared.entry.DiskEntry.{DiskEntry}
use Rattle.record_form.specs.declared.entry.DiskEntry.TheVariants as entry
use Rattle.node_store.specs.Rereads.{id_filed, HoldsPlace, payload_at, FitsPlace, LiesThere, SpellsNone}
use Rattle.node_store.proofs.Short.{short_state, short_retired}

-- what was read of a short payload is all of it
pub short_lies : (seen : Option (List ℕ)) (place : Place) (found : DiskEntry) (into : List ℕ) (count : ℕ) → place.length ≤ 256 → length into ≡ 256 → count ≡ min (length into) place.length
    → IfSome seen (λ held. take count into ≡ take count (drop place.at held)) → Spells (take count into) found → LiesThere seen place found
short_lies seen place found into count short size counted told spelt = record {
  fitting = record {
    one = spelt.one;
    is = spelt.told;
    fits = spelt.fits;
    size = omega (arith, short, size, counted, length-take count into, ap length spelt.whole);
  };
  told = by seen told;
}
  where
    whole : count ≡ place.length
    whole = omega (arith, short, size, counted)

    by : (o : Option (List ℕ)) → IfSome o (λ held. take count into ≡ take count (drop place.at held)) → IfSome o (λ held. HoldsPlace held place → payload_at held place ≡ payload_of spelt.one)
    by None t = tt
    by (Some held) t = λ _. ap (λ (n : ℕ). take n (drop place.at held)) (sym whole) ∙ sym t ∙ spelt.whole

-- a payload that is longer than those of all other records has a message's octets
pub record HasOctets (one : Record) : Type 0 where
  pub id : Id
  pub octets : List ℕ
  pub is : one ≡ Octets id octets

long_octets : (one : Record) → IsRecord one → 256 < length (payload_of one) → HasOctets one
long_octets (Boot boot) fits long = absurd (omega (arith, long))
long_octets (Promise epoch) fits long = absurd (omega (arith, long))
long_octets (Octets id octets) fits long = record { id = id; octets = octets; is = refl }
long_octets (Stated key state) fits long = absurd (omega (arith, long, short_state key state fits))
long_octets (Retired key state) fits long = absurd (omega (arith, long, short_retired key state fits))

head_of : (id : Id) (octets : List ℕ) → take 14 (payload_of (Octets id octets)) ≡ payload_of (Octets id [])
head_of id octets = refl

length_at : (held : List ℕ) (place : Place) → HoldsPlace held place → length (payload_at held place) ≡ place.length
length_at held place reach = omega (arith, reach, length-take place.length (drop place.at held), length-drop place.at held)

front_at : (held : List ℕ) (place : Place) → 256 < place.length → HoldsPlace held place → take 14 (payload_at held place) ≡ take 14 (drop place.at held)
front_at held place long reach =
    sym (take-append-le 14 (payload_at held place) (drop place.length (drop place.at held)) (omega (arith, long, length_at held place reach)))
    ∙ ap (take 14) (take-append-drop place.length (drop place.at held))

-- the head of the octets' record, where a long payload spells one
head_spelt : (held : List ℕ) (place : Place) (head : List ℕ) (one : Record) → 256 < place.length → HoldsPlace held place → head ≡ take 14 (drop place.at held)
    → IsRecord one → payload_at held place ≡ payload_of one → (id : Id) × (head ≡ payload_of (Octets id [])) × IsId id
head_spelt held place head one long reach read fits spelt =
    let o = long_octets one fits (omega (arith, long, ap length spelt, length_at held place reach)) in
    let fits_id : IsRecord (Octets o.id o.octets) = subst IsRecord o.is fits in (
      o.id,
      read ∙ sym (front_at held place long reach) ∙ ap (take 14) (spelt ∙ ap payload_of o.is) ∙ head_of o.id o.octets,
      fits_id,
    )

-- the whole head was read
pub head_told : (seen : Option (List ℕ)) (place : Place) (head : List ℕ) (count : ℕ) → 256 < place.length → length head ≡ 14 → count ≡ min (length head) place.length
    → IfSome seen (λ held. take count head ≡ take count (drop place.at held)) → IfSome seen (λ held. head ≡ take 14 (drop place.at held))
head_told None place head count long size counted told = tt
head_told (Some held) place head count long size counted told =
    let whole : count ≡ 14 = omega (arith, long, size, counted) in
    sym (take_all 14 head (omega (arith, size))) ∙ ap (λ (n : ℕ). take n head) (sym whole) ∙ told ∙ ap (λ (n : ℕ). take n (drop place.at held)) whole

-- a head that spells no record begins none
pub long_none : (seen : Option (List ℕ)) (place : Place) (head : List ℕ) → 256 < place.length → IfSome seen (λ held. head ≡ take 14 (drop place.at held)) → ReadsAs head None
    → IfSome seen (SpellsNone place)
long_none None place head long told none = tt
long_none (Some held) place head long told none = λ reach one fits spelt.
    let h = head_spelt held place head one long reach told fits spelt in
    none (Octets h.0 []) h.2 h.1

-- nor does one that spells another
pub long_other : (seen : Option (List ℕ)) (place : Place) (head : List ℕ) (found : DiskEntry) → 256 < place.length → IfSome seen (λ held. head ≡ take 14 (drop place.at held)) → Spells head found
    → ((one : Record) → IsEntryOf found one → ◌≡◌ {A = Option Id} None (id_filed one)) → IfSome seen (SpellsNone place)
long_other None place head found long told spelt none = tt
long_other (Some held) place head found long told spelt none = λ reach one fits is.
    let h = head_spelt held place head one long reach told fits is in
    let same : spelt.one ≡ Octets h.0 [] = one_spelling spelt.one (Octets h.0 []) spelt.fits h.2 (sym spelt.whole ∙ h.1) in
    never h.0 (none spelt.one spelt.told ∙ ap id_filed same)
  where
    never : (id : Id) → ◌≡◌ {A = Option Id} None (Some id) → ⊥
    never id e = cc

id_of : (one : Record) (id : Id) → id_filed one ≡ Some id → HasOctets one
id_of (Octets other octets) id e = record { id = other; octets = octets; is = refl }
id_of (Boot boot) id e = absurd (cc e)
id_of (Promise epoch) id e = absurd (cc e)
id_of (Stated key state) id e = absurd (cc e)
id_of (Retired key state) id e = absurd (cc e)

-- the entry of a message's octets, of which the head was read
pub long_lies : (seen : Option (List ℕ)) (place : Place) (head : List ℕ) (found : DiskEntry) (id : Id) → 256 < place.length → length head ≡ 14
    → IfSome seen (λ held. head ≡ take 14 (drop place.at held)) → Spells head found → ((one : Record) → IsEntryOf found one → Some id ≡ id_filed one)
    → LiesThere seen place (entry.Octets id (place.length - 14))
long_lies seen place head found id long size told spelt named = by seen told
  where
    h : HasOctets spelt.one
    h = id_of spelt.one id (sym (named spelt.one spelt.told))

    same_id : h.id ≡ id
    same_id = some_id h.id id (sym (ap id_filed h.is) ∙ sym (named spelt.one spelt.told))
      where
        some_id : (a b : Id) → Some a ≡ Some b → a ≡ b
        some_id a b e = cc e

    fits : IsId id
    fits = subst IsId same_id (let f : IsRecord (Octets h.id h.octets) = subst IsRecord h.is spelt.fits in f)

    head_is : head ≡ payload_of (Octets id [])
    head_is = sym (take_all 14 head (omega (arith, size))) ∙ ap (take 14) (spelt.whole ∙ ap payload_of h.is) ∙ head_of h.id h.octets ∙ ap (λ (i : Id). payload_of (Octets i [])) same_id

    with_octets : (octets : List ℕ) → length octets ≡ place.length - 14 → FitsPlace place (entry.Octets id (place.length - 14))
    with_octets octets many = record { one = Octets id octets; is = (octets, many, refl); fits = fits; size = omega (arith, long, many) }

    zeros : FitsPlace place (entry.Octets id (place.length - 14))
    zeros = with_octets (replicate (place.length - 14) 0) (length-replicate (place.length - 14) 0)

    spelt_there : (held : List ℕ) → HoldsPlace held place → head ≡ take 14 (drop place.at held) → payload_at held place ≡ payload_of (Octets id (drop 14 (payload_at held place)))
    spelt_there held reach read =
        sym (take-append-drop 14 (payload_at held place))
        ∙ ap (λ (l : List ℕ). l ++ drop 14 (payload_at held place)) (front_at held place long reach ∙ sym read ∙ head_is)

    by : (o : Option (List ℕ)) → IfSome o (λ held. head ≡ take 14 (drop place.at held)) → LiesThere o place (entry.Octets id (place.length - 14))
    by None t = record { fitting = zeros; told = tt }
    by (Some held) t = ⊎_elim
        (λ beyond. record { fitting = zeros; told = λ reach. absurd (omega (arith, beyond, reach)) })
        (λ within.
        let reach : HoldsPlace held place = omega (arith, within) in
        record {
          fitting = with_octets (drop 14 (payload_at held place)) (omega (arith, length-drop 14 (payload_at held place), length_at held place reach));
          told = λ _. spelt_there held reach t;
        })
        (cases_lt (length held) (place.at + place.length))
