-- Octets of a message that were read from the disk.
use Rattle.std.proofs.Common.{◌≡◌, ⊎_elim, ℕ, ◌+◌, ◌-◌, ◌<◌, ◌^◌, List, [], ◌∷◌, ◌++◌, length, take, drop, take_all, min, Bool, true, false, Option, Some, None, refl, sym, ap, subst, ◌∙◌, arith, if◌then◌else◌}
use Rattle.std.specs.Prelude.{IfSome, IsSome, option_map, Vec, Result, Ok, Err}
use Rattle.std.specs.declared.alloc.Global.{Global}
use Rattle.std.proofs.lemmas.List.{length-append, length-take, length-drop, map-append, take_at}
use Rattle.std.proofs.lemmas.Bool.{cases_lt}
use Rattle.mail_model.specs.Identity.{Id}
use Rattle.mail_model.specs.Listing.{is_same_id, octets_in}
use Rattle.mail_model.specs.Record.{Record, IsJournal, payload_of, payloads_of, framed}
use Rattle.mail_model.specs.Record.Record.{Boot, Promise, Octets, Stated, Retired}
use Rattle.object_model.proofs.StateLaws.{id_is}
use Rattle.disk_journal.specs.declared.place.Place.{Place}
use Rattle.message_store.specs.Places.{place_of, count_at, IsMessageAt}
use Rattle.message_store.specs.Fetches.{GivesOctets, IsNoMessageAt}
use Rattle.node_store.specs.Places.{Span, span_of, first, span_in}
use Rattle.node_store.specs.Keeps.{KeepsRecords}
use Rattle.node_store.specs.Reads.{part_in, given_octets, TellsKept, GivesWanted, FetchesAll, ReadsWanted}
use Rattle.node_store.specs.declared.store.NodeStore.{NodeStore}
use Rattle.node_store.specs.declared.fault.ReadFault.{ReadFault}
use Rattle.node_store.specs.declared.fault.ReadFault.TheVariants.{Disk, NotAJournal, NoMemory}
use Rattle.node_store.proofs.Journals.{frames_of}
use Rattle.node_store.proofs.Sized.{length_is}
use Rattle.node_store.proofs.Again.{Lies, payload_lies, size_is}

-- the first record of the message's octets, and where its payload begins
record IsFound (id : Id) (at : ℕ) (records : List Record) (octets : List ℕ) : Type 0 where
  before : List Record
  after : List Record
  is : records ≡ before ++ Octets id octets ∷ after
  span : span_in id at records ≡ Some (record { at = (at + length (frames_of before)) + 5; count = 14 + length octets })

some_list : (a b : List ℕ) → Some a ≡ Some b → a ≡ b
some_list a b e = cc e

found_later : (id : Id) (at : ℕ) (one : Record) (records : List Record) (octets : List ℕ) → span_in id at (one ∷ records) ≡ span_in id (at + length (framed (payload_of one))) records
    → IsFound id (at + length (framed (payload_of one))) records octets → IsFound id at (one ∷ records) octets
found_later id at one records octets same f = record {
  before = one ∷ f.before;
  after = f.after;
  is = ap (λ (l : List Record). one ∷ l) f.is;
  span = same ∙ f.span ∙ ap (λ (n : ℕ). Some (record { at = n; count = 14 + length octets })) (omega (arith, length-append (framed (payload_of one)) (frames_of f.before)));
}

found_in : (id : Id) (at : ℕ) (records : List Record) (octets : List ℕ) → octets_in id records ≡ Some octets → IsFound id at records octets
found_in id at [] octets e = absurd (cc e)
found_in id at (Boot boot ∷ records) octets e = found_later id at (Boot boot) records octets refl (found_in id _ records octets e)
found_in id at (Promise epoch ∷ records) octets e = found_later id at (Promise epoch) records octets refl (found_in id _ records octets e)
found_in id at (Stated key state ∷ records) octets e = found_later id at (Stated key state) records octets refl (found_in id _ records octets e)
found_in id at (Retired key state ∷ records) octets e = found_later id at (Retired key state) records octets refl (found_in id _ records octets e)
found_in id at (Octets other held ∷ records) octets e = by (is_same_id other id) refl e (λ later. found_in id (at + length (framed (payload_of (Octets other held)))) records octets later)
  where
    more : ℕ
    more = at + length (framed (payload_of (Octets other held)))

    here : Bool → Option Span
    here b = first (if b then Some (record { at = at + 5; count = 14 + length held }) else None) (span_in id more records)

    by : (b : Bool) → is_same_id other id ≡ b → (if b then Some held else octets_in id records) ≡ Some octets → (octets_in id records ≡ Some octets → IsFound id more records octets)
        → IsFound id at (Octets other held ∷ records) octets
    by false same s later = found_later id at (Octets other held) records octets (ap here same) (later s)
    by true same s later =
        let held_is : held ≡ octets = some_list held octets s in record {
          before = [];
          after = records;
          is = ap (λ (i : Id). Octets i held ∷ records) (id_is other id same) ∙ ap (λ (l : List ℕ). Octets id l ∷ records) held_is;
          span = ap here same ∙ ap (λ (l : List ℕ). Some (record { at = at + 5; count = 14 + length l })) held_is
              ∙ ap (λ (n : ℕ). Some (record { at = n + 5; count = 14 + length octets })) (omega arith);
        }

some_span : (a b : Span) → Some a ≡ Some b → a ≡ b
some_span a b e = cc e

module _ (store : NodeStore) (id : Id) (there : Place) (placed : place_of store.messages id ≡ Some there) (records : List Record) (k : KeepsRecords records store) where
  -- the octets that the place has
  record Stored : Type 0 where
    octets : List ℕ
    is : octets_in id records ≡ Some octets
    many : count_at there ≡ length octets

  stored : Stored
  stored = by (octets_in id records) refl
    where
      counts : Some (count_at there) ≡ option_map length (octets_in id records)
      counts = ap (option_map count_at) (sym placed) ∙ length_is id store records k

      some_is : (a b : ℕ) → Some a ≡ Some b → a ≡ b
      some_is a b e = cc e

      by : (o : Option (List ℕ)) → octets_in id records ≡ o → Stored
      by None e = absurd (never (count_at there) (counts ∙ ap (option_map length) e))
        where
          never : (n : ℕ) → Some n ≡ None → ⊥
          never n c = cc c
      by (Some octets) e = record { octets = octets; is = e; many = some_is (count_at there) (length octets) (counts ∙ ap (option_map length) e) }

  message_lies : (held : List ℕ) → IsJournal store.own held (payloads_of records) → IsMessageAt held there id stored.octets
  message_lies held journal = record { within = lies.reach; whole = lies.is }
    where
      f : IsFound id 16 records stored.octets
      f = found_in id 16 records stored.octets stored.is

      span_is : span_of there ≡ record { at = (16 + length (frames_of f.before)) + 5; count = 14 + length stored.octets }
      span_is = some_span _ _ (ap (option_map span_of) (sym placed) ∙ k.finds id ∙ f.span)

      begins : there.at ≡ (16 + length (frames_of f.before)) + 5
      begins = ap (λ (s : Span). s.at) span_is

      size : there.length ≡ 14 + length stored.octets
      size = ap (λ (s : Span). s.count) span_is

      split : payloads_of records ≡ payloads_of f.before ++ payload_of (Octets id stored.octets) ∷ payloads_of f.after
      split = ap payloads_of f.is ∙ map-append payload_of f.before (Octets id stored.octets ∷ f.after)

      lies : Lies held there (payload_of (Octets id stored.octets))
      lies = payload_lies store.own held (payloads_of f.before) (payload_of (Octets id stored.octets)) (payloads_of f.after) there
          (subst (IsJournal store.own held) split journal) (omega (arith, begins, size_is store.own f.before)) (omega (arith, size))

-- a part of so many octets
take_min : (n : ℕ) (xs : List ℕ) → take (min n (length xs)) xs ≡ take n xs
take_min n xs = ⊎_elim
    (λ (few : n < length xs). ap (λ (m : ℕ). take m xs) (omega (arith, few)))
    (λ many.
    let all : min n (length xs) ≡ length xs = omega (arith, many) in
    ap (λ (m : ℕ). take m xs) all ∙ take_all (length xs) xs (omega arith) ∙ sym (take_all n xs (omega (arith, many))))
    (cases_lt n (length xs))

part_read : (held : List ℕ) (there : Place) (id : Id) (start most count : ℕ) (into octets : List ℕ) → GivesOctets held there id start count into → IsMessageAt held there id octets
    → length into ≡ min most (length octets - start) → into ≡ take most (drop start octets)
part_read held there id start most count into octets g m size =
    let those = g.those octets m in
    let whole : count ≡ length into = omega (arith, those.0, size) in
    sym (take_all count into (omega (arith, whole))) ∙ those.1
    ∙ ap (λ (n : ℕ). take n (drop start octets)) (omega (arith, whole, size, length-drop start octets)) ∙ take_min most (drop start octets)

length_part : (start most : ℕ) (octets : List ℕ) → length (take most (drop start octets)) ≡ min most (length octets - start)
length_part start most octets = omega (arith, length-take most (drop start octets), length-drop start octets)

module _ (seen : Option (List ℕ)) (store : NodeStore) (id : Id) (start most : ℕ) where
  gives_told : (there : Place) → place_of store.messages id ≡ Some there → (o : Option (List ℕ)) (into : List ℕ) → length into ≡ min most (count_at there - start)
      → IfSome o (λ held. (count : ℕ) × GivesOctets held there id start count into)
      → IfSome o (λ held. (records : List Record) → TellsKept store held records → Some into ≡ part_in id start most records)
  gives_told there placed None into size g = tt
  gives_told there placed (Some held) into size g = λ records kept.
      let s = stored store id there placed records kept.0 in
      ap Some (part_read held there id start most g.0 into s.octets g.1 (message_lies store id there placed records kept.0 held kept.1) (omega (arith, size, s.many)))
      ∙ ap (option_map (λ (l : List ℕ). take most (drop start l))) (sym s.is)

  -- a part was read
  pub part_given : (there : Place) (into : List ℕ) → place_of store.messages id ≡ Some there → length into ≡ min most (count_at there - start)
      → IfSome seen (λ held. (count : ℕ) × GivesOctets held there id start count into) → GivesWanted seen store (part_in id start most) (Some into)
  part_given there into placed size g = record {
    sized = λ records k.
        let s = stored store id there placed records k in
        ap Some (omega (arith, size, s.many, length_part start most s.octets)) ∙ ap (λ (o : Option (List ℕ)). option_map length (option_map (λ (l : List ℕ). take most (drop start l)) o)) (sym s.is);
    those = gives_told there placed seen into size g;
  }

  none_told : (there : Place) → place_of store.messages id ≡ Some there → (o : Option (List ℕ)) → IfSome o (λ held. IsNoMessageAt held there id)
      → IfSome o (λ held. (records : List Record) → TellsKept store held records → ⊥)
  none_told there placed None none = tt
  none_told there placed (Some held) none = λ records kept.
      none (stored store id there placed records kept.0).octets (message_lies store id there placed records kept.0 held kept.1)

  -- none was read
  pub part_refused : (fault : ReadFault) (there : Place) (into : List ℕ) (before now : ℕ) → place_of store.messages id ≡ Some there
      → FetchesAll {T = Unit {0}} (Err fault) (place_of store.messages id) id start into seen before now → ReadsWanted (Err fault) store (part_in id start most) seen before now
  part_refused Disk there into before now placed f = f
  part_refused NotAJournal there into before now placed f = (none_told there placed seen (f.0 there placed), f.1)
  part_refused NoMemory there into before now placed f = absurd f

-- the place of octets that have a length
pub record HasPlace (o : Option Place) (n : ℕ) : Type 0 where
  pub there : Place
  pub is : o ≡ Some there
  pub many : n ≡ count_at there

pub has_place : (o : Option Place) (n : ℕ) → Some n ≡ option_map count_at o → HasPlace o n
has_place None n e = absurd (cc e)
has_place (Some there) n e = record { there = there; is = refl; many = some_is n (count_at there) e }
  where
    some_is : (a b : ℕ) → Some a ≡ Some b → a ≡ b
    some_is a b e = cc e

pub is_placed : (o : Option Place) (n : ℕ) → Some n ≡ option_map count_at o → IsSome o
is_placed None n e = absurd (cc e)
is_placed (Some there) n e = refl

-- no octets are stored
nothing_in : (store : NodeStore) (id : Id) (records : List Record) → KeepsRecords records store → ◌≡◌ {A = Option ℕ} None (option_map count_at (place_of store.messages id))
    → octets_in id records ≡ None
nothing_in store id records k none = by (octets_in id records) (none ∙ length_is id store records k)
  where
    by : (o : Option (List ℕ)) → ◌≡◌ {A = Option ℕ} None (option_map length o) → o ≡ None
    by None e = refl
    by (Some octets) e = absurd (cc e)

pub none_given : (seen : Option (List ℕ)) (store : NodeStore) (id : Id) (start most : ℕ) → ◌≡◌ {A = Option ℕ} None (option_map count_at (place_of store.messages id))
    → GivesWanted seen store (part_in id start most) None
none_given seen store id start most none = record {
  sized = λ records k. sym (ap (option_map length) (wanted records k));
  those = told seen;
}
  where
    wanted : (records : List Record) → KeepsRecords records store → part_in id start most records ≡ None
    wanted records k = ap (option_map (λ (l : List ℕ). take most (drop start l))) (nothing_in store id records k none)

    told : (o : Option (List ℕ)) → IfSome o (λ held. (records : List Record) → TellsKept store held records → None ≡ part_in id start most records)
    told None = tt
    told (Some held) = λ records kept. sym (wanted records kept.0)

-- what was lent to be filled comes back filled
pub lent_back : (filled lent : List ℕ) (size : ℕ) → size ≡ length lent → length filled ≡ length lent → take size (filled ++ drop (length filled) lent) ≡ filled
lent_back filled lent size is same = take_at filled (drop (length filled) lent) size (omega (arith, is, same))

-- all of a message's octets
module _ (store : NodeStore) (id : Id) where
  whole_part : (records : List Record) → KeepsRecords records store → part_in id 0 (2 ^ 64 - 1) records ≡ octets_in id records
  whole_part records k = by (place_of store.messages id) refl
    where
      by : (o : Option Place) → place_of store.messages id ≡ o → part_in id 0 (2 ^ 64 - 1) records ≡ octets_in id records
      by None e =
          let none = nothing_in store id records k (ap (option_map count_at) (sym e)) in
          ap (option_map (λ (l : List ℕ). take (2 ^ 64 - 1) (drop 0 l))) none ∙ sym none
      by (Some there) e =
          let s = stored store id there e records k in
          ap (option_map (λ (l : List ℕ). take (2 ^ 64 - 1) (drop 0 l))) s.is ∙ ap Some (take_all (2 ^ 64 - 1) s.octets (omega (arith, s.many, there.fits))) ∙ sym s.is

  whole_told : (seen given : Option (List ℕ)) → IfSome seen (λ held. (records : List Record) → TellsKept store held records → given ≡ part_in id 0 (2 ^ 64 - 1) records)
      → IfSome seen (λ held. (records : List Record) → TellsKept store held records → given ≡ octets_in id records)
  whole_told None given those = tt
  whole_told (Some held) given those = λ records kept. those records kept ∙ whole_part records kept.0

  pub whole_read : (result : Result (Option (Vec ℕ Global)) ReadFault) (seen : Option (List ℕ)) (before now : ℕ) → ReadsWanted result store (part_in id 0 (2 ^ 64 - 1)) seen before now
      → ReadsWanted result store (octets_in id) seen before now
  whole_read (Ok given) seen before now r = (
    record {
      sized = λ records k. r.0.sized records k ∙ ap (option_map length) (whole_part records k);
      those = whole_told seen (given_octets given) r.0.those;
    },
    r.1,
  )
  whole_read (Err Disk) seen before now r = r
  whole_read (Err NotAJournal) seen before now r = r
  whole_read (Err NoMemory) seen before now r = r
