-- The promise of a fresh listing is false of wrong listings.
use Rattle.std.proofs.Common.{◌≡◌, ◌≢◌, inl, inr, ⊎_elim, ◌+◌, ℕ, true, false, List, [], ◌∷◌, ◌++◌, length, map, refl, sym, ap, ap₂, ◌∙◌, subst, arith, codes, length-append, get_or}
use Rattle.std.specs.Fmt.{decimal}
use Rattle.std.specs.Ordering.{is_lt}
use Rattle.mail_model.specs.Identity.{Id, Stamp, id_text}
use Rattle.mail_model.specs.PopReplies.{Item, id_line, lines_from, last_line, listed_slots}
use Rattle.mail_model.specs.Record.{Record}
use Rattle.mail_model.specs.Site.{nth_id, nth_stamp}
use Rattle.object_model.specs.Lists.{Among}
use Rattle.standing_model.specs.Standing.{OnDisk, HoldsCopy, IsStampOf, AreStanding, stamp_cmp}
use Rattle.worked_settles.specs.FreshTape.{three_members, fresh_disks, nth_octets, ids_reply, item, right_items}
use Rattle.worked_settles.specs.WrongListings.{RefusesListing, RefusesMissing, RefusesTwice, RefusesOrder, RefusesDeleted, gone_disks}
use Rattle.worked_settles.proofs.Digits.{digit_one, digit_two}
use Rattle.worked_settles.proofs.Nodes.{by_node, filed_ids, held_is_filed}
use Rattle.worked_settles.proofs.Standing.{IsEither, alice, differ, first_records, second_records, third_records, second_stands, first_stamp, second_stamp}
use Rattle.worked_settles.proofs.FreshBack.{reader_back}
use Rattle.std.specs.Prelude.{slice_index_or}

abbrev ids_of : List Item → List Id
ids_of items = map (λ (item : Item). item.id) items

-- both ids have another text
texts_differ : id_text (nth_id 1) ≢ id_text (nth_id 2)
texts_differ same =
    let first : id_text (nth_id 1) ≡ codes "1.1.1" = ap (λ (d : List ℕ). d ++ 46 ∷ [] ++ d ++ 46 ∷ [] ++ d) digit_one in
    let second : id_text (nth_id 2) ≡ codes "1.1.2" = ap₂ (λ (d e : List ℕ). d ++ 46 ∷ [] ++ d ++ 46 ∷ [] ++ e) digit_one digit_two in
    let never : codes "1.1.1" ≡ codes "1.1.2" = sym first ∙ same ∙ second in
    omega (arith, ap (λ (l : List ℕ). get_or l 4 0) never)

-- so a text is one of them
one_text : (a b : Id) → IsEither a → IsEither b → id_text a ≡ id_text b → a ≡ b
one_text a b (inl is) (inl is_too) same = sym is ∙ is_too
one_text a b (inl is) (inr is_too) same = absurd (texts_differ (ap id_text is ∙ same ∙ sym (ap id_text is_too)))
one_text a b (inr is) (inl is_too) same = absurd (texts_differ (ap id_text is_too ∙ sym same ∙ sym (ap id_text is)))
one_text a b (inr is) (inr is_too) same = sym is ∙ is_too

-- what follows the same octets is the same
behind_same : (front a b : List ℕ) → front ++ a ≡ front ++ b → a ≡ b
behind_same [] a b same = same
behind_same (x ∷ front) a b same = behind_same front a b (cc same)

-- lines of ids tell the ids
tells : (n : ℕ) (xs ys : List Item) → ((id : Id) → Among id (ids_of xs) → IsEither id) → ((id : Id) → Among id (ids_of ys) → IsEither id)
    → lines_from id_line n (listed_slots xs) ++ last_line ≡ lines_from id_line n (listed_slots ys) ++ last_line → ids_of xs ≡ ids_of ys
tells n [] [] few few_too same = refl
tells n [] (y ∷ ys) few few_too same = absurd (omega (arith, ap length same, length-append (lines_from id_line (n + 1) (listed_slots ys)) last_line))
tells n (x ∷ xs) [] few few_too same = absurd (omega (arith, ap length same, length-append (lines_from id_line (n + 1) (listed_slots xs)) last_line))
tells n (x ∷ xs) (y ∷ ys) few few_too same =
    let first : id_line n x ≡ id_line n y = cc same in
    let later : lines_from id_line (n + 1) (listed_slots xs) ++ last_line ≡ lines_from id_line (n + 1) (listed_slots ys) ++ last_line = cc same in
    let texts = behind_same (decimal n ++ codes " ") (id_text x.id) (id_text y.id) first in
    ap₂ ◌∷◌ (one_text x.id y.id (few x.id (inl refl)) (few_too y.id (inl refl)) texts) (tells (n + 1) xs ys (λ id among. few id (inr among)) (λ id among. few_too id (inr among)) later)

-- disks that have the octets of both messages and of no other
module _ (third : List Record) (filed_there : filed_ids third ≡ nth_id 2 ∷ []) where
  abbrev disks : List (List Record)
  disks = first_records ∷ second_records ∷ third ∷ []

  held_either : (id : Id) (stamp : Stamp) (n : ℕ) → OnDisk disks n (HoldsCopy alice id stamp) → IsEither id
  held_either id stamp n on = by_node first_records second_records third (HoldsCopy alice id stamp) (IsEither id) n on
      (λ holds. ⊎_elim (λ e. inl e) (λ none. absurd none) (held_is_filed id holds.octets first_records holds.held))
      (λ holds. ⊎_elim (λ e. inr e) (λ more. ⊎_elim (λ e. inl e) (λ none. absurd none) more) (held_is_filed id holds.octets second_records holds.held))
      (λ holds. ⊎_elim (λ e. inr e) (λ none. absurd none) (subst (Among id) filed_there (held_is_filed id holds.octets third holds.held)))

  stand_either : (ids : List Id) → AreStanding disks three_members alice ids → (id : Id) → Among id ids → IsEither id
  stand_either ids stand id among = let stands = (stand.exact id).1 among in held_either id stands.stamp stands.n stands.here

  -- a listing of these two messages is refused, where it is not what stands
  refuses : (items : List Item) → ((id : Id) → Among id (ids_of items) → IsEither id) → (AreStanding disks three_members alice (ids_of items) → ⊥) → RefusesListing disks items
  refuses items few wrong acts sessions run are lists =
      let r = reader_back items acts run sessions are in
      let (told, stand, says) = lists three_members 2 alice r.session r.asked r.at r.ended in
      let same : ids_reply items ≡ ids_reply told = sym r.reply ∙ says in
      wrong (subst (AreStanding disks three_members alice) (sym (tells 1 items told few (stand_either (ids_of told) stand) (cc same))) stand)

-- an id of the right listing, or of a part of it
either_first : (id : Id) → Among id (nth_id 1 ∷ []) → IsEither id
either_first id (inl is) = inl is
either_first id (inr none) = absurd none

either_of : (id : Id) → Among id (nth_id 1 ∷ nth_id 2 ∷ []) → IsEither id
either_of id (inl is) = inl is
either_of id (inr (inl is)) = inr is
either_of id (inr (inr none)) = absurd none

either_twice : (id : Id) → Among id (nth_id 1 ∷ nth_id 2 ∷ nth_id 2 ∷ []) → IsEither id
either_twice id (inl is) = inl is
either_twice id (inr (inl is)) = inr is
either_twice id (inr (inr (inl is))) = inr is
either_twice id (inr (inr (inr none))) = absurd none

either_back : (id : Id) → Among id (nth_id 2 ∷ nth_id 1 ∷ []) → IsEither id
either_back id (inl is) = inr is
either_back id (inr (inl is)) = inl is
either_back id (inr (inr none)) = absurd none

-- the second message stands, and is missing
pub missing_is_refused : RefusesMissing
missing_is_refused = refuses third_records refl (item 1 ∷ []) either_first (λ stand. absent ((stand.exact (nth_id 2)).0 second_stands))
  where
    absent : Among (nth_id 2) (nth_id 1 ∷ []) → ⊥
    absent (inl is) = differ is
    absent (inr none) = none

pub twice_is_refused : RefusesTwice
twice_is_refused = refuses third_records refl (item 1 ∷ item 2 ∷ item 2 ∷ []) either_twice (λ stand. stand.once 1 2 (nth_id 1) (omega arith) (omega arith) refl)

-- each has one stamp, by whatever a member says
first_latest : IsStampOf fresh_disks three_members alice (nth_id 1) (nth_stamp 1)
first_latest = record {
  n = 1;
  member = inl refl;
  says = (first_records, refl, record { targets = 3; says = refl; octets = nth_octets 1; held = refl });
  latest = λ m other among on. subst (λ (s : Stamp). is_lt (stamp_cmp (nth_stamp 1) s) ≡ false) (first_stamp other m on) refl;
}

second_latest : IsStampOf fresh_disks three_members alice (nth_id 2) (nth_stamp 2)
second_latest = record {
  n = 2;
  member = inr (inl refl);
  says = (second_records, refl, record { targets = 6; says = refl; octets = nth_octets 2; held = refl });
  latest = λ m other among on. subst (λ (s : Stamp). is_lt (stamp_cmp (nth_stamp 2) s) ≡ false) (second_stamp other m on) refl;
}

pub order_is_refused : RefusesOrder
order_is_refused = refuses third_records refl (item 2 ∷ item 1 ∷ []) either_back
    (λ stand. let never : true ≡ false = stand.rising 0 1 (nth_id 1) (omega arith) (omega arith) (nth_stamp 2) (nth_stamp 1) second_latest first_latest in cc)

-- node 3 says that it is gone
pub deleted_is_refused : RefusesDeleted
deleted_is_refused = refuses (slice_index_or gone_disks 2 []) refl right_items either_of
    (λ stand. ((stand.exact (nth_id 2)).1 (inr (inl refl))).not_gone 3 (inr (inr (inl refl))) (slice_index_or gone_disks 2 [], refl, refl))
