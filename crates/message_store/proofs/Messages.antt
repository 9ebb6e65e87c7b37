-- What octets that were read say of the message whose record lies there.
use Rattle.std.proofs.Common.{◌≡◌, ⊎_elim, ℕ, ◌+◌, ◌-◌, ◌≤◌, ◌<◌, List, [], ◌∷◌, ◌++◌, length, take, drop, take_all, min, Bool, true, false, not, Option, Some, None, nat_eq, refl, sym, ap, ◌∙◌, subst, arith, true≢false, eq-eqb, if◌then◌else◌}
use Rattle.std.specs.Prelude.{IfSome}
use Rattle.std.specs.Cmp.Lexicographic.{pointwise}
use Rattle.std.proofs.lemmas.List.{take-append-drop, length-take, length-drop, take-append-le, drop-append-le, drop-drop}
use Rattle.std.proofs.lemmas.Bool.{cases_lt}
use Rattle.mail_model.specs.Identity.{Id}
use Rattle.mail_model.specs.Record.{payload_of}
use Rattle.mail_model.specs.Record.Record.{Octets}
use Rattle.disk_journal.specs.declared.place.Place.{Place}
use Rattle.message_store.specs.Places.{first_of, IsMessageAt}
use Rattle.message_store.specs.Fetches.{GivesOctets, IsNoMessageAt}

-- the record has the head and the octets
pub size_is : (held : List ℕ) (place : Place) (id : Id) (octets : List ℕ) → IsMessageAt held place id octets → place.length ≡ 14 + length octets
size_is held place id octets m =
    omega (arith, m.within, ap length m.whole, length-take place.length (drop place.at held), length-drop place.at held)

-- what lies there begins with the record
parts_are : (held : List ℕ) (place : Place) (id : Id) (octets : List ℕ) → IsMessageAt held place id octets
    → drop place.at held ≡ payload_of (Octets id octets) ++ drop place.length (drop place.at held)
parts_are held place id octets m =
    sym (take-append-drop place.length (drop place.at held)) ∙ ap (λ (l : List ℕ). l ++ drop place.length (drop place.at held)) m.whole

head_is : (held : List ℕ) (place : Place) (id : Id) (octets : List ℕ) → IsMessageAt held place id octets → take 14 (drop place.at held) ≡ payload_of (Octets id [])
head_is held place id octets m = ap (take 14) (parts_are held place id octets m)

-- another head is no record of the message
pub no_head : (held : List ℕ) (place : Place) (id : Id) (head : List ℕ) → take 14 head ≡ take 14 (drop (place.at + 0) held) → (take 14 head ≡ payload_of (Octets id []) → ⊥) → IsNoMessageAt held place id
no_head held place id head read other octets m =
    other (read ∙ ap (λ (n : ℕ). take 14 (drop n held)) (omega arith) ∙ head_is held place id octets m)

-- nor is one that is too short, or that the disk ends before
pub too_short : (held : List ℕ) (place : Place) (id : Id) → place.length < 14 → IsNoMessageAt held place id
too_short held place id short octets m = omega (arith, size_is held place id octets m, short)

pub ends_before : (held : List ℕ) (place : Place) (id : Id) (end : ℕ) → length held < end → end ≡ place.at + place.length → IsNoMessageAt held place id
ends_before held place id end before is octets m = omega (arith, m.within, before, is)

-- octets after the head are the message's
those_are : (held : List ℕ) (place : Place) (id : Id) (octets : List ℕ) (start count room : ℕ) → IsMessageAt held place id octets
    → count ≡ min room (length octets - start) → take count (drop (place.at + 14 + start) held) ≡ take count (drop start octets)
those_are held place id octets start count room m is =
    let more = drop place.length (drop place.at held) in
    let after : drop (place.at + 14 + start) held ≡ drop start (octets ++ more) =
    sym (drop-drop start (place.at + 14) held) ∙ ap (drop start) (sym (drop-drop 14 place.at held) ∙ ap (drop 14) (parts_are held place id octets m)) in
    ap (take count) after ∙ ⊎_elim
    (λ within.
    let long : start ≤ length octets = omega (arith, within) in
    ap (take count) (drop-append-le start octets more long)
    ∙ take-append-le count (drop start octets) more (omega (arith, is, length-drop start octets)))
    (λ beyond.
    let none : count ≡ 0 = omega (arith, is, beyond) in
    subst (λ (n : ℕ). take n (drop start (octets ++ more)) ≡ take n (drop start octets)) (sym none) refl)
    (cases_lt start (length octets))

-- what a read of the octets after the head gave
pub gives : (held : List ℕ) (place : Place) (id : Id) (start count : ℕ) (into : List ℕ) → take 14 (drop place.at held) ≡ payload_of (Octets id [])
    → count ≡ min (length into) (place.length - 14 - start) → take count into ≡ take count (drop (place.at + 14 + start) held) → GivesOctets held place id start count into
gives held place id start count into head is read = record {
  head = head;
  those = λ octets m.
      let size = size_is held place id octets m in
      let fits : count ≡ min (length into) (length octets - start) = omega (arith, is, size) in
      (fits, read ∙ those_are held place id octets start count (length into) m fits);
}

-- what the code's steps add up to

abbrev IsTakenAt : Option (List ℕ) → ℕ → List ℕ → ℕ → Type 0
IsTakenAt seen count into at = IfSome seen (λ held. take count into ≡ take count (drop at held))

same_is_pointwise : (a : List ℕ) → pointwise nat_eq a a ≡ true
same_is_pointwise [] = refl
same_is_pointwise (x ∷ a) = rw (eq-eqb x x refl, same_is_pointwise a) refl

-- octets that are not the head
not_the_head : (into head : List ℕ) (id : Id) → length into ≡ 14 → head ≡ payload_of (Octets id []) → true ≡ not (pointwise nat_eq into head) → take 14 into ≡ payload_of (Octets id []) → ⊥
not_the_head into head id size is differ same =
    let whole : take 14 into ≡ into = take_all 14 into (omega (arith, size)) in
    let both : into ≡ head = sym whole ∙ same ∙ sym is in
    let equal : pointwise nat_eq into head ≡ true = subst (λ (l : List ℕ). pointwise nat_eq into l ≡ true) both (same_is_pointwise into) in
    true≢false (differ ∙ ap not equal)

pub other_head : (seen : Option (List ℕ)) (place : Place) (id : Id) (count : ℕ) (into head : List ℕ) → 14 ≤ place.length → length into ≡ 14 → count ≡ min (length into) (place.length - 0)
    → IsTakenAt seen count into (place.at + 0) → head ≡ payload_of (Octets id []) → true ≡ not (pointwise nat_eq into head) → IfSome seen (λ held. IsNoMessageAt held place id)
other_head None place id count into head long size is read spelt differ = tt
other_head (Some held) place id count into head long size is read spelt differ =
    let all : count ≡ 14 = omega (arith, is, size, long) in
    no_head held place id into (subst (λ (n : ℕ). take n into ≡ take n (drop (place.at + 0) held)) all read) (not_the_head into head id size spelt differ)

pub gives_where_told : (seen mid : Option (List ℕ)) (place after : Place) (id : Id) (start count : ℕ) (into : List ℕ) → mid ≡ seen → after.at ≡ place.at + 14 → after.length ≡ place.length - 14
    → IfSome seen (λ held. take 14 (drop place.at held) ≡ payload_of (Octets id [])) → count ≡ min (length into) (after.length - start) → IsTakenAt mid count into (after.at + start)
    → IfSome seen (λ held. GivesOctets held place id start count into)
gives_where_told None mid place after id start count into same at size head is read = tt
gives_where_told (Some held) mid place after id start count into same at size head is read =
    let told : IsTakenAt (Some held) count into (after.at + start) = subst (λ (s : Option (List ℕ)). IsTakenAt s count into (after.at + start)) same read in
    gives held place id start count into head (is ∙ ap (λ (n : ℕ). min (length into) (n - start)) size)
    (told ∙ ap (λ (n : ℕ). take count (drop (n + start) held)) at)

-- a place that was made room for first, and then put
pub put_twice : (b : Bool) (place room : Place) (old one mid new : Option Place) → new ≡ (if b then Some place else mid) → mid ≡ (if b then Some room else one) → old ≡ None
    → new ≡ (if b then first_of old place else one)
put_twice true place room old one mid new is_new is_mid none = is_new ∙ ap (λ (o : Option Place). first_of o place) (sym none)
put_twice false place room old one mid new is_new is_mid none = is_new ∙ is_mid
