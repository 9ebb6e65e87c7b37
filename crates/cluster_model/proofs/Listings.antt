-- A listing has each id once, only ids that a journal can spell, and is the only one.
use Rattle.std.proofs.Common.{◌≡◌, ◌≢◌, inl, inr, ⊎_elim, ℕ, zero, suc, ◌<◌, true, true≢false, List, [], ◌∷◌, length, map, get_or, All, AllPairs, Option, Some, refl, sym, ap, ◌∙◌, subst, arith}
use Rattle.std.specs.Prelude.{⊤, ◌↔◌}
use Rattle.std.specs.Cmp.{IsTotalOrder}
use Rattle.std.specs.Ordering.{is_lt, ordering_reverse}
use Rattle.std.specs.declared.cmp.Ordering.{Ordering}
use Rattle.std.specs.declared.cmp.Ordering.TheVariants.{Less, Equal, Greater}
use Rattle.std.proofs.lemmas.Cmp.{then_total, on_total, nat_cmp_total}
use Rattle.std.proofs.lemmas.List.Kept.{AllPairs-cons}
use Rattle.std.proofs.lemmas.List.Elements.{All-cons, All-nil}
use Rattle.mail_model.specs.Identity.{Id, State}
use Rattle.mail_model.specs.Identity.Key.{Message}
use Rattle.mail_model.specs.Grammar.{IsRecord}
use Rattle.mail_model.specs.Record.{Record}
use Rattle.mail_model.specs.Record.Record.{Octets}
use Rattle.mail_model.specs.Listing.{octets_in}
use Rattle.object_model.specs.Lists.{Among}
use Rattle.object_model.specs.Said.{said}
use Rattle.object_model.proofs.MapLaws.{id_total}
use Rattle.cluster_model.specs.Reads.{ListedCopy, copy_cmp, IsListedBefore, IsListedCopy}
use Rattle.cluster_model.specs.ReadLaws.{ListedOnce, ListedNamed, OneListing}
use Rattle.cluster_model.proofs.Filing.{octets_stand}

copy_total : IsTotalOrder copy_cmp
copy_total = then_total (on_total (λ c. c.stamp.count) nat_cmp_total) (then_total (on_total (λ c. c.stamp.boot) nat_cmp_total)
    (then_total (on_total (λ c. c.stamp.node) nat_cmp_total) (on_total (λ c. c.id) id_total)))

less_is : (o : Ordering) → is_lt o ≡ true → o ≡ Less
less_is Less e = refl
less_is Equal e = absurd (true≢false (sym e))
less_is Greater e = absurd (true≢false (sym e))

-- no copy stands before itself
not_before_self : (one : ListedCopy) → IsListedBefore one one → ⊥
not_before_self one e = never (copy_cmp one one) (less_is (copy_cmp one one) e) (copy_total.antisymm one one)
  where
    never : (o : Ordering) → o ≡ Less → o ≡ ordering_reverse o → ⊥
    never Less e f = absurd (cc f)
    never Equal e f = absurd (cc e)
    never Greater e f = absurd (cc e)

not_both : (one other : ListedCopy) → IsListedBefore one other → IsListedBefore other one → ⊥
not_both one other p q = not_before_self one (ap is_lt (copy_total.trans one other one (less_is (copy_cmp one other) p) (less_is (copy_cmp other one) q)))

-- a place of a member
place_of : {X : Type 0} (x : X) (xs : List X) → Among x xs → (k : ℕ) × (k < length xs) × ((d : X) → get_or xs k d ≡ x)
place_of x [] m = absurd m
place_of x (first ∷ xs) m = ⊎_elim
    (λ e. (0, omega arith, λ d. e))
    (λ later. let at = place_of x xs later in (suc at.0, omega (arith, at.1), λ d. at.2 d)) m

-- what comes after the first
abbrev AllAfter : ListedCopy → List ListedCopy → Type 0
AllAfter one items = (other : ListedCopy) → Among other items → IsListedBefore one other

abbrev Rising : List ListedCopy → Type 0
Rising [] = ⊤
Rising (one ∷ items) = AllAfter one items × Rising items

rising_of : (items : List ListedCopy) → AllPairs IsListedBefore items → Rising items
rising_of [] r = tt
rising_of (one ∷ items) r = (
  λ other m. let at = place_of other items m in
      subst (IsListedBefore one) (at.2 one) (r zero (suc at.0) one (omega arith) (omega (arith, at.1))),
  rising_of items (λ i j d lt within. r (suc i) (suc j) d (omega (arith, lt)) (omega (arith, within))),
)

module _ (user : List ℕ) (disk : List Record) where
  -- one id has one copy
  one_copy : (one other : ListedCopy) → IsListedCopy user disk one → IsListedCopy user disk other → one.id ≡ other.id → one ≡ other
  one_copy one other is js same =
      let states = same_state (said (Message user one.id) disk) _ _ is.says (ap (λ i. said (Message user i) disk) same ∙ js.says) in
      let octets = same_octets (octets_in one.id disk) is.octets js.octets is.held (ap (λ i. octets_in i disk) same ∙ js.held) in
      λ i. record {
        id = same i;
        stamp = ap (λ (s : State). s.stamp) states i;
        targets = ap (λ (s : State). s.targets) states i;
        size = (is.size ∙ ap length octets ∙ sym js.size) i;
      }
    where
      same_state : (o : Option State) (a b : State) → o ≡ Some a → o ≡ Some b → a ≡ b
      same_state o a b p q = cc

      same_octets : (o : Option (List ℕ)) (a b : List ℕ) → o ≡ Some a → o ≡ Some b → a ≡ b
      same_octets o a b p q = cc

  apart : (one : ListedCopy) (items : List ListedCopy) → IsListedCopy user disk one → ((copy : ListedCopy) → Among copy items → IsListedCopy user disk copy) → AllAfter one items
      → All (λ (i : Id). one.id ≢ i) (map (λ (copy : ListedCopy). copy.id) items)
  apart one [] is listed after = All-nil (λ (i : Id). one.id ≢ i)
  apart one (other ∷ items) is listed after = All-cons (λ (i : Id). one.id ≢ i) other.id (map (λ (copy : ListedCopy). copy.id) items)
      (λ same. not_before_self one (subst (IsListedBefore one) (sym (one_copy one other is (listed other (inl refl)) same)) (after other (inl refl))))
      (apart one items is (λ copy m. listed copy (inr m)) (λ copy m. after copy (inr m)))

  once : (items : List ListedCopy) → ((copy : ListedCopy) → Among copy items → IsListedCopy user disk copy) → Rising items → AllPairs (λ (a b : Id). a ≢ b) (map (λ (copy : ListedCopy). copy.id) items)
  once [] listed rises = λ i j d lt within. absurd (omega (arith, within))
  once (one ∷ items) listed rises = AllPairs-cons (λ (a b : Id). a ≢ b) one.id (map (λ (copy : ListedCopy). copy.id) items)
      (apart one items (listed one (inl refl)) (λ copy m. listed copy (inr m)) rises.0)
      (once items (λ copy m. listed copy (inr m)) rises.1)

-- rising lists of the same copies are one
same_items : (items others : List ListedCopy) → Rising items → Rising others → ((copy : ListedCopy) → Among copy items ↔ Among copy others) → items ≡ others
same_items [] [] r s same = refl
same_items [] (other ∷ others) r s same = absurd ((same other).1 (inl refl))
same_items (one ∷ items) [] r s same = absurd ((same one).0 (inl refl))
same_items (one ∷ items) (other ∷ others) r s same =
    let tails : items ≡ others = same_items items others r.1 s.1 (λ copy. (to copy, from copy)) in
    λ i. heads i ∷ tails i
  where
    heads : one ≡ other
    heads = ⊎_elim (λ e. sym e)
        (λ later. ⊎_elim (λ e. e) (λ after. absurd (not_both one other (r.0 other after) (s.0 one later))) ((same other).1 (inl refl)))
        ((same one).0 (inl refl))

    -- the first is not among what follows it
    not_again : (copy : ListedCopy) (rest : List ListedCopy) → AllAfter copy rest → Among copy rest → ⊥
    not_again copy rest after m = not_before_self copy (after copy m)

    to : (copy : ListedCopy) → Among copy items → Among copy others
    to copy m = ⊎_elim
        (λ e. absurd (not_again one items r.0 (subst (λ (c : ListedCopy). Among c items) (sym e ∙ sym heads) m)))
        (λ later. later) ((same copy).0 (inr m))

    from : (copy : ListedCopy) → Among copy others → Among copy items
    from copy m = ⊎_elim
        (λ e. absurd (not_again other others s.0 (subst (λ (c : ListedCopy). Among c others) (sym e ∙ heads) m)))
        (λ later. later) ((same copy).1 (inr m))

-- what is so of all is so of each
pub each_of : {X : Type 0} (P : X → Type 0) (x : X) (xs : List X) → All P xs → Among x xs → P x
each_of P x xs all m = let at = place_of x xs m in subst P (at.2 x) (all at.0 x at.1)

pub listed_once : ListedOnce
listed_once user disk items is = once user disk items (λ copy m. (is.exact copy).0 m) (rising_of items is.rising)

pub listed_named : ListedNamed
listed_named user disk items all is copy m =
    let listed = (is.exact copy).0 m in
    each_of IsRecord (Octets copy.id listed.octets) disk all (octets_stand copy.id listed.octets disk listed.held)

pub one_listing : OneListing
one_listing user disk items others is js = same_items items others (rising_of items is.rising) (rising_of others js.rising)
    (λ copy. (λ m. (js.exact copy).1 ((is.exact copy).0 m), λ m. (is.exact copy).1 ((js.exact copy).0 m)))
