-- UIDL shows no id for two numbers of one session.
use Rattle.std.proofs.Common.{◌≡◌, ◌≢◌, ◌⊎◌, ⊎_elim, ◌<◌, ◌≤◌, ◌^◌, ℕ, zero, suc, List, [], ◌∷◌, ◌++◌, length, map, AllPairs, Some, refl, sym, ap, ap₂, ◌∙◌, subst, arith, slice_get, append_assoc}
use Rattle.std.specs.Prelude.{slice_index_or}
use Rattle.std.specs.Fmt.{decimal}
use Rattle.std.specs.Str.Parse.{AllDigits}
use Rattle.std.proofs.lemmas.Fmt.{decimal_is_IsNumeral, decimal_injective}
use Rattle.std.proofs.lemmas.Str.Parse.{tells_digits}
use Rattle.std.proofs.lemmas.Bool.{cases_lt}
use Rattle.std.proofs.lemmas.Option.{none-some}
use Rattle.mail_model.specs.Identity.{Id, id_text}
use Rattle.mail_model.specs.Grammar.{IsId}
use Rattle.mail_model.specs.Tape.{Protocol}
use Rattle.mail_model.specs.PopReplies.{Item}
use Rattle.session_model.specs.Talk.{Exchange, TalkGoes, opening_state}
use Rattle.session_model.specs.Talk.Standing.{Hearing}
use Rattle.session_model.specs.Reading.{Each, ListsOnce, ListsNamed}
use Rattle.session_model.specs.Showing.{numbered, ShowsListed, WasListed}
use Rattle.session_model.specs.Sessions.{Session, session_at, exchanges_of}
use Rattle.session_model.specs.Facts.{ListingsAreTrue}
use Rattle.session_model.specs.Promises.{TrueListingsShow}
use Rattle.session_model.proofs.Filing.{item_at, no_item}
use Rattle.session_model.proofs.Striking.{each_at}
use Rattle.session_model.proofs.Showing.{shown_as_listed}

-- the text of an id

digit_range : (d : ℕ) (ds : List ℕ) → AllDigits 10 (d ∷ ds) → (48 ≤ d) × AllDigits 10 ds
digit_range d ds all = let parts = tells_digits.parts d ds all in (omega (arith, parts.0), parts.1)

-- digits end at the first period
one_split : (a b x y : List ℕ) → AllDigits 10 a → AllDigits 10 b → a ++ 46 ∷ x ≡ b ++ 46 ∷ y → (a ≡ b) × (x ≡ y)
one_split [] [] x y is is_too e = (refl, cc)
one_split [] (d ∷ b) x y is is_too e = let first : 46 ≡ d = cc in absurd (omega (arith, first, (digit_range d b is_too).0))
one_split (d ∷ a) [] x y is is_too e = let first : d ≡ 46 = cc in absurd (omega (arith, first, (digit_range d a is).0))
one_split (d ∷ a) (c ∷ b) x y is is_too e =
    let first : d ≡ c = cc in
    let later : a ++ 46 ∷ x ≡ b ++ 46 ∷ y = cc in
    let rest = one_split a b x y (digit_range d a is).1 (digit_range c b is_too).1 later in
    (ap₂ ◌∷◌ first rest.0, rest.1)

digits : (n : ℕ) → n < 2 ^ 64 → AllDigits 10 (decimal n)
digits n small = (decimal_is_IsNumeral n small).0.1

parts : (id : Id) → decimal id.node ++ (46 ∷ (decimal id.boot ++ (46 ∷ decimal id.seq))) ≡ id_text id
parts id =
    let both : decimal id.node ++ (46 ∷ [] ++ (decimal id.boot ++ (46 ∷ [] ++ decimal id.seq))) ≡ id_text id = simp append_assoc in
    both

-- one text is one id
same_id : (a b : Id) → IsId a → IsId b → id_text a ≡ id_text b → a ≡ b
same_id a b is is_too e =
    let small : a.node < 2 ^ 64 = omega (arith, is.node.1) in
    let small_too : b.node < 2 ^ 64 = omega (arith, is_too.node.1) in
    let short : a.boot < 2 ^ 64 = omega (arith, is.boot.1) in
    let short_too : b.boot < 2 ^ 64 = omega (arith, is_too.boot.1) in
    let first = one_split (decimal a.node) (decimal b.node) (decimal a.boot ++ 46 ∷ decimal a.seq) (decimal b.boot ++ 46 ∷ decimal b.seq) (digits a.node small) (digits b.node small_too) (parts a ∙ e ∙ sym (parts b)) in
    let second = one_split (decimal a.boot) (decimal b.boot) (decimal a.seq) (decimal b.seq) (digits a.boot short) (digits b.boot short_too) first.1 in
    let nodes : a.node ≡ b.node = decimal_injective a.node b.node small small_too first.0 in
    let boots : a.boot ≡ b.boot = decimal_injective a.boot b.boot short short_too second.0 in
    let numbers : a.seq ≡ b.seq = decimal_injective a.seq b.seq is.seq.1 is_too.seq.1 second.1 in
    λ i. record { node = nodes i; boot = boots i; seq = numbers i }

-- the place of an id

abbrev ids_of : List Item → List Id
ids_of items = map (λ (item : Item). item.id) items

id_at : (items : List Item) (i : ℕ) (item : Item) (d : Id) → slice_get items i ≡ Some item → (i < length (ids_of items)) × (slice_index_or (ids_of items) i d ≡ item.id)
id_at [] i item d at = absurd (none-some item at)
id_at (first ∷ items) zero item d at = (omega arith, let same : first ≡ item = cc in ap (λ (x : Item). x.id) same)
id_at (first ∷ items) (suc i) item d at = let later = id_at items i item d at in (omega (arith, later.0), later.1)

-- different places have different ids
never_both : (items : List Item) → AllPairs (λ (a b : Id). a ≢ b) (ids_of items) → (i j : ℕ) (a b : Item) → slice_get items i ≡ Some a → slice_get items j ≡ Some b → a.id ≡ b.id → i < j → ⊥
never_both items once i j a b at at_too same before =
    let first = id_at items i a a.id at in
    let second = id_at items j b a.id at_too in
    once i j a.id before second.0 (first.1 ∙ same ∙ sym second.1)

-- one id has one number
same_number : (items : List Item) → AllPairs (λ (a b : Id). a ≢ b) (ids_of items) → (n m : ℕ) (a b : Item) → numbered items n ≡ Some a → numbered items m ≡ Some b → a.id ≡ b.id → n ≡ m
same_number items once zero m a b at at_too same = absurd (none-some a at)
same_number items once (suc i) zero a b at at_too same = absurd (none-some b at_too)
same_number items once (suc i) (suc j) a b at at_too same = ⊎_elim
    (λ before. absurd (never_both items once i j a b at at_too same before))
    (λ behind. ⊎_elim
    (λ before. absurd (never_both items once j i b a at_too at (sym same) before))
    (λ behind_too. omega (arith, behind, behind_too))
    (cases_lt j i))
    (cases_lt i j)

module _ (sessions : List Session) (facts : ListingsAreTrue sessions) (k : ℕ) (session : Session) (at : session_at sessions k ≡ Some session)
    (items : List Item) (was : (items ≡ []) ⊎ WasListed items (exchanges_of session)) (shows : Each (ShowsListed items) (exchanges_of session)) where
  -- an exchange that the client got whole shows what is listed
  shows_it : (front rest : List Exchange) (x : Exchange) → session.whole ≡ front ++ x ∷ rest → ShowsListed items x
  shows_it front rest x cut = each_at (ShowsListed items) front (rest ++ session.others) x
      (subst (Each (ShowsListed items)) (ap (λ (l : List Exchange). l ++ session.others) cut ∙ append_assoc front (x ∷ rest) session.others) shows)

  -- an id that it shows is one of the listing
  abbrev IsNamed : ℕ → List ℕ → Type 0
  IsNamed n text = (item : Item) × (numbered items n ≡ Some item) × (text ≡ id_text item.id)

  one_number : (n m : ℕ) (text : List ℕ) → IsNamed n text → IsNamed m text → n ≡ m
  one_number n m text (a, at_a, text_a) (b, at_b, text_b) = ⊎_elim
      (λ none. absurd (no_item items n a none at_a))
      (λ listed.
      let once = each_at ListsOnce listed.before listed.behind listed.login (subst (Each ListsOnce) listed.are (facts.once k session at)) listed.user listed.given items listed.asked listed.told in
      let named = each_at ListsNamed listed.before listed.behind listed.login (subst (Each ListsNamed) listed.are (facts.named k session at)) listed.user listed.given items listed.asked listed.told in
      let place = item_at items n a at_a in
      let place_too = item_at items m b at_b in
      same_number items once n m a b at_a at_b (same_id a.id b.id (named place.0 a place.1) (named place_too.0 b place_too.1) (sym text_a ∙ text_b))) was

pub true_listings_show : TrueListingsShow
true_listings_show plan lines entries sessions are facts k session at pop n m text before behind before_it behind_it one other small small_too at_one shows_one at_other shows_other =
    let is = are.each k session at in
    let law = shown_as_listed plan session.node session.octets (exchanges_of session) is.talk.before session.rest
    (subst (λ (p : Protocol). TalkGoes plan session.node (Hearing (opening_state p)) session.octets (exchanges_of session) is.talk.before session.rest) pop is.talk.goes) in
    one_number sessions facts k session at law.0 law.1 law.2 n m text
    ((shows_it sessions facts k session at law.0 law.1 law.2 before behind one at_one).ids n text small shows_one)
    ((shows_it sessions facts k session at law.0 law.1 law.2 before_it behind_it other at_other).ids m text small_too shows_other)
