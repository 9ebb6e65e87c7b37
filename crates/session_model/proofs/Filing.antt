-- The promise to readers, from the sessions of a tape and what is true of listings and parts.
use Rattle.std.proofs.Common.{◌≡◌, ◌⊎◌, ⊎_elim, ◌<◌, ◌^◌, ℕ, zero, suc, List, [], ◌∷◌, ◌++◌, length, Option, Some, sym, ap, ◌∙◌, subst, slice_get, append_assoc}
use Rattle.std.specs.Fmt.{decimal}
use Rattle.std.proofs.lemmas.Option.{none-some}
use Rattle.mail_model.specs.Identity.{Id, id_text}
use Rattle.mail_model.specs.Tape.{Protocol}
use Rattle.mail_model.specs.PopReplies.{Item, top_of}
use Rattle.session_model.specs.Talk.{Exchange, TalkGoes, opening_state}
use Rattle.session_model.specs.Talk.Standing.{Hearing}
use Rattle.session_model.specs.Reading.{Each, seen_exchange}
use Rattle.session_model.specs.Showing.{numbered, ShowsListed, WasListed}
use Rattle.mail_model.specs.Shown.{ShowsId, ShowsSize, ShowsOctets, ShowsTop}
use Rattle.session_model.specs.Sessions.{Session, session_at, exchanges_of}
use Rattle.session_model.specs.Facts.{SizesFiled, IsPartFiled, PartsAreTrue}
use Rattle.session_model.specs.Promises.{AreFiled, TrueAnswersShow}
use Rattle.session_model.proofs.Striking.{each_at}
use Rattle.session_model.proofs.Showing.{shown_as_listed}
use Rattle.session_model.proofs.TopClosed.{top_closed}

-- the item of a number is one of the listing
pub item_at : (items : List Item) (n : ℕ) (item : Item) → numbered items n ≡ Some item → (i : ℕ) × (slice_get items i ≡ Some item)
item_at items zero item at = absurd (none-some item at)
item_at items (suc i) item at = (i, at)

-- two items of one number are one
same_item : (items : List Item) (n : ℕ) (a b : Item) → numbered items n ≡ Some a → numbered items n ≡ Some b → a ≡ b
same_item items n a b is is_too = let both : Some a ≡ Some b = sym is ∙ is_too in cc

-- an empty listing has none
pub no_item : (items : List Item) (n : ℕ) (item : Item) → items ≡ [] → numbered items n ≡ Some item → ⊥
no_item items zero item none at = none-some item at
no_item items (suc n) item none at = none-some item (ap (λ (l : List Item). slice_get l n) (sym none) ∙ at)

-- what is filed under the id of an item
abbrev HasItem : (Id → Option (List ℕ)) → Item → Type 0
HasItem filed item = (octets : List ℕ) × (filed item.id ≡ Some octets) × (item.size ≡ length octets)

module _ (filed : Id → Option (List ℕ)) (sessions : List Session) (facts : PartsAreTrue filed sessions) (k : ℕ) (session : Session) (at : session_at sessions k ≡ Some session)
    (items : List Item) (was : (items ≡ []) ⊎ WasListed items (exchanges_of session)) (shows : Each (ShowsListed items) (exchanges_of session)) where
  -- an exchange that the client got whole is one of all
  in_all : (front rest : List Exchange) (x : Exchange) → session.whole ≡ front ++ x ∷ rest → exchanges_of session ≡ front ++ x ∷ (rest ++ session.others)
  in_all front rest x cut = ap (λ (l : List Exchange). l ++ session.others) cut ∙ append_assoc front (x ∷ rest) session.others

  -- so it shows what is listed
  shows_it : (front rest : List Exchange) (x : Exchange) → session.whole ≡ front ++ x ∷ rest → ShowsListed items x
  shows_it front rest x cut = each_at (ShowsListed items) front (rest ++ session.others) x (subst (Each (ShowsListed items)) (in_all front rest x cut) shows)

  -- each item of the listing is filed
  item_filed : (n : ℕ) (item : Item) → numbered items n ≡ Some item → HasItem filed item
  item_filed n item there = ⊎_elim
      (λ none. absurd (no_item items n item none there))
      (λ listed.
      let place = item_at items n item there in
      each_at (SizesFiled filed) listed.before listed.behind listed.login
      (subst (Each (SizesFiled filed)) listed.are (facts.sizes k session at)) listed.user listed.given items listed.asked listed.told place.0 item place.1) was

  -- and each part
  part_filed : (front rest : List Exchange) (x : Exchange) (cut : session.whole ≡ front ++ x ∷ rest) → IsPartFiled filed x
  part_filed front rest x cut = each_at (IsPartFiled filed) front (rest ++ session.others) x (subst (Each (IsPartFiled filed)) (in_all front rest x cut) (facts.parts k session at))

  -- what an exchange shows of a number for which another shows an id
  shown_filed : (n : ℕ) (text : List ℕ) (before behind before_it behind_it : List Exchange) (one other : Exchange) → n < 10 ^ 63 → session.whole ≡ before ++ one ∷ behind → ShowsId n text (seen_exchange one)
      → session.whole ≡ before_it ++ other ∷ behind_it
      → ((size : List ℕ) → ShowsSize n size (seen_exchange other) → (octets : List ℕ) × AreFiled filed text octets × (size ≡ decimal (length octets)))
      × ((octets : List ℕ) → ShowsOctets n octets (seen_exchange other) → AreFiled filed text octets)
      × ((count : ℕ) (octets : List ℕ) → ShowsTop n count octets (seen_exchange other) → (whole : List ℕ) × AreFiled filed text whole × (octets ≡ top_of count whole))
  shown_filed n text before behind before_it behind_it one other small at_one shows_id at_other =
      let named = (shows_it before behind one at_one).ids n text small shows_id in
      let it = shows_it before_it behind_it other at_other in (
        λ size shows_size.
            let sized = it.sizes n size small shows_size in
            let same = same_item items n named.0 sized.0 named.1 sized.1 in
            let has = item_filed n sized.0 sized.1 in
            (has.0, (sized.0.id, ap (λ (i : Item). id_text i.id) (sym same) ∙ sym named.2, has.1), sized.2 ∙ ap decimal has.2),
        λ octets shows_octets.
            let fetched = it.texts n octets shows_octets in
            let same = same_item items n named.0 fetched.item named.1 fetched.is in
            let part = part_filed before_it behind_it other at_other fetched.user fetched.item.id fetched.part fetched.asked fetched.told in
            (fetched.item.id, ap (λ (i : Item). id_text i.id) (sym same) ∙ sym named.2, part.0 ∙ ap Some (sym part.1 ∙ sym fetched.same)),
        λ count octets shows_top.
            let fetched = it.tops n count octets shows_top in
            let same = same_item items n named.0 fetched.item named.1 fetched.is in
            let part = part_filed before_it behind_it other at_other fetched.user fetched.item.id fetched.part fetched.asked fetched.told in (
              fetched.part,
              (fetched.item.id, ap (λ (i : Item). id_text i.id) (sym same) ∙ sym named.2, part.0),
              fetched.same ∙ top_closed count fetched.part part.1,
            ),
      )

pub true_answers_show : TrueAnswersShow
true_answers_show plan lines entries filed sessions are facts k session at pop n text before behind one small at_one shows_id before_it behind_it other at_other =
    let is = are.each k session at in
    let law = shown_as_listed plan session.node session.octets (exchanges_of session) is.talk.before session.rest
    (subst (λ (p : Protocol). TalkGoes plan session.node (Hearing (opening_state p)) session.octets (exchanges_of session) is.talk.before session.rest) pop is.talk.goes) in
    shown_filed filed sessions facts k session at law.0 law.1 law.2 n text before behind before_it behind_it one other small at_one shows_id at_other
