-- That letters are put in flight comes to an end.
use Rattle.std.proofs.Common.{◌≡◌, ◌⊎◌, inl, inr, ⊎_elim, ◌≤◌, ◌+◌, ℕ, zero, suc, Bool, true, false, List, [], ◌∷◌, ◌++◌, length, Option, Some, None, refl, sym, ap, ◌∙◌, subst, arith, le_refl, nat_eq, if◌then◌else◌}
use Rattle.std.specs.Cmp.{nat_cmp_total}
use Rattle.std.proofs.lemmas.Map.Lookups.{exact_unsigned}
use Rattle.object_model.specs.Sets.{has, without_node}
use Rattle.object_model.specs.Lists.{Among}
use Rattle.object_model.specs.Mishaps.{MishapKind, counted}
use Rattle.object_model.specs.Mishaps.MishapKind.{Crowded}
use Rattle.object_model.specs.Letters.{Number, Letter}
use Rattle.object_model.specs.Letters.Body.{Unlock}
use Rattle.object_model.proofs.Lists.{among_either, get_same}
use Rattle.object_model.proofs.MapLaws.{written}
use Rattle.cluster_model.specs.Rules.{receivers}
use Rattle.cluster_model.specs.Room.{has_room}
use Rattle.login_model.specs.Readings.{LoginStage, Login, FetchStage, Fetch, Reading, ReadTicket}
use Rattle.login_model.specs.Readings.LoginStage.{AsksManager, IsDenied, AsksNodes, HasFailed}
use Rattle.login_model.specs.Readings.FetchStage.{AsksHolder, IsAnswered, NobodyLeft}
use Rattle.login_model.specs.Readings.Reading.{LogsIn, Fetches}
use Rattle.login_model.specs.Cluster as login
use Rattle.login_model.specs.Rules.{ReadDid, Under, same, fail, ask_first, ask_next, login_befell, fetch_befell, befell, under, with_reading, read_at, befell_at, mishap}
use Rattle.login_model.specs.Facts.{far_end}
use Rattle.login_model.proofs.Hears.{read_here, read_is}
use Rattle.login_model.proofs.Chances.{chances_fall}
use Rattle.joint_model.specs.Joint.{Life, Slot, slot_at, with_slot, slot_up, read_node}
use Rattle.joint_model.specs.Joint.Life.{Up, Down, Lost}
use Rattle.joint_world.specs.World.{World, with_letter}
use Rattle.joint_world.specs.Rules.{Reaction, befallen}
use Rattle.joint_world.specs.Putting.{Missed, missed_by, missed_at, missed_under, missed, put}
use Rattle.joint_world.specs.Ending.{chances_of, chances_in, chances_at, chances_left, AreOfTicket}

-- letters that a mishap sends are of the ticket, or of none
abbrev pub OfTicket : Number → Letter → Type 0
OfTicket number letter = (letter.ticket ≡ None) ⊎ (letter.ticket ≡ Some number)

module _ (u : Under) where
  unlock_of : (login_ : Login) (letter : Letter) → Among letter (fail u login_).out → OfTicket u.number letter
  unlock_of login_ letter m = by (nat_eq login_.manager u.own) m
    where
      by : (b : Bool) → Among letter (if b then [] else record { from = u.own; to = login_.manager; epoch = u.epoch; ticket = None; body = Unlock login_.user u.number } ∷ []) → OfTicket u.number letter
      by true k = absurd k
      by false k = ⊎_elim (λ is. subst (OfTicket u.number) is (inl refl)) (λ none. absurd none) k

  first_of : (fetch : Fetch) (left : ℕ) (holders : List ℕ) (letter : Letter) → Among letter (ask_first u fetch left holders).out → OfTicket u.number letter
  first_of fetch left [] letter m = absurd m
  first_of fetch left (holder ∷ others) letter m = ⊎_elim (λ is. subst (OfTicket u.number) is (inr refl)) (λ none. absurd none) m

  pub befell_of : (at : ℕ) (reading : Reading) (letter : Letter) → Among letter (befell u at reading).out → OfTicket u.number letter
  befell_of at (LogsIn login_) letter m = by login_.stage m
    where
      test : (b : Bool) → Among letter (if b then fail u login_ else same (LogsIn login_)).out → OfTicket u.number letter
      test true k = unlock_of login_ letter k
      test false k = absurd k

      by : (stage : LoginStage) → Among letter (login_befell u at login_ stage).out → OfTicket u.number letter
      by AsksManager k = test (nat_eq at login_.manager) k
      by (IsDenied word) k = absurd k
      by (AsksNodes named waiting told) k = test (has waiting at) k
      by HasFailed k = absurd k
  befell_of at (Fetches fetch) letter m = by fetch.stage m
    where
      test : (left : ℕ) (b : Bool) → Among letter (if b then ask_next u fetch (without_node left at) else same (Fetches fetch)).out → OfTicket u.number letter
      test left true k = first_of fetch (without_node left at) (receivers u.own (without_node left at) 64) letter k
      test left false k = absurd k

      by : (stage : FetchStage) → Among letter (fetch_befell u at fetch stage).out → OfTicket u.number letter
      by (AsksHolder holder left) k = test left (nat_eq at holder) k
      by (IsAnswered other part) k = absurd k
      by NobodyLeft k = absurd k

pub mishap_of : (own : ℕ) (kind : MishapKind) (at : ℕ) (node : login.Node) (number : Number) (letter : Letter) → Among letter (mishap own kind at node number).out → OfTicket number letter
mishap_of own kind at node number letter m = by (read_at own node (Some number)) m
  where
    by : (r : Option ReadTicket) → Among letter (befell_at own kind at node number r).out → OfTicket number letter
    by None k = absurd k
    by (Some ticket) k = befell_of (under own node number) at ticket.reading letter k

-- and each takes a chance away
pub mishap_falls : (own : ℕ) (kind : MishapKind) (at : ℕ) (node : login.Node) (number : Number)
    → length (mishap own kind at node number).out + chances_of (read_at own (record node { reads = (mishap own kind at node number).node.reads }) (Some number)) ≤ chances_of (read_at own node (Some number))
mishap_falls own kind at node number = by (read_at own node (Some number)) refl
  where
    by : (r : Option ReadTicket) → read_at own node (Some number) ≡ r → length (befell_at own kind at node number r).out + chances_of (read_at own (record node { reads = (befell_at own kind at node number r).node.reads }) (Some number)) ≤ chances_of r
    by None e = subst (λ (r : Option ReadTicket). 0 + chances_of r ≤ 0) (sym e) (omega arith)
    by (Some ticket) e =
        let h = read_here own node number ticket e in
        let did : ReadDid = befell (under own node number) at ticket.reading in
        let next : ReadTicket = record { reading = did.reading; mishaps = counted kind ticket.mishaps } in
        let now : read_at own (with_reading node number.seq next) (Some number) ≡ Some next =
        read_is own (with_reading node number.seq next) number h.at h.boot ∙ written nat_cmp_total exact_unsigned node.reads number.seq next in
        subst (λ (r : Option ReadTicket). length did.out + chances_of r ≤ chances_of (Some ticket)) (sym now) (chances_fall (under own node number) at ticket.reading)

at_there : (slots : List Slot) (n : ℕ) (x y : Slot) → slot_at slots n ≡ Some x → slot_at (with_slot slots n y) n ≡ Some y
at_there slots zero x y h = absurd (cc h)
at_there slots (suc n) x y h = get_same slots n x y h

module _ (tells : Bool) (number : Number) where
  record Falls (slots : List Slot) (m : Missed) : Type 0 where
    less : length m.out + chances_at number (slot_at m.slots number.node) ≤ chances_at number (slot_at slots number.node)
    of : AreOfTicket number m.out

  none_falls : (slots : List Slot) → Falls slots (record { slots = slots; out = [] })
  none_falls slots = record { less = omega arith; of = λ letter m. absurd m }

  missed_falls : (kind : MishapKind) (slots : List Slot) (letter : Letter) → OfTicket number letter → Falls slots (missed tells kind slots letter)
  missed_falls kind slots letter of = ⊎_elim
      (λ none. subst (λ (t : Option Number). Falls slots (missed_under tells kind slots letter t)) (sym none) (none_falls slots))
      (λ is. subst (λ (t : Option Number). Falls slots (missed_under tells kind slots letter t)) (sym is) (by_slot (slot_at slots number.node) refl))
      of
    where
      by_life : (slot : Slot) → slot_at slots number.node ≡ Some slot → (life : Life) → slot.life ≡ life → Falls slots (missed_by tells kind slots letter number slot.disk life)
      by_life slot at (Down pending) is = none_falls slots
      by_life slot at Lost is = none_falls slots
      by_life slot at (Up node) is = record {
        less = subst (λ (o : Option Slot). length did.out + chances_at number o ≤ chances_at number (slot_at slots number.node)) (sym there)
            (subst (λ (o : Option Slot). length did.out + chances_in number (Up did.node) ≤ chances_at number o) (sym (at ∙ ap (λ (l : Life). Some (record { life = l; disk = slot.disk })) is))
            (mishap_falls number.node kind (far_end letter number) (read_node tells node) number));
        of = λ one m. mishap_of number.node kind (far_end letter number) (read_node tells node) number one m;
      }
        where
          did : Reaction
          did = befallen tells number.node kind (far_end letter number) node number

          there : slot_at (with_slot slots number.node (slot_up did.node slot.disk)) number.node ≡ Some (slot_up did.node slot.disk)
          there = at_there slots number.node slot (slot_up did.node slot.disk) at

      by_slot : (o : Option Slot) → slot_at slots number.node ≡ o → Falls slots (missed_at tells kind slots letter number o)
      by_slot None at = none_falls slots
      by_slot (Some slot) at = by_life slot at slot.life refl

  size_both : (xs ys : List Letter) → length (xs ++ ys) ≡ length xs + length ys
  size_both [] ys = omega arith
  size_both (x ∷ xs) ys = let more = size_both xs ys in omega (arith, more)

  ends : (fuel : ℕ) (queue : List Letter) (w : World) → length queue + chances_left w number ≤ fuel → AreOfTicket number queue → (new : World) × (put tells fuel queue w ≡ Some new)
  ends fuel [] w enough of = (w, refl)
  ends zero (letter ∷ queue) w enough of = absurd (omega (arith, enough))
  ends (suc fuel) (letter ∷ queue) w enough of = by (has_room w.flying letter) (λ q v e o. ends fuel q v e o)
    where
      m : Missed
      m = missed tells Crowded w.slots letter

      falls : Falls w.slots m
      falls = missed_falls Crowded w.slots letter (of letter (inl refl))

      less : length (queue ++ m.out) + chances_at number (slot_at m.slots number.node) ≤ fuel
      less = let size = size_both queue m.out in let fewer = falls.less in omega (arith, enough, size, fewer)

      by : (b : Bool) → ((q : List Letter) (v : World) → length q + chances_left v number ≤ fuel → AreOfTicket number q → (new : World) × (put tells fuel q v ≡ Some new))
          → (new : World) × ((if b then put tells fuel queue (with_letter w letter) else put tells fuel (queue ++ m.out) (record w { slots = m.slots })) ≡ Some new)
      by true rest = rest queue (with_letter w letter) (omega (arith, enough)) (λ one k. of one (inr k))
      by false rest = rest (queue ++ m.out) (record w { slots = m.slots }) less (λ one k. ⊎_elim (λ old. of one (inr old)) (λ new_. falls.of one new_) (among_either one queue m.out k))

  pub puts_end : (queue : List Letter) (w : World) → AreOfTicket number queue → (new : World) × (put tells (length queue + chances_left w number) queue w ≡ Some new)
  puts_end queue w of = ends (length queue + chances_left w number) queue w (le_refl (length queue + chances_left w number)) of
