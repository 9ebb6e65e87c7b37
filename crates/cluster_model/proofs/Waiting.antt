-- A ticket that is pending waits for a node, and so has a letter in flight.
use Rattle.std.proofs.Common.{◌≡◌, inl, inr, ◌<◌, ◌+◌, ℕ, zero, suc, Bool, true, false, ◌||◌, cond, not, List, [], ◌∷◌, Option, Some, None, refl, sym, ap, ◌∙◌, subst, arith, true≢false, nat_eq, eqb-true, if◌then◌else◌}
use Rattle.std.specs.Prelude.{bit_or, nat_le, ◌&&◌}
use Rattle.std.specs.List.{list_all}
use Rattle.std.specs.FinMap as fin
use Rattle.std.proofs.lemmas.Bool.{and_parts}
use Rattle.std.proofs.lemmas.Bool.Decides.{nat_tests}
use Rattle.mail_model.specs.Record.{Record}
use Rattle.object_model.specs.Lists.{Among}
use Rattle.object_model.specs.Letters.{Number, Letter}
use Rattle.object_model.specs.Mishaps.{Mishaps}
use Rattle.object_model.specs.Sets.{has, count_below, count_in}
use Rattle.object_model.proofs.SetLaws.{has_or}
use Rattle.cluster_model.specs.Cluster.{Want, Ticket, Node, Cluster, slot_at}
use Rattle.cluster_model.specs.Parts.{Sound}
use Rattle.cluster_model.specs.Deeds.{slot_up}
use Rattle.cluster_model.specs.Rules.{ticket_at}
use Rattle.cluster_model.specs.Progress.{Ask, is_confirmed, can_be_confirmed, answer_once_confirmed, pending_of_call, ask_of, ask_of_wants}
use Rattle.cluster_model.specs.Progress.Ask.{Pending, Done}
use Rattle.cluster_model.specs.Progress.NodeAnswer.{Failed}

-- Where a set has more nodes with another one, the other has a node.
some_more : (a b k : ℕ) → count_below a k < count_below (bit_or a b) k → (m : ℕ) × (has b m ≡ true)
unfolding count_below
some_more a b zero less = absurd (omega (arith, less))
some_more a b (suc k) less = by (some_more a b k) (has b (suc k)) refl (has a (suc k)) refl less
  where
    by : (count_below a k < count_below (bit_or a b) k → (m : ℕ) × (has b m ≡ true)) → (y : Bool) → has b (suc k) ≡ y → (x : Bool) → has a (suc k) ≡ x
        → count_below a k + cond (has a (suc k)) 1 0 < count_below (bit_or a b) k + cond (has (bit_or a b) (suc k)) 1 0 → (m : ℕ) × (has b m ≡ true)
    by more true p x q lt = (suc k, p)
    by more false p x q lt = more (below (subst (λ z. count_below a k + cond x 1 0 < count_below (bit_or a b) k + cond z 1 0) (has_or a b (suc k) ∙ ap (λ z. z || has b (suc k)) q ∙ ap (λ z. x || z) p)
        (subst (λ z. count_below a k + cond z 1 0 < count_below (bit_or a b) k + cond (has (bit_or a b) (suc k)) 1 0) q lt)))
      where
        below : count_below a k + cond x 1 0 < count_below (bit_or a b) k + cond (x || false) 1 0 → count_below a k < count_below (bit_or a b) k
        below lt = step x lt
          where
            step : (x : Bool) → count_below a k + cond x 1 0 < count_below (bit_or a b) k + cond (x || false) 1 0 → count_below a k < count_below (bit_or a b) k
            step true lt = omega (arith, lt)
            step false lt = omega (arith, lt)

-- What is not confirmed but may be waits for a node.
waits_for : (confirm : ℕ) (want : Want) → is_confirmed confirm want ≡ false → can_be_confirmed confirm want ≡ true → (m : ℕ) × (has want.waiting m ≡ true)
waits_for confirm want few may = some_more want.confirmed want.waiting 64 (less (count_in want.confirmed) (count_in (bit_or want.confirmed want.waiting)) few may)
  where
    less : (c all : ℕ) → nat_le confirm c ≡ false → nat_le confirm all ≡ true → c < all
    less c all p q = grind (arith, nat_tests)

-- one of these wants is not confirmed, and may be
some_waits : (confirm : ℕ) (wants : List Want) → list_all (is_confirmed confirm) wants ≡ false → list_all (can_be_confirmed confirm) wants ≡ true
    → (want : Want) × Among want wants × ((m : ℕ) × (has want.waiting m ≡ true))
some_waits confirm [] few may = absurd (true≢false few)
some_waits confirm (want ∷ wants) few may = by (λ rest. some_waits confirm wants rest parts.1) (is_confirmed confirm want) refl
  where
    parts : (can_be_confirmed confirm want ≡ true) × (list_all (can_be_confirmed confirm) wants ≡ true)
    parts = and_parts (can_be_confirmed confirm want) (list_all (can_be_confirmed confirm) wants) may

    by : (list_all (is_confirmed confirm) wants ≡ false → (one : Want) × Among one wants × ((m : ℕ) × (has one.waiting m ≡ true)))
        → (b : Bool) → is_confirmed confirm want ≡ b → (one : Want) × Among one (want ∷ wants) × ((m : ℕ) × (has one.waiting m ≡ true))
    by more false e = (want, inl refl, waits_for confirm want e parts.0)
    by more true e =
        let (one, inside, waits) = more (sym (ap (λ b. b && list_all (is_confirmed confirm) wants) e) ∙ few) in
        (one, inr inside, waits)

pending_wants : (confirm : ℕ) (mishaps : Mishaps) (wants : List Want) (got wanted : ℕ) → ask_of_wants confirm mishaps wants ≡ Pending got wanted
    → (list_all (is_confirmed confirm) wants ≡ false) × (list_all (can_be_confirmed confirm) wants ≡ true)
pending_wants confirm mishaps [] got wanted e = absurd (let never : ◌≡◌ {A = Ask} (Done (Failed mishaps)) (Pending got wanted) = e in cc)
pending_wants confirm mishaps (want ∷ wants) got wanted e = by (list_all (is_confirmed confirm) (want ∷ wants)) (list_all (can_be_confirmed confirm) (want ∷ wants)) refl refl e
  where
    by : (a c : Bool) → list_all (is_confirmed confirm) (want ∷ wants) ≡ a → list_all (can_be_confirmed confirm) (want ∷ wants) ≡ c
        → (if a then Done (answer_once_confirmed (want ∷ wants) want want.asked) else (if not c then Done (Failed mishaps) else pending_of_call confirm (want ∷ wants) want want.asked)) ≡ Pending got wanted
        → (list_all (is_confirmed confirm) (want ∷ wants) ≡ false) × (list_all (can_be_confirmed confirm) (want ∷ wants) ≡ true)
    by true c p q g = absurd (let never : ◌≡◌ {A = Ask} (Done (answer_once_confirmed (want ∷ wants) want want.asked)) (Pending got wanted) = g in cc)
    by false false p q g = absurd (let never : ◌≡◌ {A = Ask} (Done (Failed mishaps)) (Pending got wanted) = g in cc)
    by false true p q g = (p, q)

-- a ticket that is found has the number of its node's boot
found_here : (own : ℕ) (node : Node) (number : Number) (ticket : Ticket) → ticket_at own node (Some number) ≡ Some ticket → (number.boot ≡ node.boot) × (fin.get node.tickets number.seq ≡ Some ticket)
found_here own node number ticket e = by (nat_eq number.node own) (nat_eq number.boot node.boot) refl e
  where
    by : (a b : Bool) → nat_eq number.boot node.boot ≡ b → (if a && b then fin.get node.tickets number.seq else None) ≡ Some ticket → (number.boot ≡ node.boot) × (fin.get node.tickets number.seq ≡ Some ticket)
    by true true same f = (eqb-true number.boot node.boot same, f)
    by true false same f = absurd (let never : None ≡ Some ticket = f in cc)
    by false b same f = absurd (let never : None ≡ Some ticket = f in cc)

pub pending_letter : (confirm : ℕ) (w : Cluster) → Sound confirm w → (number : Number) (node : Node) (disk : List Record) (ticket : Ticket) → slot_at w.slots number.node ≡ Some (slot_up node disk)
    → ticket_at number.node node (Some number) ≡ Some ticket → (got wanted : ℕ) → ask_of confirm ticket ≡ Pending got wanted
    → (letter : Letter) × Among letter w.flying × (letter.ticket ≡ Some number)
pending_letter confirm w s number node disk ticket here found got wanted e = by e
  where
    by : ask_of_wants confirm ticket.mishaps ticket.wants ≡ Pending got wanted → (letter : Letter) × Among letter w.flying × (letter.ticket ≡ Some number)
    by g =
        let p = pending_wants confirm ticket.mishaps ticket.wants got wanted g in
        let (want, inside, there) = some_waits confirm ticket.wants p.0 p.1 in
        let m = there.0 in
        let at = found_here number.node node number ticket found in
        let c = s.waits.each number m want.asked (record {
          slot = slot_up node disk;
          here = here;
          waits = record { node = node; up = refl; boot = at.0; want = want; stands = record { ticket = ticket; here = at.1; inside = inside }; waits = there.1; is = refl };
        }) in
        (c.letter, c.inside, c.covers.0)
