-- Chains of exchanges: fed with more, put together and taken apart.
use Rattle.std.proofs.Common.{◌≡◌, ℕ, List, [], ◌∷◌, ◌++◌, refl, sym, ap, ◌∙◌, subst, append_assoc, append-nil}
use Rattle.mail_model.specs.Plan.{Plan}
use Rattle.mail_model.specs.Told.{unit_octets}
use Rattle.session_model.specs.Talk.{TalkState, Exchange, Standing, IsNext, TalkGoes, stands_by}
use Rattle.session_model.specs.Talk.Standing.{Hearing}

-- a unit is next whatever octets follow
pub next_more : (plan : Plan) (node : ℕ) (state : TalkState) (rest more left : List ℕ) (one : Exchange) → IsNext plan node state rest one left
    → IsNext plan node state (rest ++ more) one (left ++ more)
next_more plan node state rest more left one next = record {
  is_unit = next.is_unit;
  whole = ap (λ (l : List ℕ). l ++ more) next.whole ∙ append_assoc (unit_octets one.unit) left more;
  led = next.led;
}

-- further octets change no exchange
pub goes_more : (plan : Plan) (node : ℕ) (first : Standing) (octets more : List ℕ) (xs : List Exchange) (last : Standing) (rest : List ℕ)
    → TalkGoes plan node first octets xs last rest → TalkGoes plan node first (octets ++ more) xs last (rest ++ more)
goes_more plan node first octets more [] last rest g = (g.0, ap (λ (l : List ℕ). l ++ more) g.1)
goes_more plan node (Hearing state) octets more (one ∷ xs) last rest g =
    (g.0 ++ more, next_more plan node state octets more g.0 one g.1, goes_more plan node (stands_by plan node state one) g.0 more xs last rest g.2)
goes_more plan node first octets more (one ∷ xs) last rest g = absurd g

-- one chain after another
pub goes_both : (plan : Plan) (node : ℕ) (first : Standing) (octets : List ℕ) (xs ys : List Exchange) (mid last : Standing) (left rest : List ℕ)
    → TalkGoes plan node first octets xs mid left → TalkGoes plan node mid left ys last rest → TalkGoes plan node first octets (xs ++ ys) last rest
goes_both plan node first octets [] ys mid last left rest g h =
    subst (λ (s : Standing). TalkGoes plan node s octets ys last rest) g.0 (subst (λ (l : List ℕ). TalkGoes plan node mid l ys last rest) g.1 h)
goes_both plan node (Hearing state) octets (one ∷ xs) ys mid last left rest g h =
    (g.0, g.1, goes_both plan node (stands_by plan node state one) g.0 xs ys mid last left rest g.2 h)
goes_both plan node first octets (one ∷ xs) ys mid last left rest g h = absurd g

-- one exchange more
pub goes_push : (plan : Plan) (node : ℕ) (first : Standing) (octets : List ℕ) (xs : List Exchange) (state : TalkState) (rest left : List ℕ) (one : Exchange)
    → TalkGoes plan node first octets xs (Hearing state) rest → IsNext plan node state rest one left
    → TalkGoes plan node first octets (xs ++ one ∷ []) (stands_by plan node state one) left
goes_push plan node first octets xs state rest left one g next =
    goes_both plan node first octets xs (one ∷ []) (Hearing state) (stands_by plan node state one) rest left g (left, next, (refl, refl))

-- One exchange in a chain: what went before it, how the session stood, and what comes after.
pub record At (plan : Plan) (node : ℕ) (first : Standing) (octets : List ℕ) (before : List Exchange) (one : Exchange) (behind : List Exchange) (last : Standing) (rest : List ℕ) : Type 0 where
  pub state : TalkState
  pub there : List ℕ
  pub left : List ℕ
  pub goes_before : TalkGoes plan node first octets before (Hearing state) there
  pub next : IsNext plan node state there one left
  pub goes_behind : TalkGoes plan node (stands_by plan node state one) left behind last rest

-- a chain is taken apart there
pub goes_at : (plan : Plan) (node : ℕ) (first : Standing) (octets : List ℕ) (before : List Exchange) (one : Exchange) (behind : List Exchange) (last : Standing) (rest : List ℕ)
    → TalkGoes plan node first octets (before ++ one ∷ behind) last rest → At plan node first octets before one behind last rest
goes_at plan node (Hearing state) octets [] one behind last rest g =
    record { state = state; there = octets; left = g.0; goes_before = (refl, refl); next = g.1; goes_behind = g.2 }
goes_at plan node first octets [] one behind last rest g = absurd g
goes_at plan node (Hearing state) octets (x ∷ before) one behind last rest g =
    let at = goes_at plan node (stands_by plan node state x) g.0 before one behind last rest g.2 in
    record {
      state = at.state;
      there = at.there;
      left = at.left;
      goes_before = (g.0, g.1, at.goes_before);
      next = at.next;
      goes_behind = at.goes_behind;
    }
goes_at plan node first octets (x ∷ before) one behind last rest g = absurd g

-- what holds at the beginning, and is kept by each exchange, holds wherever the session hears
pub along : (plan : Plan) (node : ℕ) (Holds : TalkState → List Exchange → Type 0)
    → ((before : List Exchange) (state : TalkState) (there left : List ℕ) (one : Exchange) (then : TalkState) → Holds state before
    → IsNext plan node state there one left → stands_by plan node state one ≡ Hearing then → Holds then (before ++ one ∷ []))
    → (first : Standing) (octets : List ℕ) (been xs : List Exchange) (last : TalkState) (rest : List ℕ)
    → ((state : TalkState) → first ≡ Hearing state → Holds state been)
    → TalkGoes plan node first octets xs (Hearing last) rest → Holds last (been ++ xs)
along plan node Holds step first octets been [] last rest holds g = subst (Holds last) (sym (nil been)) (holds last (sym g.0))
  where
    nil : (l : List Exchange) → l ++ [] ≡ l
    nil [] = refl
    nil (x ∷ l) = ap (λ (m : List Exchange). x ∷ m) (nil l)
along plan node Holds step (Hearing state) octets been (one ∷ xs) last rest holds g =
    subst (Holds last) (append_assoc been (one ∷ []) xs)
    (along plan node Holds step (stands_by plan node state one) g.0 (been ++ one ∷ []) xs last rest
    (λ then is. step been state octets g.0 one then (holds state refl) g.1 is) g.2)
along plan node Holds step first octets been (one ∷ xs) last rest holds g = absurd g

-- the same of how it stands, also where it hears no more
pub through : (plan : Plan) (node : ℕ) (Holds : Standing → List Exchange → Type 0)
    → ((been : List Exchange) (state : TalkState) (there left : List ℕ) (one : Exchange) → Holds (Hearing state) been → IsNext plan node state there one left
    → Holds (stands_by plan node state one) (been ++ one ∷ []))
    → (first : Standing) (octets : List ℕ) (been xs : List Exchange) (last : Standing) (rest : List ℕ) → Holds first been
    → TalkGoes plan node first octets xs last rest → Holds last (been ++ xs)
through plan node Holds step first octets been [] last rest holds g =
    subst (λ (s : Standing). Holds s (been ++ [])) (sym g.0) (subst (Holds first) (sym (append-nil been)) holds)
through plan node Holds step (Hearing state) octets been (one ∷ xs) last rest holds g =
    subst (Holds last) (append_assoc been (one ∷ []) xs)
    (through plan node Holds step (stands_by plan node state one) g.0 (been ++ one ∷ []) xs last rest (step been state octets g.0 one holds g.1) g.2)
through plan node Holds step first octets been (one ∷ xs) last rest holds g = absurd g
