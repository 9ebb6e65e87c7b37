-- Each step keeps the rule.
use Rattle.std.proofs.Common.{Bool, true, false, cond, ◌≡◌, ◌≢◌, ◌⊎◌, ℕ, zero, suc, ◌+◌, ◌*◌, ◌/◌, ◌%◌, ◌^◌, ◌<◌, ◌≤◌, List, [], ◌∷◌, ◌++◌, length, drop, get_or, set, refl, sym, ap, ◌∙◌, subst, inl, inr, ⊎_elim, arith, Some, IfSome, div-add-mod', mod-eq_of_lt}
use Rattle.std.proofs.Math.Nat.{mul-add-mod_self_right}
use Rattle.std.proofs.Math.Dec.{leb}
use Rattle.std.proofs.lemmas.Bool.{leb-true, leb-false}
use mathlib.Core.Logic.{dite}
use mathlib.Core.Option.{some, none, some-injective, some-ne-none}
use mathlib.Core.Option as maybe
use native.Mathlib.Decide.{ℕ_discrete}
use lib.ListN.{get_elem?}
use lib.Seq.{set-get_or}
use Rattle.atomic_table.specs.Table.{State, Me, step, keeps, takes, gives, stepped, rest, put_back, Allows, Splits, Joins, opening, Final, Seen}
use Rattle.atomic_table.proofs.Lists.{at_set, set_else, set_again, at_snoc, at_longer, one_turn}
use Rattle.turnstile.specs.declared.views.View.{View}
use Rattle.turnstile.specs.declared.views.Key.{Key}
use Rattle.turnstile.specs.Lists.{weight, longer, IsPrefix, IsSubsequence, AreSubsequences}
use Rattle.turnstile.specs.Rule.{IsSharedOut, owned_weight, ViewFits, Home, Away, TableIsSound, first_view, HasDrawn, HasLooked, extended_view, HasAdded, HasLeft, HasRung, lessened_view, handed_view, joined_view, spent_view, GivesBack}
use Rattle.turnstile.specs.Shares.{AreShares}
use Rattle.turnstile.proofs.Shares.{tags_same, tags_added, tags_split, tags_join, tags_start, tags_close}
use Rattle.turnstile.proofs.Lists.{weigh_set, weigh_append, weigh_le, weigh_two, weigh_alone, begins_same, begins_trans, begins_drop, begins_both, stands_append, all_append, stands_later, all_later}

next_mod : (n k : ℕ) → (n % 2 ^ 64 + k) % 2 ^ 64 ≡ (n + k) % 2 ^ 64
next_mod n k = let m : ℕ = 2 ^ 64 in let d : n / m * m + n % m ≡ n = div-add-mod' n m in
    sym (ap (λ (x : ℕ). (x + k) % m) (sym d) ∙ (ap (λ (x : ℕ). x % m) (omega arith) ∙ mul-add-mod_self_right (n / m) m (n % m + k)))

none_inside : (n : ℕ) → n ≡ 0 → ¬ (0 < n)
none_inside n e l = omega arith

by_test : {X : Type 0} (P : X → Type 0) (x y : X) (b : Bool) → (b ≡ true → P y) → (b ≡ false → P x) → P (cond b y x)
by_test P x y true a b = a refl
by_test P x y false a b = b refl

-- 16 bells that nobody has rung
abbrev pub silent : List ℕ
silent = 0 ∷ 0 ∷ 0 ∷ 0 ∷ 0 ∷ 0 ∷ 0 ∷ 0 ∷ 0 ∷ 0 ∷ 0 ∷ 0 ∷ 0 ∷ 0 ∷ 0 ∷ 0 ∷ []

-- a change behind the first three words
behind : (a b c : ℕ) (bells : List ℕ) (i y : ℕ) → 3 ≤ i → (others : List ℕ) × (set (a ∷ b ∷ c ∷ bells) i y ≡ a ∷ b ∷ c ∷ others)
behind a b c bells zero y l = absurd (omega arith)
behind a b c bells (suc zero) y l = absurd (omega arith)
behind a b c bells (suc (suc zero)) y l = absurd (omega arith)
behind a b c bells (suc (suc (suc k))) y l = (set bells k y, refl)

module _ {V E : Type 0} (history : V → List E) (kin : V → V → Type 0) where
  abbrev D : Type 0
  D = View V E

  abbrev St : Type 0
  St = State V D

  abbrev M : Type 0
  M = Me V D

  abbrev Rule : Key V → St → Type 0
  Rule = TableIsSound history kin

  abbrev At : List D → ℕ → D → Type 0
  At views i v = get_elem? views i ≡ some v

  abbrev Apart : List D → Type 0
  Apart views = (i j : ℕ) (v w : D) → At views i v → At views j w → 0 < v.waits → 0 < w.waits → v.ticket ≡ w.ticket → i ≡ j

  same_view : (views : List D) (i j : ℕ) (v w : D) → At views i v → At views j w → i ≡ j → v ≡ w
  same_view views i j v w a b e = some-injective v w (sym a ∙ (ap (get_elem? views) e ∙ b))

  here_set : (views : List D) (i : ℕ) (v w : D) → At views i v → At (set views i w) i w
  here_set [] i v w at = absurd (some-ne-none v (sym at))
  here_set (x ∷ xs) zero v w at = refl
  here_set (x ∷ xs) (suc i) v w at = here_set xs i v w at

  -- a fact of each view, where one view changes
  each_set : (P : D → Type 0) (views : List D) (id : ℕ) (w : D) → P w → ((i : ℕ) (v : D) → i ≢ id → At views i v → P v) → (i : ℕ) (v : D) → At (set views id w) i v → P v
  each_set P views id w mine others i v at = ⊎_elim (λ (t : (i ≡ id) × (w ≡ v)). subst P t.1 mine) (λ (t : (i ≢ id) × (get_elem? views i ≡ some v)). others i v t.0 t.1) (at_set views id i w v at)

  apart_set : (views : List D) (id : ℕ) (w : D) → Apart views → ((i : ℕ) (v : D) → i ≢ id → At views i v → 0 < v.waits → 0 < w.waits → v.ticket ≢ w.ticket) → Apart (set views id w)
  apart_set views id w old new i j u v atu atv pu pv e = ⊎_elim
      (λ (s : (i ≡ id) × (w ≡ u)). ⊎_elim
      (λ (t : (j ≡ id) × (w ≡ v)). s.0 ∙ sym t.0)
      (λ (t : (j ≢ id) × (get_elem? views j ≡ some v)). absurd (new j v t.0 t.1 pv (subst (λ (x : D). 0 < x.waits) (sym s.1) pu) (sym e ∙ ap (λ (x : D). x.ticket) (sym s.1))))
      (at_set views id j w v atv))
      (λ (s : (i ≢ id) × (get_elem? views i ≡ some u)). ⊎_elim
      (λ (t : (j ≡ id) × (w ≡ v)). absurd (new i u s.0 s.1 pu (subst (λ (x : D). 0 < x.waits) (sym t.1) pv) (e ∙ ap (λ (x : D). x.ticket) (sym t.1))))
      (λ (t : (j ≢ id) × (get_elem? views j ≡ some v)). old i j u v s.1 t.1 pu pv e)
      (at_set views id j w v atv))
      (at_set views id i w u atu)

  -- the value stays where it is, where one view changes and is as much inside as before
  slot_set : (first_value : V) (entries : List E) (s : St) (ws : List ℕ) (id : ℕ) (v w : D) → At s.views id v → w.inside ≡ v.inside → Home history kin first_value entries s ⊎ Away history kin s
      → let t : St = record { words = ws; homes = s.homes; views = set s.views id w } in Home history kin first_value entries t ⊎ Away history kin t
  slot_set first_value entries s ws id v w at same slot = ⊎_elim
      (λ (h : Home history kin first_value entries s). inl (h.0, h.1, h.2, h.3, each_set (λ x. ¬ (0 < x.inside)) s.views id w (subst (λ n. ¬ (0 < n)) (sym same) (h.4 id v at)) (λ i u _ a. h.4 i u a)))
      (λ (a : Away history kin s). dite (ℕ_discrete a.1 id)
      (λ e. inr (a.0, id, w, here_set s.views id v w at, subst (λ n. 0 < n) (sym same) (subst (λ (x : D). 0 < x.inside) (same_view s.views a.1 id a.2 v a.3 at e) a.4)))
      (λ ne. inr (a.0, a.1, a.2, set_else s.views id a.1 w ne ∙ a.3, a.4)))
      slot

  pub draws : (key : Key V) (slots id : ℕ) (m : M) → m.0.waits ≡ 0 → m.0.inside ≡ 0 → 0 < m.0.quota → Allows (Rule key) slots id m 0 (λ n. (n + 1) % 2 ^ 64) (HasDrawn (step slots 0 1 0 none) m)
  draws key slots id m idle out some_quota s r deep at below = let v : D = m.0 in let w : D = record v { waits = 1; ticket = r.next } in
      let p = r.each id v at in (
        w,
        keeps,
        tt,
        record {
          entries = r.entries;
          begun = r.begun;
          next = r.next + 1;
          served = r.served;
          bells = r.bells;
          words = ap (λ ws. set ws 0 ((get_or ws 0 0 + 1) % 2 ^ 64)) r.words ∙ ap (λ (n : ℕ). n ∷ r.served % 2 ^ 64 ∷ length r.entries ∷ r.bells) (next_mod r.next 1);
          out = let o = weigh_set (λ (x : D). x.waits) s.views id v w at in let o' = r.out in omega arith;
          quotas = let o = weigh_set (λ (x : D). x.quota) s.views id v w at in let o' = r.quotas in omega arith;
          few = r.few;
          each = each_set (ViewFits history key.first_value.value r.entries r.served (r.next + 1)) s.views id w
              record { seen = p.seen; own = p.own; joined = p.joined; quota = omega arith; first_value_is = p.first_value_is; spent = p.spent; ticket = λ _. let o = r.out in (omega arith, omega arith); slot = λ l. absurd (none_inside v.inside out l) }
              (λ i u _ a. let q = r.each i u a in record { seen = q.seen; own = q.own; joined = q.joined; quota = q.quota; first_value_is = q.first_value_is; spent = q.spent; ticket = λ l. let t = q.ticket l in (t.0, omega arith); slot = q.slot });
          apart = apart_set s.views id w r.apart (λ i u _ a l _ e. let t = (r.each i u a).ticket l in absurd (omega arith));
          slot = slot_set key.first_value.value r.entries s (set s.words 0 ((get_or s.words 0 0 + 1) % 2 ^ 64)) id v w at refl r.slot;
          shared = tags_same (history key.first_value.value) r.entries s.views id v w at refl refl (λ l. l) r.shared;
          whole = λ h. let o = weigh_set (owned_weight h) s.views id v w at in let o' = r.whole h in omega arith;
        },
        (refl, (r.next, refl, sym (ap (λ ws. get_or ws 0 0) r.words))),
      )

  -- fewer tickets are out than there are passes
  few_out : (key : Key V) (s : St) (r : Rule key s) → r.next < r.served + 2 ^ 32
  few_out key s r = let a = weigh_le (λ (x : D). x.waits) (λ (x : D). x.quota) s.views (λ i v at. (r.each i v at).quota) in let b = r.out in let c = r.quotas in let d = r.few in omega arith

  -- where the ticket is served, the seat's number is the number served, and the value is at home
  served_here : (key : Key V) (s : St) (r : Rule key s) (id : ℕ) (v : D) → At s.views id v → 0 < v.waits → v.inside ≡ 0 → get_or s.words 1 0 ≡ v.ticket % 2 ^ 64
      → (v.ticket ≡ r.served) × Home history kin key.first_value.value r.entries s
  served_here key s r id v at waits out e =
      let t = (r.each id v at).ticket waits in let f = few_out key s r in
      let same : r.served ≡ v.ticket = one_turn r.served v.ticket (2 ^ 64) t.0 (omega arith) (sym (ap (λ ws. get_or ws 1 0) r.words) ∙ e) in (
        sym same,
        ⊎_elim (λ (h : Home history kin key.first_value.value r.entries s). h)
            (λ (a : Away history kin s). let q = (r.each a.1 a.2 a.3).slot a.4 in
            let me : a.1 ≡ id = r.apart a.1 id a.2 v a.3 at q.0 waits (q.1 ∙ same) in
            absurd (none_inside v.inside out (subst (λ (x : D). 0 < x.inside) (same_view s.views a.1 id a.2 v a.3 at me) a.4)))
            r.slot,
      )

  -- nothing changes
  stands_still : (key : Key V) (s : St) (r : Rule key s) (i id : ℕ) (m : M) → At s.views id m.0 → Rule key (stepped s i (get_or s.words i 0) id m.1 m.0 keeps)
  stands_still key s r i id m at = subst (λ (z : List ℕ × List D). Rule key record { words = z.0; homes = s.homes; views = z.1 }) (λ k. (sym (set-get_or s.words i 0) k, sym (set_again s.views id m.0 at) k)) r

  -- only a bell changes, and no view
  pub rings : (key : Key V) (slots id i : ℕ) (m : M) → 3 ≤ i → Allows (Rule key) slots id m i (λ n. (n + 1) % 2 ^ 64) (HasRung (step slots i 1 0 none) m)
  rings key slots id i m far s r deep at below = let y : ℕ = (get_or s.words i 0 + 1) % 2 ^ 64 in let bells = behind (r.next % 2 ^ 64) (r.served % 2 ^ 64) (length r.entries) r.bells i y far in (
    m.0,
    keeps,
    tt,
    subst (λ (views : List D). Rule key record { words = set s.words i y; homes = s.homes; views = views }) (sym (set_again s.views id m.0 at)) record {
      entries = r.entries;
      begun = r.begun;
      next = r.next;
      served = r.served;
      bells = bells.0;
      words = ap (λ ws. set ws i y) r.words ∙ bells.1;
      out = r.out;
      quotas = r.quotas;
      few = r.few;
      each = r.each;
      apart = r.apart;
      slot = r.slot;
      whole = r.whole;
      shared = r.shared;
    },
    refl,
  )

  pub looks : (key : Key V) (slots id : ℕ) (m : M) → 0 < m.0.waits → m.0.inside ≡ 0 → m.0.first_value ≡ Some key.first_value.value → m.1 ≡ [] → Allows (Rule key) slots id m 1 (λ n. n) (HasLooked history kin (step slots 1 0 0 none) m)
  looks key slots id m waits out of_this empty s r deep at below = let v : D = m.0 in dite (ℕ_discrete (get_or s.words 1 0) (v.ticket % 2 ^ 64))
      (λ hit. let k = served_here key s r id v at waits out hit in let h = k.1 in let x = h.0 in let w : D = record v { inside = 1; seen = history x } in let p = r.each id v at in
      let from : IsPrefix v.seen (history x) = subst (IsPrefix v.seen) (sym h.2) p.seen in (
        w,
        takes 0 x,
        ap (λ hs. get_elem? hs 0) h.1,
        record {
          entries = r.entries;
          begun = r.begun;
          next = r.next;
          served = r.served;
          bells = r.bells;
          words = set-get_or s.words 1 0 ∙ r.words;
          out = let o = weigh_set (λ (y : D). y.waits) s.views id v w at in let o' = r.out in omega arith;
          quotas = let o = weigh_set (λ (y : D). y.quota) s.views id v w at in let o' = r.quotas in omega arith;
          few = r.few;
          each = each_set (ViewFits history key.first_value.value r.entries r.served r.next) s.views id w
              record { seen = subst (IsPrefix (history x)) h.2 (begins_same (history x)); own = stands_later v.own v.seen (history x) from p.own; joined = all_later v.joined v.seen (history x) from p.joined; quota = p.quota; first_value_is = p.first_value_is; spent = p.spent; ticket = p.ticket; slot = λ _. (waits, k.0, h.2) }
              (λ i u _ a. r.each i u a);
          apart = apart_set s.views id w r.apart (λ i u ne a pu pw e. ne (r.apart i id u v a at pu pw e));
          slot = inr (ap (λ hs. set hs 0 none) h.1, id, w, here_set s.views id v w at, omega arith);
          shared = tags_same (history key.first_value.value) r.entries s.views id v w at refl refl (λ l. l) r.shared;
          whole = λ g. let o = weigh_set (owned_weight g) s.views id v w at in let o' = r.whole g in omega arith;
        },
        ((λ _. (x, (ap (λ cs. (w, (0, x) ∷ cs)) empty, from, subst (λ o. IfSome o (λ y. kin y x)) (sym of_this) h.3))), (λ ne. absurd (ne hit))),
      ))
      (λ miss. (v, keeps, tt, stands_still key s r 1 id m at, ((λ e. absurd (miss e)), (λ _. refl))))

  in_hand : (m : M) (x y : V) → m.1 ≡ (0, x) ∷ [] → m.1 ≡ (0, y) ∷ [] → x ≡ y
  in_hand m x y a b = ap (λ (l : List (ℕ × V)). (get_or l 0 (0, x)).1) (sym a ∙ b)

  pub adds : (key : Key V) (slots id k : ℕ) (m : M) (x : V) → 0 < m.0.inside → m.1 ≡ (0, x) ∷ [] → IsPrefix m.0.seen (history x) → length m.0.seen + k ≡ length (history x) → length (history x) < 2 ^ 64
      → Allows (Rule key) slots id m 2 (λ n. (n + k) % 2 ^ 64) (HasAdded history (step slots 2 k 0 none) m)
  adds key slots id k m x inside carried from grown fits s r deep at below = let v : D = m.0 in let more : List E = drop (length v.seen) (history x) in
      let w : D = extended_view v (history x) in let p = r.each id v at in let q = p.slot inside in
      let longer : history x ≡ v.seen ++ more = begins_drop v.seen (history x) from in
      let own : IsSubsequence w.own w.seen = subst (IsSubsequence w.own) (sym longer) (stands_append v.own v.seen more p.own) in
      let joined : AreSubsequences w.joined w.seen = all_later v.joined v.seen (history x) from p.joined in
      let over : IsPrefix r.entries (history x) = subst (λ l. IsPrefix l (history x)) q.2 from in (
        w,
        keeps,
        tt,
        record {
          entries = history x;
          begun = begins_trans (history key.first_value.value) r.entries (history x) r.begun over;
          next = r.next;
          served = r.served;
          bells = r.bells;
          words = ap (λ ws. set ws 2 ((get_or ws 2 0 + k) % 2 ^ 64)) r.words ∙ ap (λ (n : ℕ). r.next % 2 ^ 64 ∷ r.served % 2 ^ 64 ∷ n ∷ r.bells)
              (let e = ap length q.2 in ap (λ (n : ℕ). n % 2 ^ 64) (omega arith) ∙ mod-eq_of_lt fits);
          out = let o = weigh_set (λ (y : D). y.waits) s.views id v w at in let o' = r.out in omega arith;
          quotas = let o = weigh_set (λ (y : D). y.quota) s.views id v w at in let o' = r.quotas in omega arith;
          few = r.few;
          each = each_set (ViewFits history key.first_value.value (history x) r.served r.next) s.views id w
              record { seen = begins_same (history x); own = own; joined = joined; quota = p.quota; first_value_is = p.first_value_is; spent = λ e. absurd (let l = p.quota in let l' = q.0 in omega arith); ticket = p.ticket; slot = λ l. (q.0, q.1, refl) }
              (λ i u ne a. let c = r.each i u a in record {
                seen = begins_trans u.seen r.entries (history x) c.seen over;
                own = c.own;
                joined = c.joined;
                quota = c.quota;
                first_value_is = c.first_value_is;
                spent = c.spent;
                ticket = c.ticket;
                slot = λ l. let d = c.slot l in absurd (ne (r.apart i id u v a at d.0 q.0 (d.1 ∙ sym q.1)));
              });
          apart = apart_set s.views id w r.apart (λ i u ne a pu pw e. ne (r.apart i id u v a at pu pw e));
          slot = ⊎_elim (λ (h : Home history kin key.first_value.value r.entries s). absurd (h.4 id v at inside))
              (λ (a : Away history kin s). inr (a.0, id, w, here_set s.views id v w at, inside)) r.slot;
          shared = subst (λ l. IsSharedOut (history key.first_value.value) l (set s.views id w)) (sym (longer ∙ ap (λ l. l ++ more) q.2)) (tags_added (history key.first_value.value) r.entries more s.views id v w at (let l = p.quota in let l' = q.0 in omega arith) refl refl r.shared);
          whole = λ g. let o = weigh_set (owned_weight g) s.views id v w at in let o' = r.whole g in let a = weigh_append g v.own more in
              let b : weight g (history x) ≡ weight g r.entries + weight g more = ap (weight g) longer ∙ (weigh_append g v.seen more ∙ ap (λ l. weight g l + weight g more) q.2) in omega arith;
        },
        (refl, (λ y e. ap (λ z. extended_view v (history z)) (in_hand m x y carried e)), own, joined),
      )

  pub leaves : (key : Key V) (slots id : ℕ) (m : M) (x : V) → m.0.waits ≡ 1 → 0 < m.0.inside → m.1 ≡ (0, x) ∷ [] → m.0.seen ≡ history x → kin key.first_value.value x
      → Allows (Rule key) slots id m 1 (λ n. (n + 1) % 2 ^ 64) (HasLeft (step slots 1 1 0 none) m)
  leaves key slots id m x waits inside carried knows same s r deep at below = let v : D = m.0 in let w : D = record v { waits = 0; inside = 0 } in let p = r.each id v at in let q = p.slot inside in
      let mine : (i : ℕ) (u : D) → i ≢ id → At s.views i u → 0 < u.waits → u.ticket ≢ r.served = (λ i u ne a l e. ne (r.apart i id u v a at l q.0 (e ∙ sym q.1))) in
      let none_else : (i : ℕ) (u : D) → i ≢ id → At s.views i u → ¬ (0 < u.inside) = (λ i u ne a l. let d = (r.each i u a).slot l in mine i u ne a d.0 d.1) in (
        w,
        gives,
        tt,
        record {
          entries = r.entries;
          begun = r.begun;
          next = r.next;
          served = r.served + 1;
          bells = r.bells;
          words = ap (λ ws. set ws 1 ((get_or ws 1 0 + 1) % 2 ^ 64)) r.words ∙ ap (λ (n : ℕ). r.next % 2 ^ 64 ∷ n ∷ length r.entries ∷ r.bells) (next_mod r.served 1);
          out = let o = weigh_set (λ (y : D). y.waits) s.views id v w at in let o' = r.out in omega arith;
          quotas = let o = weigh_set (λ (y : D). y.quota) s.views id v w at in let o' = r.quotas in omega arith;
          few = r.few;
          each = each_set (ViewFits history key.first_value.value r.entries (r.served + 1) r.next) s.views id w
              record { seen = p.seen; own = p.own; joined = p.joined; quota = omega arith; first_value_is = p.first_value_is; spent = p.spent; ticket = λ l. absurd (none_inside 0 refl l); slot = λ l. absurd (none_inside 0 refl l) }
              (λ i u ne a. let c = r.each i u a in record {
                seen = c.seen;
                own = c.own;
                joined = c.joined;
                quota = c.quota;
                first_value_is = c.first_value_is;
                spent = c.spent;
                ticket = λ l. let d = c.ticket l in let e = mine i u ne a l in (omega arith, d.1);
                slot = λ l. absurd (none_else i u ne a l);
              });
          apart = apart_set s.views id w r.apart (λ i u ne a pu pw e. absurd (none_inside 0 refl pw));
          slot = ⊎_elim (λ (h : Home history kin key.first_value.value r.entries s). absurd (h.4 id v at inside))
              (λ (a : Away history kin s). inl (
                x,
                ap (λ (z : List (maybe.Option V) × List (ℕ × V)). put_back z.0 z.1) (λ k. (a.0 k, carried k)),
                sym knows ∙ q.2,
                same,
                each_set (λ u. ¬ (0 < u.inside)) s.views id w (none_inside 0 refl) none_else,
              )) r.slot;
          shared = tags_same (history key.first_value.value) r.entries s.views id v w at refl refl (λ l. l) r.shared;
          whole = λ g. let o = weigh_set (owned_weight g) s.views id v w at in let o' = r.whole g in omega arith;
        },
        ap (λ cs. (w, rest cs)) carried,
      )

  each_snoc : (P : D → Type 0) (views : List D) (w : D) → P w → ((i : ℕ) (v : D) → At views i v → P v) → (i : ℕ) (v : D) → At (views ++ w ∷ []) i v → P v
  each_snoc P views w new old i v at = ⊎_elim (λ (t : get_elem? views i ≡ some v). old i v t) (λ (t : w ≡ v). subst P t new) (at_snoc views w v i at)

  apart_snoc : (views : List D) (w : D) → w.waits ≡ 0 → Apart views → Apart (views ++ w ∷ [])
  apart_snoc views w idle old i j u v atu atv pu pv e = ⊎_elim
      (λ (a : get_elem? views i ≡ some u). ⊎_elim
      (λ (b : get_elem? views j ≡ some v). old i j u v a b pu pv e)
      (λ (b : w ≡ v). absurd (none_inside w.waits idle (subst (λ (x : D). 0 < x.waits) (sym b) pv)))
      (at_snoc views w v j atv))
      (λ (a : w ≡ u). absurd (none_inside w.waits idle (subst (λ (x : D). 0 < x.waits) (sym a) pu)))
      (at_snoc views w u i atu)

  slot_snoc : (first_value : V) (entries : List E) (s : St) (views : List D) (w : D) → w.inside ≡ 0 → (let t : St = record { words = s.words; homes = s.homes; views = views } in Home history kin first_value entries t ⊎ Away history kin t)
      → let t : St = record { words = s.words; homes = s.homes; views = views ++ w ∷ [] } in Home history kin first_value entries t ⊎ Away history kin t
  slot_snoc first_value entries s views w out slot = let t : St = record { words = s.words; homes = s.homes; views = views } in ⊎_elim
      (λ (h : Home history kin first_value entries t). inl (h.0, h.1, h.2, h.3, each_snoc (λ x. ¬ (0 < x.inside)) views w (none_inside w.inside out) h.4))
      (λ (a : Away history kin t). inr (a.0, a.1, a.2, at_longer views (w ∷ []) a.1 a.2 a.3, a.4))
      slot

  pub splits : (key : Key V) (id q : ℕ) (v : D) → v.waits ≡ 0 → v.inside ≡ 0 → 0 < q → q < v.quota → Splits (Rule key) id v (lessened_view q v) (handed_view q v)
  splits key id q v idle out some_quota rest_quota s r at = let w : D = lessened_view q v in let new : D = handed_view q v in let p = r.each id v at in let views : List D = set s.views id w in record {
    entries = r.entries;
    begun = r.begun;
    next = r.next;
    served = r.served;
    bells = r.bells;
    words = r.words;
    out = let o = weigh_set (λ (y : D). y.waits) s.views id v w at in let o' = r.out in let o'' = weigh_append (λ (y : D). y.waits) views (new ∷ []) in omega arith;
    quotas = let o = weigh_set (λ (y : D). y.quota) s.views id v w at in let o' = r.quotas in let o'' = weigh_append (λ (y : D). y.quota) views (new ∷ []) in omega arith;
    few = r.few;
    each = each_snoc (ViewFits history key.first_value.value r.entries r.served r.next) views new
        record { seen = p.seen; own = tt; joined = tt; quota = omega arith; first_value_is = λ _. p.first_value_is (omega arith); spent = λ _. (refl, refl); ticket = λ l. absurd (none_inside 0 refl l); slot = λ l. absurd (none_inside 0 refl l) }
        (each_set (ViewFits history key.first_value.value r.entries r.served r.next) s.views id w
        record { seen = p.seen; own = p.own; joined = p.joined; quota = omega arith; first_value_is = λ _. p.first_value_is (omega arith); spent = λ e. absurd (omega arith); ticket = p.ticket; slot = p.slot }
        (λ i u ne a. r.each i u a));
    apart = apart_snoc views new refl (apart_set s.views id w r.apart (λ i u ne a pu pw e. absurd (none_inside v.waits idle pw)));
    slot = slot_snoc key.first_value.value r.entries s views new refl (slot_set key.first_value.value r.entries s s.words id v w at refl r.slot);
    shared = tags_split (history key.first_value.value) r.entries views new refl refl (tags_same (history key.first_value.value) r.entries s.views id v w at refl refl (λ _. omega arith) r.shared);
    whole = λ g. let o = weigh_set (owned_weight g) s.views id v w at in let o' = r.whole g in let o'' = weigh_append (owned_weight g) views (new ∷ []) in omega arith;
  }

  longer_is : (P : List E → Type 0) (xs ys : List E) → (length xs ≤ length ys → P ys) → (length ys ≤ length xs → P xs) → P (longer xs ys)
  longer_is P xs ys a b = by_test P xs ys (leb (length xs) (length ys)) (λ e. a (leb-true (length xs) (length ys) e)) (λ e. b (let l = leb-false (length xs) (length ys) e in omega arith))

  longer_left : (xs ys zs : List E) → IsPrefix xs zs → IsPrefix ys zs → IsPrefix xs (longer xs ys)
  longer_left xs ys zs a b = longer_is (IsPrefix xs) xs ys (begins_both xs ys zs a b) (λ _. begins_same xs)

  longer_right : (xs ys zs : List E) → IsPrefix xs zs → IsPrefix ys zs → IsPrefix ys (longer xs ys)
  longer_right xs ys zs a b = longer_is (IsPrefix ys) xs ys (λ _. begins_same ys) (begins_both ys xs zs b a)

  pub joins : (key : Key V) (id other : ℕ) (v u : D) → v.waits ≡ 0 → v.inside ≡ 0 → 0 < v.quota → 0 < u.quota → u.waits ≡ 0 → u.inside ≡ 0 → Joins (Rule key) id v other u (joined_view v u) spent_view
  joins key id other v u idle out some_quota some_other idle' out' s r at ne at' = let w : D = joined_view v u in let views : List D = set s.views id w in
      let before : At s.views other u = sym (set_else s.views id other w ne) ∙ at' in
      let p = r.each id v at in let q = r.each other u before in
      let more = longer_left v.seen u.seen r.entries p.seen q.seen in let more' = longer_right v.seen u.seen r.entries p.seen q.seen in record {
        entries = r.entries;
        begun = r.begun;
        next = r.next;
        served = r.served;
        bells = r.bells;
        words = r.words;
        out = let o = weigh_set (λ (y : D). y.waits) s.views id v w at in let o' = r.out in let o'' = weigh_set (λ (y : D). y.waits) views other u spent_view at' in omega arith;
        quotas = let o = weigh_set (λ (y : D). y.quota) s.views id v w at in let o' = r.quotas in let o'' = weigh_set (λ (y : D). y.quota) views other u spent_view at' in omega arith;
        few = r.few;
        each = each_set (ViewFits history key.first_value.value r.entries r.served r.next) views other spent_view
            record { seen = (r.entries, refl); own = tt; joined = tt; quota = omega arith; first_value_is = λ l. absurd (none_inside 0 refl l); spent = λ _. (refl, refl); ticket = λ l. absurd (none_inside 0 refl l); slot = λ l. absurd (none_inside 0 refl l) }
            (λ i x _ a. each_set (ViewFits history key.first_value.value r.entries r.served r.next) s.views id w
            record {
              seen = longer_is (λ l. IsPrefix l r.entries) v.seen u.seen (λ _. q.seen) (λ _. p.seen);
              own = stands_later v.own v.seen w.seen more p.own;
              joined = all_append v.joined (u.own ∷ u.joined) w.seen (all_later v.joined v.seen w.seen more p.joined) (stands_later u.own u.seen w.seen more' q.own, all_later u.joined u.seen w.seen more' q.joined);
              quota = let l = p.quota in omega arith;
              first_value_is = λ _. p.first_value_is some_quota;
              spent = λ e. absurd (omega arith);
              ticket = p.ticket;
              slot = λ l. absurd (none_inside v.inside out l);
            }
            (λ j y _ b. r.each j y b) i x a);
        apart = apart_set views other spent_view (apart_set s.views id w r.apart (λ i x _ a pu pw e. absurd (none_inside v.waits idle pw))) (λ i x _ a pu pw e. absurd (none_inside 0 refl pw));
        slot = slot_set key.first_value.value r.entries record { words = s.words; homes = s.homes; views = views } s.words other u spent_view at' (sym out') (slot_set key.first_value.value r.entries s s.words id v w at refl r.slot);
        shared = tags_join (history key.first_value.value) r.entries s.views id other v u w spent_view at before ne some_quota some_other refl refl refl r.shared;
        whole = λ g. let o = weigh_set (owned_weight g) s.views id v w at in let o' = r.whole g in let o'' = weigh_set (owned_weight g) views other u spent_view at' in let a = weigh_append (weight g) v.joined (u.own ∷ u.joined) in omega arith;
      }

  pub starts : (key : Key V) (x : V) (n : ℕ) → x ≡ key.first_value.value → n ≡ length (history x) → kin x x → key.passes < 2 ^ 32 → Rule key (opening (0 ∷ 0 ∷ n ∷ silent) (x ∷ []) (first_view history key))
  starts key x n first counted same few = let v : D = first_view history key in let first_value : V = key.first_value.value in record {
    entries = history first_value;
    begun = begins_same (history first_value);
    next = 0;
    served = 0;
    bells = silent;
    words = ap (λ (k : ℕ). 0 ∷ 0 ∷ k ∷ silent) (counted ∙ ap (λ y. length (history y)) first);
    out = refl;
    quotas = omega arith;
    few = few;
    each = each_snoc (ViewFits history first_value (history first_value) 0 0) [] v
        record { seen = begins_same (history first_value); own = tt; joined = tt; quota = omega arith; first_value_is = λ _. refl; spent = λ _. (refl, refl); ticket = λ l. absurd (none_inside 0 refl l); slot = λ l. absurd (none_inside 0 refl l) }
        (λ i u a. absurd (some-ne-none u (sym a)));
    apart = apart_snoc [] v refl (λ i j u w a b pu pw e. absurd (some-ne-none u (sym a)));
    slot = inl (x, refl, ap history first, subst (λ y. kin y x) first same, each_snoc (λ y. ¬ (0 < y.inside)) [] v (none_inside 0 refl) (λ i u a. absurd (some-ne-none u (sym a))));
    shared = tags_start (history first_value) v refl refl;
    whole = λ g. omega arith;
  }

  -- with the whole quota in one seat that is outside, no seat is inside
  all_home : (key : Key V) (s : St) (r : Rule key s) (id : ℕ) (v : D) → At s.views id v → v.inside ≡ 0 → v.quota ≡ key.passes → Home history kin key.first_value.value r.entries s
  all_home key s r id v at out whole = ⊎_elim (λ (h : Home history kin key.first_value.value r.entries s). h)
      (λ (a : Away history kin s). absurd (let q = r.each a.1 a.2 a.3 in let l = (q.slot a.4).0 in let l' = q.quota in dite (ℕ_discrete a.1 id)
      (λ e. none_inside v.inside out (subst (λ (x : D). 0 < x.inside) (same_view s.views a.1 id a.2 v a.3 at e) a.4))
      (λ ne. let two = weigh_two (λ (x : D). x.quota) s.views a.1 id a.2 v ne a.3 at in let c = r.quotas in omega arith)))
      r.slot

  pub closes : (key : Key V) (id : ℕ) (v : D) (ws : List ℕ) (xs : List V) (y : V) → v.inside ≡ 0 → 0 < v.quota → v.quota ≡ key.passes → Final (Seen (Rule key) id v) ws xs → get_elem? xs 0 ≡ some y
      → GivesBack history kin key.first_value.value v y
  closes key id v ws xs y out some_quota whole f here = let s = f.0 in let r = f.1.0 in let at = f.1.1 in let h = all_home key s r id v at out whole in let p = r.each id v at in
      let same : h.0 ≡ y = some-injective h.0 y (sym (f.4 0 h.0 (ap (λ hs. get_elem? hs 0) h.1)) ∙ here) in let now : history y ≡ r.entries = ap history (sym same) ∙ h.2 in
      let rest_empty : (g : E → ℕ) (j : ℕ) (u : D) → j ≢ id → At s.views j u → owned_weight g u ≡ 0 = (λ g j u ne a. let two = weigh_two (λ (x : D). x.quota) s.views j id u v ne a at in let c = r.quotas in
      let e = (r.each j u a).spent (omega arith) in ap (λ (z : List E × List (List E)). weight g z.0 + weight (weight g) z.1) (λ k. (e.0 k, e.1 k))) in record {
        same = subst (kin key.first_value.value) same h.3;
        begun = subst (IsPrefix (history key.first_value.value)) (sym now) r.begun;
        seen = subst (IsPrefix v.seen) (sym now) p.seen;
        own = subst (IsSubsequence v.own) (sym now) (stands_later v.own v.seen r.entries p.seen p.own);
        joined = subst (AreSubsequences v.joined) (sym now) (all_later v.joined v.seen r.entries p.seen p.joined);
        shares = subst (AreShares (history key.first_value.value) (v.own ∷ v.joined)) (sym now) (tags_close (history key.first_value.value) r.entries s.views id v at some_quota r.shared);
        whole = λ g. ap (weight g) now ∙ (r.whole g ∙ ap (λ (n : ℕ). weight g (history key.first_value.value) + n) (weigh_alone (owned_weight g) s.views id v at (rest_empty g)));
      }
