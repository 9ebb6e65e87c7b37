-- How a history stays shared out among the views.
use Rattle.std.proofs.Common.{◌≡◌, ◌≢◌, ◌⊎◌, ℕ, zero, suc, ◌+◌, ◌<◌, Bool, true, false, cond, eqb, eq-eqb, ne_eqb, List, [], ◌∷◌, ◌++◌, map, replicate, length, drop, get_or, set, refl, sym, ap, ◌∙◌, subst, inl, inr, ⊎_elim, length-append, arith}
use mathlib.Core.Logic.{dite}
use mathlib.Core.Option.{some, some-injective, some-ne-none}
use mathlib.Core.List.{map-append}
use native.Mathlib.Decide.{ℕ_discrete}
use lib.ListN.{get_elem?, length-replicate}
use Rattle.atomic_table.proofs.Lists.{at_set}
use Rattle.turnstile.specs.declared.views.View.{View}
use Rattle.turnstile.specs.Shares.{written_by, AreShares}
use Rattle.turnstile.specs.Rule.{IsSharedOut}

-- `f` with another value at i
abbrev pub put : {X : Type 0} → (ℕ → X) → ℕ → X → ℕ → X
put f i x j = cond (eqb j i) x (f j)

put_here : {X : Type 0} (f : ℕ → X) (i : ℕ) (x : X) → put f i x i ≡ x
put_here f i x = ap (λ b. cond b x (f i)) (eq-eqb i i refl)

put_else : {X : Type 0} (f : ℕ → X) (i j : ℕ) (x : X) → j ≢ i → put f i x j ≡ f j
put_else f i j x ne = ap (λ b. cond b x (f j)) (ne_eqb j i ne)

module _ {X : Type 0} where
  at_in_append : (xs ys : List X) (p : ℕ) (k : X) → get_elem? (xs ++ ys) p ≡ some k → (get_elem? xs p ≡ some k) ⊎ ((q : ℕ) × (p ≡ length xs + q) × (get_elem? ys q ≡ some k))
  at_in_append [] ys p k at = inr (p, omega arith, at)
  at_in_append (x ∷ xs) ys zero k at = inl at
  at_in_append (x ∷ xs) ys (suc p) k at = ⊎_elim (λ (t : get_elem? xs p ≡ some k). inl t) (λ (t : (q : ℕ) × (p ≡ length xs + q) × (get_elem? ys q ≡ some k)). inr (t.0, (let e = t.1 in omega arith), t.2)) (at_in_append xs ys p k at)

  at_below : (xs : List X) (p : ℕ) (k : X) → get_elem? xs p ≡ some k → p < length xs
  at_below [] p k at = absurd (some-ne-none k (sym at))
  at_below (x ∷ xs) zero k at = omega arith
  at_below (x ∷ xs) (suc p) k at = let l = at_below xs p k at in omega arith

  map_same : {Y : Type 0} (f g : X → Y) (xs : List X) → ((p : ℕ) (x : X) → get_elem? xs p ≡ some x → f x ≡ g x) → map f xs ≡ map g xs
  map_same f g [] each = refl
  map_same f g (x ∷ xs) each = λ i. each 0 x refl i ∷ map_same f g xs (λ p y at. each (suc p) y at) i

  both_more : (t : Bool) (x : X) (l l' more : List X) → l' ≡ l ++ more → cond t (x ∷ l') l' ≡ cond t (x ∷ l) l ++ more
  both_more true x l l' more e = ap (λ m. x ∷ m) e
  both_more false x l l' more e = e

  -- what an author adds behind the rest
  picked_own : (k : ℕ) (bs : List ℕ) (xs more : List X) → length bs ≡ length xs → written_by k (bs ++ replicate (length more) k) (xs ++ more) ≡ written_by k bs xs ++ more
  picked_own k [] [] [] e = refl
  picked_own k [] [] (m ∷ more) e = let l : List X = written_by k (replicate (length more) k) more in ap (λ b. cond b (m ∷ l) l) (eq-eqb k k refl) ∙ ap (λ z. m ∷ z) (picked_own k [] [] more refl)
  picked_own k [] (x ∷ xs) more e = absurd (omega arith)
  picked_own k (b ∷ bs) [] more e = absurd (omega arith)
  picked_own k (b ∷ bs) (x ∷ xs) more e = both_more (eqb b k) x (written_by k bs xs) (written_by k (bs ++ replicate (length more) k) (xs ++ more)) more (picked_own k bs xs more (omega arith))

  picked_other : (j k : ℕ) (bs : List ℕ) (xs more : List X) → length bs ≡ length xs → k ≢ j → written_by j (bs ++ replicate (length more) k) (xs ++ more) ≡ written_by j bs xs
  picked_other j k [] [] [] e ne = refl
  picked_other j k [] [] (m ∷ more) e ne = let l : List X = written_by j (replicate (length more) k) more in ap (λ b. cond b (m ∷ l) l) (ne_eqb k j ne) ∙ picked_other j k [] [] more refl ne
  picked_other j k [] (x ∷ xs) more e ne = absurd (omega arith)
  picked_other j k (b ∷ bs) [] more e ne = absurd (omega arith)
  picked_other j k (b ∷ bs) (x ∷ xs) more e ne = ap (λ l. cond (eqb b j) (x ∷ l) l) (picked_other j k bs xs more (omega arith) ne)

  picked_none : (k : ℕ) (bs : List ℕ) (xs : List X) → ((p a : ℕ) → get_elem? bs p ≡ some a → a < k) → written_by k bs xs ≡ []
  picked_none k [] xs below = refl
  picked_none k (b ∷ bs) [] below = refl
  picked_none k (b ∷ bs) (x ∷ xs) below = let l = below 0 b refl in let m : List X = written_by k bs xs in ap (λ t. cond t (x ∷ m) m) (ne_eqb b k (λ e. omega arith)) ∙ picked_none k bs xs (λ p a at. below (suc p) a at)

  at_replicate : (n q : ℕ) (x y : X) → get_elem? (replicate n x) q ≡ some y → x ≡ y
  at_replicate zero q x y at = absurd (some-ne-none y (sym at))
  at_replicate (suc n) zero x y at = some-injective x y at
  at_replicate (suc n) (suc q) x y at = at_replicate n q x y at

  at_snoc_where : (xs : List X) (w y : X) (i : ℕ) → get_elem? (xs ++ w ∷ []) i ≡ some y → ((i < length xs) × (get_elem? xs i ≡ some y)) ⊎ ((i ≡ length xs) × (w ≡ y))
  at_snoc_where [] w y zero at = inr (refl, some-injective w y at)
  at_snoc_where [] w y (suc i) at = absurd (some-ne-none y (sym at))
  at_snoc_where (x ∷ xs) w y zero at = inl (omega arith, at)
  at_snoc_where (x ∷ xs) w y (suc i) at = ⊎_elim (λ (t : (i < length xs) × (get_elem? xs i ≡ some y)). inl ((let l = t.0 in omega arith), t.1)) (λ (t : (i ≡ length xs) × (w ≡ y)). inr (ap suc t.0, t.1)) (at_snoc_where xs w y i at)

split_names : {X : Type 0} (f : ℕ → X) (ns : List ℕ) (x : X) (xs : List X) → map f ns ≡ x ∷ xs → (k : ℕ) × (ks : List ℕ) × (ns ≡ k ∷ ks) × (f k ≡ x) × (map f ks ≡ xs)
split_names f [] x xs e = absurd (let l = ap length e in omega arith)
split_names f (k ∷ ks) x xs e = (k, ks, refl, ap (λ l. get_or l 0 x) e, ap (drop 1) e)

only : (p x k : ℕ) → get_elem? (x ∷ []) p ≡ some k → x ≡ k
only zero x k at = some-injective x k at
only (suc p) x k at = absurd (some-ne-none k (sym at))

-- where a number stands once one seat has one name
put_at : (names : ℕ → List ℕ) (m : ℕ) (x i p k : ℕ) → get_elem? (put names m (x ∷ []) i) p ≡ some k → ((i ≡ m) × (p ≡ 0) × (x ≡ k)) ⊎ ((i ≢ m) × (get_elem? (names i) p ≡ some k))
put_at names m x i p k at = dite (ℕ_discrete i m)
    (λ e. let here : get_elem? (x ∷ []) p ≡ some k = subst (λ l. get_elem? l p ≡ some k) (ap (put names m (x ∷ [])) e ∙ put_here names m (x ∷ [])) at in inl (e, let l = at_below (x ∷ []) p k here in omega arith, only p x k here))
    (λ ne. inr (ne, subst (λ l. get_elem? l p ≡ some k) (put_else names m i (x ∷ []) ne) at))

-- where a name stood before the seat `other` was taken into the seat `id`
abbrev Origin : (ℕ → List ℕ) → ℕ → ℕ → ℕ → ℕ → ℕ → Type 0
Origin names id other i p k = (i' : ℕ) × (p' : ℕ) × (get_elem? (names i') p' ≡ some k)
    × (((i ≡ i') × (p ≡ p') × (i ≢ id) × (i ≢ other)) ⊎ (((i ≡ id) × (i' ≡ id) × (p ≡ p')) ⊎ ((i ≡ id) × (i' ≡ other) × (p ≡ length (names id) + p'))))

origin : (names : ℕ → List ℕ) (id other : ℕ) → other ≢ id → (i p k : ℕ) → get_elem? (put (put names id (names id ++ names other)) other [] i) p ≡ some k → Origin names id other i p k
origin names id other ne i p k at = let mid : ℕ → List ℕ = put names id (names id ++ names other) in dite (ℕ_discrete i other)
    (λ e. absurd (some-ne-none k (sym (sym (ap (λ l. get_elem? l p) (ap (put mid other []) e ∙ put_here mid other [])) ∙ at))))
    (λ ne'. let at' : get_elem? (mid i) p ≡ some k = ap (λ l. get_elem? l p) (sym (put_else mid other i [] ne')) ∙ at in dite (ℕ_discrete i id)
    (λ e. let here : get_elem? (names id ++ names other) p ≡ some k = ap (λ l. get_elem? l p) (sym (ap mid e ∙ put_here names id (names id ++ names other))) ∙ at' in ⊎_elim
    (λ (x : get_elem? (names id) p ≡ some k). (id, p, x, inr (inl (e, refl, refl))))
    (λ (x : (q : ℕ) × (p ≡ length (names id) + q) × (get_elem? (names other) q ≡ some k)). (other, x.0, x.2, inr (inr (e, refl, x.1))))
    (at_in_append (names id) (names other) p k here))
    (λ ne''. (i, p, ap (λ l. get_elem? l p) (sym (put_else names id i (names id ++ names other) ne'')) ∙ at', inl (refl, refl, ne'', ne'))))

same_origin : (names : ℕ → List ℕ) (id other : ℕ) → other ≢ id → (i j p q k : ℕ) (x : Origin names id other i p k) (y : Origin names id other j q k) → x.0 ≡ y.0 → x.1 ≡ y.1 → (i ≡ j) × (p ≡ q)
same_origin names id other ne i j p q k x y e e' = ⊎_elim
    (λ (a : (i ≡ x.0) × (p ≡ x.1) × (i ≢ id) × (i ≢ other)). ⊎_elim
    (λ (b : (j ≡ y.0) × (q ≡ y.1) × (j ≢ id) × (j ≢ other)). (a.0 ∙ (e ∙ sym b.0), a.1 ∙ (e' ∙ sym b.1)))
    (⊎_elim
    (λ (b : (j ≡ id) × (y.0 ≡ id) × (q ≡ y.1)). absurd (a.2 (a.0 ∙ (e ∙ b.1))))
    (λ (b : (j ≡ id) × (y.0 ≡ other) × (q ≡ length (names id) + y.1)). absurd (a.3 (a.0 ∙ (e ∙ b.1)))))
    y.3)
    (⊎_elim
    (λ (a : (i ≡ id) × (x.0 ≡ id) × (p ≡ x.1)). ⊎_elim
    (λ (b : (j ≡ y.0) × (q ≡ y.1) × (j ≢ id) × (j ≢ other)). absurd (b.2 (b.0 ∙ (sym e ∙ a.1))))
    (⊎_elim
    (λ (b : (j ≡ id) × (y.0 ≡ id) × (q ≡ y.1)). (a.0 ∙ sym b.0, a.2 ∙ (e' ∙ sym b.2)))
    (λ (b : (j ≡ id) × (y.0 ≡ other) × (q ≡ length (names id) + y.1)). absurd (ne (sym b.1 ∙ (sym e ∙ a.1)))))
    y.3)
    (λ (a : (i ≡ id) × (x.0 ≡ other) × (p ≡ length (names id) + x.1)). ⊎_elim
    (λ (b : (j ≡ y.0) × (q ≡ y.1) × (j ≢ id) × (j ≢ other)). absurd (b.3 (b.0 ∙ (sym e ∙ a.1))))
    (⊎_elim
    (λ (b : (j ≡ id) × (y.0 ≡ id) × (q ≡ y.1)). absurd (ne (sym a.1 ∙ (e ∙ b.1))))
    (λ (b : (j ≡ id) × (y.0 ≡ other) × (q ≡ length (names id) + y.1)). (a.0 ∙ sym b.0, a.2 ∙ (ap (λ (n : ℕ). length (names id) + n) e' ∙ sym b.2))))
    y.3))
    x.3

module _ {V E : Type 0} where
  -- one view changes, and its entries stay
  pub tags_same : (o entries : List E) (views : List (View V E)) (id : ℕ) (v w : View V E) → get_elem? views id ≡ some v → w.own ≡ v.own → w.joined ≡ v.joined → (0 < w.quota → 0 < v.quota)
      → IsSharedOut o entries views → IsSharedOut o entries (set views id w)
  tags_same o entries views id v w at own joined quota t = record {
    authors = t.authors;
    one_each = t.one_each;
    opening_is = t.opening_is;
    made = t.made;
    known = t.known;
    names = t.names;
    lists = λ i u at' q. ⊎_elim
        (λ (s : (i ≡ id) × (w ≡ u)). ap (λ n. map (λ k. written_by k t.authors entries) (t.names n)) s.0
        ∙ (t.lists id v at (quota (subst (λ (x : View V E). 0 < x.quota) (sym s.1) q)) ∙ ((λ c. sym own c ∷ sym joined c) ∙ ap (λ (x : View V E). x.own ∷ x.joined) s.1)))
        (λ (s : (i ≢ id) × (get_elem? views i ≡ some u)). t.lists i u s.1 q)
        (at_set views id i w u at');
    apart = t.apart;
    named = t.named;
    begun = t.begun;
  }

  -- one view adds entries
  pub tags_added : (o entries more : List E) (views : List (View V E)) (id : ℕ) (v w : View V E) → get_elem? views id ≡ some v → 0 < v.quota → w.own ≡ v.own ++ more → w.joined ≡ v.joined
      → IsSharedOut o entries views → IsSharedOut o (entries ++ more) (set views id w)
  tags_added o entries more views id v w at some_quota own joined t =
      let f : ℕ → List E = λ k. written_by k t.authors entries in
      let s = split_names f (t.names id) v.own v.joined (t.lists id v at some_quota) in let k = s.0 in let ks = s.1 in
      let first : get_elem? (t.names id) 0 ≡ some k = ap (λ l. get_elem? l 0) s.2 in
      let bs : List ℕ = t.authors ++ replicate (length more) k in
      let g : ℕ → List E = λ j. written_by j bs (entries ++ more) in
      let mine : g k ≡ f k ++ more = picked_own k t.authors entries more t.one_each in
      let other : (j : ℕ) → k ≢ j → g j ≡ f j = (λ j ne. picked_other j k t.authors entries more t.one_each ne) in record {
        authors = bs;
        one_each = let e = t.one_each in omega (arith, length-append t.authors (replicate (length more) k), length-append entries more, length-replicate (length more) k);
        opening_is = other 0 (λ e. let l = (t.named id 0 k first).0 in omega arith) ∙ t.opening_is;
        made = t.made;
        known = λ p a at'. ⊎_elim (λ (z : get_elem? t.authors p ≡ some a). t.known p a z)
            (λ (z : (q : ℕ) × (p ≡ length t.authors + q) × (get_elem? (replicate (length more) k) q ≡ some a)). subst (λ (n : ℕ). n < t.made) (at_replicate (length more) z.0 k a z.2) (t.named id 0 k first).1)
            (at_in_append t.authors (replicate (length more) k) p a at');
        names = t.names;
        lists = λ i u at' q. ⊎_elim
            (λ (z : (i ≡ id) × (w ≡ u)). ap (λ n. map g (t.names n)) z.0 ∙ (ap (map g) s.2
            ∙ ((λ c. (mine ∙ (ap (λ l. l ++ more) s.3 ∙ sym own)) c ∷ (map_same g f ks (λ p j here. other j (λ e. let l = (t.apart id id 0 (suc p) k first (ap (λ l. get_elem? l (suc p)) s.2 ∙ (here ∙ ap some (sym e)))).1 in absurd (omega arith))) ∙ (s.4 ∙ sym joined)) c)
            ∙ ap (λ (x : View V E). x.own ∷ x.joined) z.1)))
            (λ (z : (i ≢ id) × (get_elem? views i ≡ some u)). map_same g f (t.names i) (λ p j here. other j (λ e. z.0 (t.apart i id p 0 k (here ∙ ap some (sym e)) first).0)) ∙ t.lists i u z.1 q)
            (at_set views id i w u at');
        apart = t.apart;
        named = t.named;
        begun = t.begun;
      }

  -- a view comes that has no entries
  pub tags_split : (o entries : List E) (views : List (View V E)) (w : View V E) → w.own ≡ [] → w.joined ≡ [] → IsSharedOut o entries views → IsSharedOut o entries (views ++ w ∷ [])
  tags_split o entries views w own joined t = let m : ℕ = length views in let f : ℕ → List E = λ k. written_by k t.authors entries in let names : ℕ → List ℕ = put t.names m (t.made ∷ []) in record {
    authors = t.authors;
    one_each = t.one_each;
    opening_is = t.opening_is;
    made = t.made + 1;
    known = λ p a at. let l = t.known p a at in omega arith;
    names = names;
    lists = λ i u at q. ⊎_elim
        (λ (z : (i < length views) × (get_elem? views i ≡ some u)). ap (map f) (put_else t.names m i (t.made ∷ []) (λ e. let l = z.0 in omega arith)) ∙ t.lists i u z.1 q)
        (λ (z : (i ≡ length views) × (w ≡ u)). ap (λ n. map f (names n)) z.0 ∙ (ap (map f) (put_here t.names m (t.made ∷ []))
        ∙ ((λ c. picked_none t.made t.authors entries t.known c ∷ []) ∙ ((λ c. sym own c ∷ sym joined c) ∙ ap (λ (x : View V E). x.own ∷ x.joined) z.1))))
        (at_snoc_where views w u i at);
    apart = λ i j p q k a b. ⊎_elim
        (λ (x : (i ≡ m) × (p ≡ 0) × (t.made ≡ k)). ⊎_elim
        (λ (y : (j ≡ m) × (q ≡ 0) × (t.made ≡ k)). (x.0 ∙ sym y.0, x.1 ∙ sym y.1))
        (λ (y : (j ≢ m) × (get_elem? (t.names j) q ≡ some k)). absurd (let l = (t.named j q k y.1).1 in let e = x.2 in omega arith))
        (put_at t.names m t.made j q k b))
        (λ (x : (i ≢ m) × (get_elem? (t.names i) p ≡ some k)). ⊎_elim
        (λ (y : (j ≡ m) × (q ≡ 0) × (t.made ≡ k)). absurd (let l = (t.named i p k x.1).1 in let e = y.2 in omega arith))
        (λ (y : (j ≢ m) × (get_elem? (t.names j) q ≡ some k)). t.apart i j p q k x.1 y.1)
        (put_at t.names m t.made j q k b))
        (put_at t.names m t.made i p k a);
    named = λ i p k a. ⊎_elim
        (λ (x : (i ≡ m) × (p ≡ 0) × (t.made ≡ k)). let e = x.2 in let l = t.begun in (omega arith, omega arith))
        (λ (x : (i ≢ m) × (get_elem? (t.names i) p ≡ some k)). let l = t.named i p k x.1 in (l.0, let l' = l.1 in omega arith))
        (put_at t.names m t.made i p k a);
    begun = omega arith;
  }

  -- a view takes in another, which is spent
  pub tags_join : (o entries : List E) (views : List (View V E)) (id other : ℕ) (v u w z : View V E) → get_elem? views id ≡ some v → get_elem? views other ≡ some u → other ≢ id → 0 < v.quota → 0 < u.quota
      → w.own ≡ v.own → w.joined ≡ v.joined ++ u.own ∷ u.joined → z.quota ≡ 0 → IsSharedOut o entries views → IsSharedOut o entries (set (set views id w) other z)
  tags_join o entries views id other v u w z at at' ne some_v some_u own joined spent t =
      let f : ℕ → List E = λ k. written_by k t.authors entries in
      let mid : ℕ → List ℕ = put t.names id (t.names id ++ t.names other) in
      let names : ℕ → List ℕ = put mid other [] in
      let both : map f (t.names id ++ t.names other) ≡ w.own ∷ w.joined = map-append f (t.names id) (t.names other)
      ∙ ((λ c. t.lists id v at some_v c ++ t.lists other u at' some_u c) ∙ (λ c. sym own c ∷ sym joined c)) in
      let from : (i p k : ℕ) → get_elem? (names i) p ≡ some k → Origin t.names id other i p k = (λ i p k a. origin t.names id other ne i p k a) in record {
        authors = t.authors;
        one_each = t.one_each;
        opening_is = t.opening_is;
        made = t.made;
        known = t.known;
        names = names;
        lists = λ i y a q. ⊎_elim
            (λ (s : (i ≡ other) × (z ≡ y)). absurd (let e : y.quota ≡ 0 = ap (λ (x : View V E). x.quota) (sym s.1) ∙ spent in omega arith))
            (λ (s : (i ≢ other) × (get_elem? (set views id w) i ≡ some y)). ap (map f) (put_else mid other i [] s.0) ∙ ⊎_elim
            (λ (r : (i ≡ id) × (w ≡ y)). ap (λ n. map f (mid n)) r.0 ∙ (ap (map f) (put_here t.names id (t.names id ++ t.names other)) ∙ (both ∙ ap (λ (x : View V E). x.own ∷ x.joined) r.1)))
            (λ (r : (i ≢ id) × (get_elem? views i ≡ some y)). ap (map f) (put_else t.names id i (t.names id ++ t.names other) r.0) ∙ t.lists i y r.1 q)
            (at_set views id i w y s.1))
            (at_set (set views id w) other i z y a);
        apart = λ i j p q k a b. let x = from i p k a in let y = from j q k b in let e = t.apart x.0 y.0 x.1 y.1 k x.2 y.2 in same_origin t.names id other ne i j p q k x y e.0 e.1;
        named = λ i p k a. let x = from i p k a in t.named x.0 x.1 k x.2;
        begun = t.begun;
      }

  pub tags_start : (o : List E) (v : View V E) → v.own ≡ [] → v.joined ≡ [] → IsSharedOut o o (v ∷ [])
  tags_start o v own joined = let bs : List ℕ = replicate (length o) 0 in let f : ℕ → List E = λ k. written_by k bs o in let names : ℕ → List ℕ = put (λ _. []) 0 (1 ∷ []) in
      let low : (p a : ℕ) → get_elem? bs p ≡ some a → a < 1 = (λ p a at. let e = at_replicate (length o) p 0 a at in omega arith) in record {
        authors = bs;
        one_each = length-replicate (length o) 0;
        opening_is = picked_own 0 [] [] o refl;
        made = 2;
        known = λ p a at. let l = low p a at in omega arith;
        names = names;
        lists = λ i u at q. ⊎_elim
            (λ (s : (i < 0) × (get_elem? [] i ≡ some u)). absurd (let l = s.0 in omega arith))
            (λ (s : (i ≡ 0) × (v ≡ u)). ap (λ n. map f (names n)) s.0 ∙ (ap (map f) (put_here (λ _. []) 0 (1 ∷ [])) ∙ ((λ c. picked_none 1 bs o low c ∷ []) ∙ ((λ c. sym own c ∷ sym joined c) ∙ ap (λ (x : View V E). x.own ∷ x.joined) s.1))))
            (at_snoc_where [] v u i at);
        apart = λ i j p q k a b. ⊎_elim
            (λ (x : (i ≡ 0) × (p ≡ 0) × (1 ≡ k)). ⊎_elim
            (λ (y : (j ≡ 0) × (q ≡ 0) × (1 ≡ k)). (x.0 ∙ sym y.0, x.1 ∙ sym y.1))
            (λ (y : (j ≢ 0) × (get_elem? [] q ≡ some k)). absurd (some-ne-none k (sym y.1)))
            (put_at (λ _. []) 0 1 j q k b))
            (λ (x : (i ≢ 0) × (get_elem? [] p ≡ some k)). absurd (some-ne-none k (sym x.1)))
            (put_at (λ _. []) 0 1 i p k a);
        named = λ i p k a. ⊎_elim
            (λ (x : (i ≡ 0) × (p ≡ 0) × (1 ≡ k)). let e = x.2 in (omega arith, omega arith))
            (λ (x : (i ≢ 0) × (get_elem? [] p ≡ some k)). absurd (some-ne-none k (sym x.1)))
            (put_at (λ _. []) 0 1 i p k a);
        begun = omega arith;
      }

  pub tags_close : (o entries : List E) (views : List (View V E)) (id : ℕ) (v : View V E) → get_elem? views id ≡ some v → 0 < v.quota → IsSharedOut o entries views → AreShares o (v.own ∷ v.joined) entries
  tags_close o entries views id v at some_quota t = record {
    authors = t.authors;
    one_each = t.one_each;
    opening_is = t.opening_is;
    names = t.names id;
    lists_are = t.lists id v at some_quota;
    names_apart = λ p q k a b. (t.apart id id p q k a b).1;
    not_opening = λ p k a. (t.named id p k a).0;
  }
