-- Sets and versions as functions of the user.
use Rattle.std.proofs.Common.{◌≡◌, refl, sym, ap, ◌∙◌, cond, List, [], ◌∷◌, ℕ, Bool, true, false, ◌&&◌, ◌||◌, not, true≢false, zero, suc, drop, take, length, ◌++◌, ◌-◌, ◌<◌, append_assoc, arith, length-append, nat_eq, get_or, ◌+◌}
use Rattle.std.specs.Ordering.{nat_cmp, eq_by_cmp, is_eq}
use Rattle.std.specs.declared.cmp.Ordering.{Ordering}
use Rattle.std.specs.declared.cmp.Ordering.TheVariants.{Less, Equal, Greater}
use Rattle.std.specs.List.{filter}
use Rattle.std.proofs.lemmas.List.{drop_more}
use Rattle.std.specs.FinMap.{slice_cmp-IsAntisymmetric, nat_cmp-IsAntisymmetric}
use Rattle.std.specs.Cmp.{eq_by_cmp_equiv}
use Rattle.std.specs.Cmp.Lexicographic.{slice_cmp, pointwise, texts_ties, nat_list_cmp_total}
use Rattle.std.specs.BTreeMap.{is_at}
use Rattle.maps_model.specs.Rules.{set_at}
use Rattle.map_rebuild.specs.Users.{has_user}

-- two ways to say that users are one
pub same_test : (user other : List ℕ) → is_at (slice_cmp nat_cmp user) other ≡ pointwise nat_eq other user
same_test user other = (eq_by_cmp_equiv nat_list_cmp_total).symm user other ∙ sym (texts_ties other user)

-- a write at one user
pub set_one : {X : Type 0} (f g : List ℕ → X) (user : List ℕ) (x : X) → ((q : List ℕ) → g q ≡ cond (is_at (slice_cmp nat_cmp user) q) x (f q)) → (q : List ℕ) → g q ≡ set_at f user x q
set_one f g user x up q = up q ∙ ap (λ b. cond b x (f q)) (same_test user q)

either_way : (b f r : Bool) → (cond b true f || r) ≡ (f || (b || r))
either_way true true r = refl
either_way true false r = refl
either_way false f r = refl

out_of_both : (b f r : Bool) → (cond b false f && not r) ≡ (f && not (b || r))
out_of_both true true r = refl
out_of_both true false r = refl
out_of_both false f r = refl

-- one user more is put in, and the rest are still to be
pub put_next : (f g : List ℕ → Bool) (before rest : List (List ℕ)) (user : List ℕ) (all : List ℕ → Bool) → before ≡ user ∷ rest → ((q : List ℕ) → g q ≡ set_at f user true q)
    → ((q : List ℕ) → (f q || has_user before q) ≡ all q) → (q : List ℕ) → (g q || has_user rest q) ≡ all q
put_next f g before rest user all is puts so q =
    ap (λ b. b || has_user rest q) (puts q ∙ ap (λ b. cond b true (f q)) (texts_ties q user))
    ∙ either_way (eq_by_cmp (slice_cmp nat_cmp) q user) (f q) (has_user rest q)
    ∙ ap (λ (l : List (List ℕ)). f q || has_user l q) (sym is)
    ∙ so q

-- one user more is taken out
pub take_next : (f g : List ℕ → Bool) (before rest : List (List ℕ)) (user : List ℕ) (all : List ℕ → Bool) → before ≡ user ∷ rest → ((q : List ℕ) → g q ≡ set_at f user false q)
    → ((q : List ℕ) → (f q && not (has_user before q)) ≡ all q) → (q : List ℕ) → (g q && not (has_user rest q)) ≡ all q
take_next f g before rest user all is takes so q =
    ap (λ b. b && not (has_user rest q)) (takes q ∙ ap (λ b. cond b false (f q)) (texts_ties q user))
    ∙ out_of_both (eq_by_cmp (slice_cmp nat_cmp) q user) (f q) (has_user rest q)
    ∙ ap (λ (l : List (List ℕ)). f q && not (has_user l q)) (sym is)
    ∙ so q

or_none : (b : Bool) → (b || false) ≡ b
or_none true = refl
or_none false = refl

and_all : (b : Bool) → (b && true) ≡ b
and_all true = refl
and_all false = refl

-- all were put in
pub put_last : (f g : List ℕ → Bool) (rest : List (List ℕ)) (all : List ℕ → Bool) → rest ≡ [] → ((q : List ℕ) → (g q || has_user rest q) ≡ all q) → (q : List ℕ) → g q ≡ all q
put_last f g rest all none so q = sym (or_none (g q)) ∙ ap (λ (l : List (List ℕ)). g q || has_user l q) (sym none) ∙ so q

-- all were taken out
pub take_last : (f g : List ℕ → Bool) (rest : List (List ℕ)) (all : List ℕ → Bool) → rest ≡ [] → ((q : List ℕ) → (g q && not (has_user rest q)) ≡ all q) → (q : List ℕ) → g q ≡ all q
take_last f g rest all none so q = sym (and_all (g q)) ∙ ap (λ (l : List (List ℕ)). g q && not (has_user l q)) (sym none) ∙ so q

second_false : (a b : Bool) → (a || b) ≡ false → b ≡ false
second_false true b e = absurd (true≢false e)
second_false false b e = e

none_dropped : (i : ℕ) (users : List (List ℕ)) (q : List ℕ) → has_user users q ≡ false → has_user (drop i users) q ≡ false
none_dropped zero users q e = e
none_dropped (suc i) [] q e = refl
none_dropped (suc i) (user ∷ users) q e = none_dropped i users q (second_false (eq_by_cmp (slice_cmp nat_cmp) q user) (has_user users q) e)

-- whoever is none of those to be put in is as before, however many were
pub kept_others : (f g : List ℕ → Bool) (users : List (List ℕ)) (i : ℕ) → ((q : List ℕ) → (g q || has_user (drop i users) q) ≡ (f q || has_user users q)) → (q : List ℕ) → has_user users q ≡ false → g q ≡ f q
kept_others f g users i so q none =
    sym (or_none (g q)) ∙ ap (λ b. g q || b) (sym (none_dropped i users q none)) ∙ so q ∙ ap (λ b. f q || b) none ∙ or_none (f q)

is_equal : (o : Ordering) → is_eq o ≡ true → o ≡ Equal
is_equal Less e = absurd (true≢false (sym e))
is_equal Equal e = refl
is_equal Greater e = absurd (true≢false (sym e))

same_user : (a b : List ℕ) → eq_by_cmp (slice_cmp nat_cmp) a b ≡ true → a ≡ b
same_user a b e = slice_cmp-IsAntisymmetric nat_cmp-IsAntisymmetric a b (is_equal (slice_cmp nat_cmp a b) e)

abbrev pub fresh_of : (List ℕ → Bool) → List (List ℕ) → List (List ℕ)
fresh_of f users = filter (λ user. not (f user)) users

-- to put in those that are new is to put in all
pub fresh_adds : (f : List ℕ → Bool) (users : List (List ℕ)) (q : List ℕ) → (f q || has_user (fresh_of f users) q) ≡ (f q || has_user users q)
fresh_adds f [] q = refl
fresh_adds f (user ∷ users) q = by (f user) refl (eq_by_cmp (slice_cmp nat_cmp) q user) refl (fresh_adds f users q)
  where
    more : (a b x y : Bool) → (a || x) ≡ (a || y) → (a || (b || x)) ≡ (a || (b || y))
    more true b x y e = refl
    more false true x y e = refl
    more false false x y e = e

    by : (t : Bool) → f user ≡ t → (s : Bool) → eq_by_cmp (slice_cmp nat_cmp) q user ≡ s → (f q || has_user (fresh_of f users) q) ≡ (f q || has_user users q)
        → (f q || has_user (cond (not (f user)) (user ∷ fresh_of f users) (fresh_of f users)) q) ≡ (f q || (eq_by_cmp (slice_cmp nat_cmp) q user || has_user users q))
    by false e s same rest = ap (λ b. f q || has_user (cond (not b) (user ∷ fresh_of f users) (fresh_of f users)) q) e ∙ more (f q) (eq_by_cmp (slice_cmp nat_cmp) q user) (has_user (fresh_of f users) q) (has_user users q) rest
    by true e false same rest = ap (λ b. f q || has_user (cond (not b) (user ∷ fresh_of f users) (fresh_of f users)) q) e ∙ rest ∙ ap (λ b. f q || (b || has_user users q)) (sym same)
    by true e true same rest =
        let had : f q ≡ true = ap f (same_user q user same) ∙ e in
        ap (λ b. b || has_user (cond (not (f user)) (user ∷ fresh_of f users) (fresh_of f users)) q) had ∙ sym (ap (λ b. b || (eq_by_cmp (slice_cmp nat_cmp) q user || has_user users q)) had)

-- none that was in is among them
pub fresh_apart : (f : List ℕ → Bool) (users : List (List ℕ)) (q : List ℕ) → f q ≡ true → has_user (fresh_of f users) q ≡ false
fresh_apart f [] q had = refl
fresh_apart f (user ∷ users) q had = by (f user) refl (eq_by_cmp (slice_cmp nat_cmp) q user) refl (fresh_apart f users q had)
  where
    by : (t : Bool) → f user ≡ t → (s : Bool) → eq_by_cmp (slice_cmp nat_cmp) q user ≡ s → has_user (fresh_of f users) q ≡ false → has_user (cond (not (f user)) (user ∷ fresh_of f users) (fresh_of f users)) q ≡ false
    by true e s same rest = ap (λ b. has_user (cond (not b) (user ∷ fresh_of f users) (fresh_of f users)) q) e ∙ rest
    by false e false same rest = ap (λ b. has_user (cond (not b) (user ∷ fresh_of f users) (fresh_of f users)) q) e ∙ ap (λ b. b || has_user (fresh_of f users) q) same ∙ rest
    by false e true same rest = absurd (true≢false (sym had ∙ ap f (same_user q user same) ∙ e))

-- what was put in is taken out again: nothing has changed
pub taken_back : (f g h : List ℕ → Bool) (users : List (List ℕ)) → ((q : List ℕ) → has_user (fresh_of f users) q ≡ false → g q ≡ f q) → ((q : List ℕ) → h q ≡ (g q && not (has_user (fresh_of f users) q)))
    → (q : List ℕ) → h q ≡ f q
taken_back f g h users others out q = by (has_user (fresh_of f users) q) refl (f q) refl
  where
    nothing : (b : Bool) → (b && false) ≡ false
    nothing true = refl
    nothing false = refl

    by : (t : Bool) → has_user (fresh_of f users) q ≡ t → (s : Bool) → f q ≡ s → h q ≡ f q
    by false e s had = out q ∙ ap (λ b. g q && not b) e ∙ and_all (g q) ∙ others q e
    by true e true had = absurd (true≢false (sym e ∙ fresh_apart f users q had))
    by true e false had = out q ∙ ap (λ b. g q && not b) e ∙ nothing (g q) ∙ sym had

-- put in, and out again as it was new
pub put_and_out : (f g h : List ℕ → Bool) (user : List ℕ) → f user ≡ false → ((q : List ℕ) → g q ≡ set_at f user true q) → ((q : List ℕ) → h q ≡ set_at g user false q) → (q : List ℕ) → h q ≡ f q
put_and_out f g h user was puts takes q = by (eq_by_cmp (slice_cmp nat_cmp) q user) refl
  where
    by : (t : Bool) → eq_by_cmp (slice_cmp nat_cmp) q user ≡ t → h q ≡ f q
    by true e = takes q ∙ ap (λ b. cond b false (g q)) (texts_ties q user ∙ e) ∙ sym was ∙ ap f (sym (same_user q user e))
    by false e = takes q ∙ ap (λ b. cond b false (g q)) (texts_ties q user ∙ e) ∙ puts q ∙ ap (λ b. cond b true (f q)) (texts_ties q user ∙ e)

-- put in, where it was in before
pub put_again : (f g : List ℕ → Bool) (user : List ℕ) → f user ≡ true → ((q : List ℕ) → g q ≡ set_at f user true q) → (q : List ℕ) → g q ≡ f q
put_again f g user was puts q = by (eq_by_cmp (slice_cmp nat_cmp) q user) refl
  where
    by : (t : Bool) → eq_by_cmp (slice_cmp nat_cmp) q user ≡ t → g q ≡ f q
    by true e = puts q ∙ ap (λ b. cond b true (f q)) (texts_ties q user ∙ e) ∙ sym was ∙ ap f (sym (same_user q user e))
    by false e = puts q ∙ ap (λ b. cond b true (f q)) (texts_ties q user ∙ e)

-- the first ones that are due, as one more is found
pub due_more : (p : List ℕ → Bool) (most : ℕ) (users new : List (List ℕ)) (user : List ℕ) (before rest : List (List ℕ)) (all : List (List ℕ)) → before ≡ user ∷ rest → p user ≡ true
    → new ≡ users ++ user ∷ [] → length users < most → users ++ take (most - length users) (filter p before) ≡ all → new ++ take (most - length new) (filter p rest) ≡ all
due_more p most users new user before rest all is wanted added room found =
    ap (λ (us : List (List ℕ)). us ++ take (most - length us) (filter p rest)) added
    ∙ append_assoc users (user ∷ []) (take (most - length (users ++ user ∷ [])) (filter p rest))
    ∙ ap (λ (us : List (List ℕ)). users ++ us) (sym one_more)
    ∙ found
  where
    left : most - length users ≡ suc (most - length (users ++ user ∷ []))
    left = omega (arith, room, length-append users (user ∷ []))

    first : filter p before ≡ user ∷ filter p rest
    first = ap (filter p) is ∙ ap (λ b. cond b (user ∷ filter p rest) (filter p rest)) wanted

    one_more : take (most - length users) (filter p before) ≡ user ∷ take (most - length (users ++ user ∷ [])) (filter p rest)
    one_more = ap (take (most - length users)) first ∙ ap (λ n. take n (user ∷ filter p rest)) left

-- the one at a place, and those after it
pub at_item : (users : List (List ℕ)) (i : ℕ) (user : List ℕ) → i < length users → user ≡ get_or users i user → drop i users ≡ user ∷ drop (i + 1) users
at_item users i user within is = drop_more users i user within ∙ ap (λ (u : List ℕ). u ∷ drop (i + 1) users) (sym is)
