-- Weights, beginnings, and lists that stand in others.
use Rattle.std.proofs.Common.{◌≡◌, ◌≢◌, ℕ, zero, suc, ◌+◌, ◌≤◌, List, [], ◌∷◌, ◌++◌, length, drop, set, refl, sym, ap, ◌∙◌, subst, inl, inr, ⊎_elim, take, append_assoc, append-nil, arith}
use Rattle.std.proofs.Math.Seq.{drop-append_seam, take-append_seam}
use Rattle.std.proofs.lemmas.List.{take-append-drop, take-append-le}
use mathlib.Core.Option.{some, some-injective, some-ne-none}
use lib.ListN.{get_elem?}
use Rattle.turnstile.specs.Lists.{weight, IsPrefix, IsSubsequence, AreSubsequences}

module _ {X : Type 0} where
  pub weigh_set : (f : X → ℕ) (xs : List X) (i : ℕ) (v w : X) → get_elem? xs i ≡ some v → weight f (set xs i w) + f v ≡ weight f xs + f w
  weigh_set f [] i v w at = absurd (some-ne-none v (sym at))
  weigh_set f (x ∷ xs) zero v w at = let e : f x ≡ f v = ap f (some-injective x v at) in omega arith
  weigh_set f (x ∷ xs) (suc i) v w at = let r = weigh_set f xs i v w at in omega arith

  pub weigh_append : (f : X → ℕ) (xs ys : List X) → weight f (xs ++ ys) ≡ weight f xs + weight f ys
  weigh_append f [] ys = omega arith
  weigh_append f (x ∷ xs) ys = let r = weigh_append f xs ys in omega arith

  pub weigh_at : (f : X → ℕ) (xs : List X) (i : ℕ) (v : X) → get_elem? xs i ≡ some v → f v ≤ weight f xs
  weigh_at f [] i v at = absurd (some-ne-none v (sym at))
  weigh_at f (x ∷ xs) zero v at = let e : f x ≡ f v = ap f (some-injective x v at) in omega arith
  weigh_at f (x ∷ xs) (suc i) v at = let r = weigh_at f xs i v at in omega arith

  pub weigh_le : (f g : X → ℕ) (xs : List X) → ((i : ℕ) (v : X) → get_elem? xs i ≡ some v → f v ≤ g v) → weight f xs ≤ weight g xs
  weigh_le f g [] each = omega arith
  weigh_le f g (x ∷ xs) each = let a = each 0 x refl in let r = weigh_le f g xs (λ i v at. each (suc i) v at) in omega arith

  pub weigh_two : (f : X → ℕ) (xs : List X) (i j : ℕ) (v w : X) → i ≢ j → get_elem? xs i ≡ some v → get_elem? xs j ≡ some w → f v + f w ≤ weight f xs
  weigh_two f [] i j v w ne a b = absurd (some-ne-none v (sym a))
  weigh_two f (x ∷ xs) zero zero v w ne a b = absurd (ne refl)
  weigh_two f (x ∷ xs) zero (suc j) v w ne a b = let e : f x ≡ f v = ap f (some-injective x v a) in let r = weigh_at f xs j w b in omega arith
  weigh_two f (x ∷ xs) (suc i) zero v w ne a b = let e : f x ≡ f w = ap f (some-injective x w b) in let r = weigh_at f xs i v a in omega arith
  weigh_two f (x ∷ xs) (suc i) (suc j) v w ne a b = let r = weigh_two f xs i j v w (λ e. ne (ap suc e)) a b in omega arith

  weigh_none : (f : X → ℕ) (xs : List X) → ((i : ℕ) (v : X) → get_elem? xs i ≡ some v → f v ≡ 0) → weight f xs ≡ 0
  weigh_none f [] each = refl
  weigh_none f (x ∷ xs) each = let a = each 0 x refl in let r = weigh_none f xs (λ i v at. each (suc i) v at) in omega arith

  pub weigh_alone : (f : X → ℕ) (xs : List X) (i : ℕ) (v : X) → get_elem? xs i ≡ some v → ((j : ℕ) (w : X) → j ≢ i → get_elem? xs j ≡ some w → f w ≡ 0) → weight f xs ≡ f v
  weigh_alone f [] i v a others = absurd (some-ne-none v (sym a))
  weigh_alone f (x ∷ xs) zero v a others = let e : f x ≡ f v = ap f (some-injective x v a) in let r = weigh_none f xs (λ j w b. others (suc j) w (λ e. omega arith) b) in omega arith
  weigh_alone f (x ∷ xs) (suc i) v a others = let e = others 0 x (λ e. omega arith) refl in let r = weigh_alone f xs i v a (λ j w ne b. others (suc j) w (λ e. ne (omega arith)) b) in omega arith

  pub begins_same : (xs : List X) → IsPrefix xs xs
  begins_same xs = ([], sym (append-nil xs))

  pub begins_trans : (xs ys zs : List X) → IsPrefix xs ys → IsPrefix ys zs → IsPrefix xs zs
  begins_trans xs ys zs a b = (a.0 ++ b.0, b.1 ∙ (ap (λ l. l ++ b.0) a.1 ∙ append_assoc xs a.0 b.0))

  pub begins_cons : (x : X) (xs ys : List X) → IsPrefix xs ys → IsPrefix (x ∷ xs) (x ∷ ys)
  begins_cons x xs ys b = (b.0, ap (λ l. x ∷ l) b.1)

  pub begins_drop : (xs ys : List X) → IsPrefix xs ys → ys ≡ xs ++ drop (length xs) ys
  begins_drop xs ys b = b.1 ∙ ap (λ l. xs ++ l) (sym (ap (drop (length xs)) b.1 ∙ drop-append_seam xs b.0))

  -- of two beginnings of one list the shorter begins the longer
  pub begins_both : (xs ys zs : List X) → IsPrefix xs zs → IsPrefix ys zs → length xs ≤ length ys → IsPrefix xs ys
  begins_both xs ys zs a b le =
      let front : xs ≡ take (length xs) ys = sym (take-append_seam xs a.0) ∙ (ap (take (length xs)) (sym a.1 ∙ b.1) ∙ take-append-le (length xs) ys b.0 le) in
      (drop (length xs) ys, sym (take-append-drop (length xs) ys) ∙ ap (λ l. l ++ drop (length xs) ys) (sym front))

  pub stands_more : (xs ys zs : List X) → IsSubsequence xs ys → IsSubsequence xs (ys ++ zs)
  stands_more [] ys zs s = tt
  stands_more (x ∷ xs) [] zs s = absurd s
  stands_more (x ∷ xs) (y ∷ ys) zs s = ⊎_elim (λ (t : (x ≡ y) × IsSubsequence xs ys). inl (t.0, stands_more xs ys zs t.1)) (λ (t : IsSubsequence (x ∷ xs) ys). inr (stands_more (x ∷ xs) ys zs t)) s

  pub stands_same : (xs : List X) → IsSubsequence xs xs
  stands_same [] = tt
  stands_same (x ∷ xs) = inl (refl, stands_same xs)

  pub stands_behind : (ys zs : List X) → IsSubsequence zs (ys ++ zs)
  stands_behind [] zs = stands_same zs
  stands_behind (y ∷ ys) [] = tt
  stands_behind (y ∷ ys) (z ∷ zs) = inr (stands_behind ys (z ∷ zs))

  pub stands_append : (xs ys zs : List X) → IsSubsequence xs ys → IsSubsequence (xs ++ zs) (ys ++ zs)
  stands_append [] ys zs s = stands_behind ys zs
  stands_append (x ∷ xs) [] zs s = absurd s
  stands_append (x ∷ xs) (y ∷ ys) zs s = ⊎_elim (λ (t : (x ≡ y) × IsSubsequence xs ys). inl (t.0, stands_append xs ys zs t.1)) (λ (t : IsSubsequence (x ∷ xs) ys). inr (stands_append (x ∷ xs) ys zs t)) s

  pub all_more : (xss : List (List X)) (ys zs : List X) → AreSubsequences xss ys → AreSubsequences xss (ys ++ zs)
  all_more [] ys zs s = tt
  all_more (xs ∷ xss) ys zs s = (stands_more xs ys zs s.0, all_more xss ys zs s.1)

  pub all_append : (xss yss : List (List X)) (zs : List X) → AreSubsequences xss zs → AreSubsequences yss zs → AreSubsequences (xss ++ yss) zs
  all_append [] yss zs s t = t
  all_append (xs ∷ xss) yss zs s t = (s.0, all_append xss yss zs s.1 t)

  -- the same where the list is longer
  pub stands_later : (xs ys zs : List X) → IsPrefix ys zs → IsSubsequence xs ys → IsSubsequence xs zs
  stands_later xs ys zs b s = subst (IsSubsequence xs) (sym b.1) (stands_more xs ys b.0 s)

  pub all_later : (xss : List (List X)) (ys zs : List X) → IsPrefix ys zs → AreSubsequences xss ys → AreSubsequences xss zs
  all_later xss ys zs b s = subst (AreSubsequences xss) (sym b.1) (all_more xss ys b.0 s)
