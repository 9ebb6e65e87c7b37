-- One element of a list is changed after another.
use Rattle.std.proofs.Common.{◌≡◌, ℕ, zero, suc, ◌+◌, ◌<◌, ◌||◌, Bool, true, false, List, [], ◌∷◌, ◌++◌, map, take, drop, length, slice_index_or, slice_set, refl, ap, ◌∙◌, arith}
use Rattle.std.specs.List.{list_any}

module _ {X : Type 0} (f : X → X) (d : X) where
  next : (xs : List X) (i : ℕ) → i < length xs
      → slice_set (map f (take i xs) ++ drop i xs) i (f (slice_index_or (map f (take i xs) ++ drop i xs) i d)) ≡ map f (take (suc i) xs) ++ drop (suc i) xs
  next [] i lt = absurd (omega (arith, lt))
  next (x ∷ xs) zero lt = refl
  next (x ∷ xs) (suc i) lt = ap (λ (l : List X). f x ∷ l) (next xs i (omega (arith, lt)))

  pub written_next : (xs ys : List X) (i : ℕ) (y : X) → i < length xs → ys ≡ map f (take i xs) ++ drop i xs → y ≡ f (slice_index_or ys i d)
      → slice_set ys i y ≡ map f (take (i + 1) xs) ++ drop (i + 1) xs
  written_next xs ys i y lt e is = ap (slice_set ys i) is ∙ ap (λ (l : List X). slice_set l i (f (slice_index_or l i d))) e ∙ next xs i lt
      ∙ ap (λ n. map f (take n xs) ++ drop n xs) (one i)
    where
      one : (i : ℕ) → suc i ≡ i + 1
      one i = omega arith

  -- what is gathered of the first elements, with one more
  pub any_next : (p : X → Bool) (xs : List X) (i : ℕ) → i < length xs → (list_any p (take i xs) || p (slice_index_or xs i d)) ≡ list_any p (take (i + 1) xs)
  any_next p xs i lt = go xs i lt ∙ ap (λ n. list_any p (take n xs)) (one i)
    where
      one : (i : ℕ) → suc i ≡ i + 1
      one i = omega arith

      go : (xs : List X) (i : ℕ) → i < length xs → (list_any p (take i xs) || p (slice_index_or xs i d)) ≡ list_any p (take (suc i) xs)
      go [] i lt = absurd (omega (arith, lt))
      go (x ∷ xs) zero lt = by (p x)
        where
          by : (b : Bool) → (false || b) ≡ (b || false)
          by true = refl
          by false = refl
      go (x ∷ xs) (suc i) lt = by (p x) ∙ ap (λ b. p x || b) (go xs i (omega (arith, lt)))
        where
          by : (b : Bool) → ((b || list_any p (take i xs)) || p (slice_index_or xs i d)) ≡ (b || (list_any p (take i xs) || p (slice_index_or xs i d)))
          by true = refl
          by false = refl

  pub map_next : {Y : Type 0} (g : X → Y) (xs : List X) (i : ℕ) → i < length xs → map g (take i xs) ++ g (slice_index_or xs i d) ∷ [] ≡ map g (take (i + 1) xs)
  map_next g xs i lt = go xs i lt ∙ ap (λ n. map g (take n xs)) (one i)
    where
      one : (i : ℕ) → suc i ≡ i + 1
      one i = omega arith

      go : (xs : List X) (i : ℕ) → i < length xs → map g (take i xs) ++ g (slice_index_or xs i d) ∷ [] ≡ map g (take (suc i) xs)
      go [] i lt = absurd (omega (arith, lt))
      go (x ∷ xs) zero lt = refl
      go (x ∷ xs) (suc i) lt = ap (λ l. g x ∷ l) (go xs i (omega (arith, lt)))
