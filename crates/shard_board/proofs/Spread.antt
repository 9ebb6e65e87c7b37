-- A history that is shared out stays so, where each of its items stands for several entries.
use Rattle.std.proofs.Common.{◌≡◌, ℕ, suc, ◌<◌, Bool, true, false, cond, List, [], ◌∷◌, ◌++◌, map, replicate, length, refl, ap, ◌∙◌, length-append, ne_eqb, arith}
use Rattle.std.specs.Prelude.{nat_eq}
use Rattle.std.specs.List.{flat_map}
use mathlib.Core.Option.{some}
use lib.ListN.{get_elem?, length-replicate}
use Rattle.turnstile.specs.Shares.{written_by, AreShares}

joins : {Y : Type 0} (t : Bool) (y : Y) (m w all : List Y) → all ≡ cond t (m ++ w) w → cond t (y ∷ all) all ≡ cond t (y ∷ (m ++ w)) w
joins true y m w all e = ap (λ l. y ∷ l) e
joins false y m w all e = e

none_first : {Y : Type 0} (t : Bool) (w : List Y) → w ≡ cond t w w
none_first true w = refl
none_first false w = refl

-- what one author wrote in front of the rest
picked_front : {Y : Type 0} (k a : ℕ) (m : List Y) (authors : List ℕ) (ys : List Y)
    → written_by k (replicate (length m) a ++ authors) (m ++ ys) ≡ cond (nat_eq a k) (m ++ written_by k authors ys) (written_by k authors ys)
picked_front k a [] authors ys = none_first (nat_eq a k) (written_by k authors ys)
picked_front k a (y ∷ m) authors ys =
    joins (nat_eq a k) y m (written_by k authors ys) (written_by k (replicate (length m) a ++ authors) (m ++ ys)) (picked_front k a m authors ys)

module _ {X Y : Type 0} (entries : X → List Y) where
  -- the author of an item is the author of each of its entries
  abbrev spread : List ℕ → List X → List ℕ
  spread [] xs = []
  spread (a ∷ authors) [] = []
  spread (a ∷ authors) (x ∷ xs) = replicate (length (entries x)) a ++ spread authors xs

  spread_length : (authors : List ℕ) (xs : List X) → length authors ≡ length xs → length (spread authors xs) ≡ length (flat_map entries xs)
  spread_length [] [] same = refl
  spread_length [] (x ∷ xs) same = absurd (omega (arith, same))
  spread_length (a ∷ authors) [] same = absurd (omega (arith, same))
  spread_length (a ∷ authors) (x ∷ xs) same =
      let here = length-replicate (length (entries x)) a in
      let rest = spread_length authors xs (omega (arith, same)) in
      let left = length-append (replicate (length (entries x)) a) (spread authors xs) in
      let right = length-append (entries x) (flat_map entries xs) in
      omega (arith, here, rest, left, right)

  lifts : (t : Bool) (x : X) (xs : List X) (w : List Y) → w ≡ flat_map entries xs → cond t (entries x ++ w) w ≡ flat_map entries (cond t (x ∷ xs) xs)
  lifts true x xs w e = ap (λ l. entries x ++ l) e
  lifts false x xs w e = e

  spread_written : (k : ℕ) (authors : List ℕ) (xs : List X) → written_by k (spread authors xs) (flat_map entries xs) ≡ flat_map entries (written_by k authors xs)
  spread_written k [] xs = refl
  spread_written k (a ∷ authors) [] = refl
  spread_written k (a ∷ authors) (x ∷ xs) = picked_front k a (entries x) (spread authors xs) (flat_map entries xs)
      ∙ lifts (nat_eq a k) x (written_by k authors xs) (written_by k (spread authors xs) (flat_map entries xs)) (spread_written k authors xs)

  module _ (front : List Y) (authors : List ℕ) (xs : List X) where
    -- what stands in front is of author 0
    abbrev all_authors : List ℕ
    all_authors = replicate (length front) 0 ++ spread authors xs

    by_first : written_by 0 all_authors (front ++ flat_map entries xs) ≡ front ++ flat_map entries (written_by 0 authors xs)
    by_first = picked_front 0 0 front (spread authors xs) (flat_map entries xs) ∙ ap (λ l. front ++ l) (spread_written 0 authors xs)

    by_other : (k : ℕ) → 0 < k → written_by k all_authors (front ++ flat_map entries xs) ≡ flat_map entries (written_by k authors xs)
    by_other k above =
        let w : List Y = written_by k (spread authors xs) (flat_map entries xs) in
        picked_front k 0 front (spread authors xs) (flat_map entries xs) ∙ ap (λ b. cond b (front ++ w) w) (ne_eqb 0 k (λ e. omega (arith, above, e))) ∙ spread_written k authors xs

    by_names : (names : List ℕ) → ((p k : ℕ) → get_elem? names p ≡ some k → 0 < k)
        → map (λ k. written_by k all_authors (front ++ flat_map entries xs)) names ≡ map (flat_map entries) (map (λ k. written_by k authors xs) names)
    by_names [] above = refl
    by_names (k ∷ names) above = λ i. by_other k (above 0 k refl) i ∷ by_names names (λ p k at. above (suc p) k at) i

  -- the history of items that is shared out is one of entries that is
  pub spread_shares : (front : List Y) (opening xs : List X) (lists : List (List X)) → AreShares opening lists xs
      → AreShares (front ++ flat_map entries opening) (map (flat_map entries) lists) (front ++ flat_map entries xs)
  spread_shares front opening xs lists s = record {
    authors = all_authors front s.authors xs;
    one_each =
        let here = length-replicate {A = ℕ} (length front) 0 in
        let rest = spread_length s.authors xs s.one_each in
        let left = length-append (replicate (length front) 0) (spread s.authors xs) in
        let right = length-append front (flat_map entries xs) in
        omega (arith, here, rest, left, right);
    opening_is = by_first front s.authors xs ∙ ap (λ l. front ++ flat_map entries l) s.opening_is;
    names = s.names;
    lists_are = by_names front s.authors xs s.names s.not_opening ∙ ap (map (flat_map entries)) s.lists_are;
    names_apart = s.names_apart;
    not_opening = s.not_opening;
  }
