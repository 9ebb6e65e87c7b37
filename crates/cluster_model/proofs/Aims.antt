-- The nodes that a delivery or a deletion asks are members, and so nodes of the plan.
use Rattle.std.proofs.Common.{◌≡◌, ◌⊎◌, inl, inr, ⊎_elim, ◌≤◌, ℕ, zero, suc, Bool, true, false, cond, not, List, [], ◌∷◌, sym, ◌∙◌, arith, true≢false}
use Rattle.std.specs.Prelude.{take, drop}
use Rattle.std.specs.List.{filter}
use Rattle.object_model.specs.Lists.{Among}
use Rattle.object_model.specs.Sets.{has, nodes_in}
use Rattle.object_model.proofs.Lists.{among_either}
use Rattle.object_model.proofs.SetLaws.{has_with, has_none}
use Rattle.cluster_model.specs.Targets.{set_of, rotated, position_of, deliver_targets, listed_members, strike_asks}

pub among_set : (ms : List ℕ) (m : ℕ) → has (set_of ms) m ≡ true → Among m ms
among_set [] m h = absurd (true≢false (sym h ∙ has_none m))
among_set (one ∷ ms) m h = ⊎_elim (λ old. inr (among_set ms m old)) (λ is. inl (sym is)) (has_with (set_of ms) one m h)

pub among_take : (k : ℕ) (xs : List ℕ) (x : ℕ) → Among x (take k xs) → Among x xs
among_take zero xs x m = absurd m
among_take (suc k) [] x m = absurd m
among_take (suc k) (y ∷ xs) x m = ⊎_elim (λ e. inl e) (λ t. inr (among_take k xs x t)) m

pub among_drop : (k : ℕ) (xs : List ℕ) (x : ℕ) → Among x (drop k xs) → Among x xs
among_drop zero xs x m = m
among_drop (suc k) [] x m = absurd m
among_drop (suc k) (y ∷ xs) x m = inr (among_drop k xs x m)

pub among_filter : (p : ℕ → Bool) (xs : List ℕ) (x : ℕ) → Among x (filter p xs) → Among x xs
among_filter p [] x m = absurd m
among_filter p (y ∷ xs) x m = by (λ t. among_filter p xs x t) (p y) m
  where
    by : (Among x (filter p xs) → Among x xs) → (b : Bool) → Among x (cond b (y ∷ filter p xs) (filter p xs)) → (y ≡ x) ⊎ Among x xs
    by rest true t = ⊎_elim (λ e. inl e) (λ u. inr (rest u)) t
    by rest false t = inr (rest t)

pub among_turned : (k : ℕ) (xs : List ℕ) (x : ℕ) → Among x (rotated k xs) → Among x xs
among_turned k xs x m = ⊎_elim (λ d. among_drop k xs x d) (λ t. among_take k xs x t) (among_either x (drop k xs) (take k xs) m)

-- a node of the set is one of those up to n
pub nodes_within : (mask n m : ℕ) → Among m (nodes_in mask n) → m ≤ n
nodes_within mask zero m inside = absurd inside
nodes_within mask (suc k) m inside = ⊎_elim
    (λ front. omega (arith, nodes_within mask k m front))
    (λ last. by (has mask (suc k)) last)
    (among_either m (nodes_in mask k) _ inside)
  where
    by : (b : Bool) → Among m (cond b (suc k ∷ []) []) → m ≤ suc k
    by true t = ⊎_elim (λ e. omega (arith, e)) (λ none. absurd none) t
    by false t = absurd t

pub targets_are_members : (copies own seq : ℕ) (members : List ℕ) (m : ℕ) → has (deliver_targets copies own seq members) m ≡ true → Among m members
targets_are_members copies own seq members m h = among_turned _ members m (among_take copies (rotated _ members) m (among_set (take copies (rotated _ members)) m h))

pub asks_are_members : (confirm own listed : ℕ) (members : List ℕ) (m : ℕ) → has (strike_asks confirm own listed members) m ≡ true → Among m members
asks_are_members confirm own listed members m h = ⊎_elim
    (λ front. among_filter (λ n. has listed n) members m front)
    (λ behind. among_turned (position_of own members) members m (among_filter (λ n. not (has listed n)) (rotated (position_of own members) members) m (among_take _ _ m behind)))
    (among_either m (listed_members listed members) _ (among_set _ m h))
