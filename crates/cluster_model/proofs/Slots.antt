-- Reads of slots after one of them is written.
use Rattle.std.proofs.Common.{◌≡◌, ◌⊎◌, inl, inr, ⊎_elim, ℕ, zero, suc, List, [], ◌∷◌, Some, ap}
use Rattle.std.specs.Prelude.{slice_get, slice_set}
use Rattle.object_model.proofs.Lists.{get_same, get_after, get_before}
use Rattle.cluster_model.specs.Cluster.{Slot, slot_at, with_slot}

-- the slot that is written
pub at_same : (slots : List Slot) (n : ℕ) (x y : Slot) → slot_at slots n ≡ Some x → slot_at (with_slot slots n y) n ≡ Some y
at_same slots zero x y h = cc
at_same slots (suc n) x y h = get_same slots n x y h

-- what a read finds: what was written, or what stood
pub read_after : (slots : List Slot) (n m : ℕ) (x y z : Slot) → slot_at slots n ≡ Some x → slot_at (with_slot slots n y) m ≡ Some z → ((m ≡ n) × (z ≡ y)) ⊎ (slot_at slots m ≡ Some z)
read_after slots zero m x y z h r = cc
read_after slots (suc n) zero x y z h r = cc
read_after slots (suc n) (suc m) x y z h r = ⊎_elim (λ p. inl (ap suc p.0, p.1)) (λ q. inr q) (get_after slots n m x y z h r)

-- where what a read found is found: it was overwritten, or it stands
pub read_before : (slots : List Slot) (n m : ℕ) (x y z : Slot) → slot_at slots n ≡ Some x → slot_at slots m ≡ Some z
    → ((m ≡ n) × (z ≡ x) × (slot_at (with_slot slots n y) m ≡ Some y)) ⊎ (slot_at (with_slot slots n y) m ≡ Some z)
read_before slots zero m x y z h r = cc
read_before slots (suc n) zero x y z h r = cc
read_before slots (suc n) (suc m) x y z h r = ⊎_elim (λ p. inl (ap suc p.0, p.1, p.2)) (λ q. inr q) (get_before slots n m x y z h r)

-- a slot that is written with what it was
set_same : (xs : List Slot) (k : ℕ) (x : Slot) → slice_get xs k ≡ Some x → slice_set xs k x ≡ xs
set_same [] k x h = cc
set_same (y ∷ xs) zero x h = ap (λ (z : Slot). z ∷ xs) (back h)
  where
    back : Some y ≡ Some x → x ≡ y
    back e = cc
set_same (y ∷ xs) (suc k) x h = ap (λ (l : List Slot). y ∷ l) (set_same xs k x h)

pub written_same : (slots : List Slot) (n : ℕ) (x : Slot) → slot_at slots n ≡ Some x → with_slot slots n x ≡ slots
written_same slots zero x h = cc
written_same slots (suc n) x h = set_same slots n x h
