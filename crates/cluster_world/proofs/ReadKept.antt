-- A slot that is written with the records that it had.
use Rattle.std.proofs.Common.{◌≡◌, ◌≢◌, ⊎_elim, ℕ, List, Some, sym, ap, ◌∙◌}
use Rattle.cluster_model.specs.Cluster as plain
use Rattle.cluster_model.specs.Cluster.{slot_at, with_slot}
use Rattle.cluster_model.specs.Claims.{all_records}
use Rattle.cluster_model.proofs.Slots.{at_same}
use Rattle.cluster_world.proofs.Kept.{kept_at}
use Rattle.cluster_world.proofs.Turned.{same_or, slot_other}

pub set_kept : (slots : List plain.Slot) (m n : ℕ) (x y : plain.Slot) → slot_at slots m ≡ Some x → all_records y ≡ all_records x → kept_at (slot_at (with_slot slots m y) n) ≡ kept_at (slot_at slots n)
set_kept slots m n x y here same = ⊎_elim
    (λ (e : n ≡ m).
    ap (λ k. kept_at (slot_at (with_slot slots m y) k)) e ∙ ap kept_at (at_same slots m x y here) ∙ ap Some same ∙ sym (ap kept_at here) ∙ ap (λ k. kept_at (slot_at slots k)) (sym e))
    (λ (e : n ≢ m). ap kept_at (slot_other slots m n y e))
    (same_or n m)
