-- The laws that a disk in memory meets.
use Rattle.std.specs.Prelude.{◌≡◌, ◌⊎◌, ℕ, List, [], ◌∷◌, length, drop}
use mathlib.Core.Logic.{inl, inr}
use Rattle.std.proofs.Common.{◌∙◌, subst}
use Rattle.node_disk.specs.Memory.{Reaches, IsImage, WasImage, IsSynced}
use Rattle.node_disk.specs.declared.held.Held.{Held}
use Rattle.node_disk.specs.declared.held.Range.{Range}
use Rattle.node_disk.specs.declared.memory.Call.{Call}

-- where all is synced there is one image
pub only_synced : (held : Held) → IsSynced held → (c : List ℕ) → IsImage held c → c ≡ held.octets.items
only_synced held synced c (inl is) = is
only_synced held synced c (inr reached) = subst (λ (l : List Range). Reaches held.synced.items l c) synced.none reached ∙ synced.same

none_left : (calls : List Call) (c : List ℕ) → WasImage (drop (length calls) calls) c → ⊥
none_left [] c was = was
none_left (call ∷ calls) c was = none_left calls c was

-- since the last call there is no other
pub only_last : (held : Held) (calls : List Call) (c : List ℕ) → IsImage held c ⊎ WasImage (drop (length calls) calls) c → IsImage held c
only_last held calls c (inl is) = is
only_last held calls c (inr was) = absurd (none_left calls c was)
