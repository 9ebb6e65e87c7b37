-- Stores as a backing gives them.
use Rattle.std.specs.Prelude.{◌≡◌, ℕ, Bool, true, false, List, [], ◌∷◌, Option, Some, None}
use Rattle.std.specs.declared.snapshot.Snapshot.{Snapshot}

-- it is told that something is held
abbrev pub tells_some : Option (List ℕ) → Bool
tells_some None = false
tells_some (Some []) = false
tells_some (Some (x ∷ xs)) = true

-- the store was empty as it was handed out, where it tells what it holds
abbrev pub IsFresh : {D : Type 0} → (D → Option (List ℕ)) → ℕ × ℕ × Snapshot D → Type 0
IsFresh seen entry = tells_some (seen entry.2.value) ≡ false
