-- What a yard handed out and was given back, where it tells.
use Rattle.std.specs.Prelude.{◌≡◌, Bool, true, false, List, [], ◌∷◌, ◌++◌, Option, Some, None, Result, Ok, Err}
use Rattle.std.specs.declared.snapshot.Snapshot.{Snapshot}

-- a told list with x at its end
abbrev pub with_last : {X : Type 0} → Option (List X) → X → Option (List X)
with_last None x = None
with_last (Some xs) x = Some (xs ++ x ∷ [])

-- at Ok the told list grew by what was handed out, with both of its marks, and at Err it is as it was
abbrev pub HandsOut : {A B D E : Type 0} → Option (List (A × B × D)) → Option (List (A × B × D)) → Result D E → A → B → Type 0
HandsOut old new (Ok made) first second = new ≡ with_last old (first, second, made)
HandsOut old new (Err _) first second = new ≡ old

-- the told list grew by x, or is told no more; what is untold stays untold
abbrev pub TellsOneMore : {X : Type 0} → Option (List X) → Option (List X) → X → Type 0
TellsOneMore old None x = Unit {0}
TellsOneMore None (Some new) x = ⊥
TellsOneMore (Some old) (Some new) x = new ≡ old ++ x ∷ []

-- a store with its shard and node, or a door with its node and protocol, of which only a memory is kept
abbrev pub remembered : {A B D : Type 0} → A × B × Snapshot D → A × B × D
remembered entry = (entry.0, entry.1, entry.2.value)

-- the list is told unless something of it was lost
abbrev pub unless : {X : Type 0} → Bool → List X → Option (List X)
unless true xs = None
unless false xs = Some xs
