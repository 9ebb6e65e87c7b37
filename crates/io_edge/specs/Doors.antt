-- What a door tells of the connections that are left, and of its quiet calls.
use Rattle.std.specs.Prelude.{◌≡◌, ℕ, ◌≤◌, List, [], ◌∷◌, Option, Some, None, IfSome, Result, Ok, Err}
use Rattle.io_edge.specs.Causes.{Rose}
use Rattle.io_edge.specs.declared.door.Accepted.{Accepted}
use Rattle.io_edge.specs.declared.door.Accepted.TheVariants.{Conn, Quiet}

-- a told list with x before it
abbrev pub with_first : {X : Type 0} → X → Option (List X) → Option (List X)
with_first x None = None
with_first x (Some xs) = Some (x ∷ xs)

-- where it tells, it gave the first that was left, and is quiet only where none is; a call that failed took none
abbrev pub Gives : {I O E : Type 0} → Option (List (I × O)) → Option (List (I × O)) → Result (Accepted I O) E → Type 0
Gives old new (Ok (Conn source sink)) = old ≡ with_first (source, sink) new
Gives old new (Ok Quiet) = IfSome old (λ left. left ≡ []) × (new ≡ old)
Gives old new (Err _) = new ≡ old

-- the number rose, or stands at its type's end, where the answer is Quiet; else it is as it was
abbrev pub CountsQuiet : {I O E : Type 0} → ℕ → ℕ → Result (Accepted I O) E → Type 0
CountsQuiet before now (Ok (Conn source sink)) = now ≡ before
CountsQuiet before now (Ok Quiet) = (before ≤ now) × Rose before now
CountsQuiet before now (Err _) = now ≡ before
