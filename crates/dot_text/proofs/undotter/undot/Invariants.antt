use Rattle.std.proofs.Common.{◌≡◌, ◌≤◌, ℕ, ◌-◌, List, ◌++◌, length, take}
use Rattle.dot_text.specs.Places.{UndotsAt}
use Rattle.dot_text.proofs.undotter.undot.Given as goal

abbrev pub decreases-loop-at : goal.decreases-loop-at
decreases-loop-at l = length l.piece - l.at

-- what was given so far, and where the octets so far have led
abbrev pub invariant-loop-at : goal.invariant-loop-at
invariant-loop-at l = (l.at ≤ length l.piece) × (more : List ℕ) × (l.out.items ≡ l.fn.out.items ++ more)
    × ((fed given : List ℕ) → UndotsAt l.fn.place fed given → UndotsAt l.place (fed ++ take l.at l.piece) (given ++ more))
