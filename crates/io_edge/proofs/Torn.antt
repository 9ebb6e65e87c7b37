-- Writes that changed nothing, and writes that were done.
use Rattle.std.proofs.Common.{◌≡◌, refl, ℕ, ◌+◌, ◌-◌, ◌≤◌, List, ◌++◌, length, take, drop, ap, ◌∙◌, arith, append_assoc, length-append}
use Rattle.std.proofs.lemmas.List.{take_at, drop_at, length-take-le, length-drop}
use Rattle.io_edge.specs.Octets.{Holds, Torn}

-- a write that left all as it was is a failed one
pub torn_nothing : (at n : ℕ) (c : List ℕ) → Torn at n c c
torn_nothing at n c = record { before = refl; after = refl; no_shorter = omega arith; no_longer = omega arith }

-- a write that was done may have been one that failed
pub torn_by : (at : ℕ) (octets old new : List ℕ) → at ≤ length old → Holds old at octets new → Torn at (length octets) old new
torn_by at octets old new within holds =
    let rest = drop (at + length octets) old in
    let front : length (take at old) ≡ at = length-take-le at old within in
    let through : length (take at old ++ octets) ≡ at + length octets = length-append (take at old) octets ∙ ap (λ (n : ℕ). n + length octets) front in
    let size : length new ≡ at + length octets + length rest = ap length holds ∙ length-append (take at old ++ octets) rest ∙ ap (λ (n : ℕ). n + length rest) through in
    let left : length rest ≡ length old - (at + length octets) = length-drop (at + length octets) old in
    record {
      before = ap (λ (l : List ℕ). take at l) (holds ∙ append_assoc (take at old) octets rest) ∙ take_at (take at old) (octets ++ rest) at front;
      after = ap (λ (l : List ℕ). drop (at + length octets) l) holds ∙ drop_at (take at old ++ octets) rest (at + length octets) through;
      no_shorter = omega (arith, size, left);
      no_longer = omega (arith, size, left);
    }
