use Rattle.std.proofs.Common.{◌≡◌, ℕ, List, ◌++◌, take}
use Rattle.dot_text.specs.Dots.{IsSentAt}
use Rattle.dot_text.proofs.dotting.push_dotted.Given as goal

-- the text so far was sent
abbrev pub invariant-loop-octet : goal.invariant-loop-octet
invariant-loop-octet l = (so_far : List ℕ) × (l.out.items ≡ l.fn.out.items ++ so_far) × IsSentAt l.tail (take l.octet-index l.text) so_far
