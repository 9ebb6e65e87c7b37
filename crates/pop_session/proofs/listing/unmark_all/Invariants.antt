use Rattle.std.proofs.Common.{◌≡◌}
use Rattle.pop_session.specs.Slots.{unmarked_to}
use Rattle.pop_session.proofs.listing.unmark_all.Given as goal

-- the slots so far
abbrev pub invariant-loop-at : goal.invariant-loop-at
invariant-loop-at l = l.slots ≡ unmarked_to l.at l.initial.slots
