use Rattle.std.proofs.Common.{◌≡◌, ◌++◌, drop}
use Rattle.pop_session.specs.Slots.{marked_items}
use Rattle.pop_session.proofs.listing.Listing.marked_items.Given as goal

-- the messages so far, and those of the slots that are left
abbrev pub invariant-loop-slot : goal.invariant-loop-slot
invariant-loop-slot l = l.items ++ marked_items (drop l.slot-index l.slot-items) ≡ marked_items l.slot-items
