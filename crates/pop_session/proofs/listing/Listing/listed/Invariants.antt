use Rattle.std.proofs.Common.{◌≡◌, ◌++◌, drop, map}
use Rattle.pop_session.specs.Slots.{listed_slot}
use Rattle.pop_session.proofs.listing.Listing.listed.Given as goal

-- the slots so far, and those of the messages that are left
abbrev pub invariant-loop-item : goal.invariant-loop-item
invariant-loop-item l = l.held.items ++ map listed_slot (drop l.item-index l.item-items) ≡ map listed_slot l.item-items
