-- The places of a listing, as the definition of a session sees them.
use Rattle.std.specs.Prelude.{ℕ, zero, suc, true, false, List, [], ◌∷◌, map, Option, Some, None, slice_get, option_and_then, if◌then◌else◌}
use Rattle.mail_base.specs.declared.item.Item.{Item}
use Rattle.mail_base.specs.Items.{item_seen}
use Rattle.mail_model.specs.PopReplies as model
use Rattle.pop_session.specs.declared.listing.Slot.{Slot}

abbrev pub slot_seen : Slot → model.ListingSlot
slot_seen slot = record { item = item_seen slot.item; marked = slot.marked }

abbrev pub slots_seen : List Slot → List model.ListingSlot
slots_seen slots = map slot_seen slots

-- the messages, as they were listed
abbrev pub items_of_slots : List Slot → List Item
items_of_slots slots = map (λ slot. slot.item) slots

-- those that are marked
abbrev pub marked_items : List Slot → List Item
marked_items [] = []
marked_items (slot ∷ slots) = if slot.marked then slot.item ∷ marked_items slots else marked_items slots

-- a place whose message is not marked yet
abbrev pub listed_slot : Item → Slot
listed_slot item = record { item = item; marked = false }

-- the slots with this one marked, the first being 0; where there is none nothing changes
abbrev pub marked_at : List Slot → ℕ → List Slot
marked_at [] n = []
marked_at (slot ∷ slots) zero = record slot { marked = true } ∷ slots
marked_at (slot ∷ slots) (suc n) = slot ∷ marked_at slots n

-- the slots with this one unmarked, and with all before a place
abbrev pub unmarked_at : List Slot → ℕ → List Slot
unmarked_at [] n = []
unmarked_at (slot ∷ slots) zero = record slot { marked = false } ∷ slots
unmarked_at (slot ∷ slots) (suc n) = slot ∷ unmarked_at slots n

abbrev pub unmarked_to : ℕ → List Slot → List Slot
unmarked_to zero slots = slots
unmarked_to (suc n) [] = []
unmarked_to (suc n) (slot ∷ slots) = record slot { marked = false } ∷ unmarked_to n slots

-- the message of a slot that is not marked
abbrev pub unmarked_item : Slot → Option Item
unmarked_item slot = if slot.marked then None else Some slot.item

-- the message of this number, the first of the listing being 1; one that is marked counts as none
abbrev pub message_in : List Slot → ℕ → Option Item
message_in slots zero = None
message_in slots (suc n) = option_and_then unmarked_item (slice_get slots n)
