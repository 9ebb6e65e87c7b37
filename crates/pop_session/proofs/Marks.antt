-- A mark, as the slot of an index is written; and slots as the definition of a session sees them.
use Rattle.std.proofs.Common.{◌≡◌, ℕ, ◌+◌, zero, suc, Bool, true, false, not, List, [], ◌∷◌, length, map, sum_by, Option, Some, None, slice_get, option_and_then, refl, sym, ◌∙◌, ap, arith, ◌<◌, ◌≤◌, slice_set, slice_index_or, Bor}
use Rattle.std.specs.Prelude.{IfSome, if◌then◌else◌}
use Rattle.std.specs.List.{filter}
use Rattle.std.specs.Option.{option_map, option_copied}
use Rattle.std.proofs.Common.{take, ◌++◌}
use Rattle.std.proofs.Common.{drop as skip}
use Rattle.std.proofs.lemmas.List.{take_at}
use Rattle.std.proofs.lemmas.List.Sums.{sum_by-cons}
use Rattle.mail_base.specs.declared.item.Item.{Item}
use Rattle.mail_base.specs.Items.{item_seen}
use Rattle.mail_model.specs.Identity.{Id}
use Rattle.mail_model.specs.PopReplies as model
use Rattle.mail_model.specs.PopReplies.{unmarked, marked_ids, listed_slots, without_marks}
use Rattle.mail_model.specs.Maildrop as drop
use Rattle.mail_model.specs.Maildrop.{unmarked_in}
use Rattle.call_tickets.specs.Seen.{ids_in}
use Rattle.pop_session.specs.declared.listing.Slot.{Slot}
use Rattle.pop_session.specs.Slots.{slot_seen, slots_seen, items_of_slots, marked_items, marked_at, unmarked_at, unmarked_to, listed_slot, unmarked_item, message_in}

-- the slot with its mark
abbrev pub with_its_mark : Slot → Slot
with_its_mark slot = record slot { marked = true }

-- to mark is to write the slot that was read, with its mark
pub marked_is_set : (slots : List Slot) (at : ℕ) (other : Slot) → at < length slots →
    slice_set slots at (with_its_mark (slice_index_or slots at other)) ≡ marked_at slots at
marked_is_set [] at other within = absurd (omega (arith, within))
marked_is_set (slot ∷ slots) zero other within = refl
marked_is_set (slot ∷ slots) (suc at) other within = ap (λ (behind : List Slot). slot ∷ behind) (marked_is_set slots at other (omega (arith, within)))

-- where there is no slot nothing is marked
pub none_is_marked : (slots : List Slot) (at : ℕ) → length slots ≤ at → slots ≡ marked_at slots at
none_is_marked [] at past = refl
none_is_marked (slot ∷ slots) zero past = absurd (omega (arith, past))
none_is_marked (slot ∷ slots) (suc at) past = ap (λ (behind : List Slot). slot ∷ behind) (none_is_marked slots at (omega (arith, past)))

-- the same where a mark is taken away
abbrev pub with_no_mark : Slot → Slot
with_no_mark slot = record slot { marked = false }

pub unmarked_is_set : (slots : List Slot) (at : ℕ) (other : Slot) → at < length slots →
    slice_set slots at (with_no_mark (slice_index_or slots at other)) ≡ unmarked_at slots at
unmarked_is_set [] at other within = absurd (omega (arith, within))
unmarked_is_set (slot ∷ slots) zero other within = refl
unmarked_is_set (slot ∷ slots) (suc at) other within = ap (λ (behind : List Slot). slot ∷ behind) (unmarked_is_set slots at other (omega (arith, within)))

pub none_is_unmarked : (slots : List Slot) (at : ℕ) → length slots ≤ at → slots ≡ unmarked_at slots at
none_is_unmarked [] at past = refl
none_is_unmarked (slot ∷ slots) zero past = absurd (omega (arith, past))
none_is_unmarked (slot ∷ slots) (suc at) past = ap (λ (behind : List Slot). slot ∷ behind) (none_is_unmarked slots at (omega (arith, past)))

-- one more place
pub unmarked_more : (at : ℕ) (slots : List Slot) → unmarked_at (unmarked_to at slots) at ≡ unmarked_to (at + 1) slots
unmarked_more zero [] = let e : 0 + 1 ≡ suc 0 = omega arith in ap (λ n. unmarked_to n []) (sym e)
unmarked_more zero (slot ∷ slots) = let e : 0 + 1 ≡ suc 0 = omega arith in ap (λ n. unmarked_to n (slot ∷ slots)) (sym e)
unmarked_more (suc at) [] = let e : suc at + 1 ≡ suc (at + 1) = omega arith in ap (λ n. unmarked_to n []) (sym e)
unmarked_more (suc at) (slot ∷ slots) =
    let e : suc at + 1 ≡ suc (at + 1) = omega arith in
    ap (λ (behind : List Slot). with_no_mark slot ∷ behind) (unmarked_more at slots) ∙ ap (λ n. unmarked_to n (slot ∷ slots)) (sym e)

-- all of them, as the definition sees it
pub unmarked_alike : (slots : List Slot) → slots_seen (unmarked_to (length slots) slots) ≡ without_marks (slots_seen slots)
unmarked_alike [] = refl
unmarked_alike (slot ∷ slots) = ap (λ (behind : List model.ListingSlot). record { item = item_seen slot.item; marked = false } ∷ behind) (unmarked_alike slots)

-- and the messages stay
pub unmarked_stay : (n : ℕ) (slots : List Slot) → items_of_slots (unmarked_to n slots) ≡ items_of_slots slots
unmarked_stay zero slots = refl
unmarked_stay (suc n) [] = refl
unmarked_stay (suc n) (slot ∷ slots) = ap (λ (behind : List Item). slot.item ∷ behind) (unmarked_stay n slots)

-- the definition marks the same slot
pub marked_alike : (slots : List Slot) (at : ℕ) → slots_seen (marked_at slots at) ≡ drop.marked_at (slots_seen slots) at
marked_alike [] at = refl
marked_alike (slot ∷ slots) zero = refl
marked_alike (slot ∷ slots) (suc at) = ap (λ (behind : List model.ListingSlot). slot_seen slot ∷ behind) (marked_alike slots at)

-- and the messages stay
pub items_stay : (slots : List Slot) (at : ℕ) → items_of_slots (marked_at slots at) ≡ items_of_slots slots
items_stay [] at = refl
items_stay (slot ∷ slots) zero = refl
items_stay (slot ∷ slots) (suc at) = ap (λ (behind : List Item). slot.item ∷ behind) (items_stay slots at)

-- the slot of an index
pub seen_at : (slots : List Slot) (at : ℕ) → slice_get (slots_seen slots) at ≡ option_map slot_seen (slice_get slots at)
seen_at [] at = refl
seen_at (slot ∷ slots) zero = refl
seen_at (slot ∷ slots) (suc at) = seen_at slots at

-- a listing that was just told
pub listed_alike : (items : List Item) → slots_seen (map listed_slot items) ≡ listed_slots (map item_seen items)
listed_alike [] = refl
listed_alike (item ∷ items) = ap (λ (behind : List model.ListingSlot). record { item = item_seen item; marked = false } ∷ behind) (listed_alike items)

pub listed_items : (items : List Item) → items_of_slots (map listed_slot items) ≡ items
listed_items [] = refl
listed_items (item ∷ items) = ap (λ (behind : List Item). item ∷ behind) (listed_items items)

-- the ids of the messages that are marked
pub marked_are : (slots : List Slot) → ids_in (marked_items slots) ≡ marked_ids (slots_seen slots)
marked_are [] = refl
marked_are (slot ∷ slots) = by_mark slot.item slot.marked (marked_are slots)
  where
    by_mark : (item : Item) (marked : Bool) → ids_in (marked_items slots) ≡ marked_ids (slots_seen slots) →
        ids_in (marked_items (record { item = item; marked = marked } ∷ slots)) ≡ marked_ids (slots_seen (record { item = item; marked = marked } ∷ slots))
    by_mark item true behind = ap (λ (ids : List Id). item.id ∷ ids) behind
    by_mark item false behind = behind

-- as many messages are not marked as a filter leaves
pub unmarked_count : (slots : List Slot) → length (filter (λ slot. not slot.marked) slots) ≡ length (unmarked (slots_seen slots))
unmarked_count [] = refl
unmarked_count (slot ∷ slots) = by_mark slot.item slot.marked (unmarked_count slots)
  where
    by_mark : (item : Item) (marked : Bool) → length (filter (λ (slot : Slot). not slot.marked) slots) ≡ length (unmarked (slots_seen slots)) →
        length (filter (λ (slot : Slot). not slot.marked) (record { item = item; marked = marked } ∷ slots)) ≡ length (unmarked (slots_seen (record { item = item; marked = marked } ∷ slots)))
    by_mark item true behind = behind
    by_mark item false behind = ap suc behind

-- and their octets are those of the slots that it leaves
pub unmarked_octets : (slots : List Slot) → sum_by (λ slot. slot.item.length) (filter (λ slot. not slot.marked) slots) ≡ sum_by (λ item. item.size) (unmarked (slots_seen slots))
unmarked_octets [] = refl
unmarked_octets (slot ∷ slots) = by_mark slot.item slot.marked (unmarked_octets slots)
  where
    by_mark : (item : Item) (marked : Bool) → sum_by (λ (slot : Slot). slot.item.length) (filter (λ (slot : Slot). not slot.marked) slots) ≡ sum_by (λ (item : model.Item). item.size) (unmarked (slots_seen slots)) →
        sum_by (λ (slot : Slot). slot.item.length) (filter (λ (slot : Slot). not slot.marked) (record { item = item; marked = marked } ∷ slots)) ≡ sum_by (λ (item : model.Item). item.size) (unmarked (slots_seen (record { item = item; marked = marked } ∷ slots)))
    by_mark held true behind = behind
    by_mark held false behind =
        sum_by-cons (λ (slot : Slot). slot.item.length) (record { item = held; marked = false }) (filter (λ (slot : Slot). not slot.marked) slots)
        ∙ ap (λ n. held.length + n) behind
        ∙ sym (sum_by-cons (λ (item : model.Item). item.size) (item_seen held) (unmarked (slots_seen slots)))

-- the message of a number
seen_in : (slot : Option Slot) → option_map item_seen (option_and_then unmarked_item slot) ≡ option_and_then unmarked_in (option_map slot_seen slot)
seen_in None = refl
seen_in (Some slot) = by_mark slot.marked
  where
    by_mark : (marked : Bool) → option_map item_seen (if marked then None else Some slot.item) ≡ (if marked then None else Some (item_seen slot.item))
    by_mark true = refl
    by_mark false = refl

pub message_alike : (slots : List Slot) (number : ℕ) → option_map item_seen (message_in slots number) ≡ drop.message_at (slots_seen slots) number
message_alike slots zero = refl
message_alike slots (suc n) = seen_in (slice_get slots n) ∙ ap (option_and_then unmarked_in) (sym (seen_at slots n))

-- is one of the listing
item_at : (slots : List Slot) (at : ℕ) → slice_get (items_of_slots slots) at ≡ option_map (λ (slot : Slot). slot.item) (slice_get slots at)
item_at [] at = refl
item_at (slot ∷ slots) zero = refl
item_at (slot ∷ slots) (suc at) = item_at slots at

pub message_own : (slots : List Slot) (number : ℕ) (item : Item) → message_in slots number ≡ Some item → (at : ℕ) × (slice_get (items_of_slots slots) at ≡ Some item)
message_own slots zero item is = cc
message_own slots (suc n) item is = (n, item_at slots n ∙ of_slot (slice_get slots n) is)
  where
    of_slot : (slot : Option Slot) → option_and_then unmarked_item slot ≡ Some item → option_map (λ (s : Slot). s.item) slot ≡ Some item
    of_slot None none = cc
    of_slot (Some slot) some = by_mark slot.marked some
      where
        by_mark : (marked : Bool) → (if marked then None else Some slot.item) ≡ Some item → Some slot.item ≡ Some item
        by_mark true none = cc
        by_mark false same = same

pub message_own_of : (slots : List Slot) (number : ℕ) (found : Option (Bor Item)) → option_copied found ≡ message_in slots number
    → IfSome found (λ item. (at : ℕ) × (slice_get (items_of_slots slots) at ≡ Some item.now))
message_own_of slots number None is = tt
message_own_of slots number (Some item) is = message_own slots number item.now (sym is)

-- DELE of a number marks the slot of its index
pub marks : (slots : List Slot) (number at : ℕ) → number ≡ at + 1 → slots_seen (marked_at slots at) ≡ drop.with_mark (slots_seen slots) number
marks slots number at is =
    let one : suc at ≡ number = omega (arith, is) in
    marked_alike slots at ∙ ap (drop.with_mark (slots_seen slots)) one

-- a slice of the same length is put back whole
pub held_back : (new held : List Slot) (count : ℕ) → length new ≡ length held → count ≡ length held → take count (new ++ skip (length new) held) ≡ new
held_back new held count same all =
    take_at new (skip (length new) held) count (sym (all ∙ sym same))

-- QUIT with nothing marked, and with something
pub deletes_none : (slots : List Slot) (items : List Item) → items ≡ marked_items slots → items ≡ [] → drop.outcome_of_quit ≡ drop.quit_outcome (slots_seen slots)
deletes_none slots items are none = ap drop.deletion_of (ap ids_in (sym none ∙ are) ∙ marked_are slots)

pub deletes_some : (slots : List Slot) (items : List Item) → items ≡ marked_items slots → (items ≡ [] → ⊥) → drop.LineOutcome.AsksDeletion (ids_in items) ≡ drop.quit_outcome (slots_seen slots)
deletes_some slots [] are some = absurd (some refl)
deletes_some slots (item ∷ items) are some = ap drop.deletion_of (ap ids_in are ∙ marked_are slots)
