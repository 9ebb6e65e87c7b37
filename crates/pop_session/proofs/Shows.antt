-- What the lines of a listing show, and what a mark leaves as it is.
use Rattle.std.proofs.Common.{◌≡◌, ℕ, ◌+◌, zero, suc, Bool, true, false, List, [], ◌∷◌, ◌++◌, length, take, Some, None, option_and_then, unwrap_or, refl, ◌∙◌, ap, arith, slice_get, length-append}
use Rattle.mail_model.specs.PopReplies.{Item, ListingSlot, unmarked, lines_from, last_line}
use Rattle.mail_model.specs.Maildrop.{message_at, unmarked_in, marked_at, with_mark, of_message}
use Rattle.pop_session.specs.Laws.{NumberedAlike, ListsUnmarkedOnce, NumbersStay, MarkedIsNone}

-- a slot of its parts
abbrev slot_of : Item → Bool → ListingSlot
slot_of item marked = record { item = item; marked = marked }

-- the line of the k-th slot after the one of number n, in a listing that follows one line
shown : (first : List ℕ) (line : ℕ → Item → List ℕ) (slots : List ListingSlot) (n k : ℕ) (item : Item) (more : List (List ℕ)) →
    option_and_then unmarked_in (slice_get slots k) ≡ Some item →
    slice_get (first ∷ lines_from line n slots ++ more) (length (unmarked (take (suc k) slots))) ≡ Some (line (n + k) item)
shown first line [] n k item more h = absurd (cc)
shown first line (slot ∷ slots) n zero item more h = by_mark slot.item slot.marked h
  where
    by_mark : (held : Item) (marked : Bool) → unmarked_in (slot_of held marked) ≡ Some item →
        slice_get (first ∷ lines_from line n (slot_of held marked ∷ slots) ++ more) (length (unmarked (slot_of held marked ∷ []))) ≡ Some (line (n + 0) item)
    by_mark held true is = absurd (cc)
    by_mark held false is =
        let at : n + 0 ≡ n = omega arith in
        let same : held ≡ item = ap (λ o. unwrap_or o held) is in
        rw (at, same) refl
shown first line (slot ∷ slots) n (suc k) item more h = by_mark slot.item slot.marked (λ before. shown before line slots (n + 1) k item more h)
  where
    at : n + suc k ≡ n + 1 + k
    at = omega arith

    by_mark : (held : Item) (marked : Bool) →
        ((before : List ℕ) → slice_get (before ∷ lines_from line (n + 1) slots ++ more) (length (unmarked (take (suc k) slots))) ≡ Some (line (n + 1 + k) item)) →
        slice_get (first ∷ lines_from line n (slot_of held marked ∷ slots) ++ more) (length (unmarked (slot_of held marked ∷ take (suc k) slots))) ≡ Some (line (n + suc k) item)
    by_mark held true behind = rw at (behind first)
    by_mark held false behind = rw at (behind (line n held))

pub numbered_alike : NumberedAlike
numbered_alike first line slots zero item h = absurd (cc)
numbered_alike first line slots (suc k) item h =
    let at : 1 + k ≡ suc k = omega arith in
    shown first line slots 1 k item last_line h ∙ ap (λ n. Some (line n item)) at

-- as many lines as there are messages that are not marked
counted : (line : ℕ → Item → List ℕ) (slots : List ListingSlot) (n : ℕ) → length (lines_from line n slots) ≡ length (unmarked slots)
counted line [] n = refl
counted line (slot ∷ slots) n = by_mark slot.item slot.marked (counted line slots (n + 1))
  where
    by_mark : (held : Item) (marked : Bool) → length (lines_from line (n + 1) slots) ≡ length (unmarked slots) →
        length (lines_from line n (slot_of held marked ∷ slots)) ≡ length (unmarked (slot_of held marked ∷ slots))
    by_mark held true behind = behind
    by_mark held false behind = ap suc behind

pub listed_once : ListsUnmarkedOnce
listed_once first line slots = grind (arith, length-append, counted line slots 1)

-- another slot stays
kept : (slots : List ListingSlot) (marked n : ℕ) → (n ≡ marked → ⊥) → slice_get (marked_at slots marked) n ≡ slice_get slots n
kept [] marked n other = refl
kept (slot ∷ slots) zero zero other = absurd (other refl)
kept (slot ∷ slots) zero (suc n) other = refl
kept (slot ∷ slots) (suc marked) zero other = refl
kept (slot ∷ slots) (suc marked) (suc n) other = kept slots marked n (λ same. other (ap suc same))

-- another number keeps its message
stays : (slots : List ListingSlot) (marked n : ℕ) → (n ≡ marked → ⊥) → message_at (with_mark slots marked) n ≡ message_at slots n
stays slots zero n other = refl
stays slots (suc marked) zero other = refl
stays slots (suc marked) (suc n) other = ap (option_and_then unmarked_in) (kept slots marked n (λ same. other (ap suc same)))

pub numbers_stay : NumbersStay
numbers_stay slots marked n other =
    let same = stays slots marked n other in
    record { message = same; list = ap (of_message _) same; uidl = ap (of_message _) same; retr = ap (of_message _) same; dele = ap (of_message _) same }

-- the slot that was marked shows none
none_at : (slots : List ListingSlot) (n : ℕ) → option_and_then unmarked_in (slice_get (marked_at slots n) n) ≡ None
none_at [] n = refl
none_at (slot ∷ slots) zero = refl
none_at (slot ∷ slots) (suc n) = none_at slots n

pub marked_is_none : MarkedIsNone
marked_is_none slots zero = refl
marked_is_none slots (suc n) = none_at slots n
