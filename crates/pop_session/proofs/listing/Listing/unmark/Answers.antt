use Rattle.std.proofs.Common.{List, length, ap, ◌∙◌, arith}
use Rattle.pop_session.specs.declared.listing.Slot.{Slot}
use Rattle.pop_session.specs.Slots.{slots_seen, items_of_slots, unmarked_to}
use Rattle.pop_session.proofs.Marks.{unmarked_alike, unmarked_stay, held_back}
use Rattle.pop_session.proofs.listing.Listing.unmark.Goals as goal

pub returns-clause-marks : goal.returns-clause-marks
returns-clause-marks c =
    let held = c.self.inside.held in
    let back = held_back c.unmark_all.new.slots held.items held.len (c.unmark_all.auto.slots ∙ ap (λ (l : List Slot). length l) c.deref_mut.ensures.value) (omega (arith, held.ok.0)) in
    ap slots_seen (back ∙ c.unmark_all.ensures) ∙ ap (λ (l : List Slot). slots_seen (unmarked_to (length l) l)) (c.deref_mut.ensures.value ∙ c.self.view_is)
    ∙ unmarked_alike c.args.self.now

pub returns-clause-items : goal.returns-clause-items
returns-clause-items c =
    let held = c.self.inside.held in
    let back = held_back c.unmark_all.new.slots held.items held.len (c.unmark_all.auto.slots ∙ ap (λ (l : List Slot). length l) c.deref_mut.ensures.value) (omega (arith, held.ok.0)) in
    ap items_of_slots (back ∙ c.unmark_all.ensures) ∙ ap (λ (l : List Slot). items_of_slots (unmarked_to (length l) l)) (c.deref_mut.ensures.value ∙ c.self.view_is)
    ∙ unmarked_stay (length c.args.self.now) c.args.self.now
