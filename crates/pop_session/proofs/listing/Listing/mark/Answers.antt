use Rattle.std.proofs.Common.{◌≡◌, ◌+◌, List, length, ap, ◌∙◌, arith}
use Rattle.pop_session.specs.declared.listing.Slot.{Slot}
use Rattle.pop_session.specs.Slots.{slots_seen, items_of_slots, marked_at}
use Rattle.pop_session.proofs.Marks.{marks, items_stay, held_back}
use Rattle.pop_session.proofs.listing.Listing.mark.Goals as goal

pub returns-in-Some-clause-marks : goal.returns-in-Some-clause-marks
returns-in-Some-clause-marks c =
    let held = c.self.inside.held in
    let one : c.args.number ≡ c.in-Some.at + 1 = omega (arith, c.in-Some.ensures) in
    let back = held_back c.mark_at.new.slots held.items held.len (c.mark_at.auto.slots ∙ ap (λ (l : List Slot). length l) c.deref_mut.ensures.value) (omega (arith, held.ok.0)) in
    ap slots_seen (back ∙ c.mark_at.ensures) ∙ ap (λ (l : List Slot). slots_seen (marked_at l c.in-Some.at)) (c.deref_mut.ensures.value ∙ c.self.view_is)
    ∙ marks c.args.self.now c.args.number c.in-Some.at one

pub returns-in-Some-clause-items : goal.returns-in-Some-clause-items
returns-in-Some-clause-items c =
    let held = c.self.inside.held in
    let back = held_back c.mark_at.new.slots held.items held.len (c.mark_at.auto.slots ∙ ap (λ (l : List Slot). length l) c.deref_mut.ensures.value) (omega (arith, held.ok.0)) in
    ap items_of_slots (back ∙ c.mark_at.ensures) ∙ ap (λ (l : List Slot). items_of_slots (marked_at l c.in-Some.at)) (c.deref_mut.ensures.value ∙ c.self.view_is)
    ∙ items_stay c.args.self.now c.in-Some.at
