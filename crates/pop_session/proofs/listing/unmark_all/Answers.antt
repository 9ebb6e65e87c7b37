use Rattle.std.proofs.Common.{List, ap, ◌∙◌}
use Rattle.pop_session.specs.declared.listing.Slot.{Slot}
use Rattle.pop_session.specs.Slots.{unmarked_at}
use Rattle.pop_session.proofs.Marks.{unmarked_more}
use Rattle.pop_session.proofs.listing.unmark_all.Goals as goal

pub loop-at-preserved : goal.loop-at-preserved
loop-at-preserved c = c.unmark_at.ensures ∙ ap (λ (l : List Slot). unmarked_at l c.loop-at.at) c.loop-at.invariant ∙ unmarked_more c.loop-at.at c.args.slots.now
