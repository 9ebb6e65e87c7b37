use Rattle.pop_session.proofs.Marks.{unmarked_is_set, none_is_unmarked}
use Rattle.pop_session.proofs.listing.unmark_at.Goals as goal

pub returns-then-at-slots : goal.returns-then-at-slots
returns-then-at-slots c = unmarked_is_set c.args.slots.now c.args.at c.index-slots-at.result c.if-at-slots.true

pub returns-else-at-slots : goal.returns-else-at-slots
returns-else-at-slots c = none_is_unmarked c.args.slots.now c.args.at c.if-at-slots.false
