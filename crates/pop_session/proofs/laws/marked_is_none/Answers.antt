use Rattle.pop_session.proofs.Shows.{marked_is_none}
use Rattle.pop_session.proofs.laws.marked_is_none.Goals as goal

pub returns : goal.returns
returns c = marked_is_none
