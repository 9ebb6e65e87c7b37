use Rattle.pop_session.proofs.Shows.{listed_once}
use Rattle.pop_session.proofs.laws.listed_once.Goals as goal

pub returns : goal.returns
returns c = listed_once
