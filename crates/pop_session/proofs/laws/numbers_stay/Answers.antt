use Rattle.pop_session.proofs.Shows.{numbers_stay}
use Rattle.pop_session.proofs.laws.numbers_stay.Goals as goal

pub returns : goal.returns
returns c = numbers_stay
