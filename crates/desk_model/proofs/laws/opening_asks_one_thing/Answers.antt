use Rattle.desk_model.proofs.Tickets.{opening_asks_one_thing}
use Rattle.desk_model.proofs.laws.opening_asks_one_thing.Goals as goal

pub returns : goal.returns
returns c = opening_asks_one_thing
