use Rattle.desk_model.proofs.Tickets.{steps_ask_one_thing}
use Rattle.desk_model.proofs.laws.steps_ask_one_thing.Goals as goal

pub returns : goal.returns
returns c = steps_ask_one_thing
