use Rattle.desk_model.proofs.Begun.{begun_calls_strike}
use Rattle.desk_model.proofs.laws.begun_calls_strike.Goals as goal

pub returns : goal.returns
returns c = begun_calls_strike
