use Rattle.desk_model.proofs.Answered.{answers_acknowledge}
use Rattle.desk_model.proofs.laws.answers_acknowledge.Goals as goal

pub returns : goal.returns
returns c = answers_acknowledge
