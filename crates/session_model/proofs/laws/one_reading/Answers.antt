use Rattle.session_model.proofs.Readings.{one_reading}
use Rattle.session_model.proofs.laws.one_reading.Goals as goal

pub returns : goal.returns
returns c = one_reading
