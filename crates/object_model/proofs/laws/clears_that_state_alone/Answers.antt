use Rattle.object_model.proofs.Logs.{clears_that}
use Rattle.object_model.proofs.laws.clears_that_state_alone.Goals as goal

pub returns : goal.returns
returns c = λ key state by log entry h apart. clears_that key state by log entry h apart
