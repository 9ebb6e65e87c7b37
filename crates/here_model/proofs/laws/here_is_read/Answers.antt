use Rattle.here_model.proofs.Keeping.{here_reads}
use Rattle.here_model.proofs.laws.here_is_read.Goals as goal

pub returns : goal.returns
returns c = λ records user id state all e here. here_reads records user id state all e here
