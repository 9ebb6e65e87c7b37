use Rattle.porcupine_server.proofs.NotLeftOut.{first_line_is_handled}
use Rattle.porcupine_server.proofs.laws.first_line_is_handled.Goals as goal

pub returns : goal.returns
returns c = first_line_is_handled
