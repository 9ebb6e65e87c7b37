use Rattle.porcupine_server.proofs.SmallTape.{one_tape_is_good}
use Rattle.porcupine_server.proofs.laws.one_tape_is_good.Goals as goal

pub returns : goal.returns
returns c = one_tape_is_good
