use Rattle.porcupine_server.proofs.PostedTape.{posted_tape_is_good}
use Rattle.porcupine_server.proofs.laws.posted_tape_is_good.Goals as goal

pub returns : goal.returns
returns c = posted_tape_is_good
