use Rattle.porcupine_server.proofs.WrongRuns.{empty_store_is_refused}
use Rattle.porcupine_server.proofs.laws.empty_store_is_refused.Goals as goal

pub returns : goal.returns
returns c = empty_store_is_refused
