use Rattle.worked_sessions.proofs.WrongReaders.{wrong_readers}
use Rattle.worked_sessions.proofs.laws.wrong_readers.Goals as goal

pub returns : goal.returns
returns c = wrong_readers
