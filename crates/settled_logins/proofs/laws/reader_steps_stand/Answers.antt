use Rattle.settled_logins.proofs.Readers.{steps_stand}
use Rattle.settled_logins.proofs.laws.reader_steps_stand.Goals as goal

pub returns : goal.returns
returns c = steps_stand
