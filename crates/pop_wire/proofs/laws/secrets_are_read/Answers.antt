use Rattle.pop_wire.proofs.Meanings.{secrets_read}
use Rattle.pop_wire.proofs.laws.secrets_are_read.Goals as goal

pub returns : goal.returns
returns c = secrets_read
