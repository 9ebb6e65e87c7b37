use Rattle.smtp_wire.proofs.Meanings.{senders_read}
use Rattle.smtp_wire.proofs.laws.senders_are_read.Goals as goal

pub returns : goal.returns
returns c = senders_read
