use Rattle.smtp_wire.proofs.Meanings.{recipients_read}
use Rattle.smtp_wire.proofs.laws.recipients_are_read.Goals as goal

pub returns : goal.returns
returns c = recipients_read
