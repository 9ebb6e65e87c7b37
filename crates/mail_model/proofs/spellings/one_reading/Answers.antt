use Rattle.mail_model.proofs.spellings.one_reading.Goals as goal
use Rattle.mail_model.proofs.OneRecord.{one_reading}

pub returns : goal.returns
returns c = one_reading
