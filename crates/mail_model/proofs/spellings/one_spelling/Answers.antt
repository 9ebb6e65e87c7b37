use Rattle.mail_model.proofs.spellings.one_spelling.Goals as goal
use Rattle.mail_model.proofs.OneRecord.{one_spelling}

pub returns : goal.returns
returns c = one_spelling
