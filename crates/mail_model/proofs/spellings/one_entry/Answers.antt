use Rattle.mail_model.proofs.spellings.one_entry.Goals as goal
use Rattle.mail_model.proofs.OneEntry.{one_entry}

pub returns : goal.returns
returns c = one_entry
