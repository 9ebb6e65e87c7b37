use Rattle.worked_sessions.proofs.OneDeletion.{one_deletion_asked}
use Rattle.worked_sessions.proofs.laws.one_deletion_asked.Goals as goal

pub returns : goal.returns
returns c = one_deletion_asked
