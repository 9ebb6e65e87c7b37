use Rattle.fresh_sessions.proofs.Kept.{owed_settled_is_kept}
use Rattle.fresh_sessions.proofs.laws.owed_settled_is_kept.Goals as goal

pub returns : goal.returns
returns c = λ plan lines entries wrote acts disks sessions run shown talks answered logged owes. owed_settled_is_kept plan lines entries wrote acts disks sessions run shown talks answered logged owes
