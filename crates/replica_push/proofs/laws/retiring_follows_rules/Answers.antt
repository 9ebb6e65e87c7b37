use Rattle.replica_push.proofs.Follows.{retiring_follows}
use Rattle.replica_push.proofs.laws.retiring_follows_rules.Goals as goal

pub returns : goal.returns
returns c = retiring_follows
