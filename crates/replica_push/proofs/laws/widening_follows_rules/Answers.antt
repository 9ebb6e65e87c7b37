use Rattle.replica_push.proofs.Follows.{widening_follows}
use Rattle.replica_push.proofs.laws.widening_follows_rules.Goals as goal

pub returns : goal.returns
returns c = widening_follows
