use Rattle.replica_push.proofs.Follows.{pushes_follow}
use Rattle.replica_push.proofs.laws.pushes_follow_rules.Goals as goal

pub returns : goal.returns
returns c = pushes_follow
