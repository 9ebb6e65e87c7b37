use Rattle.replica_push.proofs.Follows.{acks_follow}
use Rattle.replica_push.proofs.laws.acks_follow_rules.Goals as goal

pub returns : goal.returns
returns c = acks_follow
