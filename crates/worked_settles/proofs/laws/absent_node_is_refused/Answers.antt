use Rattle.worked_settles.proofs.RegroupedBack.{absent_node_is_refused}
use Rattle.worked_settles.proofs.laws.absent_node_is_refused.Goals as goal

pub returns : goal.returns
returns c = absent_node_is_refused
