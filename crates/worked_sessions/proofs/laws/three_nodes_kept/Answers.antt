use Rattle.worked_sessions.proofs.ThreeNodes.{three_nodes_kept}
use Rattle.worked_sessions.proofs.laws.three_nodes_kept.Goals as goal

pub returns : goal.returns
returns c = three_nodes_kept
