use Rattle.worked_sessions.proofs.CrashedNode.{crashed_node_driven}
use Rattle.worked_sessions.proofs.laws.crashed_node_driven.Goals as goal

pub returns : goal.returns
returns c = crashed_node_driven
