use Rattle.cluster_model.proofs.Closing.{mishap_acts}
use Rattle.cluster_model.proofs.laws.nodes_note.Goals as goal

pub returns : goal.returns
returns c = λ kind own seq at node disk ready. mishap_acts own node disk ready kind seq at
