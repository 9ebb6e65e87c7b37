use Rattle.cluster_model.proofs.Sending.{sends_in_order}
use Rattle.cluster_model.proofs.laws.sends_in_order.Goals as goal

pub returns : goal.returns
returns c = λ own nodes seconds node disk. sends_in_order own nodes seconds node disk
