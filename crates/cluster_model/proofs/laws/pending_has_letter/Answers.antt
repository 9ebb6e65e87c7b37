use Rattle.cluster_model.proofs.Waiting.{pending_letter}
use Rattle.cluster_model.proofs.laws.pending_has_letter.Goals as goal

pub returns : goal.returns
returns c = λ confirm w s number node disk ticket here found got wanted e. pending_letter confirm w s number node disk ticket here found got wanted e
