use Rattle.cluster_model.proofs.Sending.{answers_sender}
use Rattle.cluster_model.proofs.laws.answers_sender.Goals as goal

pub returns : goal.returns
returns c = λ own nodes node disk letter to kept one m. answers_sender own nodes node disk letter to kept one m
