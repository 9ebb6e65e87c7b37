use Rattle.login_model.proofs.Chances.{failures_count}
use Rattle.login_model.proofs.laws.failures_count.Goals as goal

pub returns : goal.returns
returns c = λ w s n node disk here seq ticket at mishaps e. failures_count w s n node disk here seq ticket at mishaps e
