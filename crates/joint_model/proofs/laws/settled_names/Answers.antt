use Rattle.joint_model.proofs.Fresh.{names}
use Rattle.joint_model.proofs.laws.settled_names.Goals as goal

pub returns : goal.returns
returns c = λ confirm nodes w s few g settled plan n node disk at installed user manager managed. names confirm nodes w s few g settled plan n node disk at installed user manager managed
