use Rattle.here_model.proofs.Keeping.{cuts_keep}
use Rattle.here_model.proofs.laws.cuts_keep_octets.Goals as goal

pub returns : goal.returns
returns c = λ act cut k before heard out missing after. cuts_keep act cut k before heard out missing after
