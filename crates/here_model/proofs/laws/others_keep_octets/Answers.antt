use Rattle.here_model.proofs.Keeping.{others_keep}
use Rattle.here_model.proofs.laws.others_keep_octets.Goals as goal

pub returns : goal.returns
returns c = λ act kept lost added before after none out. others_keep act kept lost added before after none out
