use Rattle.cluster_model.proofs.Ruled.{after_records}
use Rattle.cluster_model.proofs.laws.confirms_after_records.Goals as goal

pub returns : goal.returns
returns c = λ own nodes node disk letter id stamp targets users octets is. after_records own nodes node disk letter id stamp targets users octets is
