use Rattle.desk_model.proofs.Begun.{deliveries_file}
use Rattle.desk_model.proofs.laws.deliveries_file.Goals as goal

pub returns : goal.returns
returns c = deliveries_file
