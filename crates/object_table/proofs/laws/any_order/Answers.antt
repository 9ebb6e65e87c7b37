use Rattle.object_table.proofs.Takes.{same_tables}
use Rattle.object_table.proofs.laws.any_order.Goals as goal

pub returns : goal.returns
returns c = same_tables
