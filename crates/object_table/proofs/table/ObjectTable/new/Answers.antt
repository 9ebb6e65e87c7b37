use Rattle.object_table.proofs.Indexed.{nothing_indexed}
use Rattle.object_table.proofs.table.ObjectTable.new.Goals as goal

pub invariant_of-result : goal.invariant_of-result
invariant_of-result c = rw c.new.ensures (nothing_indexed c.new-2.result c.new-2.ensures)
