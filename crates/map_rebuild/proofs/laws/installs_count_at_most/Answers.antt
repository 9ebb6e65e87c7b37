use Rattle.map_rebuild.proofs.AsMachine.{counts_at_most}
use Rattle.map_rebuild.proofs.laws.installs_count_at_most.Goals as goal

pub returns : goal.returns
returns c = λ epoch buckets old new apart marks. counts_at_most epoch buckets old new apart marks
