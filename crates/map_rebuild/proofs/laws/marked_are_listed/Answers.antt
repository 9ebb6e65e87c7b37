use Rattle.map_rebuild.proofs.Listed.{marked_listed}
use Rattle.map_rebuild.proofs.laws.marked_are_listed.Goals as goal

pub returns : goal.returns
returns c = λ reports user. marked_listed reports user
