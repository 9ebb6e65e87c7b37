use Rattle.whole_world.proofs.Settling.{names}
use Rattle.whole_world.proofs.laws.maps_name_fragments.Goals as goal

pub returns : goal.returns
returns c = λ plan w s g settled member m user manager managed. names plan w s g settled member m user manager managed
