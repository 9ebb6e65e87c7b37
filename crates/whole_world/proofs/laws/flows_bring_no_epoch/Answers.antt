use Rattle.whole_world.proofs.Knowing.{brings_none}
use Rattle.whole_world.proofs.laws.flows_bring_no_epoch.Goals as goal

pub returns : goal.returns
returns c = λ plan tells w new stands flows g known. brings_none plan tells w new stands flows g known
