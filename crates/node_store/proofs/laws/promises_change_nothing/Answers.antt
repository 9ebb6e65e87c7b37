use Rattle.node_store.proofs.Snocs.{promises_change_nothing}
use Rattle.node_store.proofs.laws.promises_change_nothing.Goals as goal

pub returns : goal.returns
returns c = promises_change_nothing
