use Rattle.node_store.proofs.Snocs.{boots_change_nothing}
use Rattle.node_store.proofs.laws.boots_change_nothing.Goals as goal

pub returns : goal.returns
returns c = boots_change_nothing
