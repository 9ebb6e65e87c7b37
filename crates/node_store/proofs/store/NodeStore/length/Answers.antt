use Rattle.std.proofs.Common.{◌∙◌}
use Rattle.node_store.proofs.Sized.{length_is}
use Rattle.node_store.proofs.store.NodeStore.length.Goals as goal

pub returns : goal.returns
returns c = λ records k. c.length.ensures ∙ length_is c.args.id c.args.self.now records k
