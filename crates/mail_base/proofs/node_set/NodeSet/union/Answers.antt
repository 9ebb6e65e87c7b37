use Rattle.object_model.proofs.SetLaws.{has_or}
use Rattle.mail_base.proofs.node_set.NodeSet.union.Goals as goal

pub returns-clause-members : goal.returns-clause-members
returns-clause-members c = rw (← c.self.view_is, ← c.other.view_is) (has_or c.self.inside.word c.other.inside.word)
