use Rattle.pop_wire.proofs.Meanings.{others_unknown}
use Rattle.pop_wire.proofs.laws.other_verbs_are_unknown.Goals as goal

pub returns : goal.returns
returns c = others_unknown
