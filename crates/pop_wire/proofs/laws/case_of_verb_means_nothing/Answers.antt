use Rattle.pop_wire.proofs.Meanings.{case_means_nothing}
use Rattle.pop_wire.proofs.laws.case_of_verb_means_nothing.Goals as goal

pub returns : goal.returns
returns c = case_means_nothing
