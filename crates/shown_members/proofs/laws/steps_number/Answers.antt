use Rattle.shown_members.proofs.Numbering.{steps_number as law}
use Rattle.shown_members.proofs.laws.steps_number.Goals as goal

pub returns : goal.returns
returns c = λ plan tells old new step outcome made low. law plan tells old new step outcome made low
