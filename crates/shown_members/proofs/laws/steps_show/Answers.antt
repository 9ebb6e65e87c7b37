use Rattle.shown_members.proofs.Shows.{step_shows}
use Rattle.shown_members.proofs.laws.steps_show.Goals as goal

pub returns : goal.returns
returns c = λ plan tells old new step outcome g made calm stands shows. step_shows plan tells old new step outcome g made calm stands shows
