use Rattle.shown_members.proofs.Shows.{steps_show}
use Rattle.shown_members.proofs.laws.all_steps_show.Goals as goal

pub returns : goal.returns
returns c = λ plan tells old new steps g made calm stands shows. steps_show plan tells old new steps g made calm stands shows
