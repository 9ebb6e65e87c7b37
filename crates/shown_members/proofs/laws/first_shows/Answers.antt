use Rattle.shown_members.proofs.Shows.{first_shows as shows}
use Rattle.shown_members.proofs.laws.first_shows.Goals as goal

pub returns : goal.returns
returns c = λ plan map some few managers. shows plan.nodes map
