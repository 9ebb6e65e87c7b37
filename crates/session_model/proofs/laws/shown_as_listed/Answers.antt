use Rattle.session_model.proofs.Showing.{shown_as_listed}
use Rattle.session_model.proofs.laws.shown_as_listed.Goals as goal

pub returns : goal.returns
returns c = shown_as_listed
