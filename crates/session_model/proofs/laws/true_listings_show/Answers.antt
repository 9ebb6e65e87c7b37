use Rattle.session_model.proofs.Once.{true_listings_show}
use Rattle.session_model.proofs.laws.true_listings_show.Goals as goal

pub returns : goal.returns
returns c = true_listings_show
