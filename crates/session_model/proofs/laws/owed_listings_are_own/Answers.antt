use Rattle.session_model.proofs.Owed.{owed_listings_are_own}
use Rattle.session_model.proofs.laws.owed_listings_are_own.Goals as goal

pub returns : goal.returns
returns c = owed_listings_are_own
