use Rattle.session_model.proofs.Own.{own_listings_show}
use Rattle.session_model.proofs.laws.own_listings_show.Goals as goal

pub returns : goal.returns
returns c = own_listings_show
