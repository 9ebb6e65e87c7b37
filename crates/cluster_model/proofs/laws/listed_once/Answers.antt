use Rattle.cluster_model.proofs.Listings.{listed_once}
use Rattle.cluster_model.proofs.laws.listed_once.Goals as goal

pub returns : goal.returns
returns c = listed_once
