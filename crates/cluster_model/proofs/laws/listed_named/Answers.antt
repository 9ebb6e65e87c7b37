use Rattle.cluster_model.proofs.Listings.{listed_named}
use Rattle.cluster_model.proofs.laws.listed_named.Goals as goal

pub returns : goal.returns
returns c = listed_named
