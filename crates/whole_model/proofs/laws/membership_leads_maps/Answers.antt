use Rattle.whole_model.proofs.Membership.{membership_led}
use Rattle.whole_model.proofs.laws.membership_leads_maps.Goals as goal

pub returns : goal.returns
returns c = λ own old new disk promise heard did seen is acts. membership_led own old new disk promise heard did seen is acts
