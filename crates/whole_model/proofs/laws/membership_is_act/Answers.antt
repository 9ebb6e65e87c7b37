use Rattle.whole_model.proofs.Membership.{membership_acts}
use Rattle.whole_model.proofs.laws.membership_is_act.Goals as goal

pub returns : goal.returns
returns c = λ own node disk installed promise heard out of_heard of_out ready. membership_acts own node disk installed promise heard out of_heard of_out ready
