use Rattle.whole_model.proofs.Leading.{messages_led}
use Rattle.whole_model.proofs.laws.messages_lead_maps.Goals as goal

pub returns : goal.returns
returns c = λ own old new disk added heard out of mail is. messages_led own old new disk added heard out of mail is
