use Rattle.whole_model.proofs.Leading.{falls_led}
use Rattle.whole_model.proofs.laws.falls_lead_maps.Goals as goal

pub returns : goal.returns
returns c = λ own old disk front pending heard boots later promises above. falls_led own old disk front pending heard boots later promises above
