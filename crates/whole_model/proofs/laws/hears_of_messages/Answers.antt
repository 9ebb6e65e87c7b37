use Rattle.whole_model.proofs.Appends.{hears_of}
use Rattle.whole_model.proofs.laws.hears_of_messages.Goals as goal

pub returns : goal.returns
returns c = λ own nodes node disk letter to from. let h = hears_of own nodes node disk letter to from in ((h.grew.added, h.grew.is, h.grew.of), h.mail)
