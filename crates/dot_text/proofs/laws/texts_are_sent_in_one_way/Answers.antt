use Rattle.dot_text.proofs.RoundTrip.{dots_one}
use Rattle.dot_text.proofs.laws.texts_are_sent_in_one_way.Goals as goal

pub returns : goal.returns
returns c = dots_one
