use Rattle.dot_text.proofs.RoundTrip.{round_trips}
use Rattle.dot_text.proofs.laws.texts_are_read_back.Goals as goal

pub returns : goal.returns
returns c = round_trips
