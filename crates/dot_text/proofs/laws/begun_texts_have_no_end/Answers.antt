use Rattle.dot_text.proofs.Once.{begun_none}
use Rattle.dot_text.proofs.laws.begun_texts_have_no_end.Goals as goal

pub returns : goal.returns
returns c = begun_none
