use Rattle.session_model.proofs.Written.{driven_writes_lines}
use Rattle.session_model.proofs.laws.driven_writes_lines.Goals as goal

pub returns : goal.returns
returns c = driven_writes_lines
