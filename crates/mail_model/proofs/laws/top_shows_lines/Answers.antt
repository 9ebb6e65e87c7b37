use Rattle.mail_model.proofs.laws.top_shows_lines.Goals as goal
use Rattle.mail_model.proofs.TopLines.{top_shows_lines}

pub returns : goal.returns
returns c = top_shows_lines
