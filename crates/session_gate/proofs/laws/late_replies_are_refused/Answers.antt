use Rattle.session_gate.proofs.Late.{late_replies_are_refused}
use Rattle.session_gate.proofs.laws.late_replies_are_refused.Goals as goal

pub returns : goal.returns
returns c = late_replies_are_refused
