use Rattle.smtp_wire.proofs.Meanings.{routes_left_out}
use Rattle.smtp_wire.proofs.laws.routes_are_left_out.Goals as goal

pub returns : goal.returns
returns c = routes_left_out
