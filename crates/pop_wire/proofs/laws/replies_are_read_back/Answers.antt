use Rattle.pop_wire.proofs.ReadBack.{read_back}
use Rattle.pop_wire.proofs.laws.replies_are_read_back.Goals as goal

pub returns : goal.returns
returns c = read_back
