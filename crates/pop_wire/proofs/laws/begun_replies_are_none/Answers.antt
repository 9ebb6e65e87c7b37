use Rattle.pop_wire.proofs.OneReply.{begun_none}
use Rattle.pop_wire.proofs.laws.begun_replies_are_none.Goals as goal

pub returns : goal.returns
returns c = begun_none
