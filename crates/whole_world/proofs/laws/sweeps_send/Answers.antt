use Rattle.whole_world.proofs.Sweeping.{sweeps_send as law}
use Rattle.whole_world.proofs.laws.sweeps_send.Goals as goal

pub returns : goal.returns
returns c = λ plan tells w new pairs stands charted still g live all sweeps. law plan tells w new pairs stands charted still g live all sweeps
