use Rattle.std.proofs.Common.{refl}
use Rattle.board_bench.proofs.guarded.Guarded.asks.Goals as goal

pub invariant_of-self : goal.invariant_of-self
invariant_of-self c = c.act.ensures.sound refl c.self.invariant
