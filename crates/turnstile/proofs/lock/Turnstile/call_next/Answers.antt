use Rattle.std.proofs.Common.{arith}
use Rattle.turnstile.proofs.Keeps.{rings}
use Rattle.turnstile.proofs.lock.Turnstile.call_next.Goals as goal

pub fetch_add-requires : goal.fetch_add-requires
fetch_add-requires g c = let n = c.args.self.now.counts.0 in let b = c.bell_of-bell.ensures in
    (c.requires, omega arith, rings g.V.Counted.history g.V.Counted.keeps _ _ _ _ _ b.0)
