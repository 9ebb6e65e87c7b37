use Rattle.std.proofs.Common.{ap, ◌∙◌, arith}
use Rattle.turnstile.proofs.Keeps.{draws, looks}
use Rattle.turnstile.proofs.lock.Turnstile.enter.Goals as goal

pub fetch_add-mine-requires : goal.fetch_add-mine-requires
fetch_add-mine-requires g c = let a = c.requires.0 in let i = c.requires.1 in let n = c.args.self.now.counts.0 in
    (a.table, omega arith, draws g.V.Counted.history g.V.Counted.keeps _ _ _ _ i.waits i.inside a.has_quota)

pub load-served-requires : goal.load-served-requires
load-served-requires g c = let a = c.requires.0 in let i = c.requires.1 in let h = c.loop.invariant in let n = c.args.self.now.counts.0 in
    let waits = ap (λ m. m.0.waits) h.me in (
      h.table,
      omega arith,
      looks g.V.Counted.history g.V.Counted.keeps _ _ _ _ (omega arith) (ap (λ m. m.0.inside) h.me ∙ i.inside) (ap (λ m. m.0.first_value) h.me ∙ a.first_value_is) (ap (λ m. m.1) h.me),
    )
