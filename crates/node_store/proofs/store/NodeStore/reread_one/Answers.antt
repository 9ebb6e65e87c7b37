use Rattle.std.proofs.lemmas.Result.{err_from_is_err_and}
use Rattle.node_store.proofs.Again.{one_more, entry_fails}
use Rattle.node_store.proofs.store.NodeStore.reread_one.Goals as goal

pub returns-in_err-entry-clause-read : goal.returns-in_err-entry-clause-read
returns-in_err-entry-clause-read g c = λ left h.
    let p = err_from_is_err_and c.from_residual.result c.from_residual.ensures.1 in
    rw (p.1, p.2) (entry_fails (g.D.Disk.seen c.args.disk.now) c.args.place left c.args.self.now c.args.found.now h _ c.args.self.now c.args.found.now _ _ c.in_err-entry.ensures.found)

pub returns-clause-read : goal.returns-clause-read
returns-clause-read g c = λ left h.
    let f = c.in_ok-entry.ensures.found in (
      one_more (g.D.Disk.seen c.args.disk.now) c.args.place left c.args.self.now c.args.found.now h c.in_ok-entry.entry c.retake.new.self c.heed.new.self f.0
          (λ one is. c.in_ok-retake.ensures one is) (λ records one is. c.in_ok-heed.ensures records one is),
      (c.in_ok-retake.ensures f.0.fitting.one f.0.fitting.is).own,
      f.1,
    )
