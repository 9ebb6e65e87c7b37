use Rattle.std.proofs.Common.{ℕ, List, Option, sym, subst, drop, ◌+◌, ◌∷◌, ◌∙◌}
use Rattle.std.proofs.lemmas.Result.{err_from_is_err_and}
use Rattle.io_edge.proofs.Passing.{then_kept}
use Rattle.node_store.specs.Rereads.{HasReread}
use Rattle.node_store.proofs.Again.{next_read, stopped_on}
use Rattle.node_store.proofs.store.NodeStore.reread.Goals as goal

pub returns-in_err-reread_one-clause-read : goal.returns-in_err-reread_one-clause-read
returns-in_err-reread_one-clause-read g c =
    let inv = c.loop-place.invariant in
    let p = err_from_is_err_and c.from_residual.result c.from_residual.ensures.1 in
    let left = drop (c.loop-place.place-index + 1) c.args.places.now in
    let here = subst (λ (o : Option (List ℕ)). HasReread o c.loop-place.self c.loop-place.found (c.place-item.result ∷ left)) (sym inv.seen)
    (next_read (g.D.Disk.seen c.args.disk.now) c.loop-place.self c.loop-place.found c.args.places.now c.loop-place.place-index c.place-item.result c.loop-place-test.true c.place-item.is inv.read) in
    rw (p.1, p.2) (stopped_on _ _ _ _ _ c.reread_one.new.self c.reread_one.new.self c.reread_one.new.found c.reread_one.new.found left _ _ _ _ inv.seen inv.own inv.quiet
    (c.in_err-reread_one.ensures.read left here))

pub loop-place-preserved : goal.loop-place-preserved
loop-place-preserved g c =
    let inv = c.loop-place.invariant in
    let left = drop (c.loop-place.place-index + 1) c.args.places.now in
    let here = subst (λ (o : Option (List ℕ)). HasReread o c.loop-place.self c.loop-place.found (c.place-item.result ∷ left)) (sym inv.seen)
    (next_read (g.D.Disk.seen c.args.disk.now) c.loop-place.self c.loop-place.found c.args.places.now c.loop-place.place-index c.place-item.result c.loop-place-test.true c.place-item.is inv.read) in
    let next = c.in_ok-reread_one.ensures.read left here in
    record {
      read = subst (λ (o : Option (List ℕ)). HasReread o c.reread_one.new.self c.reread_one.new.found left) inv.seen next.0;
      own = next.1 ∙ inv.own;
      quiet = next.2 ∙ inv.quiet;
      seen = c.reread_one.ensures.seen ∙ inv.seen;
      images = then_kept g.D.Disk.clock _ _ _ _ inv.images c.reread_one.ensures.images;
      settled = λ before. c.reread_one.ensures.settled (inv.settled before);
    }
