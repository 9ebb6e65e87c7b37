use Rattle.std.proofs.Common.{◌∙◌, refl, sym, arith}
use Rattle.std.proofs.lemmas.Result.{err_from_is_err_and}
use Rattle.drive_tape.proofs.Clusters.{went_on, stopped_on, stopped_plan, went_plan, at_plan}
use Rattle.drive_tape.proofs.Works.{work_none}
use Rattle.drive_tape.proofs.cluster.Cluster.hear.Goals as goal

pub loop-init : goal.loop-init
loop-init g c = record {
  heard = λ start p onward shows held hears. record { q = p; work = work_none _ p; held_is = held; shows = shows; so_is = hears };
  ready = c.requires.ready;
  plan = refl;
  places = refl;
  even = c.requires.even;
  later = omega arith;
  work = omega arith;
}

pub returns-in_err-make_move-clause-heard : goal.returns-in_err-make_move-clause-heard
returns-in_err-make_move-clause-heard g c start p onward shows held hears =
    let e = err_from_is_err_and c.from_residual.result c.from_residual.ensures.1 in
    let so = c.loop.invariant.heard start p onward shows held hears in
    let more = c.in_err-make_move.ensures.moved start so.q onward (at_plan _ start _ _ _ so.q (sym c.loop.invariant.plan) so.shows) so.held_is so.so_is in
    rw (e.1, e.2) (stopped_on _ start _ p so.q _ _ _ so.work (stopped_plan _ start _ _ _ _ _ _ c.loop.invariant.plan more))

pub loop-preserved : goal.loop-preserved
loop-preserved g c = record {
  heard = λ start p onward shows held hears.
      let so = c.loop.invariant.heard start p onward shows held hears in
      let more = rw c.if-branch.true at c.in_ok-make_move.ensures.moved start so.q onward (at_plan _ start _ _ _ so.q (sym c.loop.invariant.plan) so.shows) so.held_is so.so_is in
      went_on _ start _ p so.q _ _ _ so.work (went_plan _ start _ _ _ _ _ _ c.loop.invariant.plan more);
  ready = c.in_ok-make_move.ensures.ready;
  plan = c.in_ok-make_move.ensures.plan ∙ c.loop.invariant.plan;
  places = c.in_ok-make_move.ensures.length ∙ c.loop.invariant.places;
  even = c.in_ok-make_move.ensures.even;
  later = omega (arith, c.in_ok-make_move.ensures.later, c.loop.invariant.later);
  work = omega (arith, c.in_ok-make_move.ensures.work, c.loop.invariant.work);
}

pub returns-clause-heard : goal.returns-clause-heard
returns-clause-heard g c start p onward shows held hears =
    let so = c.loop.invariant.heard start p onward shows held hears in
    let more = rw c.if-branch.false at c.in_ok-make_move.ensures.moved start so.q onward (at_plan _ start _ _ _ so.q (sym c.loop.invariant.plan) so.shows) so.held_is so.so_is in
    went_on _ start _ p so.q _ _ _ so.work (went_plan _ start _ _ _ _ _ _ c.loop.invariant.plan more)
