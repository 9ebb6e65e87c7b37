use Rattle.std.proofs.Common.{refl, ◌∙◌, arith}
use Rattle.std.proofs.lemmas.Result.{err_from_is_err_and}
use Rattle.drive_tape.proofs.Works.{work_none, work_more}
use Rattle.drive_tape.proofs.Clusters.{stopped_on}
use Rattle.drive_tape.proofs.Falling.{fallen_all}
use Rattle.drive_tape.proofs.cluster.Cluster.fall.Goals as goal

pub loop-place-init : goal.loop-place-init
loop-place-init g c = record {
  fell = λ start plan p onward f held. (p, work_none plan p, held, f);
  world = refl;
  places = refl;
  even = c.requires.even;
  left = λ place. omega arith;
  later = omega arith;
}

pub returns-in_err-fall_of-clause-fell : goal.returns-in_err-fall_of-clause-fell
returns-in_err-fall_of-clause-fell g c start plan p onward f held =
    let e = err_from_is_err_and c.from_residual.result c.from_residual.ensures.1 in
    let so_far = c.loop-place.invariant.fell start plan p onward f held in
    rw (e.1, e.2) (stopped_on _ start plan p so_far.0 _ _ _ so_far.1 (c.in_err-fall_of.ensures.fell start plan so_far.0 onward so_far.3 so_far.2))

pub loop-place-preserved : goal.loop-place-preserved
loop-place-preserved g c = record {
  fell = λ start plan p onward f held.
      let so_far = c.loop-place.invariant.fell start plan p onward f held in
      let more = c.in_ok-fall_of.ensures.fell start plan so_far.0 onward so_far.3 so_far.2 in
      (more.0, work_more plan p so_far.0 more.0 so_far.1 more.1, more.2, more.3);
  world = c.in_ok-fall_of.ensures.world ∙ c.loop-place.invariant.world;
  places = c.in_ok-fall_of.ensures.length ∙ c.loop-place.invariant.places;
  even = c.in_ok-fall_of.ensures.even;
  left = λ place. let one = c.in_ok-fall_of.ensures.left place in let before = c.loop-place.invariant.left place in omega (arith, one, before);
  later = omega (arith, c.loop-place.invariant.later, c.in_ok-fall_of.ensures.later);
}

pub returns-clause-fell : goal.returns-clause-fell
returns-clause-fell g c start plan p onward f held =
    let so_far = c.loop-place.invariant.fell start plan p onward f held in
    fallen_all _ start plan p so_far.0 c.loop-place.place c.args.node onward _ _ so_far.1 so_far.2 so_far.3
    (omega (arith, c.loop-place-test.false, c.loop-place.invariant.places, c.len-place-end.ensures))
