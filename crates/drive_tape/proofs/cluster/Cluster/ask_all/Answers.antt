use Rattle.std.proofs.Common.{refl, sym, ap, ◌∙◌, length, arith}
use Rattle.std.proofs.lemmas.Result.{err_from_is_err_and}
use Rattle.drive_tape.proofs.Works.{work_none}
use Rattle.drive_tape.proofs.Clusters.{went_on, stopped_on, stopped_plan, went_plan, at_plan}
use Rattle.drive_tape.specs.declared.sessions.Sessions.{Sessions}
use Rattle.drive_tape.proofs.Asking.{all_asked, asks_over, at_over, even_over}
use Rattle.drive_tape.proofs.cluster.Cluster.ask_all.Goals as goal

pub loop-place-init : goal.loop-place-init
loop-place-init g c = record {
  asked = λ start p shows held asks. record {
    q = p;
    work = work_none _ p;
    held_is = held;
    shows = at_over _ start _ p c.args.self.now _ _ refl c.pass_over-from.ensures.others shows;
    so_is = asks_over _ start _ p c.pass_over-from.result c.args.self.now shows (c.pass_over-from.ensures.over c.requires.even.over) asks;
  };
  ready = c.requires.ready;
  plan = refl;
  places = ap (λ (t : Sessions). length t.talkers.items) c.pass_over-from.ensures.others;
  even = even_over c.args.self.now.sessions _ _ c.pass_over-from.ensures.others c.requires.even (c.pass_over-from.ensures.over c.requires.even.over);
  later = omega arith;
}

pub returns-in_err-ask_at-clause-asked : goal.returns-in_err-ask_at-clause-asked
returns-in_err-ask_at-clause-asked g c start p shows held asks =
    let e = err_from_is_err_and c.from_residual.result c.from_residual.ensures.1 in
    let so = c.loop-place.invariant.asked start p shows held asks in
    let more = c.in_err-ask_at.ensures.asked start so.q (at_plan _ start _ _ _ so.q (sym c.loop-place.invariant.plan) so.shows) so.held_is so.so_is in
    rw (e.1, e.2) (stopped_on _ start _ p so.q _ _ _ so.work (stopped_plan _ start _ _ _ _ _ _ c.loop-place.invariant.plan more))

pub loop-place-preserved : goal.loop-place-preserved
loop-place-preserved g c = record {
  asked = λ start p shows held asks.
      let so = c.loop-place.invariant.asked start p shows held asks in
      let more = c.in_ok-ask_at.ensures.asked start so.q (at_plan _ start _ _ _ so.q (sym c.loop-place.invariant.plan) so.shows) so.held_is so.so_is in
      went_on _ start _ p so.q _ _ _ so.work (went_plan _ start _ _ _ _ _ _ c.loop-place.invariant.plan more);
  ready = c.in_ok-ask_at.ensures.ready;
  plan = c.in_ok-ask_at.ensures.plan ∙ c.loop-place.invariant.plan;
  places = c.in_ok-ask_at.ensures.length ∙ c.loop-place.invariant.places;
  even = c.in_ok-ask_at.ensures.even;
  later = omega (arith, c.loop-place.invariant.later, c.in_ok-ask_at.ensures.later);
}

pub returns-clause-asked : goal.returns-clause-asked
returns-clause-asked g c start p shows held asks =
    let so = c.loop-place.invariant.asked start p shows held asks in
    let same = ap (λ (t : Sessions). length t.talkers.items) c.pass_over-from.ensures.others in
    record {
      q = so.q;
      work = so.work;
      held_is = so.held_is;
      shows = so.shows;
      so_is = all_asked _ start _ so.q c.loop-place.place _ so.shows so.so_is (omega (arith, c.loop-place-test.false, c.loop-place.invariant.places, c.len-place-end.ensures, same));
    }
