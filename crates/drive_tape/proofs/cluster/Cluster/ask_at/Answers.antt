use Rattle.std.proofs.Common.{◌+◌, Some, refl, sym, ap, ◌∙◌, arith}
use Rattle.std.proofs.lemmas.Result.{err_from_is_err_and}
use Rattle.drive_tape.proofs.Works.{work_none}
use Rattle.drive_tape.proofs.Clusters.{went_on, goes_further, stopped_on, stops_further, stopped_plan, went_plan, at_plan}
use Rattle.drive_tape.proofs.Asking.{asks_again, asks_past, none_of}
use Rattle.drive_tape.proofs.cluster.Cluster.ask_at.Goals as goal

pub loop-open_call-init : goal.loop-open_call-init
loop-open_call-init g c = record {
  asked = λ start p shows held asks. record { q = p; work = work_none _ p; held_is = held; shows = shows; so_is = asks };
  ready = c.requires.ready;
  plan = refl;
  places = refl;
  even = c.requires.even;
  later = omega arith;
}

pub returns-in_err-ask-clause-asked : goal.returns-in_err-ask-clause-asked
returns-in_err-ask-clause-asked g c start p shows held asks =
    let e = err_from_is_err_and c.from_residual.result c.from_residual.ensures.1 in
    let loop = c.loop-open_call.invariant in
    let so = loop.asked start p shows held asks in
    let more = c.in_err-ask.ensures.asked start so.q (at_plan _ start _ _ _ so.q (sym loop.plan) so.shows) so.held_is so.so_is in
    rw (e.1, e.2) (stopped_on _ start _ p so.q _ _ _ so.work (stopped_plan _ start _ _ _ _ _ _ loop.plan more))

pub loop-open_call-preserved-in-Continue-branch-3 : goal.loop-open_call-preserved-in-Continue-branch-3
loop-open_call-preserved-in-Continue-branch-3 g c =
    let loop = c.loop-open_call.invariant in
    record {
      asked = λ start p shows held asks. goes_further _ start _ p _ _ _ _ _ _ (loop.asked start p shows held asks)
          (λ q at held_is so_is. went_plan _ start _ _ q _ _ _ loop.plan
          (asks_again _ start _ q c.args.place _ _
          (goes_further _ start _ q _ _ _ _ _ _ (rw c.in-On.is at c.in_ok-ask.ensures.asked start q (at_plan _ start _ _ _ q (sym loop.plan) at) held_is so_is)
          (λ r there held_so rests. went_plan _ start _ _ r _ _ _ c.in_ok-ask.ensures.plan
          (c.in_ok-hear-in-On.ensures.heard start r (c.args.place + 1) (at_plan _ start _ _ _ r (sym c.in_ok-ask.ensures.plan) there) held_so rests)))));
      ready = c.in_ok-hear-in-On.ensures.ready;
      plan = c.in_ok-hear-in-On.ensures.plan ∙ c.in_ok-ask.ensures.plan ∙ loop.plan;
      places = c.in_ok-hear-in-On.ensures.length ∙ c.in_ok-ask.ensures.length ∙ loop.places;
      even = c.in_ok-hear-in-On.ensures.even;
      later = omega (arith, loop.later, c.in_ok-ask.ensures.later, c.in_ok-hear-in-On.ensures.later);
    }

pub returns-in_err-hear-in-On-clause-asked : goal.returns-in_err-hear-in-On-clause-asked
returns-in_err-hear-in-On-clause-asked g c start p shows held asks =
    let e = err_from_is_err_and c.from_residual-in_err-hear-in-On.result c.from_residual-in_err-hear-in-On.ensures.1 in
    let loop = c.loop-open_call.invariant in
    rw (e.1, e.2) (stops_further _ start _ p _ _ _ _ _ _ (loop.asked start p shows held asks)
    (λ q at held_is so_is. stopped_plan _ start _ _ q _ _ _ loop.plan
    (stops_further _ start _ q _ _ _ _ _ _ (rw c.in-On.is at c.in_ok-ask.ensures.asked start q (at_plan _ start _ _ _ q (sym loop.plan) at) held_is so_is)
    (λ r there held_so rests. stopped_plan _ start _ _ r _ _ _ c.in_ok-ask.ensures.plan
    (c.in_err-hear-in-On.ensures.heard start r (c.args.place + 1) (at_plan _ start _ _ _ r (sym c.in_ok-ask.ensures.plan) there) held_so rests)))))

pub loop-open_call-preserved : goal.loop-open_call-preserved
loop-open_call-preserved g c =
    let loop = c.loop-open_call.invariant in
    record {
      asked = λ start p shows held asks.
          let so = loop.asked start p shows held asks in
          let rests = rw c.in-Rests.is at c.in_ok-ask.ensures.asked start so.q (at_plan _ start _ _ _ so.q (sym loop.plan) so.shows) so.held_is so.so_is in
          went_on _ start _ p so.q _ _ _ so.work (went_plan _ start _ _ _ _ _ _ loop.plan (asks_again _ start _ so.q c.args.place _ _ rests));
      ready = c.in_ok-ask.ensures.ready;
      plan = c.in_ok-ask.ensures.plan ∙ loop.plan;
      places = c.in_ok-ask.ensures.length ∙ loop.places;
      even = c.in_ok-ask.ensures.even;
      later = omega (arith, loop.later, c.in_ok-ask.ensures.later);
    }

pub returns-in-StillWaits-clause-asked : goal.returns-in-StillWaits-clause-asked
returns-in-StillWaits-clause-asked g c start p shows held asks =
    let loop = c.loop-open_call.invariant in
    let so = loop.asked start p shows held asks in
    let rests = rw c.in-StillWaits.is at c.in_ok-ask.ensures.asked start so.q (at_plan _ start _ _ _ so.q (sym loop.plan) so.shows) so.held_is so.so_is in
    went_on _ start _ p so.q _ _ _ so.work (went_plan _ start _ _ _ _ _ _ loop.plan (asks_again _ start _ so.q (c.args.place + 1) _ _ rests))

pub returns-clause-asked : goal.returns-clause-asked
returns-clause-asked g c start p shows held asks =
    let so = c.loop-open_call.invariant.asked start p shows held asks in
    let none = c.waiting.ensures ∙ ap Some (none_of c.waiting.result c.in_default.not-Some) in
    record { q = so.q; work = so.work; held_is = so.held_is; shows = so.shows; so_is = asks_past _ start _ so.q c.args.place c.loop-open_call.self so.shows so.so_is none }
