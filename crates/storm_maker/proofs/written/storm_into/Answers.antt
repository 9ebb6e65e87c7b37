use Rattle.std.proofs.Common.{◌≡◌, ◌-◌, ◌<◌, None, ap, arith}
use Rattle.std.proofs.lemmas.Result.{err_from_is_err_and}
use Rattle.storm_maker.specs.Storm.{happens}
use Rattle.storm_maker.specs.Draws.{draws_of}
use Rattle.storm_maker.specs.Tape.{text_of, plan_lines, lines_of, rounds_from}
use Rattle.storm_maker.proofs.Writing.{goes_on, ends, stops, stops_first, round_is}
use Rattle.storm_maker.proofs.written.storm_into.Goals as goal

pub returns-in_err-put-clause-tape : goal.returns-in_err-put-clause-tape
returns-in_err-put-clause-tape g c =
    let p = err_from_is_err_and c.from_residual.result c.from_residual.ensures.1 in
    rw (p.1) (stops_first (g.K.Sink.contents c.args.sink.now) (g.K.Sink.contents c.put.new.sink) (text_of plan_lines) (rounds_from c.args.rounds None 1 (draws_of c.args.number)) c.in_err-put.field-0.0 c.in_err-put.ensures.octets)

pub returns-in_err-put_round-clause-tape : goal.returns-in_err-put_round-clause-tape
returns-in_err-put_round-clause-tape g c =
    let p = err_from_is_err_and c.from_residual-in_err-put_round.result c.from_residual-in_err-put_round.ensures.1 in
    let at = c.loop-round in
    let happening : c.happens-happening.result ≡ (happens at.down at.draws).0 = ap (λ p. p.0) c.happens-happening.ensures in
    let more : at.round < c.args.rounds = c.loop-round-test.true in
    rw (p.1) (stops (g.K.Sink.contents c.put_round.new.sink) (text_of (lines_of at.session (happens at.down at.draws).0)) _ c.in_err-put_round.field-0.0 at.invariant.octets
    (round_is c.args.rounds at.round at.down at.session at.draws more) (rw happening at c.in_err-put_round.ensures.octets))

pub loop-round-preserved : goal.loop-round-preserved
loop-round-preserved g c =
    let at = c.loop-round in
    let h = happens at.down at.draws in
    let happening : c.happens-happening.result ≡ h.0 = ap (λ p. p.0) c.happens-happening.ensures in
    let draws : c.happens-happening.new.draws ≡ h.1 = ap (λ p. p.1) c.happens-happening.ensures in
    let more : at.round < c.args.rounds = c.loop-round-test.true in
    record {
      octets = rw (c.down_after-down.ensures, c.session_after-session.ensures.after, draws, happening) (goes_on (g.K.Sink.contents c.put_round.new.sink) (text_of (lines_of at.session h.0)) _ at.invariant.octets
          (round_is c.args.rounds at.round at.down at.session at.draws more) (rw happening at c.in_ok-put_round.ensures.octets));
      few = omega arith;
      later = omega arith;
    }

pub returns-clause-tape : goal.returns-clause-tape
returns-clause-tape g c =
    let at = c.loop-round in
    let none : c.args.rounds - at.round ≡ 0 = omega arith in
    ends (g.K.Sink.contents c.put_end.new.sink) c.put_end.result (rw none at at.invariant.octets) c.put_end.ensures.octets
