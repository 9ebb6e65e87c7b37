use Rattle.std.proofs.Common.{◌++◌, arith}
use Rattle.session_gate.specs.Connections.{Talks, Rests, HasFallen, IsUp, LeftWith}
use Rattle.session_gate.proofs.Moves.{went_none, went_on, cut_on, flush_all, flush_part, talks_up, rests_up}
use Rattle.session_gate.proofs.Hearing.{left_heard, fallen_heard}
use Rattle.session_gate.proofs.talk.hear.Goals as goal

pub loop-stop-init : goal.loop-stop-init
loop-stop-init g c = record {
  belongs = c.requires.belongs;
  heard = λ line fed wrote is come. went_none line _ fed wrote _ _ _ come;
  later = omega arith;
}

pub returns-in-Err-clause-heard : goal.returns-in-Err-clause-heard
returns-in-Err-clause-heard g c line fed wrote is come =
    let so = c.loop-stop.invariant.heard line fed wrote is come in
    left_heard line (g.T.Speaker.follows c.make_move.new.talker) fed wrote _ _ _ c.in-Err.stop _ c.left_off.ensures
    (cut_on line (Talks (g.T.Speaker.follows c.loop-stop.talker)) fed wrote _ _ _ _ _ so (LeftWith c.in-Err.stop (g.T.Speaker.follows c.make_move.new.talker)) _
    (c.in-Err.ensures.moved line fed (wrote ++ so.more) is so.come))

pub loop-stop-preserved-in-Ok-Said : goal.loop-stop-preserved-in-Ok-Said
loop-stop-preserved-in-Ok-Said g c = record {
  belongs = c.make_move.ensures.belongs;
  heard = λ line fed wrote is come.
      let so = c.loop-stop.invariant.heard line fed wrote is come in
      let next = rw c.in-Ok-Said.field-0-is at c.in-Ok-Said.ensures.moved line fed (wrote ++ so.more) is so.come in
      went_on line (Talks (g.T.Speaker.follows c.loop-stop.talker)) fed wrote _ _ _ _ _ so (Talks (g.T.Speaker.follows c.make_move.new.talker)) _ _ next;
  later = omega (arith, c.make_move.ensures.later, c.loop-stop.invariant.later);
}

pub returns-in_default-clause-heard : goal.returns-in_default-clause-heard
returns-in_default-clause-heard g c line fed wrote is come =
    let so = c.loop-stop.invariant.heard line fed wrote is come in
    let next = rw c.in-Ok-Answered.field-0-is at c.in-Ok-Answered.ensures.moved line fed (wrote ++ so.more) is so.come in
    let all = went_on line (Talks (g.T.Speaker.follows c.loop-stop.talker)) fed wrote _ _ _ _ _ so (Talks (g.T.Speaker.follows c.make_move.new.talker)) _ _ next in
    record {
      off = flush_part line (Talks (g.T.Speaker.follows c.make_move.new.talker)) fed wrote _ _ _ _ _ all (IsUp (g.T.Speaker.follows c.make_move.new.talker))
          (talks_up (g.T.Speaker.follows c.make_move.new.talker)) c.in_default.ensures.octets;
      ends = tt;
    }

pub loop-stop-preserved : goal.loop-stop-preserved
loop-stop-preserved g c = record {
  belongs = c.make_move.ensures.belongs;
  heard = λ line fed wrote is come.
      let so = c.loop-stop.invariant.heard line fed wrote is come in
      let next = rw c.in-Ok-Answered.field-0-is at c.in-Ok-Answered.ensures.moved line fed (wrote ++ so.more) is so.come in
      let all = went_on line (Talks (g.T.Speaker.follows c.loop-stop.talker)) fed wrote _ _ _ _ _ so (Talks (g.T.Speaker.follows c.make_move.new.talker)) _ _ next in
      rw c.in-Ok.ensures.empty (flush_all line (Talks (g.T.Speaker.follows c.make_move.new.talker)) fed wrote _ _ _ _ _ all c.in-Ok.ensures.octets);
  later = omega (arith, c.make_move.ensures.later, c.flush.ensures.cause.later, c.loop-stop.invariant.later);
}

pub returns-in_default-flush-clause-heard : goal.returns-in_default-flush-clause-heard
returns-in_default-flush-clause-heard g c line fed wrote is come =
    let so = c.loop-stop.invariant.heard line fed wrote is come in
    let next = rw c.in-Ok-Rests.field-0-is at c.in-Ok-Rests.ensures.moved line fed (wrote ++ so.more) is so.come in
    let all = went_on line (Talks (g.T.Speaker.follows c.loop-stop.talker)) fed wrote _ _ _ _ _ so (Rests (g.T.Speaker.follows c.make_move.new.talker)) _ _ next in
    record {
      off = flush_part line (Rests (g.T.Speaker.follows c.make_move.new.talker)) fed wrote _ _ _ _ _ all (IsUp (g.T.Speaker.follows c.make_move.new.talker))
          (rests_up (g.T.Speaker.follows c.make_move.new.talker)) c.in_default-flush.ensures.octets;
      ends = tt;
    }

pub returns-in-Ok-Rests-clause-heard : goal.returns-in-Ok-Rests-clause-heard
returns-in-Ok-Rests-clause-heard g c line fed wrote is come =
    let so = c.loop-stop.invariant.heard line fed wrote is come in
    let next = rw c.in-Ok-Rests.field-0-is at c.in-Ok-Rests.ensures.moved line fed (wrote ++ so.more) is so.come in
    let all = went_on line (Talks (g.T.Speaker.follows c.loop-stop.talker)) fed wrote _ _ _ _ _ so (Rests (g.T.Speaker.follows c.make_move.new.talker)) _ _ next in
    (c.in-Ok-flush.ensures.empty, flush_all line (Rests (g.T.Speaker.follows c.make_move.new.talker)) fed wrote _ _ _ _ _ all c.in-Ok-flush.ensures.octets)

pub returns-in_default-flush-2-clause-heard : goal.returns-in_default-flush-2-clause-heard
returns-in_default-flush-2-clause-heard g c line fed wrote is come =
    let so = c.loop-stop.invariant.heard line fed wrote is come in
    let next = rw c.in-Ok-Fell.field-0-is at c.in-Ok-Fell.ensures.moved line fed (wrote ++ so.more) is so.come in
    let all = went_on line (Talks (g.T.Speaker.follows c.loop-stop.talker)) fed wrote _ _ _ _ _ so (HasFallen (g.T.Speaker.follows c.make_move.new.talker)) _ _ next in
    record {
      off = flush_part line (HasFallen (g.T.Speaker.follows c.make_move.new.talker)) fed wrote _ _ _ _ _ all (HasFallen (g.T.Speaker.follows c.make_move.new.talker))
          (λ plain fell. fell) c.in_default-flush-2.ensures.octets;
      ends = tt;
    }

pub returns-in-Ok-Fell-clause-heard : goal.returns-in-Ok-Fell-clause-heard
returns-in-Ok-Fell-clause-heard g c line fed wrote is come =
    let so = c.loop-stop.invariant.heard line fed wrote is come in
    let next = rw c.in-Ok-Fell.field-0-is at c.in-Ok-Fell.ensures.moved line fed (wrote ++ so.more) is so.come in
    let all = went_on line (Talks (g.T.Speaker.follows c.loop-stop.talker)) fed wrote _ _ _ _ _ so (HasFallen (g.T.Speaker.follows c.make_move.new.talker)) _ _ next in
    fallen_heard line (g.T.Speaker.follows c.make_move.new.talker) fed wrote _ _ _
    (flush_all line (HasFallen (g.T.Speaker.follows c.make_move.new.talker)) fed wrote _ _ _ _ _ all c.in-Ok-flush-2.ensures.octets)
