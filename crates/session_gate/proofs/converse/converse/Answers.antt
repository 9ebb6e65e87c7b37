use Rattle.std.proofs.Common.{◌≡◌, [], refl, arith, ◌<◌, ◌≤◌, ◌+◌, ◌-◌, take, length, length-take-le}
use Rattle.io_edge.proofs.Known.{consumes_kept, consumes_none, appends_none}
use Rattle.session_gate.specs.Connections.{Rests}
use Rattle.session_gate.proofs.Listens.{listens_first, closes_heard, ended_serves, read_serves, fault_serves, long_serves, unfed_serves, listens_more, cut_more, feeds}
use Rattle.session_gate.proofs.converse.converse.Goals as goal

pub loop-room-init : goal.loop-room-init
loop-room-init g c = record {
  belongs = c.hear.ensures.belongs;
  listens = λ line is come.
      let h = c.in_default.ensures.heard line [] [] is come in
      (h.0, listens_first line (Rests (g.T.Speaker.follows c.hear.new.talker)) _ _ _ _ _ refl h.1);
  source_later = omega arith;
  sink_later = c.hear.ensures.later;
  size = refl;
}

pub returns-in-Some-clause-serves : goal.returns-in-Some-clause-serves
returns-in-Some-clause-serves g c line is come =
    closes_heard c.in-Some.close line (g.T.Speaker.follows c.hear.new.talker) _ _ _ (g.K.Sink.contents c.args.sink.now) _ [] [] _ (consumes_none _) (appends_none _) (c.in-Some.ensures.heard line [] [] is come)

pub returns-then-has_ended-clause-serves : goal.returns-then-has_ended-clause-serves
returns-then-has_ended-clause-serves g c line is come =
    let so = (c.loop-room.invariant.listens line is come).1 in
    ended_serves (g.T.Speaker.follows c.loop-room.talker) line _ _ _ _ _ _ so (rw c.if-has_ended.true at c.has_ended.ensures so.come.at.plain so.come.at.follows.0.0)

pub returns-in_default-read_some-clause-serves : goal.returns-in_default-read_some-clause-serves
returns-in_default-read_some-clause-serves g c line is come =
    let so = (c.loop-room.invariant.listens line is come).1 in
    fault_serves (g.T.Speaker.follows c.loop-room.talker) line _ _ _ _ _ _ so _ (consumes_kept _ _ c.in_default-read_some.ensures.octets)

pub returns-then-count-eq0-clause-serves : goal.returns-then-count-eq0-clause-serves
returns-then-count-eq0-clause-serves g c line is come =
    let so = (c.loop-room.invariant.listens line is come).1 in
    let on = rw c.if-has_ended.false at c.has_ended.ensures so.come.at.plain so.come.at.follows.0.0 in
    let took = c.in-Ok.ensures.octets in
    let long : 0 < length c.read_some.new.piece = let a = c.read_some.ensures.piece in let b = c.loop-room.invariant.size in omega (arith, a, b) in
    read_serves (g.T.Speaker.follows c.loop-room.talker) line _ _ _ _ _ _ so _ (rw c.if-count-eq0.true at took.0) (took.1 c.if-count-eq0.true long) on

pub returns-in_default-feed-clause-serves : goal.returns-in_default-feed-clause-serves
returns-in_default-feed-clause-serves g c line is come =
    let so = (c.loop-room.invariant.listens line is come).1 in
    unfed_serves (g.T.Speaker.follows c.loop-room.talker) line _ _ _ _ _ _ so _ (g.T.Speaker.follows c.feed.new.self) _ c.in-Ok.ensures.octets.0

pub returns-in-Some-hear-clause-serves : goal.returns-in-Some-hear-clause-serves
returns-in-Some-hear-clause-serves g c line is come =
    let inv = c.loop-room.invariant.listens line is come in
    let so = inv.1 in
    let on = rw c.if-has_ended.false at c.has_ended.ensures so.come.at.plain so.come.at.follows.0.0 in
    let fed = c.in-Ok-feed.ensures.ok so.come.at.plain so.come.at.follows.0.0 in
    let piece = c.in-Ok.ensures.octets.0 in
    let fed_so = feeds (g.T.Speaker.follows c.loop-room.talker) line _ _ _ _ _ _ so (g.T.Speaker.follows c.feed.new.self) _ _ piece on fed _ inv.0 in
    cut_more (g.T.Speaker.follows c.loop-room.talker) line _ _ _ _ _ _ so (g.T.Speaker.follows c.feed.new.self) _ _ piece on fed _ _ (g.T.Speaker.follows c.hear-in-loop-room.new.talker) c.in-Some-hear.close
    (c.in-Some-hear.ensures.heard line _ so.wrote is fed_so)

pub loop-room-preserved : goal.loop-room-preserved
loop-room-preserved g c = record {
  belongs = c.hear-in-loop-room.ensures.belongs;
  listens = λ line is come.
      let inv = c.loop-room.invariant.listens line is come in
      let so = inv.1 in
      let on = rw c.if-has_ended.false at c.has_ended.ensures so.come.at.plain so.come.at.follows.0.0 in
      let fed = c.in-Ok-feed.ensures.ok so.come.at.plain so.come.at.follows.0.0 in
      let piece = c.in-Ok.ensures.octets.0 in
      let fed_so = feeds (g.T.Speaker.follows c.loop-room.talker) line _ _ _ _ _ _ so (g.T.Speaker.follows c.feed.new.self) _ _ piece on fed _ inv.0 in
      let h = c.in_default-hear.ensures.heard line _ so.wrote is fed_so in
      let few = c.in-Ok.ensures.few in
      let within : c.in-Ok.count ≤ length c.read_some.new.piece = let a = c.read_some.ensures.piece in omega (arith, few.1, a) in
      let room_is : length (take c.in-Ok.count c.read_some.new.piece) + (c.loop-room.room - c.in-Ok.count) ≡ c.loop-room.room = let l = length-take-le c.in-Ok.count c.read_some.new.piece within in omega (arith, l, few.0) in
      (h.0, listens_more (g.T.Speaker.follows c.loop-room.talker) line _ _ _ _ _ _ so (g.T.Speaker.follows c.feed.new.self) _ _ piece on fed _ _ (g.T.Speaker.follows c.hear-in-loop-room.new.talker) _ room_is h.1);
  source_later = omega (arith, c.loop-room.invariant.source_later, c.read_some.ensures.cause.later);
  sink_later = omega (arith, c.loop-room.invariant.sink_later, c.hear-in-loop-room.ensures.later);
  size = let a = c.read_some.ensures.piece in let b = c.loop-room.invariant.size in omega (arith, a, b);
}

pub returns-clause-serves : goal.returns-clause-serves
returns-clause-serves g c line is come = long_serves (g.T.Speaker.follows c.loop-room.talker) line _ _ _ _ _ _ ((c.loop-room.invariant.listens line is come).1) (omega (arith, c.loop-room-test.false))
