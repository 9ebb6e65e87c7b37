use Rattle.std.proofs.Common.{Some, None, sym, subst}
use Rattle.std.proofs.lemmas.Result.{err_from_is_err_and}
use Rattle.mail_model.specs.Plan.{Plan}
use Rattle.session_model.specs.Calls.Answer.{Failed}
use Rattle.session_model.proofs.Replies.{each_answer_has_reply}
use Rattle.call_tickets.specs.Seen.{answer_seen}
use Rattle.call_tickets.specs.Moves.{HeardUnit, Replied}
use Rattle.session_gate.proofs.Moves.{cut_before, said_goes, rests_goes, stopped_cut, unanswered_cut, answered_cut, replied_goes, fell_goes, asks_waits, failed_answers}
use Rattle.session_gate.proofs.talk.make_move.Goals as goal

pub returns-in_err-next_intent-clause-moved : goal.returns-in_err-next_intent-clause-moved
returns-in_err-next_intent-clause-moved g c line fed wrote is come =
    let e = err_from_is_err_and c.from_residual.result c.from_residual.ensures.1 in
    rw (e.1, e.2) (cut_before line (g.T.Speaker.follows c.args.talker.now) fed wrote (c.args.out.now.items) (g.K.Sink.contents c.args.sink.now) _ come)

pub returns-in-Says-clause-moved : goal.returns-in-Says-clause-moved
returns-in-Says-clause-moved g c line fed wrote is come =
    let m = rw c.in-Says.is at c.in_ok-next_intent.ensures.intends in
    said_goes (g.T.Speaker.follows c.args.talker.now) (g.T.Speaker.follows c.next_intent.new.talker) line fed wrote _ m.0 _ _ _ come m.1
    (subst (λ (p : Plan). HeardUnit (g.T.Speaker.follows c.next_intent.new.talker) p come.at.plain None m.0) (sym is) (m.2 come.at.plain come.at.follows.0 come.at.follows.1))

pub returns-in-Rests-clause-moved : goal.returns-in-Rests-clause-moved
returns-in-Rests-clause-moved g c line fed wrote is come =
    let m = rw c.in-Rests.is at c.in_ok-next_intent.ensures.intends in
    let so = m.2 come.at.plain come.at.follows.0 come.at.follows.1 in
    rests_goes (g.T.Speaker.follows c.args.talker.now) (g.T.Speaker.follows c.next_intent.new.talker) line fed wrote _ m.0 _ _ _ come m.1 so.0 so.1 so.2

pub returns-in_err-answer-clause-moved : goal.returns-in_err-answer-clause-moved
returns-in_err-answer-clause-moved g c line fed wrote is come =
    let e = err_from_is_err_and c.from_residual-in_err-answer.result c.from_residual-in_err-answer.ensures.1 in
    let m = rw c.in-Asks.is at c.in_ok-next_intent.ensures.intends in
    let so = m.2 come.at.plain come.at.follows.0 come.at.follows.1 in
    let u = subst (λ (p : Plan). HeardUnit (g.T.Speaker.follows c.next_intent.new.talker) p come.at.plain (Some so.0) m.0) (sym is) so.2 in
    rw (e.1, e.2) (stopped_cut (g.T.Speaker.follows c.args.talker.now) (g.T.Speaker.follows c.next_intent.new.talker) line fed wrote _ m.0 _ _ _ come m.1 so.0 u _ _ _ _ c.in_err-answer.ensures.written (c.in_err-answer.ensures.settled so.0 so.1))

pub returns-in_err-reply-in-Answered-clause-moved : goal.returns-in_err-reply-in-Answered-clause-moved
returns-in_err-reply-in-Answered-clause-moved g c line fed wrote is come =
    let e = err_from_is_err_and c.from_residual-in_err-reply-in-Answered.result c.from_residual-in_err-reply-in-Answered.ensures.1 in
    let m = rw c.in-Asks.is at c.in_ok-next_intent.ensures.intends in
    let so = m.2 come.at.plain come.at.follows.0 come.at.follows.1 in
    let u = subst (λ (p : Plan). HeardUnit (g.T.Speaker.follows c.next_intent.new.talker) p come.at.plain (Some so.0) m.0) (sym is) so.2 in
    let d = rw c.in-Answered.is at c.in_ok-answer.ensures.settled so.0 so.1 in
    rw (e.1, e.2) (answered_cut (g.T.Speaker.follows c.args.talker.now) (g.T.Speaker.follows c.next_intent.new.talker) line fed wrote _ m.0 _ _ _ come m.1 so.0 u _ each_answer_has_reply _ (answer_seen c.in-Answered.answer) c.in_ok-answer.ensures.written.0 d.0 d.1)

pub returns-in_err-reply-in-GivenUp-clause-moved : goal.returns-in_err-reply-in-GivenUp-clause-moved
returns-in_err-reply-in-GivenUp-clause-moved g c line fed wrote is come =
    let e = err_from_is_err_and c.from_residual-in_err-reply-in-GivenUp.result c.from_residual-in_err-reply-in-GivenUp.ensures.1 in
    let m = rw c.in-Asks.is at c.in_ok-next_intent.ensures.intends in
    let so = m.2 come.at.plain come.at.follows.0 come.at.follows.1 in
    let u = subst (λ (p : Plan). HeardUnit (g.T.Speaker.follows c.next_intent.new.talker) p come.at.plain (Some so.0) m.0) (sym is) so.2 in
    let d = rw c.in-GivenUp.is at c.in_ok-answer.ensures.settled so.0 so.1 in
    rw (e.1, e.2) (answered_cut (g.T.Speaker.follows c.args.talker.now) (g.T.Speaker.follows c.next_intent.new.talker) line fed wrote _ m.0 _ _ _ come m.1 so.0 u _ each_answer_has_reply _ Failed c.in_ok-answer.ensures.written.0 d (failed_answers so.0))

pub returns-in_err-node_down-in-Down-clause-moved : goal.returns-in_err-node_down-in-Down-clause-moved
returns-in_err-node_down-in-Down-clause-moved g c line fed wrote is come =
    let e = err_from_is_err_and c.from_residual-in_err-node_down-in-Down.result c.from_residual-in_err-node_down-in-Down.ensures.1 in
    let m = rw c.in-Asks.is at c.in_ok-next_intent.ensures.intends in
    let so = m.2 come.at.plain come.at.follows.0 come.at.follows.1 in
    let u = subst (λ (p : Plan). HeardUnit (g.T.Speaker.follows c.next_intent.new.talker) p come.at.plain (Some so.0) m.0) (sym is) so.2 in
    let d = rw c.in-Down.is at c.in_ok-answer.ensures.settled so.0 so.1 in
    rw (e.1, e.2) (unanswered_cut (g.T.Speaker.follows c.args.talker.now) (g.T.Speaker.follows c.next_intent.new.talker) line fed wrote _ m.0 _ _ _ come m.1 so.0 u _ _ c.in_ok-answer.ensures.written.0 d.0)

pub returns-in_ok-reply-in-Answered-clause-moved : goal.returns-in_ok-reply-in-Answered-clause-moved
returns-in_ok-reply-in-Answered-clause-moved g c line fed wrote is come =
    let m = rw c.in-Asks.is at c.in_ok-next_intent.ensures.intends in
    let so = m.2 come.at.plain come.at.follows.0 come.at.follows.1 in
    let u = subst (λ (p : Plan). HeardUnit (g.T.Speaker.follows c.next_intent.new.talker) p come.at.plain (Some so.0) m.0) (sym is) so.2 in
    let d = rw c.in-Answered.is at c.in_ok-answer.ensures.settled so.0 so.1 in
    let waits = asks_waits line.plan come.at.plain u.one u.one.reply u.after so.0 u.did u.asks in
    let reply = (each_answer_has_reply u.one.unit so.0 (answer_seen c.in-Answered.answer) d.1).0 in
    let r = c.in_ok-reply-in-Answered.ensures.replied in
    let w = c.in_ok-answer.ensures.written in
    let replied = subst (λ (p : Plan). Replied (g.T.Speaker.follows c.reply.new.self) p u.after (answer_seen c.in-Answered.answer) r.0) (sym is)
    (r.2 u.after waits.0 so.0 reply.0 u.goes_on waits.1 reply.1) in
    replied_goes (g.T.Speaker.follows c.args.talker.now) (g.T.Speaker.follows c.next_intent.new.talker) line fed wrote _ m.0 _ _ _ come m.1 so.0 u _ (g.T.Speaker.follows c.reply.new.self) _ _ r.0 w.0 (rw w.1 at r.1) (answer_seen c.in-Answered.answer) d.0 replied

pub returns-in_ok-reply-in-GivenUp-clause-moved : goal.returns-in_ok-reply-in-GivenUp-clause-moved
returns-in_ok-reply-in-GivenUp-clause-moved g c line fed wrote is come =
    let m = rw c.in-Asks.is at c.in_ok-next_intent.ensures.intends in
    let so = m.2 come.at.plain come.at.follows.0 come.at.follows.1 in
    let u = subst (λ (p : Plan). HeardUnit (g.T.Speaker.follows c.next_intent.new.talker) p come.at.plain (Some so.0) m.0) (sym is) so.2 in
    let d = rw c.in-GivenUp.is at c.in_ok-answer.ensures.settled so.0 so.1 in
    let waits = asks_waits line.plan come.at.plain u.one u.one.reply u.after so.0 u.did u.asks in
    let reply = (each_answer_has_reply u.one.unit so.0 Failed (failed_answers so.0)).0 in
    let r = c.in_ok-reply-in-GivenUp.ensures.replied in
    let w = c.in_ok-answer.ensures.written in
    let replied = subst (λ (p : Plan). Replied (g.T.Speaker.follows c.reply-in-GivenUp.new.self) p u.after Failed r.0) (sym is)
    (r.2 u.after waits.0 so.0 reply.0 u.goes_on waits.1 reply.1) in
    replied_goes (g.T.Speaker.follows c.args.talker.now) (g.T.Speaker.follows c.next_intent.new.talker) line fed wrote _ m.0 _ _ _ come m.1 so.0 u _ (g.T.Speaker.follows c.reply-in-GivenUp.new.self) _ _ r.0 w.0 (rw w.1 at r.1) Failed d replied

pub returns-in_ok-node_down-in-Down-clause-moved : goal.returns-in_ok-node_down-in-Down-clause-moved
returns-in_ok-node_down-in-Down-clause-moved g c line fed wrote is come =
    let m = rw c.in-Asks.is at c.in_ok-next_intent.ensures.intends in
    let so = m.2 come.at.plain come.at.follows.0 come.at.follows.1 in
    let u = subst (λ (p : Plan). HeardUnit (g.T.Speaker.follows c.next_intent.new.talker) p come.at.plain (Some so.0) m.0) (sym is) so.2 in
    let d = rw c.in-Down.is at c.in_ok-answer.ensures.settled so.0 so.1 in
    let waits = asks_waits line.plan come.at.plain u.one u.one.reply u.after so.0 u.did u.asks in
    let r = c.in_ok-node_down-in-Down.ensures.fell in
    let w = c.in_ok-answer.ensures.written in
    fell_goes (g.T.Speaker.follows c.args.talker.now) (g.T.Speaker.follows c.next_intent.new.talker) line fed wrote _ m.0 _ _ _ come m.1 so.0 u _ (g.T.Speaker.follows c.node_down.new.self) _ _ r.0 w.0 (rw w.1 at r.1) d.0 d.1 (r.2 u.after u.goes_on (rw waits.1 tt))
