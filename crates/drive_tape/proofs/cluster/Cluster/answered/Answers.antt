use Rattle.std.proofs.Common.{◌+◌, refl, sym, ap, subst}
use Rattle.std.proofs.lemmas.Result.{err_from_is_err_and}
use Rattle.call_tickets.specs.Seen.{answer_seen}
use Rattle.mail_model.specs.Plan.{Plan}
use Rattle.drive_tape.specs.declared.sessions.Sessions.{Sessions}
use Rattle.drive_tape.specs.Moving.{RepliesTo}
use Rattle.drive_tape.specs.Talks.{Converse}
use Rattle.drive_tape.proofs.Asking.{stops_answered, replying, replied_point}
use Rattle.drive_tape.proofs.cluster.Cluster.answered.Goals as goal

pub returns-in_err-after-clause-answered : goal.returns-in_err-after-clause-answered
returns-in_err-after-clause-answered g c start p a held =
    let e = err_from_is_err_and c.from_residual.result c.from_residual.ensures.1 in
    rw (e.1, e.2) (stops_answered _ start _ p c.args.place _ c.args.self.now a _ _ held refl)

pub returns-clause-answered : goal.returns-clause-answered
returns-clause-answered g c start p a held =
    let r = subst (λ (pl : Plan). RepliesTo pl p.sessions c.args.place a.plain (answer_seen c.args.answer) c.in_ok-after.after c.reply.new.out.items c.args.self.now.sessions.standing c.reply.new.self) c.plan.ensures
    (c.in_ok-after.ensures.replied p.sessions a.plain a.state a.call a.reply (subst (λ (t : Sessions). Converse t.talkers.items p.sessions) (sym a.same) a.shows.talks) a.here a.waits a.replies) in
    c.say.ensures.said start p (replied_point _ start _ p c.args.place _ c.args.self.now a r.call r.reply r.after) (c.args.place + 1)
    (replying _ start _ p c.args.place _ c.args.self.now a c.in_ok-after.after _ c.deref.result.now (record { world = c.args.self.now.world; sessions = c.reply.new.self }) c.deref.ensures.value refl c.in_ok-after.ensures.nodes
    (rw c.requires.even.calls c.requires.within) (ap (λ v. v.items) c.in_ok-after.ensures.calls) r) held
