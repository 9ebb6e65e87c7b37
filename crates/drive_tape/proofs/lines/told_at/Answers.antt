use Rattle.std.proofs.Common.{ℕ, Err, refl, sym, ◌∙◌, subst}
use Rattle.std.proofs.lemmas.Result.{err_from_is_err_and}
use Rattle.mail_model.specs.Plan.{Plan}
use Rattle.session_model.specs.Calls.Answer.{Failed}
use Rattle.drive_tape.specs.Moving.{RepliesTo}
use Rattle.drive_tape.proofs.Joins.{joins}
use Rattle.drive_tape.proofs.Clusters.{at_plan, went_plan}
use Rattle.drive_tape.proofs.Works.{work_more}
use Rattle.drive_tape.proofs.Fed.{goes_on, rests_asked}
use Rattle.drive_tape.proofs.FedTells.{untold, telling, telling_out, failed_reply}
use Rattle.drive_tape.specs.declared.cluster.Cluster.{Cluster}
use Rattle.drive_tape.specs.Lines.{NothingIsUnderWay}
use Rattle.drive_tape.proofs.lines.told_at.Goals as goal

pub returns-in_err-after-clause-told : goal.returns-in_err-after-clause-told
returns-in_err-after-clause-told g c start p line gives held =
    let e = err_from_is_err_and c.from_residual.result c.from_residual.ensures.1 in
    rw (e.1, e.2) (untold _ start _ p line c.args.place c.args.cluster.now gives _ held)

pub returns-in_err-goes_on-clause-told : goal.returns-in_err-goes_on-clause-told
returns-in_err-goes_on-clause-told g c start p line gives held =
    let e = err_from_is_err_and c.from_residual-in_err-goes_on.result c.from_residual-in_err-goes_on.ensures.1 in
    let mid : Cluster g.row.D.Denot = record { world = c.args.cluster.now.world; sessions = c.reply.new.self } in
    let failed = failed_reply gives.call in
    let r = subst (λ (pl : Plan). RepliesTo pl p.sessions c.args.place gives.freed.plain Failed c.in_ok-after.after c.reply.new.out.items c.args.cluster.now.sessions.standing c.reply.new.self) c.plan.ensures
    (c.in_ok-after.ensures.replied p.sessions gives.freed.plain gives.state gives.call failed.0 gives.freed.talks gives.freed.here gives.waits failed.1) in
    rw (e.1, e.2) (c.in_err-goes_on.ensures.told start p _ line (telling_out _ start _ p _ line c.args.place c.in_ok-after.after _ _ mid c.deref.ensures.value
    (telling _ start _ p line c.args.place c.args.cluster.now gives mid c.in_ok-after.after c.reply.new.out.items refl c.in_ok-after.ensures.nodes c.in_ok-after.ensures.calls r)) held)

pub returns-in_err-hear_on-clause-told : goal.returns-in_err-hear_on-clause-told
returns-in_err-hear_on-clause-told g c start p line gives held =
    let e = err_from_is_err_and c.from_residual-in_err-hear_on.result c.from_residual-in_err-hear_on.ensures.1 in
    let mid : Cluster g.row.D.Denot = record { world = c.args.cluster.now.world; sessions = c.reply.new.self } in
    let failed = failed_reply gives.call in
    let r = subst (λ (pl : Plan). RepliesTo pl p.sessions c.args.place gives.freed.plain Failed c.in_ok-after.after c.reply.new.out.items c.args.cluster.now.sessions.standing c.reply.new.self) c.plan.ensures
    (c.in_ok-after.ensures.replied p.sessions gives.freed.plain gives.state gives.call failed.0 gives.freed.talks gives.freed.here gives.waits failed.1) in
    let told = c.in_ok-goes_on.ensures.told start p _ line (telling_out _ start _ p _ line c.args.place c.in_ok-after.after _ _ mid c.deref.ensures.value
    (telling _ start _ p line c.args.place c.args.cluster.now gives mid c.in_ok-after.after c.reply.new.out.items refl c.in_ok-after.ensures.nodes c.in_ok-after.ensures.calls r)) held in
    let same = c.in_ok-goes_on.ensures.plan in
    rw (e.1, e.2) (joins {T = ℕ} _ start _ p told.q told.order line (Err c.in_err-hear_on.field-0.0) _ c.hear_on.new.cluster told.spelled told.started
    (goes_on {T = ℕ} _ start _ _ told.q told.went.q NothingIsUnderWay (Err c.in_err-hear_on.field-0.0) _ c.hear_on.new.cluster same told.went.work
    (c.in_err-hear_on.ensures.heard start told.went.q 1 (at_plan _ start _ _ _ told.went.q (sym same) told.went.shows) told.went.held_is told.went.so_is)))

pub returns-clause-told : goal.returns-clause-told
returns-clause-told g c start p line gives held =
    let mid : Cluster g.row.D.Denot = record { world = c.args.cluster.now.world; sessions = c.reply.new.self } in
    let failed = failed_reply gives.call in
    let r = subst (λ (pl : Plan). RepliesTo pl p.sessions c.args.place gives.freed.plain Failed c.in_ok-after.after c.reply.new.out.items c.args.cluster.now.sessions.standing c.reply.new.self) c.plan.ensures
    (c.in_ok-after.ensures.replied p.sessions gives.freed.plain gives.state gives.call failed.0 gives.freed.talks gives.freed.here gives.waits failed.1) in
    let told = c.in_ok-goes_on.ensures.told start p _ line (telling_out _ start _ p _ line c.args.place c.in_ok-after.after _ _ mid c.deref.ensures.value
    (telling _ start _ p line c.args.place c.args.cluster.now gives mid c.in_ok-after.after c.reply.new.out.items refl c.in_ok-after.ensures.nodes c.in_ok-after.ensures.calls r)) held in
    let same = c.in_ok-goes_on.ensures.plan in
    let heard = went_plan _ start _ _ _ _ _ _ same (c.in_ok-hear_on.ensures.heard start told.went.q 1 (at_plan _ start _ _ _ told.went.q (sym same) told.went.shows) told.went.held_is told.went.so_is) in
    let same2 = c.in_ok-hear_on.ensures.plan ∙ same in
    joins _ start _ p told.q told.order line c.ask_all.result _ c.ask_all.new.self told.spelled told.started
    (goes_on _ start _ _ told.q heard.q _ c.ask_all.result _ c.ask_all.new.self same2 (work_more _ told.q told.went.q heard.q told.went.work heard.work)
    (c.ask_all.ensures.asked start heard.q (at_plan _ start _ _ _ heard.q (sym same2) heard.shows) heard.held_is (rests_asked heard.q heard.so_is)))
