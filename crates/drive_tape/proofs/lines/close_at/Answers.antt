use Rattle.std.proofs.Common.{ℕ, Err, refl, sym, ◌∙◌}
use Rattle.std.proofs.lemmas.Result.{err_from_is_err_and}
use Rattle.cluster_world.specs.Worlds.{plan_of}
use Rattle.drive_tape.proofs.Joins.{joins}
use Rattle.drive_tape.proofs.Clusters.{at_plan, stopped_on}
use Rattle.drive_tape.proofs.Works.{work_more}
use Rattle.drive_tape.proofs.Fed.{goes_on, goes_held, rests_asked}
use Rattle.drive_tape.proofs.FedCloses.{closed_begun, closed_shows, closed_ends}
use Rattle.drive_tape.specs.declared.cluster.Cluster.{Cluster}
use Rattle.drive_tape.specs.Lines.{NothingIsUnderWay}
use Rattle.drive_tape.proofs.lines.close_at.Goals as goal

pub returns-in_err-leave-clause-closed : goal.returns-in_err-leave-clause-closed
returns-in_err-leave-clause-closed g c start p line cl held =
    let e = err_from_is_err_and c.from_residual.result c.from_residual.ensures.1 in
    let mid : Cluster g.row.D.Denot = record { world = c.args.cluster.now.world; sessions = c.close-call.new.self } in
    let closed = c.close-call.ensures.closed p.sessions cl.freed.plain cl.freed.talks cl.freed.here cl.freed.on_still in
    let begun = closed_begun _ start (plan_of c.args.cluster.now.world) p line c.args.place c.args.cluster.now mid cl refl c.close-call.ensures.nodes c.close-call.ensures.calls c.close-call.ensures.count in
    let shows = closed_shows _ start (plan_of c.args.cluster.now.world) p line c.args.place c.args.cluster.now mid cl refl c.close-call.ensures.nodes c.close-call.ensures.calls c.close-call.ensures.count closed.1 in
    let ends = closed_ends _ start (plan_of c.args.cluster.now.world) p line c.args.place c.args.cluster.now mid cl refl c.close-call.ensures.nodes c.close-call.ensures.calls c.close-call.ensures.count c.close-call.result closed.0 in
    rw (e.1, e.2) (joins {T = ℕ} _ start _ p begun.mid _ line (Err c.in_err-leave.field-0.0) _ c.leave.new.self cl.spelled begun.started
    (goes_held {T = ℕ} _ start _ _ NothingIsUnderWay (Err c.in_err-leave.field-0.0) _ _ c.leave.new.self held (stopped_on _ start _ begun.mid _ _ _ _ begun.work (c.in_err-leave.ensures.left start _ 1 shows ends))))

pub returns-clause-closed : goal.returns-clause-closed
returns-clause-closed g c start p line cl held =
    let mid : Cluster g.row.D.Denot = record { world = c.args.cluster.now.world; sessions = c.close-call.new.self } in
    let closed = c.close-call.ensures.closed p.sessions cl.freed.plain cl.freed.talks cl.freed.here cl.freed.on_still in
    let begun = closed_begun _ start (plan_of c.args.cluster.now.world) p line c.args.place c.args.cluster.now mid cl refl c.close-call.ensures.nodes c.close-call.ensures.calls c.close-call.ensures.count in
    let shows = closed_shows _ start (plan_of c.args.cluster.now.world) p line c.args.place c.args.cluster.now mid cl refl c.close-call.ensures.nodes c.close-call.ensures.calls c.close-call.ensures.count closed.1 in
    let ends = closed_ends _ start (plan_of c.args.cluster.now.world) p line c.args.place c.args.cluster.now mid cl refl c.close-call.ensures.nodes c.close-call.ensures.calls c.close-call.ensures.count c.close-call.result closed.0 in
    let left = c.in_ok-leave.ensures.left start _ 1 shows ends in
    joins _ start _ p begun.mid _ line c.ask_all.result _ c.ask_all.new.self cl.spelled begun.started
    (goes_on _ start _ _ begun.mid left.q _ c.ask_all.result _ c.ask_all.new.self c.in_ok-leave.ensures.plan (work_more _ begun.mid _ left.q begun.work left.work)
    (c.ask_all.ensures.asked start left.q (at_plan _ start _ _ _ left.q (sym c.in_ok-leave.ensures.plan) left.shows) (left.held_is ∙ held) (rests_asked left.q left.so_is)))
