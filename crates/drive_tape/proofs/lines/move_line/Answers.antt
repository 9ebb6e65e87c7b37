use Rattle.std.proofs.Common.{◌≡◌, Err, None, refl, sym, ◌∙◌, subst}
use Rattle.std.proofs.lemmas.Result.{err_from_is_err_and}
use Rattle.mail_model.specs.Plan.{Plan}
use Rattle.mail_model.specs.Tape.{ClusterOrder}
use Rattle.mail_model.specs.Tape.Order.{Moves}
use Rattle.session_model.specs.Run.{refusal}
use Rattle.cluster_world.specs.Worlds.{plan_of}
use Rattle.tape_lines.specs.ClusterOrders.{cluster_order_seen}
use Rattle.drive_tape.specs.Moved.{OrderIsFit, Happened, MovedSo}
use Rattle.drive_tape.proofs.Clusters.{at_plan}
use Rattle.drive_tape.proofs.Fed.{refused, since_shows}
use Rattle.drive_tape.proofs.FedMoves.{refusal_alike, fit_so, did_plan, moved_in_vain}
use Rattle.node_store.specs.Disks.{view_of}
use Rattle.drive_tape.proofs.lines.move_line.Goals as goal

pub returns-in-Err-clause-did : goal.returns-in-Err-clause-did
returns-in-Err-clause-did g c start p line spelled shows held =
    let w = c.args.cluster.now.world in
    refused _ start _ p line _ w held (since_shows _ start _ c.args.cluster.now p shows) shows.causes shows.lives _ c.in-Err.fault spelled
    (sym (refusal_alike (plan_of w) p.been w shows.lives (cluster_order_seen c.args.order)) ∙ c.in-Err.ensures)

pub returns-in_err-event-clause-did : goal.returns-in_err-event-clause-did
returns-in_err-event-clause-did g c start p line spelled shows held =
    let e = err_from_is_err_and c.from_residual.result c.from_residual.ensures.1 in
    let w = c.args.cluster.now.world in
    let fit = fit_so _ start c.args.cluster.now p c.in-Ok.admitted (cluster_order_seen c.args.order) shows c.in-Ok.ensures.0 c.in-Ok.ensures.1 in
    let moved = subst (λ (o : ClusterOrder). MovedSo (view_of g.D.Disk.seen g.D.Disk.faults g.D.Disk.clock) start p.outcomes p.awaited p.been w o (Err c.in_err-event.field-0.0) c.make.new.world) c.in-Ok.ensures.0
    (c.in_err-event.ensures.moved start p.outcomes p.awaited p.been (subst (λ (o : ClusterOrder). OrderIsFit (view_of g.D.Disk.seen g.D.Disk.faults g.D.Disk.clock) start p.outcomes p.awaited p.been o w) (sym c.in-Ok.ensures.0) fit)) in
    rw (e.1, e.2) (moved_in_vain _ start _ p line (cluster_order_seen c.args.order) c.in_err-event.field-0.0 _ w c.make.new.world held spelled fit.accepted shows.lives shows.causes moved)

pub returns-clause-did : goal.returns-clause-did
returns-clause-did g c start p line spelled shows held =
    let w = c.args.cluster.now.world in
    let fit = fit_so _ start c.args.cluster.now p c.in-Ok.admitted (cluster_order_seen c.args.order) shows c.in-Ok.ensures.0 c.in-Ok.ensures.1 in
    let happened = subst (λ (o : ClusterOrder). Happened (view_of g.D.Disk.seen g.D.Disk.faults g.D.Disk.clock) start p.outcomes p.awaited p.been w o c.in_ok-event.event c.make.new.world) c.in-Ok.ensures.0
    (c.in_ok-event.ensures.moved start p.outcomes p.awaited p.been (subst (λ (o : ClusterOrder). OrderIsFit (view_of g.D.Disk.seen g.D.Disk.faults g.D.Disk.clock) start p.outcomes p.awaited p.been o w) (sym c.in-Ok.ensures.0) fit)) in
    let same = c.in_ok-event.ensures.plan in
    did_plan _ start _ _ p line c.happen.result _ c.happen.new.cluster same (c.happen.ensures.happened start p line (record {
      old = c.args.cluster.now;
      plan_is = sym same;
      order = cluster_order_seen c.args.order;
      spelled = spelled;
      accepted = subst (λ (pl : Plan). refusal pl p.been p.sessions (Moves (cluster_order_seen c.args.order)) ≡ None) (sym same) fit.accepted;
      shows = at_plan _ start _ _ c.args.cluster.now p (sym same) shows;
      sessions = refl;
      happened = happened;
    }) held)
