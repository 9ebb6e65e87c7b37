use Rattle.std.proofs.Common.{ℕ, List, Option, Ok, Err, refl, sym, ap, subst}
use Rattle.std.proofs.lemmas.Result.{err_from_is_err_and}
use Rattle.cluster_world.specs.Worlds.{plan_of}
use Rattle.drive_tape.specs.Happenings.{WritesOrStops}
use Rattle.session_model.specs.Events.{event_entries}
use Rattle.drive_tape.specs.Happenings.{event_seen}
use Rattle.drive_tape.proofs.Joins.{joins, wrote_all}
use Rattle.drive_tape.proofs.Clusters.{at_plan}
use Rattle.drive_tape.proofs.Fed.{goes_on, rests_asked}
use Rattle.drive_tape.proofs.FedMoves.{stops_moved, moved_started, may_fall}
use Rattle.drive_tape.proofs.lines.happen.Goals as goal

pub returns-in_err-write_event-clause-happened : goal.returns-in_err-write_event-clause-happened
returns-in_err-write_event-clause-happened g c start p line h held =
    let e = err_from_is_err_and c.from_residual.result c.from_residual.ensures.1 in
    rw (e.1, e.2) (stops_moved _ start (plan_of c.args.cluster.now.world) p line c.args.event.now c.args.cluster.now h c.in_err-write_event.field-0.0 _
    (subst (λ (held0 : Option (List ℕ)). WritesOrStops held0 (g.K.Sink.contents c.write_event.new.sink) (Err c.in_err-write_event.field-0.0) (event_entries (event_seen c.args.event.now))) (sym held) c.in_err-write_event.ensures.written))

pub returns-in_err-fall_by-clause-happened : goal.returns-in_err-fall_by-clause-happened
returns-in_err-fall_by-clause-happened g c start p line h held =
    let e = err_from_is_err_and c.from_residual-in_err-fall_by.result c.from_residual-in_err-fall_by.ensures.1 in
    let last = g.K.Sink.contents c.write_event.new.sink in
    let wrote = wrote_all p.held last c.in_ok-write_event.field-0 (event_entries (event_seen c.args.event.now))
    (subst (λ (held0 : Option (List ℕ)). WritesOrStops held0 last (Ok c.in_ok-write_event.field-0) (event_entries (event_seen c.args.event.now))) (sym held) c.in_ok-write_event.ensures.written) in
    rw (e.1, e.2) (joins {T = ℕ} _ start (plan_of c.args.cluster.now.world) p _ _ line (Err c.in_err-fall_by.field-0.0) _ c.fall_by.new.cluster h.spelled
    (moved_started _ start (plan_of c.args.cluster.now.world) p line c.args.event.now c.args.cluster.now h last wrote)
    (c.in_err-fall_by.ensures.fell start (plan_of c.args.cluster.now.world) _ (may_fall _ start (plan_of c.args.cluster.now.world) p line c.args.event.now c.args.cluster.now h last c.fallen.result (sym c.fallen.ensures)) refl))

pub returns-clause-happened : goal.returns-clause-happened
returns-clause-happened g c start p line h held =
    let last = g.K.Sink.contents c.write_event.new.sink in
    let wrote = wrote_all p.held last c.in_ok-write_event.field-0 (event_entries (event_seen c.args.event.now))
    (subst (λ (held0 : Option (List ℕ)). WritesOrStops held0 last (Ok c.in_ok-write_event.field-0) (event_entries (event_seen c.args.event.now))) (sym held) c.in_ok-write_event.ensures.written) in
    let fell = c.in_ok-fall_by.ensures.fell start (plan_of c.args.cluster.now.world) _ (may_fall _ start (plan_of c.args.cluster.now.world) p line c.args.event.now c.args.cluster.now h last c.fallen.result (sym c.fallen.ensures)) refl in
    let same = ap (λ w. plan_of w) c.in_ok-fall_by.ensures.world in
    joins _ start (plan_of c.args.cluster.now.world) p _ _ line c.ask_all.result _ c.ask_all.new.self h.spelled
    (moved_started _ start (plan_of c.args.cluster.now.world) p line c.args.event.now c.args.cluster.now h last wrote)
    (goes_on _ start _ _ _ fell.q _ c.ask_all.result _ c.ask_all.new.self same fell.work
    (c.ask_all.ensures.asked start fell.q (at_plan _ start _ _ _ fell.q (sym same) fell.shows) fell.held_is (rests_asked fell.q fell.so_is)))
