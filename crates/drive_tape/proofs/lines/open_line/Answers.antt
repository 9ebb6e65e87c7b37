use Rattle.std.proofs.Common.{◌+◌, ◌∷◌, [], length, ℕ, Some, refl, sym, ap, ◌∙◌}
use Rattle.std.proofs.lemmas.Result.{err_from_is_err_and}
use Rattle.mail_model.specs.Tape.Order.{Open}
use Rattle.session_model.specs.Clocks.{seconds_after}
use Rattle.cluster_world.specs.Worlds.{plan_of}
use Rattle.tape_lines.specs.Orders.{protocol_seen}
use Rattle.drive_tape.proofs.Joins.{joins}
use Rattle.drive_tape.proofs.Fed.{refused, not_begun, since_shows}
use Rattle.drive_tape.proofs.FedOpens.{opening_alike, admits_own, opened_started, opened_stopped, opened_shows, opened_asks, greeted, not_greeted, greets_same, one_line_said, all_one}
use Rattle.drive_tape.proofs.Talks.{converse_length}
use Rattle.drive_tape.specs.declared.cluster.Cluster.{Cluster}
use Rattle.drive_tape.proofs.lines.open_line.Goals as goal

pub returns-in-Err-clause-did : goal.returns-in-Err-clause-did
returns-in-Err-clause-did g c start p line spelled shows clock held =
    refused _ start _ p line _ c.args.cluster.now.world held (since_shows _ start _ c.args.cluster.now p shows) shows.causes shows.lives _ c.in-Err.fault spelled
    (sym (opening_alike _ start _ c.args.cluster.now p (protocol_seen c.args.protocol) c.args.node shows) ∙ c.in-Err.ensures.admits)

pub returns-in_err-open-clause-did : goal.returns-in_err-open-clause-did
returns-in_err-open-clause-did g c start p line spelled shows clock held =
    let e = err_from_is_err_and c.from_residual.result c.from_residual.ensures.1 in
    rw (e.1, e.2) (not_begun _ start _ p line _ c.args.cluster.now.world held (since_shows _ start _ c.args.cluster.now p shows) shows.causes shows.lives)

pub returns-in_err-write_reply-clause-did : goal.returns-in_err-write_reply-clause-did
returns-in_err-write_reply-clause-did g c start p line spelled shows clock held =
    let e = err_from_is_err_and c.from_residual-in_err-write_reply.result c.from_residual-in_err-write_reply.ensures.1 in
    let plan = plan_of c.args.cluster.now.world in
    let protocol = protocol_seen c.args.protocol in
    let a = admits_own plan c.args.cluster.now c.args.node c.in-Ok.found c.in-Ok.ensures.admits in
    let same = converse_length c.args.cluster.now.sessions.talkers.items p.sessions shows.talks in
    let wrote = c.in_err-write_reply.ensures.written (_ ∷ []) (all_one _ c.in_ok-open.ensures.line) (c.deref.ensures.value ∙ one_line_said _ _ c.open.new.out.items c.new-out.ensures.items c.in_ok-open.ensures.greets) in
    rw (e.1, e.2) (opened_stopped _ start plan p protocol c.in-Ok.found.0 c.in-Ok.found.1 c.args.cluster.now a shows line _ c.in_err-write_reply.field-0.0 c.args.cluster.now.world refl
    (spelled ∙ ap (λ (n : ℕ). Some (Open protocol n)) (sym c.in-Ok.ensures.admits.0))
    (not_greeted p.held _ _ _ (length p.sessions + 1) _ _ c.in_err-write_reply.field-0.0 held (ap (λ (n : ℕ). n + 1) (c.len.ensures ∙ c.args.cluster.now.sessions.talkers.ok.0 ∙ same)) (greets_same protocol c.in-Ok.found.0 c.in-Ok.found.1 _ (length p.sessions) _ (seconds_after p.been) same (c.seconds-seconds.ensures ∙ clock)) wrote))

pub returns-clause-did : goal.returns-clause-did
returns-clause-did g c start p line spelled shows clock held =
    let plan = plan_of c.args.cluster.now.world in
    let protocol = protocol_seen c.args.protocol in
    let a = admits_own plan c.args.cluster.now c.args.node c.in-Ok.found c.in-Ok.ensures.admits in
    let same = converse_length c.args.cluster.now.sessions.talkers.items p.sessions shows.talks in
    let wrote = c.in_ok-write_reply.ensures.written (_ ∷ []) (all_one _ c.in_ok-open.ensures.line) (c.deref.ensures.value ∙ one_line_said _ _ c.open.new.out.items c.new-out.ensures.items c.in_ok-open.ensures.greets) in
    let mid : Cluster g.row.D.Denot = record { world = c.args.cluster.now.world; sessions = c.open.new.self } in
    joins _ start plan p _ _ line c.ask_all.result _ c.ask_all.new.self (spelled ∙ ap (λ (n : ℕ). Some (Open protocol n)) (sym c.in-Ok.ensures.admits.0))
    (opened_started _ start plan p protocol c.in-Ok.found.0 c.in-Ok.found.1 c.args.cluster.now a shows _
    (greeted p.held _ _ _ (length p.sessions + 1) _ _ held (ap (λ (n : ℕ). n + 1) (c.len.ensures ∙ c.args.cluster.now.sessions.talkers.ok.0 ∙ same)) (greets_same protocol c.in-Ok.found.0 c.in-Ok.found.1 _ (length p.sessions) _ (seconds_after p.been) same (c.seconds-seconds.ensures ∙ clock)) wrote))
    (c.ask_all.ensures.asked start _
    (opened_shows _ start plan p protocol c.in-Ok.found.0 c.in-Ok.found.1 c.args.cluster.now a shows _ mid refl c.requires.even (c.in_ok-open.ensures.talks p.sessions shows.talks) c.in_ok-open.ensures.nodes c.in_ok-open.ensures.calls c.in_ok-open.ensures.count)
    refl (opened_asks _ start plan p protocol c.in-Ok.found.0 c.in-Ok.found.1 c.args.cluster.now a shows _))
