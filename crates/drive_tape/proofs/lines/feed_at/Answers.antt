use Rattle.std.proofs.Common.{ℕ, Err, refl, sym}
use Rattle.std.proofs.lemmas.Result.{err_from_is_err_and}
use Rattle.cluster_world.specs.Worlds.{plan_of}
use Rattle.drive_tape.proofs.Joins.{joins}
use Rattle.drive_tape.proofs.Clusters.{at_plan}
use Rattle.drive_tape.proofs.Fed.{not_begun, since_shows, goes_on, rests_asked, fed_started, fed_shows, fed_hears}
use Rattle.drive_tape.specs.declared.cluster.Cluster.{Cluster}
use Rattle.drive_tape.proofs.lines.feed_at.Goals as goal

pub returns-in_err-feed-clause-did : goal.returns-in_err-feed-clause-did
returns-in_err-feed-clause-did g c start p line f shows held =
    let e = err_from_is_err_and c.from_residual.result c.from_residual.ensures.1 in
    rw (e.1, e.2) (not_begun _ start _ p line _ c.args.cluster.now.world held (since_shows _ start _ c.args.cluster.now p shows) shows.causes shows.lives)

pub returns-in_err-hear-clause-did : goal.returns-in_err-hear-clause-did
returns-in_err-hear-clause-did g c start p line f shows held =
    let e = err_from_is_err_and c.from_residual-in_err-hear.result c.from_residual-in_err-hear.ensures.1 in
    let mid : Cluster g.row.D.Denot = record { world = c.args.cluster.now.world; sessions = c.feed.new.self } in
    let q_shows = fed_shows _ start (plan_of c.args.cluster.now.world) p line c.args.place c.args.octets.now c.args.cluster.now mid f shows refl c.in_ok-feed.ensures.nodes c.in_ok-feed.ensures.calls c.in_ok-feed.ensures.count
    (c.in_ok-feed.ensures.talks p.sessions f.plain shows.talks f.here f.on) in
    rw (e.1, e.2) (joins {T = ℕ} _ start _ p _ f.order line (Err c.in_err-hear.field-0.0) _ c.hear.new.self f.spelled
    (fed_started _ start _ p line c.args.place c.args.octets.now c.args.cluster.now mid f shows refl c.in_ok-feed.ensures.nodes c.in_ok-feed.ensures.calls c.in_ok-feed.ensures.count)
    (c.in_err-hear.ensures.heard start _ 1 q_shows held
    (fed_hears _ start (plan_of c.args.cluster.now.world) p line c.args.place c.args.octets.now c.args.cluster.now mid f shows refl c.in_ok-feed.ensures.nodes c.in_ok-feed.ensures.calls c.in_ok-feed.ensures.count)))

pub returns-clause-did : goal.returns-clause-did
returns-clause-did g c start p line f shows held =
    let mid : Cluster g.row.D.Denot = record { world = c.args.cluster.now.world; sessions = c.feed.new.self } in
    let q_shows = fed_shows _ start (plan_of c.args.cluster.now.world) p line c.args.place c.args.octets.now c.args.cluster.now mid f shows refl c.in_ok-feed.ensures.nodes c.in_ok-feed.ensures.calls c.in_ok-feed.ensures.count
    (c.in_ok-feed.ensures.talks p.sessions f.plain shows.talks f.here f.on) in
    let heard = c.in_ok-hear.ensures.heard start _ 1 q_shows held
    (fed_hears _ start (plan_of c.args.cluster.now.world) p line c.args.place c.args.octets.now c.args.cluster.now mid f shows refl c.in_ok-feed.ensures.nodes c.in_ok-feed.ensures.calls c.in_ok-feed.ensures.count) in
    joins _ start _ p _ f.order line c.ask_all.result _ c.ask_all.new.self f.spelled
    (fed_started _ start _ p line c.args.place c.args.octets.now c.args.cluster.now mid f shows refl c.in_ok-feed.ensures.nodes c.in_ok-feed.ensures.calls c.in_ok-feed.ensures.count)
    (goes_on _ start _ _ _ heard.q _ c.ask_all.result _ c.ask_all.new.self c.in_ok-hear.ensures.plan heard.work
    (c.ask_all.ensures.asked start heard.q (at_plan _ start _ _ _ heard.q (sym c.in_ok-hear.ensures.plan) heard.shows) heard.held_is (rests_asked heard.q heard.so_is)))
