use Rattle.std.proofs.Common.{refl, subst}
use Rattle.std.proofs.lemmas.Result.{err_from_is_err_and}
use Rattle.cluster_world.specs.Worlds.{plan_of}
use Rattle.session_model.specs.Sessions.{exchanges_of}
use Rattle.mail_model.specs.Plan.{Plan}
use Rattle.drive_tape.specs.Moving.{MovesTo}
use Rattle.drive_tape.specs.Clusters.{RestsAt}
use Rattle.drive_tape.proofs.Clusters.{stops_at_once}
use Rattle.drive_tape.proofs.Talks.{on_not_ended}
use Rattle.drive_tape.proofs.Moves.{saying, beginning, rests, waits_idle, waits_stays, nothing_idle, nothing_stays}
use Rattle.drive_tape.proofs.Hearing.{saying_out, went_held}
use Rattle.drive_tape.proofs.cluster.Cluster.make_move.Goals as goal

pub returns-in_err-did-clause-moved : goal.returns-in_err-did-clause-moved
returns-in_err-did-clause-moved g c start p onward shows held hears =
    let e = err_from_is_err_and c.from_residual.result c.from_residual.ensures.1 in
    rw (e.1, e.2) (stops_at_once _ start _ p _ c.args.self.now.world held (p.awaited, shows.at) shows.causes)

pub returns-in-Said-clause-moved : goal.returns-in-Said-clause-moved
returns-in-Said-clause-moved g c start p onward shows held hears =
    let moved = subst (λ (pl : Plan). MovesTo pl p.sessions c.args.place hears.plain c.in_ok-did.did c.in_ok-did.after c.next.new.out.items c.args.self.now.sessions.standing c.next.new.self) c.plan.ensures
    (c.in_ok-did.ensures.moved p.sessions hears.plain shows.talks hears.here) in
    let heard = rw c.in-Said.is at moved in
    let out = saying_out _ start _ p _ c.args.place onward c.in_ok-did.after _ _ (record { world = c.args.self.now.world; sessions = c.next.new.self }) c.deref.ensures.value
    (saying _ start _ p c.args.place onward c.args.self.now (record { world = c.args.self.now.world; sessions = c.next.new.self }) shows hears refl c.in_ok-did.ensures.nodes c.in_ok-did.ensures.calls c.in_ok-did.after c.next.new.out.items heard) in
    c.say.ensures.said start p _ onward out held

pub returns-in-Begin-clause-moved : goal.returns-in-Begin-clause-moved
returns-in-Begin-clause-moved g c start p onward shows held hears =
    let moved = subst (λ (pl : Plan). MovesTo pl p.sessions c.args.place hears.plain c.in_ok-did.did c.in_ok-did.after c.next.new.out.items c.args.self.now.sessions.standing c.next.new.self) c.plan.ensures
    (c.in_ok-did.ensures.moved p.sessions hears.plain shows.talks hears.here) in
    let heard = rw c.in-Begin.is at moved in
    c.begin.ensures.began start p onward
    (beginning _ start _ p c.args.place onward c.args.self.now (record { world = c.args.self.now.world; sessions = c.next.new.self }) shows hears refl c.in_ok-did.ensures.nodes c.in_ok-did.ensures.calls c.in-Begin.call heard.0 c.next.new.out.items heard.1 heard.2) held

pub returns-in-Wait-clause-moved : goal.returns-in-Wait-clause-moved
returns-in-Wait-clause-moved g c start p onward shows held hears =
    let moved = c.in_ok-did.ensures.moved p.sessions hears.plain shows.talks hears.here in
    let waits = rw c.in-Wait.is at moved in
    went_held _ start (plan_of c.args.self.now.world) p (RestsAt onward) _ _ (record { world = c.args.self.now.world; sessions = c.next.new.self }) held
    (rests _ start (plan_of c.args.self.now.world) p c.args.place onward c.args.self.now (record { world = c.args.self.now.world; sessions = c.next.new.self }) shows hears refl c.in_ok-did.ensures.nodes c.in_ok-did.ensures.calls c.next.new.out.items (waits_idle hears.plain.standing hears.plain.rest waits.0) (waits_stays hears.plain.standing (exchanges_of hears.plain) waits.0) waits.1)

pub returns-in-Idle-clause-moved : goal.returns-in-Idle-clause-moved
returns-in-Idle-clause-moved g c start p onward shows held hears =
    let moved = c.in_ok-did.ensures.moved p.sessions hears.plain shows.talks hears.here in
    let idle = rw c.in-Idle.is at moved in
    went_held _ start (plan_of c.args.self.now.world) p (RestsAt onward) _ _ (record { world = c.args.self.now.world; sessions = c.next.new.self }) held
    (rests _ start (plan_of c.args.self.now.world) p c.args.place onward c.args.self.now (record { world = c.args.self.now.world; sessions = c.next.new.self }) shows hears refl c.in_ok-did.ensures.nodes c.in_ok-did.ensures.calls c.next.new.out.items (nothing_idle hears.plain.standing hears.plain.rest idle.0) (nothing_stays hears.plain.standing hears.plain.rest (exchanges_of hears.plain) idle.0) idle.1)

pub returns-clause-moved : goal.returns-clause-moved
returns-clause-moved g c start p onward shows held hears =
    let moved = c.in_ok-did.ensures.moved p.sessions hears.plain shows.talks hears.here in
    let end = rw c.in-End.is at moved in
    absurd (on_not_ended hears.plain.standing hears.on end.0)
