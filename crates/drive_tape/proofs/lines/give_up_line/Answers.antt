use Rattle.std.proofs.Common.{ℕ, Some, sym, ap, ◌∙◌, subst}
use Rattle.std.proofs.lemmas.Result.{err_from_is_err_and}
use Rattle.cluster_world.specs.Worlds.{plan_of}
use Rattle.mail_model.specs.Tape.Order.{GiveUp}
use Rattle.mail_model.specs.Plan.{Plan}
use Rattle.session_model.specs.Sessions.{session_at}
use Rattle.drive_tape.proofs.Fed.{refused, since_shows, no_session, no_giver}
use Rattle.drive_tape.proofs.FedCloses.{giving_in_vain, nothing_to_give, none_since, none_causes, none_lives, giving}
use Rattle.drive_tape.proofs.FedMoves.{did_plan}
use Rattle.drive_tape.specs.Fed.{IsGivingUpAt}
use Rattle.drive_tape.specs.declared.drove.TapeFault.TheVariants.{NoSuchSession, BadLine}
use Rattle.node_store.specs.Disks.{view_of}
use Rattle.drive_tape.proofs.lines.give_up_line.Goals as goal

pub returns-in_default-clause-did : goal.returns-in_default-clause-did
returns-in_default-clause-did g c start p line spelled shows held =
    refused _ start _ p line _ c.args.cluster.now.world held (since_shows _ start _ c.args.cluster.now p shows) shows.causes shows.lives _ NoSuchSession spelled
    (no_giver (session_at p.sessions c.args.session) (no_session p c.args.session (c.in_default.ensures.found p.sessions shows.talks)))

pub returns-in_err-let_go-clause-did : goal.returns-in_err-let_go-clause-did
returns-in_err-let_go-clause-did g c start p line spelled shows held =
    let e = err_from_is_err_and c.from_residual.result c.from_residual.ensures.1 in
    let f = c.in-Some.ensures.found p.sessions shows.talks in
    let kept = c.in_err-let_go.ensures.let_go start p f.0 shows f.1 f.3 in
    rw (e.1, e.2) (giving_in_vain _ start (plan_of c.args.cluster.now.world) p line c.in-Some.place _ _ c.let_go.new.cluster.world held kept (spelled ∙ ap (λ (k : ℕ). Some (GiveUp k)) c.in-Some.ensures.some.0))

pub returns-then-not-branch-clause-did : goal.returns-then-not-branch-clause-did
returns-then-not-branch-clause-did g c start p line spelled shows held =
    let f = c.in-Some.ensures.found p.sessions shows.talks in
    let freed = rw c.if-not-branch.true at c.in_ok-let_go.ensures.let_go start p f.0 shows f.1 f.3 in
    refused _ start _ p line _ c.let_go.new.cluster.world held (none_since _ start (plan_of c.args.cluster.now.world) p line c.in-Some.place c.let_go.new.cluster freed)
    (none_causes _ start (plan_of c.args.cluster.now.world) p line c.in-Some.place c.let_go.new.cluster freed)
    (none_lives _ start (plan_of c.args.cluster.now.world) p line c.in-Some.place c.let_go.new.cluster freed) _ BadLine (spelled ∙ ap (λ (k : ℕ). Some (GiveUp k)) c.in-Some.ensures.some.0)
    (nothing_to_give _ start (plan_of c.args.cluster.now.world) p line c.in-Some.place c.let_go.new.cluster freed)

pub returns-clause-did : goal.returns-clause-did
returns-clause-did g c start p line spelled shows held =
    let f = c.in-Some.ensures.found p.sessions shows.talks in
    let freed = rw c.if-not-branch.false at c.in_ok-let_go.ensures.let_go start p f.0 shows f.1 f.3 in
    let so = giving _ start (plan_of c.args.cluster.now.world) p line c.in-Some.place c.let_go.new.cluster (spelled ∙ ap (λ (k : ℕ). Some (GiveUp k)) c.in-Some.ensures.some.0) freed in
    let same = c.in_ok-let_go.ensures.plan in
    did_plan _ start _ _ p line c.told_at.result _ c.told_at.new.cluster same
    (c.told_at.ensures.told start p line (subst (λ (pl : Plan). IsGivingUpAt (view_of g.D.Disk.seen g.D.Disk.faults g.D.Disk.clock) start pl p line c.in-Some.place c.let_go.new.cluster) (sym same) so) held)
