use Rattle.std.proofs.Common.{◌≡◌, ◌+◌, ◌<◌, refl, sym, ap, ◌∙◌, subst, arith}
use Rattle.mail_model.specs.Plan.{Plan}
use Rattle.std.proofs.lemmas.Result.{err_from_is_err_and}
use Rattle.node_store.specs.Disks.{view_of}
use Rattle.cluster_world.specs.Worlds.{plan_of}
use Rattle.drive_tape.proofs.Posting.{pushed_none, pushed_on, pushed, push_faulted, push_denied, pushed_nothing, push_up, works_now}
use Rattle.drive_tape.proofs.moved.push.Goals as goal

pub returns-then-not-is_up-clause-moved : goal.returns-then-not-is_up-clause-moved
returns-then-not-is_up-clause-moved g c start outcomes awaited been fit =
    pushed_nothing (view_of g.D.Disk.seen g.D.Disk.faults g.D.Disk.clock) start c.args.world.now outcomes awaited been c.args.from fit (sym c.is_up.ensures ∙ c.if-not-is_up.true)

pub loop-done-init : goal.loop-done-init
loop-done-init g c = record {
  ready = c.requires.ready;
  plan = refl;
  pushed = pushed_none (view_of g.D.Disk.seen g.D.Disk.faults g.D.Disk.clock) c.args.world.now c.args.from;
  up = sym c.is_up.ensures ∙ c.if-not-is_up.false;
}

pub returns-in_err-letters-clause-moved : goal.returns-in_err-letters-clause-moved
returns-in_err-letters-clause-moved g c start outcomes awaited been fit =
    let on = view_of g.D.Disk.seen g.D.Disk.faults g.D.Disk.clock in
    let e = err_from_is_err_and c.from_residual.result c.from_residual.ensures.1 in
    let up = push_up on start c.args.world.now outcomes awaited been c.args.from fit c.loop-done.invariant.up in
    let works = works_now on start c.args.world.now outcomes awaited been c.args.from c.loop-done.invariant.up in
    let apart : c.loop-done.done + 1 ≡ c.args.from → ⊥ = λ same. absurd (let never = (c.in_err-letters.ensures.own same).1 in cc) in
    let was = c.in_err-letters.ensures.pushed apart in
    let within : c.loop-done.done < (plan_of c.args.world.now).nodes = subst (λ n. c.loop-done.done < n) (ap (λ (p : Plan). p.nodes) (c.behind-world.view_is ∙ c.plan.ensures)) c.loop-done-test.true in
    rw (e.1, e.2) (push_denied on start c.args.world.now outcomes awaited been c.args.from fit up works c.loop-done.done c.loop-done.sent was.0 _ c.loop-done.world c.push_on.new.world was.1 c.loop-done.invariant.pushed within apart was.2)

pub returns-in-None-clause-moved : goal.returns-in-None-clause-moved
returns-in-None-clause-moved g c start outcomes awaited been fit =
    let on = view_of g.D.Disk.seen g.D.Disk.faults g.D.Disk.clock in
    let up = push_up on start c.args.world.now outcomes awaited been c.args.from fit c.loop-done.invariant.up in
    let works = works_now on start c.args.world.now outcomes awaited been c.args.from c.loop-done.invariant.up in
    let apart : c.loop-done.done + 1 ≡ c.args.from → ⊥ = λ same. absurd (let never = (rw c.in-None.is at c.in_ok-letters.ensures.own same).1 in cc) in
    let was = (rw c.in-None.is at c.in_ok-letters.ensures.pushed) apart in
    let within : c.loop-done.done < (plan_of c.args.world.now).nodes = subst (λ n. c.loop-done.done < n) (ap (λ (p : Plan). p.nodes) (c.behind-world.view_is ∙ c.plan.ensures)) c.loop-done-test.true in
    push_faulted on start c.args.world.now outcomes awaited been c.args.from fit up works c.loop-done.done c.loop-done.sent c.loop-done.world c.push_on.new.world c.loop-done.invariant.pushed within apart was

pub loop-done-preserved : goal.loop-done-preserved
loop-done-preserved g c = record {
  ready = c.push_on.ensures.ready;
  plan = c.push_on.ensures.plan ∙ c.loop-done.invariant.plan;
  pushed = pushed_on (view_of g.D.Disk.seen g.D.Disk.faults g.D.Disk.clock) c.args.world.now c.args.from c.loop-done.done c.loop-done.sent c.in-Some.letters _ c.loop-done.world c.push_on.new.world c.saturating_add-sent.ensures c.loop-done.invariant.pushed
      (rw c.in-Some.is at c.in_ok-letters.ensures.own) (rw c.in-Some.is at c.in_ok-letters.ensures.pushed);
  up = c.loop-done.invariant.up;
}

pub returns-clause-moved : goal.returns-clause-moved
returns-clause-moved g c start outcomes awaited been fit =
    let on = view_of g.D.Disk.seen g.D.Disk.faults g.D.Disk.clock in
    let up = push_up on start c.args.world.now outcomes awaited been c.args.from fit c.loop-done.invariant.up in
    let works = works_now on start c.args.world.now outcomes awaited been c.args.from c.loop-done.invariant.up in
    let same : c.behind-world.inside.nodes ≡ (plan_of c.args.world.now).nodes = ap (λ (p : Plan). p.nodes) (c.behind-world.view_is ∙ c.plan.ensures) in
    let all : c.loop-done.done ≡ (plan_of c.args.world.now).nodes = omega (arith, c.loop-done-test.false, c.loop-done.auto.done-end, same) in
    pushed on start c.args.world.now outcomes awaited been c.args.from fit up works c.loop-done.done c.loop-done.sent c.loop-done.world c.loop-done.invariant.pushed all
