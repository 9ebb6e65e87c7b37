use Rattle.std.proofs.Common.{Ok, refl, subst}
use Rattle.mail_model.specs.Tape.{ClusterOrder as order}
use Rattle.node_store.specs.Disks.{view_of}
use Rattle.cluster_world.specs.Steps.{IsStep}
use Rattle.cluster_world.specs.Sure.{IsSurelyDone}
use Rattle.cluster_world.specs.Worlds.{state_of, plan_of}
use Rattle.cluster_world.specs.declared.step.Step.TheVariants.{Lose}
use Rattle.cluster_world.specs.declared.step.Said.TheVariants.{Done}
use Rattle.drive_tape.specs.declared.event.ClusterEvent.TheVariants.{WasLost}
use Rattle.drive_tape.proofs.Done.{was_done, was_refused, loss_done}
use Rattle.drive_tape.proofs.Stepping.{happens}
use Rattle.drive_tape.proofs.Sure.{loss_fits, never_both}
use Rattle.drive_tape.proofs.moved.lose.Goals as goal

pub returns-clause-moved : goal.returns-clause-moved
returns-clause-moved g c start outcomes awaited been fit =
    let on = view_of g.D.Disk.seen g.D.Disk.faults g.D.Disk.clock in
    let result = was_done (Lose c.args.node) c.step-said.result _ c.in_ok-done.ensures.done c.step-said.ensures.is.did.kind (loss_done c.args.node) in
    let is = subst (λ r. IsStep on r (Lose c.args.node) c.args.world.now c.step-said.new.self) result c.step-said.ensures.is in
    happens on start c.args.world.now outcomes awaited been (order.Lose c.args.node) fit c.step-said.new.self (Lose c.args.node) (Ok Done) (WasLost c.args.node) is (Ok Done, refl, is) (_, refl, refl) refl refl (λ n was. refl) (λ n among. absurd among)

pub returns-in_err-done-clause-moved : goal.returns-in_err-done-clause-moved
returns-in_err-done-clause-moved g c start outcomes awaited been fit =
    let w = c.args.world.now in
    let so = was_refused (Unit {0}) c.step-said.result _ c.in_err-done.ensures.done in
    let sure = subst (λ r. IsSurelyDone (state_of w) (Lose c.args.node) r) so.1 c.step-said.ensures.sure in
    absurd (never_both _ so.0 (loss_fits (plan_of w) been w c.args.node fit.lives fit.accepted) sure)
