use Rattle.std.proofs.Common.{Ok, refl, subst}
use Rattle.mail_model.specs.Tape.{ClusterOrder as order}
use Rattle.node_store.specs.Disks.{view_of}
use Rattle.cluster_world.specs.Steps.{IsStep}
use Rattle.cluster_world.specs.Sure.{IsSurelyDone}
use Rattle.cluster_world.specs.Worlds.{state_of}
use Rattle.cluster_world.specs.declared.step.Step.TheVariants.{Tick}
use Rattle.cluster_world.specs.declared.step.Said.TheVariants.{Done}
use Rattle.cluster_world.proofs.Quietly.{tick_done}
use Rattle.drive_tape.specs.declared.event.ClusterEvent.TheVariants.{HasTicked}
use Rattle.drive_tape.proofs.Done.{was_done, was_refused}
use Rattle.drive_tape.proofs.Stepping.{happens}
use Rattle.drive_tape.proofs.moved.tick.Goals as goal

pub returns-clause-moved : goal.returns-clause-moved
returns-clause-moved g c start outcomes awaited been fit =
    let on = view_of g.D.Disk.seen g.D.Disk.faults g.D.Disk.clock in
    let result = was_done (Tick c.args.seconds) c.step-said.result _ c.in_ok-done.ensures.done c.step-said.ensures.is.did.kind (tick_done c.args.seconds) in
    let is = subst (λ r. IsStep on r (Tick c.args.seconds) c.args.world.now c.step-said.new.self) result c.step-said.ensures.is in
    happens on start c.args.world.now outcomes awaited been (order.Tick c.args.seconds) fit c.step-said.new.self (Tick c.args.seconds) (Ok Done) HasTicked is (Ok Done, refl, is) (_, refl, refl) refl tt (λ n was. refl) (λ n among. absurd among)

pub returns-in_err-done-clause-moved : goal.returns-in_err-done-clause-moved
returns-in_err-done-clause-moved g c start outcomes awaited been fit =
    let so = was_refused (Unit {0}) c.step-said.result _ c.in_err-done.ensures.done in
    absurd (subst (λ r. IsSurelyDone (state_of c.args.world.now) (Tick c.args.seconds) r) so.1 c.step-said.ensures.sure)
