use Rattle.std.proofs.Common.{Ok, Err, refl, subst}
use Rattle.std.proofs.lemmas.Result.{err_from_is_err_and}
use Rattle.mail_model.specs.Tape.{ClusterOrder as order}
use Rattle.node_store.specs.Disks.{view_of}
use Rattle.cluster_world.specs.Steps.{IsStep}
use Rattle.cluster_world.specs.declared.step.Step.TheVariants.{Drop}
use Rattle.cluster_world.specs.declared.step.Said.TheVariants.{Done}
use Rattle.drive_tape.specs.declared.event.ClusterEvent.TheVariants.{WasDropped}
use Rattle.drive_tape.proofs.Done.{was_done, was_refused, drop_done}
use Rattle.drive_tape.proofs.Stepping.{happens, denied}
use Rattle.drive_tape.proofs.moved.drop_letter.Goals as goal

pub returns-clause-moved : goal.returns-clause-moved
returns-clause-moved g c start outcomes awaited been fit =
    let on = view_of g.D.Disk.seen g.D.Disk.faults g.D.Disk.clock in
    let result = was_done (Drop c.args.letter) c.step-said.result _ c.in_ok-done.ensures.done c.step-said.ensures.is.did.kind (drop_done c.args.letter) in
    let is = subst (λ r. IsStep on r (Drop c.args.letter) c.args.world.now c.step-said.new.self) result c.step-said.ensures.is in
    happens on start c.args.world.now outcomes awaited been (order.Drop c.args.letter) fit c.step-said.new.self (Drop c.args.letter) (Ok Done) (WasDropped c.args.letter) is (Ok Done, refl, is) (_, refl, refl) refl refl (λ n was. refl) (λ n among. absurd among)

pub returns-in_err-done-clause-moved : goal.returns-in_err-done-clause-moved
returns-in_err-done-clause-moved g c start outcomes awaited been fit =
    let on = view_of g.D.Disk.seen g.D.Disk.faults g.D.Disk.clock in
    let e = err_from_is_err_and c.from_residual.result c.from_residual.ensures.1 in
    let so = was_refused (Unit {0}) c.step-said.result _ c.in_err-done.ensures.done in
    let is = subst (λ r. IsStep on r (Drop c.args.letter) c.args.world.now c.step-said.new.self) so.1 c.step-said.ensures.is in
    rw (e.1, e.2) (denied on start c.args.world.now outcomes awaited been (order.Drop c.args.letter) fit c.step-said.new.self (Drop c.args.letter) so.0 _ is (Err so.0, refl, is) so.2 (λ always. always))
