use Rattle.std.proofs.Common.{◌≡◌, ℕ, [], Ok, Err, refl, ap, subst}
use Rattle.mail_model.specs.Tape.{ClusterOrder as order}
use Rattle.node_store.specs.Disks.{view_of}
use Rattle.cluster_world.specs.Steps.{IsStep}
use Rattle.cluster_world.specs.declared.step.Step.TheVariants.{Widen}
use Rattle.cluster_world.specs.declared.step.Said.TheVariants.{Widened, Faulted}
use Rattle.drive_tape.specs.declared.event.ClusterEvent.TheVariants.{HasWidened, HasFaulted}
use Rattle.drive_tape.proofs.Stepping.{happens, denied, one_among}
use Rattle.drive_tape.proofs.moved.widen.Goals as goal

pub returns-in-Ok-Widened-clause-moved : goal.returns-in-Ok-Widened-clause-moved
returns-in-Ok-Widened-clause-moved g c start outcomes awaited been fit =
    let on = view_of g.D.Disk.seen g.D.Disk.faults g.D.Disk.clock in
    let result : c.step.result ≡ Ok (Widened c.in-Ok-Widened.did) = (let a = c.in-Ok-Widened.is in let b = c.in-Ok-Widened.field-0-is in cc) in
    let is = subst (λ r. IsStep on r (Widen c.args.at c.args.user c.args.id c.args.to) c.args.world.now c.step.new.self) result c.step.ensures.is in
    happens on start c.args.world.now outcomes awaited been (order.Widen c.args.at c.args.user c.args.id c.args.to) fit c.step.new.self (Widen c.args.at c.args.user c.args.id c.args.to) (Ok (Widened c.in-Ok-Widened.did)) (HasWidened c.in-Ok-Widened.did) is (Ok (Widened c.in-Ok-Widened.did), refl, is) (_, refl, refl) refl tt (λ n was. refl) (λ n among. absurd among)

pub returns-in-Ok-Faulted-clause-moved : goal.returns-in-Ok-Faulted-clause-moved
returns-in-Ok-Faulted-clause-moved g c start outcomes awaited been fit =
    let on = view_of g.D.Disk.seen g.D.Disk.faults g.D.Disk.clock in
    let result : c.step.result ≡ Ok (Faulted c.in-Ok-Faulted.field-0-0) = (let a = c.in-Ok-Faulted.is in let b = c.in-Ok-Faulted.field-0-is in cc) in
    let first = subst (λ r. IsStep on r (Widen c.args.at c.args.user c.args.id c.args.to) c.args.world.now c.step.new.self) result c.step.ensures.is in
    let own : c.in-Ok-Faulted.field-0-0 ≡ c.args.at = first.did.kind in
    let is = subst (λ (n : ℕ). IsStep on (Ok (Faulted n)) (Widen c.args.at c.args.user c.args.id c.args.to) c.args.world.now c.step.new.self) own first in
    happens on start c.args.world.now outcomes awaited been (order.Widen c.args.at c.args.user c.args.id c.args.to) fit c.step.new.self (Widen c.args.at c.args.user c.args.id c.args.to) (Ok (Faulted c.args.at)) (HasFaulted c.args.at) is (Ok (Faulted c.args.at), refl, is) ([], _, refl, refl) refl refl (λ n was. refl) (λ n among. ap (λ (m : ℕ). Ok (Faulted m)) (one_among n c.args.at among))

pub returns-clause-moved : goal.returns-clause-moved
returns-clause-moved g c start outcomes awaited been fit =
    let on = view_of g.D.Disk.seen g.D.Disk.faults g.D.Disk.clock in
    let is = subst (λ r. IsStep on r (Widen c.args.at c.args.user c.args.id c.args.to) c.args.world.now c.step.new.self) c.in-Err.is c.step.ensures.is in
    denied on start c.args.world.now outcomes awaited been (order.Widen c.args.at c.args.user c.args.id c.args.to) fit c.step.new.self (Widen c.args.at c.args.user c.args.id c.args.to) c.in-Err.fault c.stop_by.result is (Err c.in-Err.fault, refl, is) c.stop_by.ensures.is (λ always. always)
