use Rattle.std.proofs.Common.{arith}
use Rattle.std.specs.Prelude.{⊤}
use Rattle.std.proofs.lemmas.Result.{err_from_is_err_and}
use Rattle.node_store.specs.Disks.{view_of}
use Rattle.node_core.specs.Promising.{promising}
use Rattle.node_core.proofs.Heard.{failed_of}
use Rattle.node_core.proofs.Promising.{promise_did, promise_stopped}
use Rattle.node_core.proofs.node.Node.promise.Goals as goal

pub returns-in_err-promise-clause-promises : goal.returns-in_err-promise-clause-promises
returns-in_err-promise-clause-promises g c =
    let on = view_of g.D.Disk.seen g.D.Disk.faults g.D.Disk.clock in
    let p = err_from_is_err_and c.from_residual.result c.from_residual.ensures.1 in
    let w = c.in_err-promise.ensures.wrote in
    rw (p.1, p.2) (failed_of on (promising c.args.epoch) ⊤ c.in_err-promise.field-0.0 c.args.self.now c.args.disk.now _ c.promise.new.disk tt
    (promise_stopped on c.args.epoch c.args.self.now c.args.disk.now c.promise.new.disk (record { count = omega (arith, c.well_formed); node = c.requires.node }) w.0) w.1)

pub returns-clause-promises : goal.returns-clause-promises
returns-clause-promises g c =
    promise_did (view_of g.D.Disk.seen g.D.Disk.faults g.D.Disk.clock) c.args.epoch c.args.self.now c.args.disk.now c.promise.new.disk c.promise.new.self c.in_ok-promise.ensures.wrote c.requires.works.whole
