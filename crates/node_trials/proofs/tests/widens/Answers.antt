use Rattle.std.specs.Prelude.{Ok, Err}
use Rattle.std.proofs.lemmas.Result.{err_from_is_err_and}
use Rattle.mail_model.specs.Identity.Key.{Message}
use Rattle.node_store.specs.Disks.{view_of}
use Rattle.node_core.proofs.Going.{widening_goes_on}
use Rattle.node_trials.proofs.tests.widens.Goals as goal

pub returns-in_err-did : goal.returns-in_err-did
returns-in_err-did g c =
    let on = view_of g.D.Disk.seen g.D.Disk.faults g.D.Disk.clock in
    let p = err_from_is_err_and c.from_residual.result c.from_residual.ensures.1 in
    rw (p.1, p.2) (λ up. widening_goes_on on c.args.node.now c.args.disk.now c.widen.new.self c.widen.new.disk c.requires.works c.args.to (Message c.args.user.now c.args.id) (Err c.in_err-did.field-0.0) c.in_err-did.ensures.widens up)

pub returns-in_err-say_whether : goal.returns-in_err-say_whether
returns-in_err-say_whether g c =
    let on = view_of g.D.Disk.seen g.D.Disk.faults g.D.Disk.clock in
    λ up. widening_goes_on on c.args.node.now c.args.disk.now c.widen.new.self c.widen.new.disk c.requires.works c.args.to (Message c.args.user.now c.args.id) (Ok c.in_ok-did.did) c.in_ok-did.ensures.widens tt

pub returns : goal.returns
returns g c =
    let on = view_of g.D.Disk.seen g.D.Disk.faults g.D.Disk.clock in
    λ up. widening_goes_on on c.args.node.now c.args.disk.now c.widen.new.self c.widen.new.disk c.requires.works c.args.to (Message c.args.user.now c.args.id) (Ok c.in_ok-did.did) c.in_ok-did.ensures.widens tt
