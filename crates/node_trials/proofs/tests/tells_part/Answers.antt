use Rattle.std.specs.Prelude.{Ok, Err}
use Rattle.std.proofs.lemmas.Result.{err_from_is_err_and}
use Rattle.node_store.specs.Disks.{view_of}
use Rattle.node_core.proofs.Going.{telling_goes_on}
use Rattle.node_trials.proofs.tests.tells_part.Goals as goal

pub returns-in_err-part : goal.returns-in_err-part
returns-in_err-part g c =
    let on = view_of g.D.Disk.seen g.D.Disk.faults g.D.Disk.clock in
    let p = err_from_is_err_and c.from_residual.result c.from_residual.ensures.1 in
    rw (p.1, p.2) (λ up. telling_goes_on on c.args.node.now c.args.disk.now c.told_part.new.disk c.requires.works c.args.user.now c.args.id c.args.from c.args.most (Err c.in_err-part.field-0.0) c.in_err-part.ensures.tells up)

pub returns-in_err-say_part : goal.returns-in_err-say_part
returns-in_err-say_part g c =
    let on = view_of g.D.Disk.seen g.D.Disk.faults g.D.Disk.clock in
    λ up. telling_goes_on on c.args.node.now c.args.disk.now c.told_part.new.disk c.requires.works c.args.user.now c.args.id c.args.from c.args.most (Ok c.in_ok-part.part) c.in_ok-part.ensures.tells tt

pub returns : goal.returns
returns g c =
    let on = view_of g.D.Disk.seen g.D.Disk.faults g.D.Disk.clock in
    λ up. telling_goes_on on c.args.node.now c.args.disk.now c.told_part.new.disk c.requires.works c.args.user.now c.args.id c.args.from c.args.most (Ok c.in_ok-part.part) c.in_ok-part.ensures.tells tt
