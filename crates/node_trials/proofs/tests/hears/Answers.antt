use Rattle.std.specs.Prelude.{Ok, Err}
use Rattle.std.proofs.lemmas.Result.{err_from_is_err_and}
use Rattle.node_store.specs.Disks.{view_of}
use Rattle.node_core.proofs.Going.{hearing_goes_on}
use Rattle.node_trials.proofs.tests.hears.Goals as goal

pub returns-in_err-outbox : goal.returns-in_err-outbox
returns-in_err-outbox g c =
    let on = view_of g.D.Disk.seen g.D.Disk.faults g.D.Disk.clock in
    let p = err_from_is_err_and c.from_residual.result c.from_residual.ensures.1 in
    rw (p.1, p.2) (λ up. hearing_goes_on on c.args.node.now c.args.disk.now c.hear.new.self c.hear.new.disk c.requires.works c.args.letter.now (Err c.in_err-outbox.field-0.0) c.in_err-outbox.ensures.hears up)

pub returns-in_err-say_outbox : goal.returns-in_err-say_outbox
returns-in_err-say_outbox g c =
    let on = view_of g.D.Disk.seen g.D.Disk.faults g.D.Disk.clock in
    λ up. hearing_goes_on on c.args.node.now c.args.disk.now c.hear.new.self c.hear.new.disk c.requires.works c.args.letter.now (Ok c.in_ok-outbox.outbox) c.in_ok-outbox.ensures.hears tt

pub returns : goal.returns
returns g c =
    let on = view_of g.D.Disk.seen g.D.Disk.faults g.D.Disk.clock in
    λ up. hearing_goes_on on c.args.node.now c.args.disk.now c.hear.new.self c.hear.new.disk c.requires.works c.args.letter.now (Ok c.in_ok-outbox.outbox) c.in_ok-outbox.ensures.hears tt
