use Rattle.std.specs.Prelude.{Ok, Err}
use Rattle.std.proofs.lemmas.Result.{err_from_is_err_and}
use Rattle.mail_base.specs.Delivers.{mail_in}
use Rattle.cluster_model.specs.Steps.NodeCall.{Deliver}
use Rattle.node_store.specs.Disks.{view_of}
use Rattle.node_core.proofs.Going.{beginning_goes_on}
use Rattle.node_trials.proofs.tests.delivers_now.Goals as goal

pub returns-in_err-begun : goal.returns-in_err-begun
returns-in_err-begun g c =
    let on = view_of g.D.Disk.seen g.D.Disk.faults g.D.Disk.clock in
    let p = err_from_is_err_and c.from_residual.result c.from_residual.ensures.1 in
    rw (p.1, p.2) (λ up. beginning_goes_on on c.args.node.now c.args.disk.now c.deliver.new.self c.deliver.new.disk c.requires.works c.args.seconds (Deliver (mail_in c.args.deliver)) c.requires.ended (Err c.in_err-begun.field-0.0) c.in_err-begun.ensures.begins up)

pub returns-in_err-say_outbox : goal.returns-in_err-say_outbox
returns-in_err-say_outbox g c =
    let on = view_of g.D.Disk.seen g.D.Disk.faults g.D.Disk.clock in
    λ up. beginning_goes_on on c.args.node.now c.args.disk.now c.deliver.new.self c.deliver.new.disk c.requires.works c.args.seconds (Deliver (mail_in c.args.deliver)) c.requires.ended (Ok c.in_ok-begun.begun) c.in_ok-begun.ensures.begins tt

pub returns : goal.returns
returns g c =
    let on = view_of g.D.Disk.seen g.D.Disk.faults g.D.Disk.clock in
    λ up. beginning_goes_on on c.args.node.now c.args.disk.now c.deliver.new.self c.deliver.new.disk c.requires.works c.args.seconds (Deliver (mail_in c.args.deliver)) c.requires.ended (Ok c.in_ok-begun.begun) c.in_ok-begun.ensures.begins tt
