use Rattle.std.proofs.Common.{[], subst}
use Rattle.mail_model.specs.Identity.{EpochId}
use Rattle.node_store.specs.Disks.{view_of}
use Rattle.node_core.specs.Promising.{promising}
use Rattle.node_core.specs.Works.{NodeDid}
use Rattle.whole_node.proofs.Beside.{started_beside}
use Rattle.whole_node.proofs.FirstEpoch.{promised_first, is_first_whole}
use Rattle.whole_node.proofs.node.WholeNode.first.Goals as goal

pub in_first_epoch-requires : goal.in_first_epoch-requires
in_first_epoch-requires g c =
    let on = view_of g.D.Disk.seen g.D.Disk.faults g.D.Disk.clock in
    let d = subst (λ (e : EpochId). NodeDid on (promising e) c.in_ok-mail.mail c.first.new.disk c.promise.new.self c.promise.new.disk []) c.first_epoch.ensures c.in_ok-promise.ensures.promises in
    record { first = promised_first on c.args.plan.now c.args.number c.args.disk.now c.first.new.disk c.promise.new.disk c.in_ok-mail.mail c.promise.new.self c.in_ok-mail.ensures.starts d }

pub returns-in-Ok-clause-starts : goal.returns-in-Ok-clause-starts
returns-in-Ok-clause-starts g c =
    let on = view_of g.D.Disk.seen g.D.Disk.faults g.D.Disk.clock in
    let d = subst (λ (e : EpochId). NodeDid on (promising e) c.in_ok-mail.mail c.first.new.disk c.promise.new.self c.promise.new.disk []) c.first_epoch.ensures c.in_ok-promise.ensures.promises in
    is_first_whole on c.args.plan.now c.args.number c.args.disk.now c.first.new.disk c.promise.new.disk c.in_ok-mail.mail c.promise.new.self c.in_ok-mail.ensures.starts d c.in-Ok.node c.in-Ok.ensures

pub returns-in-Ok-clause-beside : goal.returns-in-Ok-clause-beside
returns-in-Ok-clause-beside g c = started_beside c.in-Ok.node c.in-Ok.ensures.maps.blank
