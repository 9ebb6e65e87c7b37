use Rattle.std.proofs.Common.{refl}
use Rattle.mail_model.specs.Identity.Key.{Message}
use Rattle.node_store.specs.Disks.{view_of}
use Rattle.node_core.proofs.Going.{widening_goes_on}
use Rattle.whole_node.specs.declared.node.WholeNode.{WholeNode}
use Rattle.whole_node.proofs.Beside.{idle_beside, works_on}
use Rattle.whole_node.proofs.Heard.{widened_follows, widened_has}
use Rattle.whole_node.proofs.node.WholeNode.widen.Goals as goal

pub returns-clause-follows : goal.returns-clause-follows
returns-clause-follows g c =
    let on = view_of g.D.Disk.seen g.D.Disk.faults g.D.Disk.clock in
    let old = c.args.self.now in
    let new : WholeNode = record old { mail = c.widen.new.self } in
    widened_follows on c.args.user.now c.args.id c.args.to old c.args.disk.now new c.widen.new.disk c.requires.works.maps refl c.widen.result

pub returns-clause-works : goal.returns-clause-works
returns-clause-works g c =
    let on = view_of g.D.Disk.seen g.D.Disk.faults g.D.Disk.clock in
    let old = c.args.self.now in
    let new : WholeNode = record old { mail = c.widen.new.self } in
    λ up. works_on old new (on.seen c.widen.new.disk)
    (widened_has on c.args.user.now c.args.id c.args.to old c.args.disk.now new c.widen.new.disk c.requires.works.maps refl c.widen.result c.widen.ensures.widens up)
    c.requires.works.reads (record { reads = refl; locks = refl })
    (widening_goes_on on old.mail c.args.disk.now c.widen.new.self c.widen.new.disk c.requires.works.mail c.args.to (Message c.args.user.now c.args.id) c.widen.result c.widen.ensures.widens up)

pub returns-clause-beside : goal.returns-clause-beside
returns-clause-beside g c =
    let old = c.args.self.now in
    λ up. idle_beside old (record old { mail = c.widen.new.self }) refl (record { reads = refl; locks = refl })
