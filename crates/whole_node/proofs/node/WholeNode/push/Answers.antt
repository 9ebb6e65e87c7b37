use Rattle.std.proofs.Common.{refl}
use Rattle.node_store.specs.Disks.{view_of}
use Rattle.whole_node.specs.declared.node.WholeNode.{WholeNode}
use Rattle.whole_node.proofs.Beside.{idle_beside}
use Rattle.whole_node.proofs.Heard.{pushed_works, pushed_fits}
use Rattle.whole_node.proofs.node.WholeNode.push.Goals as goal

pub returns-clause-works : goal.returns-clause-works
returns-clause-works g c =
    let on = view_of g.D.Disk.seen g.D.Disk.faults g.D.Disk.clock in
    let old = c.args.self.now in
    let new : WholeNode = record old { mail = c.push.new.self } in
    pushed_works on c.args.to c.args.most c.args.room old c.args.disk.now new c.push.new.disk c.requires.works refl (record { reads = refl; locks = refl }) c.push.result c.push.ensures.pushes

pub returns-clause-fits : goal.returns-clause-fits
returns-clause-fits g c =
    let on = view_of g.D.Disk.seen g.D.Disk.faults g.D.Disk.clock in
    let old = c.args.self.now in
    let new : WholeNode = record old { mail = c.push.new.self } in
    pushed_fits on c.args.to c.args.most c.args.room old c.args.disk.now new c.push.new.disk c.requires.works.maps c.push.result c.push.ensures.pushes

pub returns-clause-beside : goal.returns-clause-beside
returns-clause-beside g c =
    let old = c.args.self.now in
    λ up. idle_beside old (record old { mail = c.push.new.self }) refl (record { reads = refl; locks = refl })
