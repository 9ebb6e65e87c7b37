use Rattle.std.proofs.Common.{ℕ, ◌<◌, ◌^◌, subst}
use Rattle.object_model.specs.Sets.{all_nodes}
use Rattle.cluster_model.specs.Store.{take_all, gone_updates}
use Rattle.node_store.specs.Disks.{view_of}
use Rattle.node_store.specs.Writes.{WroteChange}
use Rattle.node_core.proofs.Fitting.{gone_objects}
use Rattle.node_core.proofs.node.Node.take_marks.Goals as goal

pub returns-clause-wrote : goal.returns-clause-wrote
returns-clause-wrote g c =
    let on = view_of g.D.Disk.seen g.D.Disk.faults g.D.Disk.clock in
    subst (λ (t : ℕ). WroteChange on (take_all c.args.self.now.store.own (gone_updates c.args.user.now t c.args.marks.now)) c.take_gone.result c.args.self.now.store c.args.disk.now c.take_gone.new.self c.take_gone.new.disk)
    c.everyone-targets.ensures.value c.take_gone.ensures.wrote

pub returns-clause-fits : goal.returns-clause-fits
returns-clause-fits g c =
    let everyone = c.everyone-targets.ensures in
    gone_objects c.args.user.now (all_nodes c.args.self.now.shape.nodes) c.args.marks.now c.is_name.ensures
    (subst (λ (t : ℕ). (0 < t) × (t < 2 ^ 16)) everyone.value (everyone.some, everyone.bound)) c.are_ids.ensures c.requires.stamps
