use Rattle.std.proofs.Common.{take}
use Rattle.cluster_model.specs.Store.{take_all, gone_updates}
use Rattle.node_store.specs.Disks.{view_of}
use Rattle.node_store.specs.Writes.{Done}
use Rattle.node_store.proofs.store.NodeStore.take_gone.Given as goal

-- those so far are taken
abbrev pub invariant-loop-mark : goal.invariant-loop-mark
invariant-loop-mark g l = record {
  done : Done (view_of g.D.Disk.seen g.D.Disk.faults g.D.Disk.clock) (take_all l.initial.self.own (gone_updates l.user l.targets (take l.mark-index l.marks))) l.initial.self l.initial.disk l.self l.disk;
  settled : g.D.Disk.settled l.initial.disk → g.D.Disk.settled l.disk;
}
