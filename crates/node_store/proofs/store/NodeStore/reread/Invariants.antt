use Rattle.std.proofs.Common.{◌≡◌, drop}
use Rattle.io_edge.specs.Moments.{Keeps}
use Rattle.node_store.specs.Rereads.{HasReread}
use Rattle.node_store.proofs.store.NodeStore.reread.Given as goal

-- the records at the places so far were read
abbrev pub invariant-loop-place : goal.invariant-loop-place
invariant-loop-place g l = record {
  read : HasReread (g.D.Disk.seen l.initial.disk) l.self l.found (drop l.place-index l.places);
  own : l.self.own ≡ l.initial.self.own;
  quiet : g.D.Disk.faults l.disk ≡ g.D.Disk.faults l.initial.disk;
  seen : g.D.Disk.seen l.disk ≡ g.D.Disk.seen l.initial.disk;
  images : Keeps g.D.Disk.clock l.initial.disk l.disk;
  settled : g.D.Disk.settled l.initial.disk → g.D.Disk.settled l.disk;
}
