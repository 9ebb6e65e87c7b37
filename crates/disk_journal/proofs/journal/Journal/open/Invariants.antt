use Rattle.std.proofs.Common.{◌≡◌, ◌≤◌, ◌-◌, IfSome, length}
use Rattle.io_edge.specs.Moments.{Keeps}
use Rattle.disk_journal.specs.Reading.{LieInRow}
use Rattle.disk_journal.proofs.Frames.{HasRead}
use Rattle.disk_journal.proofs.journal.Journal.open.Given as goal

-- the disk begins with the records so far, which lie at these places
abbrev pub invariant-loop-places : goal.invariant-loop-places
invariant-loop-places g l = record {
  read : IfSome (g.D.Disk.seen l.fn.disk) (λ held. HasRead l.fn.node held l.end l.places.items);
  row : LieInRow 16 l.places.items l.end;
  size : IfSome (g.D.Disk.seen l.fn.disk) (λ held. l.total ≡ length held);
  within : l.end ≤ l.total;
  seen : g.D.Disk.seen l.disk ≡ g.D.Disk.seen l.fn.disk;
  quiet : g.D.Disk.faults l.disk ≡ g.D.Disk.faults l.fn.disk;
  images : Keeps g.D.Disk.clock l.fn.disk l.disk;
  settled : g.D.Disk.settled l.fn.disk → g.D.Disk.settled l.disk;
}

abbrev pub decreases-loop-places : goal.decreases-loop-places
decreases-loop-places g l = l.total - l.end
