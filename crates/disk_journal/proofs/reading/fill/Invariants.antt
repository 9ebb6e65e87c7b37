use Rattle.std.proofs.Common.{◌≡◌, ◌≤◌, ◌-◌, IfSome, length, take, drop}
use Rattle.io_edge.specs.Moments.{Keeps}
use Rattle.disk_journal.proofs.reading.fill.Given as goal

-- the octets so far are those of the disk from the offset on
abbrev pub invariant-loop-filled : goal.invariant-loop-filled
invariant-loop-filled g l = record {
  octets : IfSome (g.D.Disk.seen l.initial.disk) (λ held. take l.filled l.into ≡ take l.filled (drop l.at held));
  size : length l.into ≡ length l.initial.into;
  within : l.filled ≤ length l.into;
  seen : g.D.Disk.seen l.disk ≡ g.D.Disk.seen l.initial.disk;
  quiet : g.D.Disk.faults l.disk ≡ g.D.Disk.faults l.initial.disk;
  images : Keeps g.D.Disk.clock l.initial.disk l.disk;
  settled : g.D.Disk.settled l.initial.disk → g.D.Disk.settled l.disk;
}

abbrev pub decreases-loop-filled : goal.decreases-loop-filled
decreases-loop-filled g l = length l.into - l.filled
