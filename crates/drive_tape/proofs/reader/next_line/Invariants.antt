use Rattle.std.proofs.Common.{◌≡◌, ◌+◌, ◌-◌, ◌≤◌, length}
use Rattle.std.specs.Io.KnownBytes.{Consumes}
use Rattle.mail_model.specs.Lines.{HasNoLf}
use Rattle.drive_tape.proofs.reader.next_line.Given as goal

-- what was taken is the line so far
abbrev pub invariant-loop-octets : goal.invariant-loop-octets
invariant-loop-octets g l = record {
  took : Consumes (g.S.Source.left l.fn.source) (g.S.Source.left l.source) l.octets.items;
  size : l.room + length l.octets.items ≡ l.fn.room;
  none : HasNoLf l.octets.items;
  short : length l.octets.items ≤ 65536;
  later : g.S.Source.faults l.fn.source ≤ g.S.Source.faults l.source;
}

abbrev pub decreases-loop-octets : goal.decreases-loop-octets
decreases-loop-octets g l = 65536 - length l.octets.items
