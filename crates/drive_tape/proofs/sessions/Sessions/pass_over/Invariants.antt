use Rattle.std.proofs.Common.{◌-◌, length}
use Rattle.drive_tape.specs.Moving.{AreOver}
use Rattle.drive_tape.proofs.sessions.Sessions.pass_over.Given as goal

-- those before this place have ended
abbrev pub invariant-loop-over : goal.invariant-loop-over
invariant-loop-over l = AreOver l.fn.self.over l.fn.self.talkers.items → AreOver l.over l.fn.self.talkers.items

abbrev pub decreases-loop-over : goal.decreases-loop-over
decreases-loop-over l = length l.fn.self.talkers.items - l.over
