use Rattle.drive_tape.proofs.Works.{work_none}
use Rattle.drive_tape.proofs.lines.hear_on.Goals as goal

pub returns-then-goes_on-clause-heard : goal.returns-then-goes_on-clause-heard
returns-then-goes_on-clause-heard g c start p onward shows held moved = c.hear.ensures.heard start p onward shows held (rw c.if-goes_on.true at moved)

pub returns-clause-heard : goal.returns-clause-heard
returns-clause-heard g c start p onward shows held moved = record { q = p; work = work_none _ p; held_is = held; shows = shows; so_is = rw c.if-goes_on.false at moved }
