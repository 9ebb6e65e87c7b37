use Rattle.drive_tape.proofs.Works.{work_none}
use Rattle.drive_tape.proofs.lines.fall_by.Goals as goal

pub returns-in-Some-clause-fell : goal.returns-in-Some-clause-fell
returns-in-Some-clause-fell g c start plan p may held = c.fall.ensures.fell start plan p 1 (rw c.in-Some.is at may) held

pub returns-in-None-clause-fell : goal.returns-in-None-clause-fell
returns-in-None-clause-fell g c start plan p may held =
    let so = rw c.in-None.is at may in
    record { q = p; work = work_none plan p; held_is = held; shows = so.1; so_is = so.0 }
