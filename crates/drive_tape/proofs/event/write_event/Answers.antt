use Rattle.std.proofs.lemmas.Result.{err_from_is_err_and}
use Rattle.drive_tape.proofs.Happenings.{stops_none}
use Rattle.drive_tape.proofs.event.write_event.Goals as goal

pub returns-in_err-text-clause-written : goal.returns-in_err-text-clause-written
returns-in_err-text-clause-written g c =
    let e = err_from_is_err_and c.from_residual.result c.from_residual.ensures.1 in
    rw (e.1, e.2) (stops_none _ _)
