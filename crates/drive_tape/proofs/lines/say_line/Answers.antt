use Rattle.std.proofs.lemmas.Result.{err_from_is_err_and}
use Rattle.drive_tape.proofs.Fed.{refused, not_begun, since_shows, no_session}
use Rattle.drive_tape.specs.declared.drove.TapeFault.TheVariants.{NoSuchSession}
use Rattle.drive_tape.proofs.lines.say_line.Goals as goal

pub returns-in_default-clause-did : goal.returns-in_default-clause-did
returns-in_default-clause-did g c start p line spelled shows held =
    refused _ start _ p line _ c.args.cluster.now.world held (since_shows _ start _ c.args.cluster.now p shows) shows.causes shows.lives _ NoSuchSession spelled
    (no_session p c.args.session (c.in_default.ensures.found p.sessions shows.talks))

pub returns-in_err-extend_from_slice-clause-did : goal.returns-in_err-extend_from_slice-clause-did
returns-in_err-extend_from_slice-clause-did g c start p line spelled shows held =
    let e = err_from_is_err_and c.from_residual.result c.from_residual.ensures.1 in
    rw (e.1, e.2) (not_begun _ start _ p line _ c.args.cluster.now.world held (since_shows _ start _ c.args.cluster.now p shows) shows.causes shows.lives)

pub returns-in_err-extend_from_slice-2-clause-did : goal.returns-in_err-extend_from_slice-2-clause-did
returns-in_err-extend_from_slice-2-clause-did g c start p line spelled shows held =
    let e = err_from_is_err_and c.from_residual-in_err-extend_from_slice-2.result c.from_residual-in_err-extend_from_slice-2.ensures.1 in
    rw (e.1, e.2) (not_begun _ start _ p line _ c.args.cluster.now.world held (since_shows _ start _ c.args.cluster.now p shows) shows.causes shows.lives)
