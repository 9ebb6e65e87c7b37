use Rattle.drive_tape.proofs.Fed.{refused, since_shows, no_session}
use Rattle.drive_tape.specs.declared.drove.TapeFault.TheVariants.{NoSuchSession}
use Rattle.drive_tape.proofs.lines.feed_line.Goals as goal

pub returns-in_default-clause-did : goal.returns-in_default-clause-did
returns-in_default-clause-did g c start p line spelled shows held =
    refused _ start _ p line _ c.args.cluster.now.world held (since_shows _ start _ c.args.cluster.now p shows) shows.causes shows.lives _ NoSuchSession spelled
    (no_session p c.args.session (c.in_default.ensures.found p.sessions shows.talks))
