use Rattle.std.proofs.Common.{List, [], ◌∷◌, Option, sym, subst}
use Rattle.drive_tape.specs.Talks.{Converse}
use Rattle.drive_tape.specs.declared.talker.Talker.{Talker}
use Rattle.drive_tape.proofs.Talks.{converse_more}
use Rattle.drive_tape.proofs.sessions.Sessions.open.Goals as goal
use Rattle.std.proofs.Common.{◌++◌}
use Rattle.session_model.specs.Acts.{opened_session}
use Rattle.tape_lines.specs.Orders.{protocol_seen}

pub returns-clause-talks : goal.returns-clause-talks
returns-clause-talks c sessions all =
    subst (λ (l : List (Option Talker)). Converse l (sessions ++ opened_session (protocol_seen c.args.protocol) c.args.node ∷ [])) (sym c.in_ok-push.ensures.items)
    (converse_more _ _ _ _ all c.in_ok-talker.ensures.opened)
