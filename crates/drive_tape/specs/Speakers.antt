-- Which session of the definitions a session of either protocol is.
use Rattle.std.specs.Prelude.{ℕ}
use Rattle.session_model.specs.Sessions.{Session}
use Rattle.call_tickets.specs.Moves.{Due}
pub use Rattle.call_tickets.specs.Moves.{Fell}
use Rattle.smtp_session.specs.Follows as mail
use Rattle.pop_session.specs.Follows as reader
use Rattle.drive_tape.specs.declared.talker.Talker.{Talker}
use Rattle.drive_tape.specs.declared.talker.Talker.TheVariants.{Smtp, Pop}

-- the session is this one, and has this to say before it hears on
abbrev pub Matches : Talker → Session → Due → Type 0
Matches (Smtp session) plain due = mail.Follows session plain due
Matches (Pop session) plain due = reader.Follows session plain due

-- how much is left for it to do
abbrev pub talker_left : Talker → ℕ
talker_left (Smtp session) = mail.left session
talker_left (Pop session) = reader.left session
