-- What the moves of a session of either protocol come to.
use Rattle.std.proofs.Common.{◌≡◌, ℕ, List, sym, subst}
use Rattle.mail_model.specs.Plan.{Plan}
use Rattle.mail_model.specs.Smtp.{greeting_text}
use Rattle.mail_model.specs.Tape.Protocol.{Smtp, Pop}
use Rattle.session_model.specs.Sessions.{Session}
use Rattle.session_model.specs.Acts.{opened_session}
use Rattle.call_tickets.specs.Moves.{Due, Moves, Greeted}
use Rattle.call_tickets.specs.Moves.Due.{Greeting}
use Rattle.call_tickets.specs.declared.step.Move.{Move}
use Rattle.call_tickets.specs.declared.step.Move.TheVariants.{Said, Begin, Wait, Idle, End}
use Rattle.smtp_session.specs.Follows as mail
use Rattle.smtp_session.specs.declared.session.SmtpSession.{SmtpSession}
use Rattle.pop_session.specs.Follows as reader
use Rattle.pop_session.specs.declared.session.PopSession.{PopSession}

-- Moves of a session whose value is this.
module _ (follows : Session → Due → Type 0) (plan : Plan) (plain : Session) where
  pub greets_only : (greeting : List ℕ) (did : Move) (octets : List ℕ) → Moves follows greeting plan plain Greeting did octets → Greeted follows greeting plain octets
  greets_only greeting Said octets is = is
  greets_only greeting (Begin call) octets is = absurd is
  greets_only greeting Wait octets is = absurd is
  greets_only greeting Idle octets is = absurd is
  greets_only greeting End octets is = absurd is

-- the greeting of one that takes mail
pub mail_greets : (plan : Plan) (node : ℕ) (session new : SmtpSession) (did : Move) (octets : List ℕ) → mail.Follows session (opened_session Smtp node) Greeting
    → mail.Moved plan session did octets new → Greeted (mail.Follows new) (greeting_text node) (opened_session Smtp node) octets
mail_greets plan node session new did octets follows moved =
    subst (λ (n : ℕ). Greeted (mail.Follows new) (greeting_text n) (opened_session Smtp node) octets) (sym follows.node)
    (greets_only (mail.Follows new) plan (opened_session Smtp node) (greeting_text session.node) did octets (moved.goes (opened_session Smtp node) Greeting follows))

-- and of one that reads mail
pub reader_greets : (plan : Plan) (node : ℕ) (greeting : List ℕ) (session new : PopSession) (did : Move) (octets : List ℕ)
    → reader.Follows session (opened_session Pop node) Greeting → reader.opening_line session ≡ greeting
    → reader.Moved plan session did octets new → Greeted (reader.Follows new) greeting (opened_session Pop node) octets
reader_greets plan node greeting session new did octets follows is moved =
    subst (λ (g : List ℕ). Greeted (reader.Follows new) g (opened_session Pop node) octets) is
    (greets_only (reader.Follows new) plan (opened_session Pop node) (reader.opening_line session) did octets (moved.goes (opened_session Pop node) Greeting follows))
