-- Which session of the definitions a value is.
use Rattle.std.specs.Prelude.{◌≡◌, ℕ, ◌+◌, ◌<◌, ◌≤◌, Bool, true, false, List, [], ◌∷◌, ◌++◌, length, ⊤, Some, None, MatchBool}
use Rattle.mail_model.specs.Plan.{Plan}
use Rattle.mail_model.specs.Smtp.{greeting_text}
use Rattle.mail_model.specs.Told.{Mail}
use Rattle.mail_model.specs.Session as model
use Rattle.mail_model.specs.Tape.Protocol.{Smtp}
use Rattle.mail_model.specs.PopReplies.{one_line}
use Rattle.session_model.specs.Calls as calls
use Rattle.session_model.specs.Calls.{IsReply}
use Rattle.session_model.specs.Calls.Call.{Deliver}
use Rattle.session_model.specs.Talk.{Exchange, entered_as}
use Rattle.session_model.specs.Talk.TalkState.{Mailing}
use Rattle.session_model.specs.Talk.Standing.{Hearing, Waiting}
use Rattle.session_model.specs.Sessions.{Session}
use Rattle.call_tickets.specs.Moves.{Due, Moves, HasEnded}
use Rattle.call_tickets.specs.Moves.Due.{Nothing, Greeting, Reply}
use Rattle.call_tickets.specs.declared.step.Move.{Move}
use Rattle.dot_text.specs.Shown.{Shown, Pending}
use Rattle.dot_text.specs.Places.{Undots}
use Rattle.dot_text.specs.declared.undotter.Undotter.{Undotter}
use Rattle.smtp_session.specs.declared.session.SmtpSession.{SmtpSession}
use Rattle.smtp_session.specs.declared.session.Turn.{Turn}
use Rattle.smtp_session.specs.declared.session.Turn.TheVariants.{Greets, Hears, Waits, Replies, Ended}
use Rattle.call_tickets.specs.Moves.{IsBusy}
use Rattle.call_tickets.specs.declared.step.Move.TheVariants.{Said, Begin, Idle}
use Rattle.call_tickets.specs.declared.call.Call.TheVariants as tickets
use Rattle.mail_base.specs.Delivers.{mail_in}
use Rattle.mail_model.specs.Lines.{sent_line}
use Rattle.mail_model.specs.Told.{mail_of}
use Rattle.mail_model.specs.Session.{is_large, after_unit}
use Rattle.mail_model.specs.Session.Unit.{Text}
use Rattle.smtp_session.specs.declared.reply.Reply as reply
use Rattle.smtp_session.specs.declared.reply.Reply.TheVariants as replies
use Rattle.smtp_session.specs.declared.told.Heard.{Heard}
use Rattle.smtp_session.specs.declared.told.Heard.TheVariants.{GoesOn, Ends}
use Rattle.smtp_session.specs.Replies.{text_of}
use Rattle.smtp_session.specs.Talks.{talk_of}
use Rattle.smtp_session.specs.Texts.{IsGivenText}

-- These octets were fed, and no unit has taken them: those of a text that were read, which are none outside one, and those that the cutter has, of which it
-- may have let some go.
pub record ReadsFed (in_text : Bool) (cutter : Shown) (undotter : Undotter) (text : List ℕ × Bool) (rest : List ℕ) : Type 0 where
  pub taken : List ℕ
  pub given : List ℕ
  pub pending : List ℕ
  pub whole : rest ≡ taken ++ pending
  pub pends : Pending cutter pending
  pub undots : Undots undotter taken given
  pub text_is : IsGivenText text given
  pub short : length text.0 ≤ 16777216
  pub limit : cutter.limit ≡ 1024
  pub inside : in_text ≡ true → cutter.past ≡ false
  pub outside : in_text ≡ false → (taken ≡ []) × (given ≡ [])

-- it waits until a message is stored
pub record WaitsFor (talk : model.Told) (plain : Session) : Type 0 where
  pub mail : Mail
  pub standing : plain.standing ≡ Waiting (Mailing talk) (Deliver mail)
  pub before : List Exchange
  pub one : Exchange
  pub whole : plain.whole ≡ before ++ one ∷ []
  pub asks : one.call ≡ Some (Deliver mail)

-- how the session stands, and what it has to say, by whose turn it is
abbrev pub Stands : Turn → ℕ → model.Told → Session → Due → Type 0
Stands Greets node talk plain due = (due ≡ Greeting) × (plain.standing ≡ Hearing (Mailing talk))
Stands Hears node talk plain due = (due ≡ Nothing) × (plain.standing ≡ Hearing (Mailing talk))
Stands Waits node talk plain due = (due ≡ Nothing) × WaitsFor talk plain
Stands (Replies reply) node talk plain due =
    (answer : calls.Answer) × (waits : WaitsFor talk plain) × (due ≡ Reply answer) × IsReply (Deliver waits.mail) answer (one_line (text_of reply node))
Stands Ended node talk plain due = (due ≡ Nothing) × HasEnded plain.standing

-- The value is this session, and has this to say before it hears on.
pub record Follows (session : SmtpSession) (plain : Session) (due : Due) : Type 0 where
  pub speaks : plain.protocol ≡ Smtp
  pub node : plain.node ≡ session.node
  pub others : plain.others ≡ []
  pub nobody : entered_as plain.whole ≡ None
  pub reads : ReadsFed session.told.in_text session.cutter session.undotter session.text plain.rest
  pub stands : Stands session.turn session.node (talk_of session.told) plain due

-- what a move does, whichever session of the definitions the value is
abbrev pub Goes : Plan → SmtpSession → Move → List ℕ → SmtpSession → Type 0
Goes plan old move octets new = (plain : Session) (due : Due) → Follows old plain due → Moves (Follows new) (greeting_text old.node) plan plain due move octets

-- how much it has to say before it hears on
abbrev pub due_count : Turn → ℕ
due_count Greets = 1
due_count Hears = 0
due_count Waits = 0
due_count (Replies reply) = 1
due_count Ended = 0

-- how much is left to be done: octets that were not looked at further, and what is to be said
abbrev pub left : SmtpSession → ℕ
left session = length session.cutter.rest + due_count session.turn

-- how many octets of its client it holds
abbrev pub held : SmtpSession → ℕ
held session = length session.cutter.rest + length session.text.0

-- Of a command line that is not whole it holds less than 1,024 octets, and of a text no more than 16,777,216.
abbrev pub IsBounded : SmtpSession → Type 0
IsBounded session = MatchBool session.told.in_text (held session ≤ 16777216) (held session < 1024)

-- it asks nothing but a Deliver, which has at most 100 mailboxes
abbrev pub IsOwnMove : Move → Type 0
IsOwnMove (Begin (tickets.Deliver deliver)) = length deliver.users ≤ 100
IsOwnMove (Begin call) = ⊥
IsOwnMove move = ⊤

-- What a move did, with the octets that it said: what the definitions say; after one that another may follow at once less is left, and after none more; and a session that
-- is idle holds no more than the limits of what its client sends.
pub record Moved (plan : Plan) (old : SmtpSession) (move : Move) (octets : List ℕ) (new : SmtpSession) : Type 0 where
  pub goes : Goes plan old move octets new
  pub less : IsBusy move → left new < left old
  pub no_more : left new + due_count old.turn ≤ left old
  pub bounded : (plain : Session) (due : Due) → Follows old plain due → move ≡ Idle → IsBounded new
  pub own : IsOwnMove move

-- the reply is what is to be said now
abbrev pub IsDue : Turn → reply.Reply → Type 0
IsDue Greets reply = reply ≡ replies.Ready
IsDue Hears reply = ⊥
IsDue Waits reply = ⊥
IsDue (Replies due) reply = reply ≡ due
IsDue Ended reply = ⊥

-- whose turn it is once a line was heard
abbrev pub Turns : Heard → Turn → Type 0
Turns (GoesOn reply) turn = turn ≡ Hears
Turns (Ends reply) turn = turn ≡ Ended

-- The period came after these lines: the text was too large, and that was said; or the message is to be stored.
abbrev pub EndsText : Plan → ℕ → model.Told → List (List ℕ) → Move → List ℕ → model.Told → Turn → Turn → Type 0
EndsText plan node talk lines Said octets new was turn =
    (is_large lines ≡ true) × (octets ≡ sent_line (text_of replies.TooLarge node)) × (new ≡ after_unit plan talk (Text lines) []) × (turn ≡ was)
EndsText plan node talk lines (Begin (tickets.Deliver deliver)) octets new was turn =
    (is_large lines ≡ false) × (octets ≡ []) × (mail_in deliver ≡ mail_of talk lines) × (length deliver.users ≤ 100) × (new ≡ after_unit plan talk (Text lines) []) × (turn ≡ Waits)
EndsText plan node talk lines move octets new was turn = ⊥
