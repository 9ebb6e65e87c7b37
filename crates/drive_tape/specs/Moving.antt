-- What the moves of one session make of all sessions.
use Rattle.std.specs.Prelude.{◌≡◌, ◌+◌, ◌-◌, ◌<◌, ℕ, Bool, true, false, List, [], ◌∷◌, flat_map, length, All, slice_get, slice_set, Option, Some, None}
use Rattle.mail_model.specs.Lines.{HasNoCrlf, sent_line}
use Rattle.mail_model.specs.Plan.{Plan}
use Rattle.session_model.specs.Calls as calls
use Rattle.session_model.specs.Talk.{Exchange, IsOn, down_line, entered_as}
use Rattle.session_model.specs.Sessions.{Session, exchanges_of}
use Rattle.session_model.specs.Acts.{Did}
use Rattle.session_model.specs.Acts.Deed.{Hears, IsAnswered, Falls}
use Rattle.call_tickets.specs.Seen.{call_seen}
use Rattle.call_tickets.specs.Moves.{HasEnded, IsWaiting, HearsNothing}
use Rattle.call_tickets.specs.declared.step.Move.{Move}
use Rattle.call_tickets.specs.declared.step.Move.TheVariants.{Said, Begin, Wait, Idle, End}
use Rattle.drive_tape.specs.declared.sessions.Sessions.{Sessions}
use Rattle.drive_tape.specs.declared.open_call.OpenCall.{OpenCall}
use Rattle.drive_tape.specs.declared.talker.Talker.{Talker}
use Rattle.drive_tape.specs.declared.sessions.After.{After}
use Rattle.drive_tape.specs.declared.sessions.After.TheVariants.{Stays, Ends}
use Rattle.drive_tape.specs.Leaving.{IsLeaveOf}
use Rattle.drive_tape.specs.Talks.{Converse}
use Rattle.drive_tape.specs.Speakers.{talker_left}

-- how much the session at this place has left to do
abbrev pub left_of : Option Talker → ℕ
left_of None = 0
left_of (Some talker) = talker_left talker

abbrev pub left_here : Option (Option Talker) → ℕ
left_here None = 0
left_here (Some talker) = left_of talker

abbrev pub left_at : ℕ → Sessions → ℕ
left_at place table = left_here (slice_get table.talkers.items place)

abbrev pub call_here : Option (Option OpenCall) → ℕ
call_here (Some (Some waits)) = 1
call_here other = 0

-- the same, and its call to ask for
abbrev pub work_at : ℕ → Sessions → ℕ
work_at place table = left_at place table + left_at place table + call_here (slice_get table.calls.items place)

-- The session goes on; or it has ended, with this to ask as it leaves, and one fewer stands.
abbrev pub GoesOn : After → Session → ℕ → ℕ → Type 0
GoesOn Stays after standing now = IsOn after.standing × (now ≡ standing)
GoesOn (Ends leave) after standing now = HasEnded after.standing × IsLeaveOf leave (entered_as (exchanges_of after)) × (now ≡ standing - 1)

-- whether it has ended
abbrev pub has_ended : After → Bool
has_ended Stays = false
has_ended (Ends leave) = true

-- The session at this place heard a unit that asks this: it said these octets, has ended or not, and the others are as they were.
pub record HeardAt (plan : Plan) (sessions : List Session) (place : ℕ) (plain : Session) (call : Option calls.Call) (ended : After) (octets : List ℕ) (standing : ℕ) (table : Sessions) : Type 0 where
  pub one : Exchange
  pub after : Session
  pub did : Did plan plain (Hears one) one.reply after
  pub asks : one.call ≡ call
  pub says : octets ≡ flat_map sent_line one.reply
  pub lines : All HasNoCrlf one.reply
  pub talks : Converse table.talkers.items (slice_set sessions place after)
  pub goes_on : GoesOn ended after standing table.standing

-- nothing has changed
pub record StaysAt (sessions : List Session) (octets : List ℕ) (standing : ℕ) (table : Sessions) : Type 0 where
  pub says : octets ≡ []
  pub talks : Converse table.talkers.items sessions
  pub count : table.standing ≡ standing

-- what a move did
abbrev pub MovesTo : Plan → List Session → ℕ → Session → Move → After → List ℕ → ℕ → Sessions → Type 0
MovesTo plan sessions place plain Said ended octets standing table = HeardAt plan sessions place plain None ended octets standing table
MovesTo plan sessions place plain (Begin call) ended octets standing table =
    (asked : calls.Call) × (call_seen call ≡ Some asked) × HeardAt plan sessions place plain (Some asked) Stays octets standing table
MovesTo plan sessions place plain Wait ended octets standing table = IsWaiting plain.standing × StaysAt sessions octets standing table
MovesTo plan sessions place plain Idle ended octets standing table = HearsNothing plain.standing plain.rest × StaysAt sessions octets standing table
MovesTo plan sessions place plain End ended octets standing table = HasEnded plain.standing × StaysAt sessions octets standing table

-- The session at this place was answered: it said these octets, has ended or not, and the others are as they were.
pub record RepliesTo (plan : Plan) (sessions : List Session) (place : ℕ) (plain : Session) (answer : calls.Answer) (ended : After) (octets : List ℕ) (standing : ℕ) (table : Sessions) : Type 0 where
  pub call : calls.Call
  pub reply : List (List ℕ)
  pub after : Session
  pub did : Did plan plain (IsAnswered call answer reply) reply after
  pub says : octets ≡ flat_map sent_line reply
  pub lines : All HasNoCrlf reply
  pub talks : Converse table.talkers.items (slice_set sessions place after)
  pub goes_on : GoesOn ended after standing table.standing

-- The session at this place fell: it said its last line.
pub record FellAt (sessions : List Session) (place : ℕ) (plain : Session) (octets : List ℕ) (standing : ℕ) (table : Sessions) : Type 0 where
  pub on : IsOn plain.standing
  pub after : Session
  pub did : (plan : Plan) → Did plan plain Falls (down_line plain.protocol plain.node ∷ []) after
  pub says : octets ≡ sent_line (down_line plain.protocol plain.node)
  pub line : HasNoCrlf (down_line plain.protocol plain.node)
  pub talks : Converse table.talkers.items (slice_set sessions place after)
  pub count : table.standing ≡ standing - 1

-- it fell, or had ended
abbrev pub FallsTo : List Session → ℕ → Session → Bool → List ℕ → ℕ → Sessions → Type 0
FallsTo sessions place plain true octets standing table = FellAt sessions place plain octets standing table
FallsTo sessions place plain false octets standing table = HasEnded plain.standing × StaysAt sessions octets standing table

-- the sessions before this place have ended
abbrev pub AreOver : {T : Type 0} → ℕ → List (Option T) → Type 0
AreOver over talkers = (i : ℕ) → i < over → slice_get talkers i ≡ Some None

-- a node and a place for a call for each session, and those that are passed over have ended
pub record AreEven (table : Sessions) : Type 0 where
  pub calls : length table.calls.items ≡ length table.talkers.items
  pub nodes : length table.nodes.items ≡ length table.talkers.items
  pub over : AreOver table.over table.talkers.items
