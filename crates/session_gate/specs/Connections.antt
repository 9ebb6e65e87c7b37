-- How far a session over a connection has come, and what was written of what it said.
use Rattle.std.specs.Prelude.{◌≡◌, ◌≢◌, ◌⊎◌, ℕ, List, [], ◌++◌, length, flat_map, ⊤, Option, Some, None, Result, Ok, Err}
use Rattle.std.specs.Io.KnownBytes.{Appends, Consumes, IsAtEnd}
use Rattle.io_edge.specs.Causes.{Rose}
use Rattle.mail_model.specs.Lines.{sent_line}
use Rattle.mail_model.specs.Plan.{Plan}
use Rattle.mail_model.specs.Tape.{Protocol}
use Rattle.mail_model.specs.Tape.Protocol.{Smtp, Pop}
use Rattle.mail_model.specs.Smtp.{greeting_text}
use Rattle.mail_model.specs.PopReplies.{ready_text}
use Rattle.session_model.specs.Talk.{Exchange, Standing, IsTalk, replies, farewell, entered_as}
use Rattle.session_model.specs.Talk.Standing.{Hearing, Waiting, EndedByQuit, EndedDown, EndedClosed}
use Rattle.session_model.specs.Sessions.{Session}
use Rattle.call_tickets.specs.Moves.{Due, HasEnded, HearsNothing}
use Rattle.call_tickets.specs.Moves.Due.{Nothing}
use Rattle.call_tickets.specs.Passes.{PassKnows, IsQuiet}
use Rattle.call_tickets.specs.Begins.{HasLeft}
use Rattle.session_gate.specs.Deals.{Deals}
use Rattle.session_gate.specs.InTime.{WritesInTime}
use Rattle.session_gate.specs.declared.stop.Stop.{Stop}
use Rattle.session_gate.specs.declared.stop.Stop.TheVariants as stops
use Rattle.session_gate.specs.declared.stop.Close.{Close}
use Rattle.session_gate.specs.declared.stop.Close.TheVariants as closes
use Rattle.session_gate.specs.declared.stop.Served.{Served}
use Rattle.session_gate.specs.declared.stop.Served.TheVariants as served
use Rattle.session_gate.specs.declared.talk.Next.{Next}
use Rattle.session_gate.specs.declared.talk.Next.TheVariants as next

-- Which connection it is: of this protocol at this node, with this greeting, and what its pass knew as it began.
pub record Connection : Type 0 where
  pub plan : Plan
  pub protocol : Protocol
  pub node : ℕ
  pub greeting : List ℕ
  pub start : PassKnows

-- A session was fed these octets, has said these, and its calls were answered as the pass knows.
pub record HasSaid (line : Connection) (speaks : Session → Type 0) (fed said : List ℕ) (now : PassKnows) : Type 0 where
  pub plain : Session
  pub follows : speaks plain
  pub protocol : plain.protocol ≡ line.protocol
  pub node : plain.node ≡ line.node
  pub fed_is : plain.octets ≡ fed
  pub others : plain.others ≡ []
  pub talk : IsTalk line.plan plain.node plain.protocol plain.octets plain.whole plain.standing plain.rest
  pub lines : List (List ℕ)
  pub are : lines ≡ replies plain.whole ++ farewell plain.protocol plain.node plain.standing
  pub says : said ≡ sent_line line.greeting ++ flat_map sent_line lines
  pub deals : Deals line.start plain.whole now
  pub down : plain.standing ≡ EndedDown → Rose line.start.counts.down now.counts.down

-- Of what it said the first octets were written, in time, and the others were not.
pub record HasCome (line : Connection) (speaks : Session → Type 0) (fed wrote out : List ℕ) (now : PassKnows) : Type 0 where
  pub at : HasSaid line speaks fed (wrote ++ out) now
  pub in_time : WritesInTime line.greeting wrote at.plain.whole

-- it waits for no answer, and its node has not gone down
abbrev pub IsSettled : Standing → Type 0
IsSettled (Hearing state) = ⊤
IsSettled (Waiting state call) = ⊥
IsSettled EndedByQuit = ⊤
IsSettled EndedDown = ⊥
IsSettled EndedClosed = ⊤

-- the value is this session, which has nothing to say and waits for nothing
abbrev pub Talks : (Session → Due → Type 0) → Session → Type 0
Talks follows plain = follows plain Nothing × IsSettled plain.standing

-- and it has ended, or hears no unit in what it was fed
abbrev pub Rests : (Session → Due → Type 0) → Session → Type 0
Rests follows plain = Talks follows plain × (HasEnded plain.standing ⊎ HearsNothing plain.standing plain.rest)

-- the value is this session, whose node has not gone down
abbrev pub IsUp : (Session → Due → Type 0) → Session → Type 0
IsUp follows plain = follows plain Nothing × (plain.standing ≢ EndedDown)

-- or has
abbrev pub HasFallen : (Session → Due → Type 0) → Session → Type 0
HasFallen follows plain = follows plain Nothing × (plain.standing ≡ EndedDown)

abbrev pub Anyhow : Session → Type 0
Anyhow plain = ⊤

-- These octets more were written, and the rest is to be written yet.
pub record GoesOn (line : Connection) (speaks : Session → Type 0) (fed wrote : List ℕ) (held0 held1 : Option (List ℕ)) (out : List ℕ) (now : PassKnows) : Type 0 where
  pub more : List ℕ
  pub appends : Appends held0 held1 more
  pub come : HasCome line speaks fed (wrote ++ more) out now

-- It was left off: what was written is a prefix of what was said.
pub record BreaksOff (line : Connection) (speaks : Session → Type 0) (fed wrote : List ℕ) (held0 held1 : Option (List ℕ)) (now : PassKnows) : Type 0 where
  pub more : List ℕ
  pub missing : List ℕ
  pub appends : Appends held0 held1 more
  pub come : HasCome line speaks fed (wrote ++ more) missing now

-- what is known of a session that is left off
abbrev pub LeftWith : Stop → (Session → Due → Type 0) → Session → Type 0
LeftWith stops.WriteFault follows = IsUp follows
LeftWith stops.NoMemory follows = Anyhow

-- what a move did
abbrev pub MovesOn : Connection → (Session → Due → Type 0) → List ℕ → List ℕ → Option (List ℕ) → Option (List ℕ) → List ℕ → PassKnows → Result Next Stop → Type 0
MovesOn line follows fed wrote held0 held1 out now (Ok next.Said) = GoesOn line (Talks follows) fed wrote held0 held1 out now
MovesOn line follows fed wrote held0 held1 out now (Ok next.Answered) = GoesOn line (Talks follows) fed wrote held0 held1 out now
MovesOn line follows fed wrote held0 held1 out now (Ok next.Rests) = GoesOn line (Rests follows) fed wrote held0 held1 out now
MovesOn line follows fed wrote held0 held1 out now (Ok next.Fell) = GoesOn line (HasFallen follows) fed wrote held0 held1 out now
MovesOn line follows fed wrote held0 held1 out now (Err why) = BreaksOff line (LeftWith why follows) fed wrote held0 held1 now

-- what is known of the session of a connection that is over
abbrev pub ClosedWith : Close → (Session → Due → Type 0) → Session → Type 0
ClosedWith closes.Fell follows = HasFallen follows
ClosedWith closes.FellUnwritten follows = HasFallen follows
ClosedWith closes.Ended follows = IsUp follows
ClosedWith closes.ReadFault follows = IsUp follows
ClosedWith closes.WriteFault follows = IsUp follows
ClosedWith closes.TooLong follows = IsUp follows
ClosedWith closes.NoMemory follows = Anyhow

abbrev pub ServedAs : Close → Served → Type 0
ServedAs closes.Fell result = result ≡ served.Ended
ServedAs closes.FellUnwritten result = result ≡ served.WriteFault
ServedAs closes.Ended result = result ≡ served.Ended
ServedAs closes.ReadFault result = result ≡ served.ReadFault
ServedAs closes.WriteFault result = result ≡ served.WriteFault
ServedAs closes.TooLong result = result ≡ served.TooLong
ServedAs closes.NoMemory result = result ≡ served.NoMemory

abbrev pub LeftOffAs : Stop → Close → Type 0
LeftOffAs stops.WriteFault close = close ≡ closes.WriteFault
LeftOffAs stops.NoMemory close = close ≡ closes.NoMemory

-- how the session is left off where it does not rest: its node went down, or it could not go on
abbrev pub HearsTo : Close → List ℕ → Type 0
HearsTo closes.Fell missing = missing ≡ []
HearsTo closes.FellUnwritten missing = ⊤
HearsTo closes.Ended missing = ⊥
HearsTo closes.ReadFault missing = ⊥
HearsTo closes.WriteFault missing = ⊤
HearsTo closes.TooLong missing = ⊥
HearsTo closes.NoMemory missing = ⊤

-- it was left off so
pub record HeardTo (close : Close) (line : Connection) (follows : Session → Due → Type 0) (fed wrote : List ℕ) (held0 held1 : Option (List ℕ)) (now : PassKnows) : Type 0 where
  pub off : BreaksOff line (ClosedWith close follows) fed wrote held0 held1 now
  pub ends : HearsTo close off.missing

-- all its moves were made, and all was written; or it was left off
abbrev pub HearsOut : Connection → (Session → Due → Type 0) → List ℕ → List ℕ → Option (List ℕ) → Option (List ℕ) → List ℕ → PassKnows → Option Close → Type 0
HearsOut line follows fed wrote held0 held1 out now None = (out ≡ []) × GoesOn line (Rests follows) fed wrote held0 held1 [] now
HearsOut line follows fed wrote held0 held1 out now (Some close) = HeardTo close line follows fed wrote held0 held1 now

-- the most octets that a connection may send
abbrev pub most_octets : ℕ
most_octets = 1099511627776

-- How a connection ended: which octets no session was fed, what of its lines is missing, and why it went no further.
abbrev pub EndsAs : Served → Session → List ℕ → List ℕ → List ℕ → Option (List ℕ) → Type 0
EndsAs served.Ended plain fed unfed missing left = (unfed ≡ []) × (missing ≡ []) × (HasEnded plain.standing ⊎ (IsAtEnd left × HearsNothing plain.standing plain.rest))
EndsAs served.ReadFault plain fed unfed missing left = (unfed ≡ []) × (missing ≡ [])
EndsAs served.WriteFault plain fed unfed missing left = unfed ≡ []
EndsAs served.TooLong plain fed unfed missing left = (unfed ≡ []) × (missing ≡ []) × (length fed ≡ most_octets)
EndsAs served.NoMemory plain fed unfed missing left = ⊤

-- A connection: the octets that were taken, of which a session was fed all but where memory ran out; what it said to them by the answers of the desk; and what
-- of that was written.
pub record IsServed (line : Connection) (speaks : Session → Type 0) (result : Served) (left0 left1 held0 held1 : Option (List ℕ)) (now : PassKnows) : Type 0 where
  pub fed : List ℕ
  pub unfed : List ℕ
  pub takes : Consumes left0 left1 (fed ++ unfed)
  pub wrote : List ℕ
  pub missing : List ℕ
  pub appends : Appends held0 held1 wrote
  pub come : HasCome line speaks fed wrote missing now
  pub ends : EndsAs result come.at.plain fed unfed missing left1

-- how a connection was closed, by how it was served
abbrev pub ClosesSo : Close → Connection → (Session → Due → Type 0) → Option (List ℕ) → Option (List ℕ) → Option (List ℕ) → Option (List ℕ) → PassKnows → Type 0
ClosesSo close line follows left0 left1 held0 held1 now = (result : Served) × ServedAs close result × IsServed line (ClosedWith close follows) result left0 left1 held0 held1 now

-- no session begins at a node that is not up
pub record IsRefused (result : Served) (left0 left1 held0 held1 : Option (List ℕ)) (old now : PassKnows) : Type 0 where
  pub is : result ≡ served.Ended
  pub left : left1 ≡ left0
  pub held : held1 ≡ held0
  pub quiet : IsQuiet old now
  pub down : Rose old.counts.down now.counts.down

-- nothing was said, since memory ran out
pub record IsSilent (result : Served) (left0 left1 held0 held1 : Option (List ℕ)) (old now : PassKnows) : Type 0 where
  pub is : result ≡ served.NoMemory
  pub left : left1 ≡ left0
  pub held : held1 ≡ held0
  pub quiet : IsQuiet old now

-- the connection of one that sends mail
abbrev pub smtp_connection : Plan → ℕ → PassKnows → Connection
smtp_connection plan node start = record { plan = plan; protocol = Smtp; node = node; greeting = greeting_text node; start = start }

-- and of one that reads it
abbrev pub pop_connection : Plan → (node boot number seconds : ℕ) → PassKnows → Connection
pop_connection plan node boot number seconds start = record { plan = plan; protocol = Pop; node = node; greeting = ready_text node boot number seconds; start = start }

-- what serving an SMTP connection came to
abbrev pub ServesSmtp : Plan → ℕ → Served → Option (List ℕ) → Option (List ℕ) → Option (List ℕ) → Option (List ℕ) → PassKnows → PassKnows → Type 0
ServesSmtp plan node result left0 left1 held0 held1 old now =
    IsRefused result left0 left1 held0 held1 old now ⊎ IsSilent result left0 left1 held0 held1 old now
    ⊎ (start : PassKnows) × IsQuiet old start × IsServed (smtp_connection plan node start) Anyhow result left0 left1 held0 held1 now

-- The Leave of a session that was let in: it is begun once at most, after the last line, and not where nobody was let in or the node went down. Where it was not
-- begun, the node was down, a number was used up, or memory ran out.
pub record LeavesOnce (exchanges : List Exchange) (standing : Standing) (result : Served) (before now : PassKnows) : Type 0 where
  pub once : HasLeft before now ⊎ IsQuiet before now
  pub nobody : entered_as exchanges ≡ None → IsQuiet before now
  pub fallen : standing ≡ EndedDown → IsQuiet before now
  pub leaves : (user : List ℕ) → entered_as exchanges ≡ Some user → standing ≢ EndedDown → result ≢ served.NoMemory
      → HasLeft before now ⊎ Rose before.counts.down now.counts.down ⊎ Rose before.counts.worn now.counts.worn

-- a Leave was begun, once; or none was, since the node was down, a number was used up, or memory ran out and that is said
abbrev pub LeavesOrSays : Served → PassKnows → PassKnows → Type 0
LeavesOrSays result before now =
    HasLeft before now ⊎ (IsQuiet before now × (Rose before.counts.down now.counts.down ⊎ Rose before.counts.worn now.counts.worn ⊎ (result ≡ served.NoMemory)))

-- What serving a POP3 connection came to. The greeting shows the boot and the seconds that the desk told.
pub record IsServedPop (plan : Plan) (node number : ℕ) (result : Served) (left0 left1 held0 held1 : Option (List ℕ)) (start now : PassKnows) : Type 0 where
  pub boot : ℕ
  pub seconds : ℕ
  pub last : PassKnows
  pub serves : IsServed (pop_connection plan node boot number seconds start) Anyhow result left0 left1 held0 held1 last
  pub leaves : LeavesOnce serves.come.at.plain.whole serves.come.at.plain.standing result last now

abbrev pub ServesPop : Plan → ℕ → ℕ → Served → Option (List ℕ) → Option (List ℕ) → Option (List ℕ) → Option (List ℕ) → PassKnows → PassKnows → Type 0
ServesPop plan node number result left0 left1 held0 held1 old now =
    IsRefused result left0 left1 held0 held1 old now ⊎ IsSilent result left0 left1 held0 held1 old now
    ⊎ (start : PassKnows) × IsQuiet old start × IsServedPop plan node number result left0 left1 held0 held1 start now
