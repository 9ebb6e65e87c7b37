-- One session: the units that it was fed, what it asked of its node, what it was answered, and what it replied. It knows no disk.
use Rattle.std.specs.Prelude.{◌≡◌, ℕ, Bool, false, List, [], ◌∷◌, ◌++◌, flat_map, ⊤, Option, Some, None, if◌then◌else◌}
use Rattle.mail_model.specs.Plan.{Plan}
use Rattle.mail_model.specs.Tape.{Protocol, or_else}
use Rattle.mail_model.specs.Tape.Protocol.{Smtp, Pop}
use Rattle.mail_model.specs.Smtp as smtp
use Rattle.mail_model.specs.PopReplies as pop
use Rattle.mail_model.specs.PopReplies.{ListingSlot, one_line, listed_slots}
use Rattle.mail_model.specs.Session.{Unit, Told, silent, reply_text, reply_lines, after_unit, is_quit_line, is_large}
use Rattle.mail_model.specs.Session.Unit.{Line, Text}
use Rattle.mail_model.specs.Maildrop.{LineOutcome, line_outcome, named_in, deleted_in}
use Rattle.mail_model.specs.Maildrop.Stage.{Authorization, Transaction}
use Rattle.mail_model.specs.Maildrop.LineOutcome.{Answered, Closed, AsksLogin, AsksMessage, AsksDeletion}
use Rattle.mail_model.specs.Told.{IsUnit, HasNoUnit, unit_octets, mail_of}
use Rattle.session_model.specs.Calls.{Call, Answer, RepliesTo}
use Rattle.session_model.specs.Calls.Call.{Deliver, Login, Fetch, Strike}
use Rattle.session_model.specs.Calls.Answer.{Listed}

-- What a session was told that hears its next unit: one that takes mail; one that reads mail, before its login; and after it, with its user and its listing.
pub data TalkState : Type 0 where
  Mailing : (talk : Told) → TalkState
  Entering : (named : Option (List ℕ)) → TalkState
  Reading : (user : List ℕ) (slots : List ListingSlot) → TalkState

-- a session that was told nothing yet
abbrev pub opening_state : Protocol → TalkState
opening_state Smtp = Mailing silent
opening_state Pop = Entering None

-- a text comes next
abbrev pub in_text : TalkState → Bool
in_text (Mailing talk) = talk.in_text
in_text (Entering named) = false
in_text (Reading user slots) = false

-- what a unit leads to: a reply, a reply that ends the session, or a call whose answer the reply waits for
pub data Lead : Type 0 where
  Says : (reply : List (List ℕ)) → Lead
  Ends : (reply : List (List ℕ)) → Lead
  Asks : (call : Call) → Lead

-- in a session that takes mail
abbrev pub mail_lead : Plan → ℕ → Told → Unit → Lead
mail_lead plan node talk (Line line) =
    if is_quit_line line then Ends (reply_lines plan node talk line) else Says (reply_lines plan node talk line)
mail_lead plan node talk (Text lines) = if is_large lines then Says (one_line (reply_text plan node talk (Text lines))) else Asks (Deliver (mail_of talk lines))

-- in one that reads mail as this user
abbrev pub line_lead : List ℕ → LineOutcome → Lead
line_lead user (Answered reply) = Says reply
line_lead user (Closed reply) = Ends reply
line_lead user (AsksLogin name given) = Asks (Login name given)
line_lead user (AsksMessage number id) = Asks (Fetch user id)
line_lead user (AsksDeletion ids) = Asks (Strike user ids)

-- what the next unit leads to; one that reads mail hears lines alone
abbrev pub lead_of : Plan → ℕ → TalkState → Unit → Lead
lead_of plan node (Mailing talk) unit = mail_lead plan node talk unit
lead_of plan node (Entering named) (Line line) = line_lead [] (line_outcome plan (Authorization named) line)
lead_of plan node (Reading user slots) (Line line) = line_lead user (line_outcome plan (Transaction slots) line)
lead_of plan node (Entering named) (Text lines) = Says []
lead_of plan node (Reading user slots) (Text lines) = Says []

-- A unit with what the session asked for it, the answer, and the lines that it replied; none of these yet where it waits.
pub record Exchange : Type 0 where
  pub unit : Unit
  pub call : Option Call
  pub answer : Option Answer
  pub reply : List (List ℕ)

-- the reply comes with the answer
abbrev pub Awaits : Unit → Call → Option Answer → List (List ℕ) → Type 0
Awaits unit call None reply = reply ≡ []
Awaits unit call (Some answer) reply = RepliesTo unit call answer reply

-- the exchange is as its unit leads to
abbrev pub IsLed : Lead → Exchange → Type 0
IsLed (Says reply) one = (one.call ≡ None) × (one.answer ≡ None) × (one.reply ≡ reply)
IsLed (Ends reply) one = (one.call ≡ None) × (one.answer ≡ None) × (one.reply ≡ reply)
IsLed (Asks call) one = (one.call ≡ Some call) × Awaits one.unit call one.answer one.reply

-- How a session stands: it hears its next unit; it waits for the answer to a call, with what it was told before; or it has ended, by QUIT, as its node went
-- down, or since its client closed it.
pub data Standing : Type 0 where
  Hearing : (state : TalkState) → Standing
  Waiting : (state : TalkState) (call : Call) → Standing
  EndedByQuit : Standing
  EndedDown : Standing
  EndedClosed : Standing

-- the last line of a reply
abbrev pub closing_line : List (List ℕ) → List ℕ
closing_line [] = []
closing_line (line ∷ []) = line
closing_line (line ∷ other ∷ lines) = closing_line (other ∷ lines)

-- what a session was told once the unit was heard
abbrev pub heard : Plan → TalkState → Unit → List (List ℕ) → TalkState
heard plan (Mailing talk) unit reply = Mailing (after_unit plan talk unit (closing_line reply))
heard plan (Entering named) (Line line) reply = Entering (named_in line)
heard plan (Reading user slots) (Line line) reply = Reading user (deleted_in slots line)
heard plan (Entering named) (Text lines) reply = Entering named
heard plan (Reading user slots) (Text lines) reply = Reading user slots

-- how it stands once its node answered: a login begins TRANSACTION, and a deletion ends the session
abbrev pub answered : TalkState → Call → Answer → Standing
answered state (Login user given) (Listed items) = Hearing (Reading user (listed_slots items))
answered state (Strike user ids) answer = EndedByQuit
answered state call answer = Hearing state

-- and after a call
abbrev pub standing_asked : TalkState → Call → Option Answer → Standing
standing_asked state call None = Waiting state call
standing_asked state call (Some answer) = answered state call answer

-- and after an exchange
abbrev pub stands : Plan → TalkState → Exchange → Lead → Standing
stands plan state one (Says reply) = Hearing (heard plan state one.unit one.reply)
stands plan state one (Ends reply) = EndedByQuit
stands plan state one (Asks call) = standing_asked (heard plan state one.unit []) call one.answer

-- the next unit of a session that hears is answered so, and this is left
pub record IsNext (plan : Plan) (node : ℕ) (state : TalkState) (rest : List ℕ) (one : Exchange) (left : List ℕ) : Type 0 where
  pub is_unit : IsUnit (in_text state) one.unit
  pub whole : rest ≡ unit_octets one.unit ++ left
  pub led : IsLed (lead_of plan node state one.unit) one

-- how it then stands
abbrev pub stands_by : Plan → ℕ → TalkState → Exchange → Standing
stands_by plan node state one = stands plan state one (lead_of plan node state one.unit)

-- These exchanges, one after another, cut from the left of the octets; what is left is not heard yet.
abbrev pub TalkGoes : Plan → ℕ → Standing → List ℕ → List Exchange → Standing → List ℕ → Type 0
TalkGoes plan node first octets [] last rest = (last ≡ first) × (rest ≡ octets)
TalkGoes plan node (Hearing state) octets (one ∷ more) last rest =
    (left : List ℕ) × IsNext plan node state octets one left × TalkGoes plan node (stands_by plan node state one) left more last rest
TalkGoes plan node first octets (one ∷ more) last rest = ⊥

-- a session that its node or its client may end
abbrev pub IsOn : Standing → Type 0
IsOn (Hearing state) = ⊤
IsOn (Waiting state call) = ⊤
IsOn EndedByQuit = ⊥
IsOn EndedDown = ⊥
IsOn EndedClosed = ⊥

-- how a session ends from outside, in the midst of what it does
abbrev pub Breaks : Standing → Standing → Type 0
Breaks before (Hearing state) = before ≡ Hearing state
Breaks before (Waiting state call) = before ≡ Waiting state call
Breaks before EndedByQuit = before ≡ EndedByQuit
Breaks before EndedDown = IsOn before
Breaks before EndedClosed = IsOn before

-- A session at a node that was fed these octets has had these exchanges, stands so, and has these octets left.
pub record IsTalk (plan : Plan) (node : ℕ) (protocol : Protocol) (octets : List ℕ) (exchanges : List Exchange) (standing : Standing) (rest : List ℕ) : Type 0 where
  pub before : Standing
  pub goes : TalkGoes plan node (Hearing (opening_state protocol)) octets exchanges before rest
  pub ends : Breaks before standing

-- nothing that it was fed is to be answered yet
abbrev pub IsIdle : Standing → List ℕ → Type 0
IsIdle (Hearing state) rest = HasNoUnit (in_text state) rest
IsIdle (Waiting state call) rest = ⊤
IsIdle EndedByQuit rest = ⊤
IsIdle EndedDown rest = ⊤
IsIdle EndedClosed rest = ⊤

-- what a session says as its node goes down
abbrev pub down_line : Protocol → ℕ → List ℕ
down_line Smtp node = smtp.down_text node
down_line Pop node = pop.down_text node

-- the last line of a session whose node went down, which answers no unit
abbrev pub farewell : Protocol → ℕ → Standing → List (List ℕ)
farewell protocol node (Hearing state) = []
farewell protocol node (Waiting state call) = []
farewell protocol node EndedByQuit = []
farewell protocol node EndedDown = down_line protocol node ∷ []
farewell protocol node EndedClosed = []

-- all lines of the replies
abbrev pub replies : List Exchange → List (List ℕ)
replies exchanges = flat_map (λ one. one.reply) exchanges

-- the user of a login that was answered with a listing
abbrev pub let_in : Option Call → Option Answer → Option (List ℕ)
let_in (Some (Login user given)) (Some (Listed items)) = Some user
let_in call answer = None

-- the user whom a session was let in as
abbrev pub entered_as : List Exchange → Option (List ℕ)
entered_as [] = None
entered_as (one ∷ more) = or_else (let_in one.call one.answer) (entered_as more)

-- The user whose leave a session asks once it has ended and its last line was said; nobody's where its node went down.
abbrev pub leave_of : List Exchange → Standing → Option (List ℕ)
leave_of exchanges (Hearing state) = None
leave_of exchanges (Waiting state call) = None
leave_of exchanges EndedByQuit = entered_as exchanges
leave_of exchanges EndedDown = None
leave_of exchanges EndedClosed = entered_as exchanges
