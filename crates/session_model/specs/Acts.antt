-- What is done for the lines of a tape, act by act, with what each act writes. Nothing else writes a line of a session.
use Rattle.std.specs.Prelude.{◌≡◌, ℕ, ◌+◌, ◌-◌, List, [], ◌∷◌, ◌++◌, length, flat_map, Some, None, slice_set}
use Rattle.mail_model.specs.Plan.{Plan}
use Rattle.mail_model.specs.Smtp.{greeting_text}
use Rattle.mail_model.specs.PopReplies.{ready_text}
use Rattle.mail_model.specs.Tape.{Protocol, ClusterOrder}
use Rattle.mail_model.specs.Tape.Protocol.{Smtp, Pop}
use Rattle.mail_model.specs.Transcript.{Entry}
use Rattle.mail_model.specs.Transcript.Entry.{Said}
use Rattle.mail_model.specs.Transcript.{closed_event}
use Rattle.mail_model.specs.Transcript.{said_lines}
use Rattle.mail_model.specs.Told.{sent, fed_to}
use Rattle.mail_model.specs.Stored.{opened}
use Rattle.session_model.specs.Calls.{Call, Answer, RepliesTo}
use Rattle.session_model.specs.Calls.Answer.{Failed}
use Rattle.session_model.specs.Events.{ClusterEvent, event_entries, fault_event}
use Rattle.session_model.specs.Talk.{TalkState, Exchange, Standing, IsNext, IsOn, opening_state, stands_by, answered, down_line}
use Rattle.session_model.specs.Talk.Standing.{Hearing, Waiting, EndedByQuit, EndedDown, EndedClosed}
use Rattle.session_model.specs.Moves.{with_answer}
use Rattle.session_model.specs.Sessions.{Session, session_at}

-- what one session does; its call may be answered, or given up by the tape
pub data Deed : Type 0 where
  IsFed : (octets : List ℕ) → Deed
  Hears : (one : Exchange) → Deed
  IsAnswered : (call : Call) (answer : Answer) (reply : List (List ℕ)) → Deed
  IsGivenUp : (call : Call) (reply : List (List ℕ)) → Deed
  Falls : Deed
  Closes : Deed

-- a session that waited for this call was told this answer, and replied so
abbrev pub WasAnswered : Session → Call → Answer → List (List ℕ) → List (List ℕ) → Session → Type 0
WasAnswered old call answer reply said new =
    (before : List Exchange) × (one : Exchange) × (state : TalkState) × (old.whole ≡ before ++ one ∷ []) × (old.standing ≡ Waiting state call)
    × RepliesTo one.unit call answer reply × (said ≡ reply)
    × (new ≡ record old { whole = before ++ with_answer one answer reply ∷ []; standing = answered state call answer })

-- How it then is, and the lines that it says. A call that is given up is answered as one that failed.
abbrev pub Did : Plan → Session → Deed → List (List ℕ) → Session → Type 0
Did plan old (IsFed more) said new = IsOn old.standing × (said ≡ []) × (new ≡ record old { octets = old.octets ++ more; rest = old.rest ++ more })
Did plan old (Hears one) said new =
    (state : TalkState) × (left : List ℕ) × (old.standing ≡ Hearing state) × IsNext plan old.node state old.rest one left × (said ≡ one.reply)
    × (new ≡ record old { whole = old.whole ++ one ∷ []; standing = stands_by plan old.node state one; rest = left }) × (one.answer ≡ None)
Did plan old (IsAnswered call answer reply) said new = WasAnswered old call answer reply said new
Did plan old (IsGivenUp call reply) said new = WasAnswered old call Failed reply said new
Did plan old Falls said new = IsOn old.standing × (said ≡ down_line old.protocol old.node ∷ []) × (new ≡ record old { standing = EndedDown })
Did plan old Closes said new = IsOn old.standing × (said ≡ []) × (new ≡ record old { standing = EndedClosed })

-- the greeting of a session of this number, at a node in this boot and at these seconds
abbrev pub greeting_of : Protocol → ℕ → ℕ → ℕ → ℕ → List ℕ
greeting_of Smtp node boot number seconds = greeting_text node
greeting_of Pop node boot number seconds = ready_text node boot number seconds

-- a session that was opened
abbrev pub opened_session : Protocol → ℕ → Session
opened_session protocol node =
    record { protocol = protocol; node = node; octets = []; whole = []; others = []; standing = Hearing (opening_state protocol); rest = [] }

-- that the server ended it
abbrev pub closing : ℕ → Deed → Standing → List Entry
closing k Closes standing = []
closing k deed EndedByQuit = closed_event k ∷ []
closing k deed EndedDown = closed_event k ∷ []
closing k deed standing = []

-- What is done: a session is opened and greeted; session k does something; that the disk of a node failed as a call began is noted; session k is asked and still
-- waits; session k, whose last line was written, leaves its node as this user; the cluster itself is moved, and this came of it; or the call of session k, which
-- its client closes, is given up.
pub data Act : Type 0 where
  Opens : (protocol : Protocol) (node : ℕ) (greeting : List ℕ) → Act
  Does : (k : ℕ) (deed : Deed) → Act
  Faults : (node : ℕ) → Act
  StillWaits : (k : ℕ) → Act
  Leaves : (k : ℕ) (user : List ℕ) → Act
  Makes : (order : ClusterOrder) (event : ClusterEvent) → Act
  Abandons : (k : ℕ) → Act

-- the sessions, with this one in place of session k
abbrev pub replace : List Session → ℕ → Session → List Session
replace sessions k session = slice_set sessions (k - 1) session

-- what an act writes, and how the sessions then are
abbrev pub Acted : Plan → List Session → Act → List Entry → List Session → Type 0
Acted plan old (Opens protocol node greeting) entries new =
    (entries ≡ Said (length old + 1) greeting ∷ []) × (new ≡ old ++ opened_session protocol node ∷ [])
Acted plan old (Does k deed) entries new =
    (before : Session) × (behind : Session) × (said : List (List ℕ)) × (session_at old k ≡ Some before) × Did plan before deed said behind
    × (entries ≡ said_lines k said ++ closing k deed behind.standing) × (new ≡ replace old k behind)
Acted plan old (Faults node) entries new = (entries ≡ fault_event node ∷ []) × (new ≡ old)
Acted plan old (StillWaits k) entries new = (entries ≡ []) × (new ≡ old)
Acted plan old (Leaves k user) entries new = (entries ≡ []) × (new ≡ old)
Acted plan old (Makes order event) entries new = (entries ≡ event_entries event) × (new ≡ old)
Acted plan old (Abandons k) entries new = (entries ≡ []) × (new ≡ old)

-- acts, one after another
abbrev pub ActedAll : Plan → List Session → List Act → List (List Entry) → List Session → Type 0
ActedAll plan old [] [] new = new ≡ old
ActedAll plan old (act ∷ acts) (entries ∷ more) new = (mid : List Session) × Acted plan old act entries mid × ActedAll plan mid acts more new
ActedAll plan old [] (entries ∷ more) new = ⊥
ActedAll plan old (act ∷ acts) [] new = ⊥

-- which sessions acts open
abbrev pub opened_by : Act → List (Protocol × ℕ)
opened_by (Opens protocol node greeting) = (protocol, node) ∷ []
opened_by (Does k deed) = []
opened_by (Faults node) = []
opened_by (StillWaits session) = []
opened_by (Leaves session user) = []
opened_by (Makes order event) = []
opened_by (Abandons session) = []

-- and what they feed to session k
abbrev pub fed_by_act : ℕ → Act → List ℕ
fed_by_act k (Opens protocol node greeting) = []
fed_by_act k (Does session (IsFed octets)) = fed_to k session octets
fed_by_act k (Does session deed) = []
fed_by_act k (Faults node) = []
fed_by_act k (StillWaits session) = []
fed_by_act k (Leaves session user) = []
fed_by_act k (Makes order event) = []
fed_by_act k (Abandons session) = []

-- the acts are those of these lines: they open and feed what the lines do, and nothing else
pub record AreActsOf (lines : List (List ℕ)) (acts : List Act) : Type 0 where
  pub opens : opened lines ≡ flat_map opened_by acts
  pub feeds : (k : ℕ) → sent k lines ≡ flat_map (fed_by_act k) acts

-- the last reply of a session is parted into what was written and what was not
pub record IsParted (session parted : Session) : Type 0 where
  pub same : parted ≡ record session { whole = parted.whole; others = parted.others }
  pub exchanges : parted.whole ++ parted.others ≡ session.whole ++ session.others
