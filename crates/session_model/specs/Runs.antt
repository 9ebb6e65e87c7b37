-- However the work on a tape is left off, its transcript shows the sessions that its acts made, and what these asked and were answered.
use Rattle.std.specs.Prelude.{◌≡◌, ℕ, List, [], ◌∷◌, ◌++◌, map, flat_map, All, Some}
use Rattle.mail_model.specs.Plan.{Plan}
use Rattle.mail_model.specs.Lines.{HasNoLf}
use Rattle.mail_model.specs.Transcript.{Entry, entry_line, all_of}
use Rattle.session_model.specs.Talk.{IsIdle, IsOn}
use Rattle.session_model.specs.Events.{IsUp}
use Rattle.session_model.specs.Sessions.{Session, IsSession, AreSessions, session_at}
use Rattle.session_model.specs.Acts.{Act, Acted, ActedAll, AreActsOf, IsParted}
use Rattle.session_model.specs.Lives.{life_after}
use Rattle.session_model.specs.Logs.{AreLogged, asked_by, answered_by}
use Rattle.session_model.specs.Run.{Stop, Made, IsDriven, IsCutShort}

-- The sessions of the run lines that were handled, as the transcript shows them, with all that they asked and were answered.
pub record Shows (plan : Plan) (lines : List (List ℕ)) (entries : List Entry) (acts : List Act) (sessions : List Session) : Type 0 where
  pub are : AreSessions plan lines entries sessions
  pub logged : AreLogged (flat_map asked_by acts) (flat_map answered_by acts) sessions

-- The last act is left off in the midst of what it writes; the sessions shown are those that the acts left, but for the parting of the last reply.
abbrev pub ActsAreShown : Type 0
ActsAreShown = (plan : Plan) (lines : List (List ℕ)) (acts : List Act) (act : Act) (outputs : List (List Entry)) (entries front missing : List Entry) (mid last : List Session)
    → ActedAll plan [] acts outputs mid → Acted plan mid act entries last → entries ≡ front ++ missing → AreActsOf lines (acts ++ act ∷ [])
    → (sessions : List Session) × Shows plan lines (all_of outputs ++ front) (acts ++ act ∷ []) sessions
    × ((k : ℕ) (session : Session) → session_at sessions k ≡ Some session → (whole : Session) × (session_at last k ≡ Some whole) × IsParted whole session)

-- However a tape is driven, its transcript shows its sessions.
abbrev pub DrivenIsShown : Type 0
DrivenIsShown = (plan : Plan) (stop : Stop) (handled left : List (List ℕ)) (acts others : List (List Act)) (made : List Made) (entries : List Entry) (last : List Session)
    → IsDriven plan stop handled left acts others made entries last
    → (sessions : List Session) × Shows plan (handled ++ left) entries (flat_map (λ a. a) (acts ++ others)) sessions

-- Each entry that it has is one line: no octet of it is an LF.
abbrev pub DrivenWritesLines : Type 0
DrivenWritesLines = (plan : Plan) (stop : Stop) (handled left : List (List ℕ)) (acts others : List (List Act)) (made : List Made) (entries : List Entry) (last : List Session)
    → IsDriven plan stop handled left acts others made entries last → All HasNoLf (map entry_line entries)

-- Between two lines each unit that a session was fed and has reached has its reply: the client got all replies whole, and the session waits for an answer, has ended,
-- or has no whole unit left.
abbrev pub DrivenAnswersUnits : Type 0
DrivenAnswersUnits = (plan : Plan) (stop : Stop) (handled left : List (List ℕ)) (acts others : List (List Act)) (made : List Made) (entries : List Entry) (last : List Session)
    → IsDriven plan stop handled left acts others made entries last → (IsCutShort stop → ⊥)
    → (k : ℕ) (session : Session) → session_at last k ≡ Some session
    → IsSession plan (handled ++ left) entries k session × (session.others ≡ []) × IsIdle session.standing session.rest

-- Between two lines each session that has not ended is at a node that is up: as a node goes down all its sessions end, those that wait too.
abbrev pub StandingAreUp : Type 0
StandingAreUp = (plan : Plan) (stop : Stop) (handled left : List (List ℕ)) (acts others : List (List Act)) (made : List Made) (entries : List Entry) (last : List Session)
    → IsDriven plan stop handled left acts others made entries last → (IsCutShort stop → ⊥)
    → (k : ℕ) (session : Session) → session_at last k ≡ Some session → IsOn session.standing → IsUp (life_after (flat_map (λ a. a) (acts ++ others)) session.node)
