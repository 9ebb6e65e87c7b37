-- What the calls of a cluster begin with, and where they lead.
use Rattle.std.specs.Prelude.{◌≡◌, ◌+◌, ◌<◌, ◌≤◌, ℕ, Bool, true, false, List, [], ◌∷◌, ◌++◌, flat_map, All, ⊤, slice_get, slice_set, Option, Some, Result, Ok, Err, if◌then◌else◌}
use Rattle.mail_model.specs.Lines.{HasNoCrlf, sent_line}
use Rattle.mail_model.specs.Plan.{Plan}
use Rattle.mail_model.specs.Site.{closed_event}
use Rattle.mail_model.specs.Transcript.{said_lines}
use Rattle.session_model.specs.Calls as calls
use Rattle.session_model.specs.Calls.{IsReply, RepliesTo}
use Rattle.session_model.specs.Talk.{Exchange, TalkState, IsOn, IsIdle, entered_as, leave_of}
use Rattle.session_model.specs.Talk.Standing.{Waiting, EndedByQuit}
use Rattle.session_model.specs.Sessions.{Session, session_at, exchanges_of}
use Rattle.session_model.specs.Acts.{Act, Did}
use Rattle.session_model.specs.Acts.Deed.{Hears}
use Rattle.session_model.specs.Lives.{failed_in}
use Rattle.session_model.specs.Turns.{IsReadyToAsk, Waits}
use Rattle.session_model.specs.Turns.Turn.{Hearing, Beginning, Falling}
use Rattle.session_model.specs.Run.{count_on}
use Rattle.call_tickets.specs.Seen.{call_seen}
use Rattle.call_tickets.specs.declared.call.Call.{Call}
use Rattle.node_store.specs.Disks.{View}
use Rattle.cluster_world.specs.Outcomes.{Outcome, without_session}
use Rattle.cluster_world.specs.Outcomes.Outcome.{Answers}
use Rattle.cluster_world.specs.declared.world.World.{World}
use Rattle.drive_tape.specs.declared.cluster.Cluster.{Cluster}
use Rattle.drive_tape.specs.declared.sessions.After.{After}
use Rattle.drive_tape.specs.declared.sessions.After.TheVariants.{Stays, Ends}
use Rattle.drive_tape.specs.declared.cluster.Heard.{Heard}
use Rattle.drive_tape.specs.declared.cluster.Heard.TheVariants as heard
use Rattle.drive_tape.specs.Leaving.{IsLeaveOf}
use Rattle.drive_tape.specs.Led.{EndsFell}
use Rattle.drive_tape.specs.Moving.{has_ended}
use Rattle.drive_tape.specs.Points.{Point, OneAct, Work, Stopped, IsAtPoint}
use Rattle.drive_tape.specs.Talks.{Converse, HasOwnTicket, HasTicket, StandsOnNode, EachSession, EachBut, nodes_of}
use Rattle.drive_tape.specs.Worlds.{WorldIsAt, WentTo, AreLives, AreSameLives, HasCauses}
use Rattle.call_tickets.specs.Moves.{HasEnded}
use Rattle.drive_tape.specs.declared.drove.Stop.{Stop as Why}

-- the session at this place hears on
pub record SessionHears (place onward : ℕ) (p : Point) : Type 0 where
  pub turn : p.turn ≡ Hearing (place + 1) onward
  pub plain : Session
  pub here : slice_get p.sessions place ≡ Some plain
  pub on : IsOn plain.standing

-- nothing is under way but that sessions are to be asked from this number on
abbrev pub RestsAt : ℕ → Point → Type 0
RestsAt onward p = IsReadyToAsk p.turn p.sessions onward

-- it hears on, or rests
abbrev pub MovedTo : {E : Type 0} → ℕ → ℕ → Result Bool E → Point → Type 0
MovedTo place onward (Ok true) p = SessionHears place onward p
MovedTo place onward (Ok false) p = RestsAt onward p
MovedTo place onward (Err _) p = ⊤

-- how a session is that said something: it has not ended, or it has, and asks this as it leaves
abbrev pub IsAfter : After → Session → Type 0
IsAfter Stays plain = IsOn plain.standing
IsAfter (Ends leave) plain = (plain.standing ≡ EndedByQuit) × IsLeaveOf leave (entered_as (exchanges_of plain))

-- The cluster is after an act of the session at this place, of which nothing was written yet.
pub record IsSaying {D : Type 0} (on : View D) (start : World D) (plan : Plan) (p q : Point) (place onward : ℕ) (after : After) (out : List ℕ) (cluster : Cluster D) : Type 0 where
  pub act : Act
  pub said : List (List ℕ)
  pub outcomes : List Outcome
  pub one : OneAct plan p act (said_lines (place + 1) said ++ (if has_ended after then closed_event (place + 1) ∷ [] else [])) outcomes q.turn q.sessions
  pub came : q.outcomes ≡ p.outcomes ++ outcomes
  pub been : q.been ≡ p.been ++ act ∷ []
  pub held : q.held ≡ p.held
  pub says : out ≡ flat_map sent_line said
  pub lines : All HasNoCrlf said
  pub shows : IsAtPoint on start plan cluster q
  pub turn : q.turn ≡ Hearing (place + 1) onward
  pub plain : Session
  pub here : slice_get q.sessions place ≡ Some plain
  pub is_after : IsAfter after plain

-- the session at this place has ended, and may have to leave
pub record SessionEndsAt (place onward : ℕ) (leave : Option Call) (p : Point) : Type 0 where
  pub turn : p.turn ≡ Hearing (place + 1) onward
  pub plain : Session
  pub here : slice_get p.sessions place ≡ Some plain
  pub idle : IsIdle plain.standing plain.rest
  pub leaves_as : leave_of (exchanges_of plain) plain.standing ≡ entered_as (exchanges_of plain)
  pub leaves : IsLeaveOf leave (entered_as (exchanges_of plain))

-- The session at this place heard a unit that asks this call, which has not begun yet.
pub record IsBeginning {D : Type 0} (on : View D) (start : World D) (plan : Plan) (p : Point) (place onward : ℕ) (call : Call) (cluster : Cluster D) : Type 0 where
  pub plain : Session
  pub one : Exchange
  pub after : Session
  pub here : slice_get p.sessions place ≡ Some plain
  pub did : Did plan plain (Hears one) one.reply after
  pub asked : calls.Call
  pub call_is : call_seen call ≡ Some asked
  pub asks : one.call ≡ Some asked
  pub turn : p.turn ≡ Hearing (place + 1) onward
  pub at : WorldIsAt on start p.outcomes p.awaited cluster.world
  pub talks : Converse cluster.sessions.talkers.items (slice_set p.sessions place after)
  pub nodes : cluster.sessions.nodes.items ≡ nodes_of p.sessions
  pub tickets : EachSession (HasOwnTicket cluster.sessions.calls.items p.awaited) p.sessions
  pub count : cluster.sessions.standing ≡ count_on p.sessions
  pub lives : AreLives plan p.been cluster.world
  pub up : EachSession (λ place session. StandsOnNode plan p.been session) p.sessions
  pub causes : HasCauses on start (failed_in p.been) cluster.world

-- The node failed as the call of the session at this place began, or in what a run line asked; of that nothing was written yet, and no session has fallen.
pub record HasFallen {D : Type 0} (on : View D) (start : World D) (plan : Plan) (p : Point) (been : List Act) (node : ℕ) (cluster : Cluster D) : Type 0 where
  pub at : WorldIsAt on start p.outcomes p.awaited cluster.world
  pub talks : Converse cluster.sessions.talkers.items p.sessions
  pub nodes : cluster.sessions.nodes.items ≡ nodes_of p.sessions
  pub tickets : EachBut node 0 (HasOwnTicket cluster.sessions.calls.items p.awaited) p.sessions
  pub count : cluster.sessions.standing ≡ count_on p.sessions
  pub lives : AreLives plan been cluster.world
  pub up : EachBut node 0 (λ place session. StandsOnNode plan been session) p.sessions
  pub causes : HasCauses on start (failed_in been) cluster.world

-- The disk of its node failed as the call of the session at this place began.
pub record FaultsAt {D : Type 0} (on : View D) (start : World D) (plan : Plan) (p : Point) (place onward node : ℕ) (cluster : Cluster D) : Type 0 where
  pub turn : p.turn ≡ Beginning (place + 1) onward
  pub plain : Session
  pub here : slice_get p.sessions place ≡ Some plain
  pub own : plain.node ≡ node
  pub fell : EndsFell node p.outcomes
  pub fallen : HasFallen on start plan p (p.been ++ Act.Faults node ∷ []) node cluster
  pub causes : HasCauses on start (failed_in p.been) cluster.world

-- The sessions of the node before this place have fallen, and those from it on are to fall.
pub record IsFalling {D : Type 0} (on : View D) (start : World D) (plan : Plan) (p : Point) (place node onward : ℕ) (cluster : Cluster D) : Type 0 where
  pub from : ℕ
  pub turn : p.turn ≡ Falling from node onward
  pub behind : from ≤ place + 1
  pub fallen : (i : ℕ) (session : Session) → i < place → slice_get p.sessions i ≡ Some session → session.node ≡ node → HasEnded session.standing
  pub at : WorldIsAt on start p.outcomes p.awaited cluster.world
  pub talks : Converse cluster.sessions.talkers.items p.sessions
  pub nodes : cluster.sessions.nodes.items ≡ nodes_of p.sessions
  pub tickets : EachBut node place (HasOwnTicket cluster.sessions.calls.items p.awaited) p.sessions
  pub count : cluster.sessions.standing ≡ count_on p.sessions
  pub lives : AreLives plan p.been cluster.world
  pub up : EachBut node place (λ i session. StandsOnNode plan p.been session) p.sessions
  pub causes : HasCauses on start (failed_in p.been) cluster.world

-- the session at this place is one of the node
pub record IsToFall {D : Type 0} (on : View D) (start : World D) (plan : Plan) (p : Point) (place node onward : ℕ) (cluster : Cluster D) : Type 0 where
  pub falling : IsFalling on start plan p place node onward cluster
  pub plain : Session
  pub here : slice_get p.sessions place ≡ Some plain
  pub own : plain.node ≡ node

-- what the fall of one session did
abbrev pub FellOn : {D T : Type 0} → View D → World D → Plan → Point → ℕ → ℕ → ℕ → Result T Why → Option (List ℕ) → Cluster D → Type 0
FellOn on start plan p place node onward (Ok _) held cluster = (q : Point) × Work plan p q × (q.held ≡ held) × IsFalling on start plan q (place + 1) node onward cluster
FellOn on start plan p place node onward (Err reason) held cluster = Stopped on start plan p reason held cluster.world

-- sessions from this place on are to be asked: from a number that is not above, up to which nobody waits
pub record AsksFrom (place : ℕ) (p : Point) : Type 0 where
  pub from : ℕ
  pub ready : IsReadyToAsk p.turn p.sessions from
  pub before : from ≤ place + 1
  pub none : (j : ℕ) → from ≤ j → j < place + 1 → Waits (session_at p.sessions j) → ⊥

-- The call of the session at this place, which is the next that is to be asked, was answered so, and nothing else was done since.
pub record CallHasAnswer {D : Type 0} (on : View D) (start : World D) (plan : Plan) (p : Point) (place : ℕ) (answer : calls.Answer) (cluster : Cluster D) : Type 0 where
  pub old : Cluster D
  pub shows : IsAtPoint on start plan old p
  pub asks : AsksFrom place p
  pub plain : Session
  pub here : slice_get p.sessions place ≡ Some plain
  pub state : TalkState
  pub call : calls.Call
  pub waits : plain.standing ≡ Waiting state call
  pub has : HasTicket (slice_get old.sessions.calls.items place) plain (place + 1) call p.awaited
  pub reply : List (List ℕ)
  pub replies : IsReply call answer reply
  pub whole : (all : List (List ℕ)) × RepliesTo has.last.unit call answer all
  pub lives : AreSameLives old.world cluster.world
  pub went : WentTo on start old.world (p.outcomes ++ Answers (place + 1) call has.open_call.ticket answer ∷ []) (without_session (place + 1) p.awaited) cluster.world
  pub same : cluster.sessions ≡ old.sessions

-- how the session at this place is that was asked for: it hears on, or rests, or still waits
abbrev pub HeardSo : {E : Type 0} → ℕ → Result Heard E → Point → Type 0
HeardSo place (Ok heard.On) p = SessionHears place (place + 1) p
HeardSo place (Ok heard.Rests) p = RestsAt (place + 1) p
HeardSo place (Ok heard.StillWaits) p = RestsAt (place + 1 + 1) p
HeardSo place (Err _) p = ⊤

-- one that was answered has less to do
abbrev pub IsLess : Heard → ℕ → ℕ → Type 0
IsLess heard.On now was = now < was
IsLess heard.Rests now was = now < was
IsLess heard.StillWaits now was = ⊤
