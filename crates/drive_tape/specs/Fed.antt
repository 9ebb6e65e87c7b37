-- What the first act of a line needs.
use Rattle.std.specs.Prelude.{◌≡◌, ◌≢◌, Bool, true, false, nat_le, ◌⊎◌, ◌+◌, ◌<◌, ℕ, List, [], ◌∷◌, ◌++◌, flat_map, All, slice_get, Option, Some, None, Result, Ok, Err, if◌then◌else◌}
use Rattle.object_model.specs.Letters.{Number}
use Rattle.mail_model.specs.Lines.{HasNoCrlf, sent_line}
use Rattle.mail_model.specs.Plan.{Plan}
use Rattle.mail_model.specs.Site as site
use Rattle.mail_model.specs.Site.{closed_event}
use Rattle.mail_model.specs.Transcript.{said_lines}
use Rattle.mail_model.specs.Tape as tape
use Rattle.mail_model.specs.Tape.{Order, tape_order}
use Rattle.mail_model.specs.Tape.Order.{Say, Feed, Close, GiveUp, Moves}
use Rattle.session_model.specs.Calls as calls
use Rattle.session_model.specs.Talk.{Exchange, TalkState, IsOn}
use Rattle.session_model.specs.Talk.Standing.{Waiting}
use Rattle.session_model.specs.Events.NodeLife.{Up}
use Rattle.session_model.specs.Acts.{Act, Acted}
use Rattle.session_model.specs.Acts.Act.{Abandons}
use Rattle.session_model.specs.Lives.{failed_in}
use Rattle.session_model.specs.Sessions.{Session}
use Rattle.session_model.specs.Turns.{Starts, Waits}
use Rattle.session_model.specs.Turns.Turn.{Hearing}
use Rattle.session_model.specs.Run.{refusal, work_fault, fault_if, is_no_node, count_on}
use Rattle.node_store.specs.Disks.{View}
use Rattle.cluster_world.specs.Outcomes.{Outcome, Awaited, without_session}
use Rattle.cluster_world.specs.Outcomes.Outcome.{GaveUp, Abandoned, KeptUp}
use Rattle.cluster_world.specs.Worlds.{plan_of, life_of}
use Rattle.cluster_world.specs.declared.world.World.{World}
use Rattle.cluster_world.specs.declared.fault.StepFault.{StepFault}
use Rattle.drive_tape.specs.declared.cluster.Cluster.{Cluster}
use Rattle.drive_tape.specs.declared.sessions.After.{After}
use Rattle.drive_tape.specs.declared.drove.Stop.{Stop as Why}
use Rattle.drive_tape.specs.declared.drove.Stop.TheVariants.{Bad}
use Rattle.drive_tape.specs.declared.event.ClusterEvent.{ClusterEvent}
use Rattle.drive_tape.specs.Faults.{tape_fault_seen}
use Rattle.drive_tape.specs.Clusters.{RestsAt, MovedTo, IsAfter, IsFalling}
use Rattle.drive_tape.specs.Denials.{stop_by}
use Rattle.drive_tape.specs.Lines.{IsStarted, LineStopped}
use Rattle.drive_tape.specs.Moved.{Happened}
use Rattle.drive_tape.specs.Moving.{has_ended}
use Rattle.drive_tape.specs.Led.{Led}
use Rattle.drive_tape.specs.Points.{Point, AreAtOwnNodes, IsAtPoint, WentOn}
use Rattle.drive_tape.specs.Talks.{Converse, HasOwnTicket, StandsOnNode, EachSession, nodes_of}
use Rattle.drive_tape.specs.Worlds.{WorldIsAt, IsSince, AreLives, HasCauses}
use Rattle.drive_tape.specs.declared.drove.TapeFault.{TapeFault}

-- the order gives session k these octets
abbrev pub IsFeeding : Order → ℕ → List ℕ → Type 0
IsFeeding order k octets = (order ≡ Feed k octets) ⊎ ((text : List ℕ) × (order ≡ Say k text) × (octets ≡ sent_line text))

-- the session at this place was found, and a line gives it these octets
pub record IsFeedingAt (p : Point) (line : List ℕ) (place : ℕ) (octets : List ℕ) : Type 0 where
  pub order : Order
  pub spelled : tape_order line ≡ Some order
  pub feeds : IsFeeding order (place + 1) octets
  pub plain : Session
  pub here : slice_get p.sessions place ≡ Some plain
  pub on : IsOn plain.standing

-- why a session may not be opened, the first that applies
abbrev pub opening_fault : {D : Type 0} → Plan → Cluster D → ℕ → Option site.TapeFault
opening_fault plan cluster number =
    tape.or_else (fault_if (is_no_node plan number) site.TapeFault.NoSuchNode)
    (tape.or_else (work_fault (life_of cluster.world number)) (fault_if (nat_le 256 cluster.sessions.standing) site.TapeFault.TooManySessions))

-- whether a session may be opened at the node of this number: the node, in this boot; or why not
abbrev pub AdmitsSession : {D : Type 0} → Plan → Cluster D → ℕ → Result (ℕ × ℕ) TapeFault → Type 0
AdmitsSession plan cluster number (Ok found) =
    (found.0 ≡ number) × (life_of cluster.world number ≡ Up found.1) × (cluster.sessions.standing < 256) × (is_no_node plan number ≡ false)
    × (opening_fault plan cluster number ≡ None)
AdmitsSession plan cluster number (Err fault) = opening_fault plan cluster number ≡ Some (tape_fault_seen fault)

-- The session at this place has no call in progress, as the program sees it; the others are as they were at the point.
pub record IsFreed {D : Type 0} (on : View D) (start : World D) (plan : Plan) (p : Point) (place : ℕ) (been : List Act) (outcomes : List Outcome) (awaited : List Awaited) (cluster : Cluster D) : Type 0 where
  pub plain : Session
  pub here : slice_get p.sessions place ≡ Some plain
  pub on_still : IsOn plain.standing
  pub at : WorldIsAt on start (p.outcomes ++ outcomes) awaited cluster.world
  pub talks : Converse cluster.sessions.talkers.items p.sessions
  pub nodes : cluster.sessions.nodes.items ≡ nodes_of p.sessions
  pub others : (i : ℕ) (session : Session) → slice_get p.sessions i ≡ Some session → i ≢ place → HasOwnTicket cluster.sessions.calls.items awaited i session
  pub none : slice_get cluster.sessions.calls.items place ≡ Some None
  pub count : cluster.sessions.standing ≡ count_on p.sessions
  pub lives : AreLives plan (p.been ++ been) cluster.world
  pub up : EachSession (λ i session. StandsOnNode plan (p.been ++ been) session) p.sessions
  pub causes : HasCauses on start (failed_in (p.been ++ been)) cluster.world

-- nothing was done yet for the session; or its call was given up
abbrev pub IsGivenUpFirst : Point → ℕ → Session → List Act → List Outcome → List Awaited → Type 0
IsGivenUpFirst p place plain been outcomes awaited =
    ((been ≡ []) × (outcomes ≡ []) × (awaited ≡ p.awaited) × (Waits (Some plain) → ⊥))
    ⊎ ((been ≡ Abandons (place + 1) ∷ []) × Waits (Some plain) × (awaited ≡ without_session (place + 1) p.awaited)
    × ((asked : calls.Call) × (ticket : Number) × (outcomes ≡ Abandoned (place + 1) asked ticket ∷ [])))

-- The call of the session at this place was given up. What then came of it is the line's to say: the session is told so, or is closed.
pub record IsLetGo {D : Type 0} (on : View D) (start : World D) (plan : Plan) (p : Point) (place : ℕ) (cluster : Cluster D) : Type 0 where
  pub call : calls.Call
  pub ticket : Number
  pub told : IsFreed on start plan p place [] (GaveUp (place + 1) call ticket ∷ []) (without_session (place + 1) p.awaited) cluster
  pub closing : IsFreed on start plan p place (Abandons (place + 1) ∷ []) (Abandoned (place + 1) call ticket ∷ []) (without_session (place + 1) p.awaited) cluster
  pub state : TalkState
  pub waits : told.plain.standing ≡ Waiting state call
  pub waited : closing.plain.standing ≡ Waiting state call
  pub before : List Exchange
  pub last : Exchange
  pub heard : told.plain.whole ≡ before ++ last ∷ []

-- it had none
pub record HadNone {D : Type 0} (on : View D) (start : World D) (plan : Plan) (p : Point) (place : ℕ) (cluster : Cluster D) : Type 0 where
  pub freed : IsFreed on start plan p place [] [] p.awaited cluster
  pub quiet : Waits (Some freed.plain) → ⊥

-- it is not given up: the step was refused
pub record IsKeptUp {D : Type 0} (on : View D) (start : World D) (plan : Plan) (p : Point) (place : ℕ) (stop : Why) (world : World D) : Type 0 where
  pub ticket : Number
  pub why : StepFault
  pub stops : stop ≡ stop_by why
  pub plain : Session
  pub here : slice_get p.sessions place ≡ Some plain
  pub waits : Waits (Some plain)
  pub since : IsSince on start (p.outcomes ++ KeptUp (place + 1) ticket why ∷ []) world
  pub lives : (fault : TapeFault) → stop ≡ Bad fault → AreLives plan p.been world
  pub causes : HasCauses on start (failed_in p.been) world

-- whether it had a call that was given up
abbrev pub GaveUpCall : {D : Type 0} → View D → World D → Plan → Point → ℕ → Result Bool Why → Cluster D → Type 0
GaveUpCall on start plan p place (Ok true) cluster = IsLetGo on start plan p place cluster
GaveUpCall on start plan p place (Ok false) cluster = HadNone on start plan p place cluster
GaveUpCall on start plan p place (Err stop) cluster = IsKeptUp on start plan p place stop cluster.world

-- a line closes the session at this place, whose call is not in progress any more
pub record IsClosingAt {D : Type 0} (on : View D) (start : World D) (plan : Plan) (p : Point) (line : List ℕ) (place : ℕ) (cluster : Cluster D) : Type 0 where
  pub spelled : tape_order line ≡ Some (Close (place + 1))
  pub been : List Act
  pub outcomes : List Outcome
  pub awaited : List Awaited
  pub freed : IsFreed on start plan p place been outcomes awaited cluster
  pub first : IsGivenUpFirst p place freed.plain been outcomes awaited

-- a line gave up the call of the session at this place, which is not told so yet
pub record IsGivingUpAt {D : Type 0} (on : View D) (start : World D) (plan : Plan) (p : Point) (line : List ℕ) (place : ℕ) (cluster : Cluster D) : Type 0 where
  pub spelled : tape_order line ≡ Some (GiveUp (place + 1))
  pub call : calls.Call
  pub ticket : Number
  pub freed : IsFreed on start plan p place [] (GaveUp (place + 1) call ticket ∷ []) (without_session (place + 1) p.awaited) cluster
  pub state : TalkState
  pub waits : freed.plain.standing ≡ Waiting state call
  pub before : List Exchange
  pub last : Exchange
  pub heard : freed.plain.whole ≡ before ++ last ∷ []

-- The first act of a line is one of a session, of which nothing was written yet.
pub record IsTelling {D : Type 0} (on : View D) (start : World D) (plan : Plan) (p q : Point) (line : List ℕ) (place : ℕ) (after : After) (out : List ℕ) (cluster : Cluster D) : Type 0 where
  pub order : Order
  pub spelled : tape_order line ≡ Some order
  pub accepted : refusal plan p.been p.sessions order ≡ None
  pub act : Act
  pub said : List (List ℕ)
  pub outcomes : List Outcome
  pub starts : Starts plan p.been order p.sessions act q.turn
  pub acted : Acted plan p.sessions act (said_lines (place + 1) said ++ (if has_ended after then closed_event (place + 1) ∷ [] else [])) q.sessions
  pub linked : Led plan p.been p.outcomes act outcomes
  pub at_nodes : AreAtOwnNodes q.sessions outcomes
  pub came : q.outcomes ≡ p.outcomes ++ outcomes
  pub been : q.been ≡ p.been ++ act ∷ []
  pub held : q.held ≡ p.held
  pub says : out ≡ flat_map sent_line said
  pub lines : All HasNoCrlf said
  pub shows : IsAtPoint on start plan cluster q
  pub turn : q.turn ≡ Hearing (place + 1) 1
  pub plain : Session
  pub here : slice_get q.sessions place ≡ Some plain
  pub is_after : IsAfter after plain

-- it was made, and its session hears on or rests
pub record WasFed {D : Type 0} (on : View D) (start : World D) (plan : Plan) (p : Point) (line : List ℕ) (place : ℕ) (goes_on : Bool) (held : Option (List ℕ)) (cluster : Cluster D) : Type 0 where
  pub q : Point
  pub order : Order
  pub spelled : tape_order line ≡ Some order
  pub started : IsStarted plan p q order
  pub went : WentOn on start plan q (MovedTo {E = Why} place 1 (Ok goes_on)) held cluster

abbrev pub TellsSo : {D : Type 0} → View D → World D → Plan → Point → List ℕ → ℕ → Result Bool Why → Option (List ℕ) → Cluster D → Type 0
TellsSo on start plan p line place (Ok goes_on) held cluster = WasFed on start plan p line place goes_on held cluster
TellsSo on start plan p line place (Err reason) held cluster = LineStopped on start plan p line reason held cluster.world

-- the sessions of this node are to fall, or of none
abbrev pub MayFallBy : {D : Type 0} → View D → World D → Plan → Point → Option ℕ → Cluster D → Type 0
MayFallBy on start plan p None cluster = RestsAt 1 p × IsAtPoint on start plan cluster p
MayFallBy on start plan p (Some node) cluster = IsFalling on start plan p 0 node 1 cluster

-- The steps of a line that moves the cluster were made, and this came of them; nothing was written yet, and no session has fallen.
pub record Happens {D : Type 0} (on : View D) (start : World D) (plan : Plan) (p : Point) (line : List ℕ) (event : ClusterEvent) (cluster : Cluster D) : Type 0 where
  pub old : Cluster D
  pub plan_is : plan_of old.world ≡ plan
  pub order : tape.ClusterOrder
  pub spelled : tape_order line ≡ Some (Moves order)
  pub accepted : refusal plan p.been p.sessions (Moves order) ≡ None
  pub shows : IsAtPoint on start plan old p
  pub sessions : cluster.sessions ≡ old.sessions
  pub happened : Happened on start p.outcomes p.awaited p.been old.world order event cluster.world
