-- Where the work on a tape is, and how it goes from there: acts, the steps that they led to, and what they wrote.
use Rattle.std.specs.Prelude.{◌≡◌, ◌≢◌, ◌⊎◌, ℕ, Result, Ok, Err, List, [], ◌∷◌, ◌++◌, ⊤, Option}
use Rattle.std.specs.Io.KnownBytes.{Appends}
use Rattle.mail_model.specs.Plan.{Plan}
use Rattle.mail_model.specs.Transcript.{Entry, written_of, all_of}
use Rattle.session_model.specs.Sessions.{Session, session_at}
use Rattle.session_model.specs.Acts.{Act, Acted}
use Rattle.session_model.specs.Lives.{failed_in}
use Rattle.session_model.specs.Clocks.{seconds_after}
use Rattle.cluster_world.specs.Worlds.{state_of}
use Rattle.session_model.specs.Logs.{Asked}
use Rattle.session_model.specs.Turns as turns
use Rattle.session_model.specs.Turns.{Turn, Next, IsAtNode}
use Rattle.session_model.specs.Run.{Made, Stop, MayHaveAsked, count_on}
use Rattle.session_model.specs.Run.Stop.{SinkFailed, OutOfMemory, BehindLine, Denied}
use Rattle.node_store.specs.Disks.{View}
use Rattle.cluster_world.specs.Outcomes.{Outcome, Awaited}
use Rattle.cluster_world.specs.Outcomes.Outcome.{Began, Refused, Fell, Broke, Left}
use Rattle.cluster_world.specs.declared.world.World.{World}
use Rattle.drive_tape.specs.declared.cluster.Cluster.{Cluster}
use Rattle.drive_tape.specs.Led.{Led, AreLed, AreLedTo}
use Rattle.drive_tape.specs.Parts.{IsCutEntry}
use Rattle.drive_tape.specs.Talks.{Converse, EachSession, HasOwnTicket, StandsOnNode, nodes_of}
use Rattle.drive_tape.specs.Worlds.{WorldIsAt, IsSince, AreLives, HasCauses}
use Rattle.drive_tape.specs.declared.drove.Stop.{Stop as Why}
use Rattle.drive_tape.specs.declared.drove.Stop.TheVariants as why

-- What is under way, how the sessions stand, the acts so far, what came of the steps, which calls are awaited, and what the sink holds.
pub record Point : Type 0 where
  pub turn : Turn
  pub sessions : List Session
  pub been : List Act
  pub outcomes : List Outcome
  pub awaited : List Awaited
  pub held : Option (List ℕ)

-- a call begins at the node of its session, and its user leaves there
abbrev pub IsAtOwnNode : List Session → Outcome → Type 0
IsAtOwnNode sessions (Began k node asked ticket) = IsAtNode node (session_at sessions k)
IsAtOwnNode sessions (Refused k node asked) = IsAtNode node (session_at sessions k)
IsAtOwnNode sessions (Fell k node asked) = IsAtNode node (session_at sessions k)
IsAtOwnNode sessions (Broke k node asked) = IsAtNode node (session_at sessions k)
IsAtOwnNode sessions (Left k node user) = IsAtNode node (session_at sessions k)
IsAtOwnNode sessions outcome = ⊤

-- so it is of each
abbrev pub AreAtOwnNodes : List Session → List Outcome → Type 0
AreAtOwnNodes sessions [] = ⊤
AreAtOwnNodes sessions (outcome ∷ outcomes) = IsAtOwnNode sessions outcome × AreAtOwnNodes sessions outcomes

-- the work went from one point to the other
pub record Work (plan : Plan) (p q : Point) : Type 0 where
  pub acts : List Act
  pub outputs : List (List Entry)
  pub outcomes : List Outcome
  pub goes : turns.ActsGo plan p.turn p.sessions acts outputs q.turn q.sessions
  pub linked : AreLed plan p.been p.outcomes acts outcomes
  pub at_nodes : AreAtOwnNodes q.sessions outcomes
  pub came : q.outcomes ≡ p.outcomes ++ outcomes
  pub been : q.been ≡ p.been ++ acts
  pub gave : Appends p.held q.held (written_of (all_of outputs))

-- an act, and what it writes
pub record OneAct (plan : Plan) (p : Point) (act : Act) (entries : List Entry) (outcomes : List Outcome) (turn : Turn) (sessions : List Session) : Type 0 where
  pub next : Next p.turn p.sessions act turn
  pub acted : Acted plan p.sessions act entries sessions
  pub linked : Led plan p.been p.outcomes act outcomes
  pub at_nodes : AreAtOwnNodes sessions outcomes

-- nothing of it is missing, or lines of the last act
abbrev pub IsMissingTail : List (List Entry) → List Entry → Type 0
IsMissingTail outputs missing = (missing ≡ []) ⊎ ((before : List (List Entry)) × (front : List Entry) × (outputs ≡ before ++ (front ++ missing) ∷ []))

-- what of the last act's lines may be missing
abbrev pub MayLack : Stop → List Entry → List Asked → Type 0
MayLack BehindLine missing lacking = ⊥
MayLack Denied missing lacking = ⊥
MayLack SinkFailed missing lacking = (missing ≢ []) × (lacking ≡ [])
MayLack OutOfMemory missing lacking = (lacking ≡ []) ⊎ ((one : Asked) × (lacking ≡ one ∷ []))

-- the work went on from the point, and stopped: of what the last act writes a front was written
pub record Cut (plan : Plan) (stop : Stop) (p : Point) (held : Option (List ℕ)) (outcomes : List Outcome) : Type 0 where
  pub acts : List Act
  pub outputs : List (List Entry)
  pub turn : Turn
  pub sessions : List Session
  pub goes : turns.ActsGo plan p.turn p.sessions acts outputs turn sessions
  pub new : List Outcome
  pub lacking : List Asked
  pub extra : List Made
  pub linked : AreLedTo stop plan p.been p.outcomes acts new lacking extra
  pub at_nodes : AreAtOwnNodes sessions new
  pub came : outcomes ≡ p.outcomes ++ new
  pub asked : MayHaveAsked stop turn sessions extra
  pub front : List Entry
  pub missing : List Entry
  pub parts : all_of outputs ≡ front ++ missing
  pub tail : IsMissingTail outputs missing
  pub may : MayLack stop missing lacking
  pub cut : List ℕ
  pub is_cut : IsCutEntry missing cut
  pub gave : Appends p.held held (written_of front ++ cut)

-- the cluster is at this point
pub record IsAtPoint {D : Type 0} (on : View D) (start : World D) (plan : Plan) (cluster : Cluster D) (p : Point) : Type 0 where
  pub at : WorldIsAt on start p.outcomes p.awaited cluster.world
  pub talks : Converse cluster.sessions.talkers.items p.sessions
  pub nodes : cluster.sessions.nodes.items ≡ nodes_of p.sessions
  pub tickets : EachSession (HasOwnTicket cluster.sessions.calls.items p.awaited) p.sessions
  pub count : cluster.sessions.standing ≡ count_on p.sessions
  pub lives : AreLives plan p.been cluster.world
  pub up : EachSession (λ place session. StandsOnNode plan p.been session) p.sessions
  pub causes : HasCauses on start (failed_in p.been) cluster.world

-- the clock of the world shows the seconds that the acts so far left
abbrev pub IsOnTime : {D : Type 0} → World D → Point → Type 0
IsOnTime world p = (state_of world).seconds ≡ seconds_after p.been

-- the stop is this one of the definitions
abbrev pub IsStop : Why → Stop → Type 0
IsStop why.WriteFault stop = stop ≡ SinkFailed
IsStop why.NoMemory stop = stop ≡ OutOfMemory
IsStop other stop = ⊥

-- the work stopped
pub record Stopped {D : Type 0} (on : View D) (start : World D) (plan : Plan) (p : Point) (reason : Why) (held : Option (List ℕ)) (world : World D) : Type 0 where
  pub stop : Stop
  pub is : IsStop reason stop
  pub outcomes : List Outcome
  pub cut : Cut plan stop p held outcomes
  pub lives : (stop ≡ OutOfMemory → ⊥) → AreLives plan (p.been ++ cut.acts) world
  pub causes : HasCauses on start (failed_in (p.been ++ cut.acts)) world
  pub since : IsSince on start outcomes world

-- the work went on to a point at which this is so
pub record WentOn {D : Type 0} (on : View D) (start : World D) (plan : Plan) (p : Point) (so : Point → Type 0) (held : Option (List ℕ)) (cluster : Cluster D) : Type 0 where
  pub q : Point
  pub work : Work plan p q
  pub held_is : q.held ≡ held
  pub shows : IsAtPoint on start plan cluster q
  pub so_is : so q

-- what was done from a point on
abbrev pub WorkGoes : {D T : Type 0} → View D → World D → Plan → Point → (Point → Type 0) → Result T Why → Option (List ℕ) → Cluster D → Type 0
WorkGoes on start plan p so (Ok _) held cluster = WentOn on start plan p so held cluster
WorkGoes on start plan p so (Err reason) held cluster = Stopped on start plan p reason held cluster.world
