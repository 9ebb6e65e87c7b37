-- How a tape is driven: the lines that were handled, the acts and the steps that each led to, what was written, and why the work stopped.
use Rattle.std.specs.Prelude.{◌≡◌, ◌≢◌, ◌⊎◌, ℕ, ◌+◌, Bool, true, false, ◌||◌, not, nat_eq, nat_lt, nat_le, List, [], ◌∷◌, ◌++◌, map, flat_map, ⊤, Option, Some, None, if◌then◌else◌}
use Rattle.mail_model.specs.Plan.{Plan, is_user}
use Rattle.mail_model.specs.Tape.{Order, ClusterOrder, tape_order, or_else}
use Rattle.mail_model.specs.Tape.Order.{Open, Say, Feed, Close, GiveUp, End}
use Rattle.mail_model.specs.Tape.ClusterOrder.{Crash, Start, Lose, Post, Again, Drop, Flow, Push, Widen, Group, Conclude, Regroup, Report, Settle, Maps, Tick, Sum}
use Rattle.mail_model.specs.Transcript.{Entry}
use Rattle.mail_model.specs.Transcript.{all_of}
use Rattle.mail_model.specs.Site.{TapeFault}
use Rattle.mail_model.specs.Site.TapeFault.{BadLine, NoSuchNode, NodeLost, NodeDown, NodeUp, TooManySessions, NoSuchSession}
use Rattle.session_model.specs.Calls.{Call}
use Rattle.session_model.specs.Talk.{Standing}
use Rattle.session_model.specs.Talk.Standing.{Hearing, Waiting, EndedByQuit, EndedDown, EndedClosed}
use Rattle.session_model.specs.Sessions.{Session, session_at}
use Rattle.session_model.specs.Events.{NodeLife}
use Rattle.session_model.specs.Events.NodeLife.{Up, Down, Lost}
use Rattle.session_model.specs.Acts.{Act, Acted}
use Rattle.session_model.specs.Acts.Deed.{Hears, IsAnswered, IsGivenUp}
use Rattle.session_model.specs.Lives.{life_after}
use Rattle.session_model.specs.Logs.{call_in}
use Rattle.session_model.specs.Turns.{Turn, ActsGo, Starts, IsDone, IsReadyToAsk, IsFirst, Waits}

-- A step of the cluster: a call of session k begins at its node, its ticket is asked or given up, or the session's user leaves; or all that a run line which moves
-- the cluster itself asks for, one step or several.
pub data Made : Type 0 where
  Begins : (k : ℕ) (call : Call) → Made
  Asks : (k : ℕ) → Made
  GivesUp : (k : ℕ) → Made
  Leaves : (k : ℕ) (user : List ℕ) → Made
  Moves : (order : ClusterOrder) → Made

-- the steps that an act leads to
abbrev pub made_by : Act → List Made
made_by (Act.Does k (Hears one)) = map (Begins k) (call_in one.call)
made_by (Act.Does k (IsAnswered call answer reply)) = Asks k ∷ []
made_by (Act.Does k (IsGivenUp call reply)) = GivesUp k ∷ []
made_by (Act.StillWaits k) = Asks k ∷ []
made_by (Act.Leaves k user) = Leaves k user ∷ []
made_by (Act.Makes order event) = Moves order ∷ []
made_by (Act.Abandons k) = GivesUp k ∷ []
made_by other = []

-- the session has not ended
abbrev pub is_on : Standing → Bool
is_on (Hearing state) = true
is_on (Waiting state call) = true
is_on EndedByQuit = false
is_on EndedDown = false
is_on EndedClosed = false

-- how many have not
abbrev pub count_on : List Session → ℕ
count_on [] = 0
count_on (session ∷ sessions) = (if is_on session.standing then 1 else 0) + count_on sessions

-- a session that there is not, or that has ended, is not spoken to
abbrev pub session_fault : Option Session → Option TapeFault
session_fault None = Some NoSuchSession
session_fault (Some session) = if is_on session.standing then None else Some NoSuchSession

-- a call of a session that does not wait can't be given up
abbrev pub waiting_fault : Standing → Option TapeFault
waiting_fault (Hearing state) = Some BadLine
waiting_fault (Waiting state call) = None
waiting_fault EndedByQuit = Some NoSuchSession
waiting_fault EndedDown = Some NoSuchSession
waiting_fault EndedClosed = Some NoSuchSession

abbrev pub giving_fault : Option Session → Option TapeFault
giving_fault None = Some NoSuchSession
giving_fault (Some session) = waiting_fault session.standing

-- the plan has no node of this number
abbrev pub is_no_node : Plan → ℕ → Bool
is_no_node plan node = nat_eq node 0 || nat_lt plan.nodes node

-- a fault, where this is so
abbrev pub fault_if : Bool → TapeFault → Option TapeFault
fault_if so fault = if so then Some fault else None

-- a node that is to do something is up
abbrev pub work_fault : NodeLife → Option TapeFault
work_fault (Up boot) = None
work_fault Down = Some NodeDown
work_fault Lost = Some NodeLost

-- one that is to start is down
abbrev pub start_fault : NodeLife → Option TapeFault
start_fault (Up boot) = Some NodeUp
start_fault Down = None
start_fault Lost = Some NodeLost

-- and one that is to be lost is not lost yet
abbrev pub loss_fault : NodeLife → Option TapeFault
loss_fault (Up boot) = None
loss_fault Down = None
loss_fault Lost = Some NodeLost

-- Why an order that moves the cluster is refused, the first that applies. Whether a letter is in flight, a group is open, there is room for letters, or a number is
-- used up, the cluster alone can tell.
abbrev pub cluster_refusal : Plan → (ℕ → NodeLife) → ClusterOrder → Option TapeFault
cluster_refusal plan lives (Crash node) = or_else (fault_if (is_no_node plan node) NoSuchNode) (work_fault (lives node))
cluster_refusal plan lives (Start node) = or_else (fault_if (is_no_node plan node) NoSuchNode) (start_fault (lives node))
cluster_refusal plan lives (Lose node) = or_else (fault_if (is_no_node plan node) NoSuchNode) (loss_fault (lives node))
cluster_refusal plan lives (Post letter) = None
cluster_refusal plan lives (Again letter) = None
cluster_refusal plan lives (Drop letter) = None
cluster_refusal plan lives Flow = None
cluster_refusal plan lives (Push node) = fault_if (is_no_node plan node) NoSuchNode
cluster_refusal plan lives (Widen node user id to) =
    or_else (fault_if (not (is_user plan user)) BadLine)
    (or_else (fault_if (is_no_node plan node || is_no_node plan to) NoSuchNode) (work_fault (lives node)))
cluster_refusal plan lives (Group node) = or_else (fault_if (is_no_node plan node) NoSuchNode) (work_fault (lives node))
cluster_refusal plan lives (Conclude node) = or_else (fault_if (is_no_node plan node) NoSuchNode) (work_fault (lives node))
cluster_refusal plan lives (Regroup node) = or_else (fault_if (is_no_node plan node) NoSuchNode) (work_fault (lives node))
cluster_refusal plan lives (Report node) = fault_if (is_no_node plan node) NoSuchNode
cluster_refusal plan lives Settle = None
cluster_refusal plan lives (Maps user) = fault_if (not (is_user plan user)) BadLine
cluster_refusal plan lives (Tick seconds) = None
cluster_refusal plan lives Sum = None

-- why an order is refused after the acts so far, the first that applies
abbrev pub refusal : Plan → List Act → List Session → Order → Option TapeFault
refusal plan been sessions (Open protocol node) =
    or_else (fault_if (is_no_node plan node) NoSuchNode)
    (or_else (work_fault (life_after been node)) (fault_if (nat_le 256 (count_on sessions)) TooManySessions))
refusal plan been sessions (Say k text) = session_fault (session_at sessions k)
refusal plan been sessions (Feed k octets) = session_fault (session_at sessions k)
refusal plan been sessions (Close k) = session_fault (session_at sessions k)
refusal plan been sessions (GiveUp k) = giving_fault (session_at sessions k)
refusal plan been sessions (Order.Moves order) = cluster_refusal plan (life_after been) order
refusal plan been sessions End = None

-- The work on a line was begun after the acts so far: its order was accepted, and these acts were made, of which the first is the line's own.
pub record IsBegun (plan : Plan) (been : List Act) (old : List Session) (line : List ℕ) (acts : List Act) (outputs : List (List Entry)) (turn : Turn) (new : List Session) : Type 0 where
  pub order : Order
  pub spelled : tape_order line ≡ Some order
  pub accepted : refusal plan been old order ≡ None
  pub first : Act
  pub said : List Entry
  pub next : Turn
  pub mid : List Session
  pub starts : Starts plan been order old first next
  pub acted : Acted plan old first said mid
  pub more : List Act
  pub others : List (List Entry)
  pub goes : ActsGo plan next mid more others turn new
  pub acts_are : acts ≡ first ∷ more
  pub outputs_are : outputs ≡ said ∷ others

-- A line was handled: nothing of it is under way any more.
pub record IsHandled (plan : Plan) (been : List Act) (old : List Session) (line : List ℕ) (acts : List Act) (outputs : List (List Entry)) (new : List Session) : Type 0 where
  pub last : Turn
  pub begun : IsBegun plan been old line acts outputs last new
  pub done : IsDone last new

-- lines, one after another
abbrev pub AreHandled : Plan → List Act → List Session → List (List ℕ) → List (List Act) → List (List (List Entry)) → List Session → Type 0
AreHandled plan been old [] [] [] new = new ≡ old
AreHandled plan been old (line ∷ lines) (acts ∷ by_line) (outputs ∷ more) new =
    (mid : List Session) × IsHandled plan been old line acts outputs mid × AreHandled plan (been ++ acts) mid lines by_line more new
AreHandled plan been old lines by_line outputs new = ⊥

-- Why the work stopped: after a line, as the cluster denied the order of the next line, as the sink failed, or as memory ran out.
pub data Stop : Type 0 where
  BehindLine : Stop
  Denied : Stop
  SinkFailed : Stop
  OutOfMemory : Stop

-- the work did not stop between two lines: what a line writes may be missing
abbrev pub IsCutShort : Stop → Type 0
IsCutShort BehindLine = ⊥
IsCutShort Denied = ⊥
IsCutShort SinkFailed = ⊤
IsCutShort OutOfMemory = ⊤

-- what of the last act's lines may be missing
abbrev pub MayMiss : Stop → List Entry → Type 0
MayMiss BehindLine missing = ⊥
MayMiss Denied missing = ⊥
MayMiss SinkFailed missing = missing ≢ []
MayMiss OutOfMemory missing = ⊤

-- The work on a line stopped before it was done: of what its last act writes a prefix was written, and nothing was done after it.
pub record IsCutOff (plan : Plan) (been : List Act) (stop : Stop) (old : List Session) (line : List ℕ) (acts : List Act) (entries : List Entry) (turn : Turn) (new : List Session) : Type 0 where
  pub before : List (List Entry)
  pub says : List Entry
  pub begun : IsBegun plan been old line acts (before ++ says ∷ []) turn new
  pub front : List Entry
  pub missing : List Entry
  pub cut : says ≡ front ++ missing
  pub may : MayMiss stop missing
  pub written : entries ≡ all_of before ++ front

-- Where memory ran out, it may have been in a step that asked the session whose turn it was.
abbrev pub MayHaveAsked : Stop → Turn → List Session → List Made → Type 0
MayHaveAsked OutOfMemory turn sessions extra =
    (extra ≡ []) ⊎ ((from : ℕ) × (k : ℕ) × IsReadyToAsk turn sessions from × IsFirst Waits sessions from k × (extra ≡ Asks k ∷ []))
MayHaveAsked other turn sessions extra = extra ≡ []

-- a cluster always does so much as it is asked
abbrev pub IsAlwaysDone : ClusterOrder → Type 0
IsAlwaysDone (Crash node) = ⊤
IsAlwaysDone (Lose node) = ⊤
IsAlwaysDone (Maps user) = ⊤
IsAlwaysDone (Tick seconds) = ⊤
IsAlwaysDone Sum = ⊤
IsAlwaysDone order = ⊥

-- The step that a line begins with, where nothing may come of it: the cluster denies it, or memory runs out in it.
abbrev pub FirstStep : Order → List Session → Made → Type 0
FirstStep (Order.Close k) sessions step = Waits (session_at sessions k) × (step ≡ GivesUp k)
FirstStep (GiveUp k) sessions step = step ≡ GivesUp k
FirstStep (Order.Moves order) sessions step = (IsAlwaysDone order → ⊥) × (step ≡ Moves order)
FirstStep order sessions step = ⊥

-- a stop at which nothing came of a step
abbrev pub IsInVain : Stop → Type 0
IsInVain BehindLine = ⊥
IsInVain Denied = ⊤
IsInVain SinkFailed = ⊥
IsInVain OutOfMemory = ⊤

-- The order of a line was accepted, its first step was made, and nothing came of it: nothing of the line is handled.
pub record IsTried (plan : Plan) (been : List Act) (stop : Stop) (sessions : List Session) (line : List ℕ) (entries : List Entry) (extra : List Made) : Type 0 where
  pub order : Order
  pub spelled : tape_order line ≡ Some order
  pub accepted : refusal plan been sessions order ≡ None
  pub step : Made
  pub first : FirstStep order sessions step
  pub extra_is : extra ≡ step ∷ []
  pub in_vain : IsInVain stop
  pub none : entries ≡ []

-- nothing more was done; or nothing came of the first step of one more line; or one more line was begun
abbrev pub IsLeftOff : Plan → List Act → Stop → List Session → List (List ℕ) → List (List Act) → List Entry → List Made → List Session → Type 0
IsLeftOff plan been stop old [] [] entries extra new = (entries ≡ []) × (extra ≡ []) × (new ≡ old) × (stop ≢ SinkFailed) × (stop ≢ Denied)
IsLeftOff plan been stop old (line ∷ []) ([] ∷ []) entries extra new = IsTried plan been stop old line entries extra × (new ≡ old)
IsLeftOff plan been stop old (line ∷ []) ((act ∷ acts) ∷ []) entries extra new =
    (turn : Turn) × IsCutOff plan been stop old line (act ∷ acts) entries turn new × MayHaveAsked stop turn new extra
IsLeftOff plan been stop old lines by_line entries extra new = ⊥

-- These run lines were handled, and in the midst of this one, or none, the work stopped; these are the acts of each, the steps of all, and what was written.
pub record IsDriven (plan : Plan) (stop : Stop) (handled left : List (List ℕ)) (acts others : List (List Act)) (made : List Made) (entries : List Entry) (last : List Session) : Type 0 where
  pub outputs : List (List (List Entry))
  pub mid : List Session
  pub are : AreHandled plan [] [] handled acts outputs mid
  pub tail : List Entry
  pub extra : List Made
  pub off : IsLeftOff plan (flat_map (λ a. a) acts) stop mid left others tail extra last
  pub written : entries ≡ flat_map all_of outputs ++ tail
  pub steps : made ≡ flat_map made_by (flat_map (λ a. a) (acts ++ others)) ++ extra
