-- The steps that a cluster makes, one after another, and what came of each for the session that led to it, where one did.
use Rattle.std.specs.Prelude.{◌≡◌, ℕ, Bool, List, [], ◌∷◌, ◌++◌, ⊤, Some, None}
use Rattle.mail_model.specs.Plan.{Plan}
use Rattle.mail_model.specs.Tape.Protocol.{Smtp}
use Rattle.mail_model.specs.Stored.{opened, kind_at, IsOnClock}
use Rattle.object_model.specs.Lists.{Among}
use Rattle.object_model.specs.Letters.{Number}
use Rattle.session_model.specs.Calls.{Call, Answer}
use Rattle.session_model.specs.Calls.Call.{Deliver, Login, Fetch, Strike}
use Rattle.session_model.specs.Calls.Answer.{Failed}
use Rattle.session_model.specs.Logs.{Asked, Answered}
use Rattle.session_model.specs.SoundMails.{IsSoundMail}
use Rattle.cluster_model.specs.Progress.{NodeAnswer}
use Rattle.cluster_model.specs.Progress.Ask.{Done}
use Rattle.cluster_model.specs.Steps.{NodeCall}
use Rattle.cluster_model.specs.Steps.NodeCall.{Leave}
use Rattle.cluster_model.specs.Steps as mail
use Rattle.cluster_model.specs.Steps.Step.{Begin, AskFor, GiveUp, Tick}
use Rattle.cluster_model.specs.Steps.Said.{Begun, Asked as AskedFor, Finished, Faulted}
use Rattle.whole_world.specs.Steps.{Step, StepOutcome}
use Rattle.whole_world.specs.Steps.Step.{OfMessages}
use Rattle.whole_world.specs.Steps.Said.{Told}
use Rattle.whole_world.specs.Steps.StepOutcome.{Says}
use Rattle.whole_world.specs.Seen.{step_seen, outcome_seen}
use Rattle.joint_world.specs.World.{World}
use Rattle.joint_world.specs.Makes.{MakesStep}
use Rattle.cluster_owes.specs.Seen.{call_made, answer_told}

-- What came of a step.
pub data Outcome : Type 0 where
  -- a call of session k has begun at this node, and has this ticket
  Began : (k node : ℕ) (asked : Call) (ticket : Number) → Outcome
  -- the node went down as it began a call of session k: its disk failed, or memory ran out
  Fell : (k node : ℕ) (asked : Call) → Outcome
  -- the ticket of a call of session k was asked for, and the call was answered so
  Answers : (k : ℕ) (asked : Call) (ticket : Number) (given : Answer) → Outcome
  -- a call of session k was given up
  GaveUp : (k : ℕ) (asked : Call) (ticket : Number) → Outcome
  -- the clock was set
  Ticked : (seconds : ℕ) → Outcome
  -- A step of which no session hears: a call was refused or left, a ticket still waits, or the cluster was moved.
  Other : (step : Step) (outcome : StepOutcome) → Outcome

-- what the cluster was asked; a call that was refused is none, since nothing came of it
abbrev pub asked_by_outcome : Outcome → List Asked
asked_by_outcome (Began k node asked ticket) = record { session = k; call = asked } ∷ []
asked_by_outcome (Fell k node asked) = record { session = k; call = asked } ∷ []
asked_by_outcome outcome = []

-- and what it answered; a call that was given up has failed
abbrev pub answered_by_outcome : Outcome → List Answered
answered_by_outcome (Answers k asked ticket given) = record { session = k; call = asked; answer = given } ∷ []
answered_by_outcome (GaveUp k asked ticket) = record { session = k; call = asked; answer = Failed } ∷ []
answered_by_outcome outcome = []

-- a call that has begun: its ticket, and whose it is
pub record BegunCall : Type 0 where
  pub ticket : Number
  pub session : ℕ
  pub call : Call

abbrev pub begun_by_outcome : Outcome → List BegunCall
begun_by_outcome (Began k node asked ticket) = record { ticket = ticket; session = k; call = asked } ∷ []
begun_by_outcome outcome = []

-- a node went down in the step
abbrev pub IsFall : mail.StepOutcome → Type 0
IsFall (mail.StepOutcome.Says (Faulted node)) = ⊤
IsFall (mail.StepOutcome.NoMemory (Some node)) = ⊤
IsFall outcome = ⊥

-- no call begins in the step but a Leave, no ticket is answered, and the clock is not set
abbrev pub IsIdleStep : mail.Step → mail.StepOutcome → Type 0
IsIdleStep (Begin node (Leave user login manager)) outcome = ⊤
IsIdleStep (Begin node call) (mail.StepOutcome.Refused fault) = ⊤
IsIdleStep (Begin node call) (mail.StepOutcome.NoMemory None) = ⊤
IsIdleStep (Begin node call) outcome = ⊥
IsIdleStep (AskFor ticket) (mail.StepOutcome.Says (AskedFor (Done answer))) = ⊥
IsIdleStep (Tick seconds) (mail.StepOutcome.Says said) = ⊥
IsIdleStep step outcome = ⊤

-- the cluster made a step of which this came, where these calls had begun
abbrev pub Came : Plan → Bool → Outcome → List BegunCall → World → World → Type 0
Came plan tells (Began k node asked ticket) begun old new =
    (call : NodeCall) × (call_made call ≡ Some asked) × MakesStep plan tells old (OfMessages (Begin node call)) (Says (Told (Begun ticket))) new
Came plan tells (Fell k node asked) begun old new =
    (call : NodeCall) × (outcome : StepOutcome) × (call_made call ≡ Some asked) × IsFall (outcome_seen outcome) × MakesStep plan tells old (OfMessages (Begin node call)) outcome new
Came plan tells (Answers k asked ticket given) begun old new =
    (own : NodeAnswer) × (given ≡ answer_told own) × Among (record { ticket = ticket; session = k; call = asked }) begun
    × MakesStep plan tells old (OfMessages (AskFor ticket)) (Says (Told (AskedFor (Done own)))) new
Came plan tells (GaveUp k asked ticket) begun old new = MakesStep plan tells old (OfMessages (GiveUp ticket)) (Says (Told Finished)) new
Came plan tells (Ticked seconds) begun old new = MakesStep plan tells old (OfMessages (Tick seconds)) (Says (Told Finished)) new
Came plan tells (Other step outcome) begun old new = IsIdleStep (step_seen step) (outcome_seen outcome) × MakesStep plan tells old step outcome new

-- it made these, one after another, and no others
abbrev pub Makes : Plan → Bool → List Outcome → List BegunCall → World → World → Type 0
Makes plan tells [] begun old new = new ≡ old
Makes plan tells (outcome ∷ more) begun old new = (mid : World) × Came plan tells outcome begun old mid × Makes plan tells more (begun ++ begun_by_outcome outcome) mid new

-- a session of the node that takes mail asked for each message
abbrev pub IsTakenAt : List (List ℕ) → ℕ → ℕ → Call → Type 0
IsTakenAt lines k node (Deliver mail) = kind_at (opened lines) k ≡ Some (Smtp, node)
IsTakenAt lines k node (Login user given) = ⊤
IsTakenAt lines k node (Fetch user id) = ⊤
IsTakenAt lines k node (Strike user ids) = ⊤

-- each call is one that a session of its node makes, and the clock is set by a line
abbrev pub IsOfSession : List (List ℕ) → Outcome → Type 0
IsOfSession lines (Began k node asked ticket) = IsSoundMail asked × IsTakenAt lines k node asked
IsOfSession lines (Fell k node asked) = IsSoundMail asked × IsTakenAt lines k node asked
IsOfSession lines (Ticked seconds) = IsOnClock lines seconds
IsOfSession lines outcome = ⊤

abbrev pub AreOfSessions : List (List ℕ) → List Outcome → Type 0
AreOfSessions lines [] = ⊤
AreOfSessions lines (outcome ∷ more) = IsOfSession lines outcome × AreOfSessions lines more
