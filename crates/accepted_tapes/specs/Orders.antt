-- The steps of the machine that a run line asks for, on disks that tell what they hold.
use Rattle.std.specs.Prelude.{◌≡◌, ℕ, zero, suc, ◌+◌, Bool, true, false, nat_eq, List, [], ◌∷◌, ◌++◌, MatchBool, ◌⊎◌, ⊤, Option, Some, None, if◌then◌else◌}
use Rattle.mail_model.specs.Plan.{Plan}
use Rattle.mail_model.specs.Record.{Record}
use Rattle.mail_model.specs.Tape.{ClusterOrder}
use Rattle.mail_model.specs.Tape.{ClusterOrder as order}
use Rattle.session_model.specs.Events.{ClusterEvent}
use Rattle.session_model.specs.Events.ClusterEvent.{HasFaulted}
use Rattle.cluster_model.specs.Room.{Flight}
use Rattle.cluster_model.specs.Steps.Step.{Post, DropLetter, PushTo, Widen, Crash, Start, Lose, Tick}
use Rattle.cluster_model.specs.Steps.Said.{Faulted}
use Rattle.whole_world.specs.Steps.{Step, StepFault, StepOutcome}
use Rattle.whole_world.specs.Steps.Step.{OfMessages, OpenGroup, ConcludeGroup, ReportTo}
use Rattle.whole_world.specs.Steps.Said.{Told}
use Rattle.whole_world.specs.Steps.StepOutcome.{Says, Refused}
use Rattle.whole_world.specs.Makes.{MadeStep}
use Rattle.joint_model.specs.Joint.{Node}
use Rattle.joint_world.specs.World.{World, IsUp}
use Rattle.joint_world.specs.Makes.{MakesStep, MakesAll}

-- the step failed: the disk of its node did, or it was refused, or memory ran out
abbrev pub has_failed : StepOutcome → Bool
has_failed (Says (Told (Faulted node))) = true
has_failed (Says said) = false
has_failed outcome = true

-- this one step was made
abbrev pub StepsOnce : Plan → Step → List MadeStep → World → World → Type 0
StepsOnce plan step steps old new = (outcome : StepOutcome) × (steps ≡ record { step = step; outcome = outcome } ∷ []) × MakesStep plan true old step outcome new

-- the lowest number in flight, where letters stand in order of number
abbrev pub lowest : List Flight → Option ℕ
lowest [] = None
lowest (flight ∷ flying) = Some flight.number

-- The letters in flight were posted, the lowest number first, until none was left or a step failed.
abbrev pub PostsAll : Plan → List MadeStep → World → World → Type 0
PostsAll plan [] old new = (old.flying ≡ []) × (new ≡ old)
PostsAll plan (one ∷ more) old new =
    (letter : ℕ) × (mid : World) × (lowest old.flying ≡ Some letter) × (one.step ≡ OfMessages (Post letter false)) × MakesStep plan true old one.step one.outcome mid
    × MatchBool (has_failed one.outcome) ((more ≡ []) × (new ≡ mid)) (PostsAll plan more mid new)

-- so many nodes from this number on, but for one
abbrev pub nodes_but : ℕ → ℕ → ℕ → List ℕ
nodes_but node zero from = []
nodes_but node (suc left) from = if nat_eq from node then nodes_but node left (from + 1) else from ∷ nodes_but node left (from + 1)

-- a node pushed to these, one after another, until a step failed
abbrev pub PushesTo : ℕ → List ℕ → List MadeStep → Type 0
PushesTo node [] steps = steps ≡ []
PushesTo node (to ∷ others) [] = ⊥
PushesTo node (to ∷ others) (one ∷ more) = (one.step ≡ OfMessages (PushTo node to)) × MatchBool (has_failed one.outcome) (more ≡ []) (PushesTo node others more)

-- the node is up
abbrev pub Works : World → ℕ → Type 0
Works w n = (node : Node) × (disk : List Record) × IsUp w n node disk

-- A node that is up pushed to each other, in rising order, until a step failed; one that is not did nothing.
pub record PushesAll (nodes : ℕ) (w : World) (node : ℕ) (steps : List MadeStep) : Type 0 where
  pub up : Works w node → PushesTo node (nodes_but node nodes 1) steps
  pub else_none : (Works w node → ⊥) → steps ≡ []

-- each step is so
abbrev pub AreOf : (MadeStep → Type 0) → List MadeStep → Type 0
AreOf is_so [] = ⊤
AreOf is_so (one ∷ more) = is_so one × AreOf is_so more

-- the step posts a letter that does not stay in flight
abbrev pub IsPost : MadeStep → Type 0
IsPost one = (letter : ℕ) × (one.step ≡ OfMessages (Post letter false))

-- The step belongs to a regroup of this node: it opens or concludes its group, or posts a letter.
abbrev pub IsOfRegroup : ℕ → MadeStep → Type 0
IsOfRegroup node one = (one.step ≡ OpenGroup node) ⊎ (one.step ≡ ConcludeGroup node) ⊎ IsPost one

abbrev pub AreOfRegroup : ℕ → List MadeStep → Type 0
AreOfRegroup node steps = AreOf (IsOfRegroup node) steps

-- A node that is up reported to others; one that is not did nothing.
pub record ReportsAll (w : World) (node : ℕ) (steps : List MadeStep) : Type 0 where
  pub are : AreOf (λ one. (to : ℕ) × (one.step ≡ ReportTo node to)) steps
  pub else_none : (Works w node → ⊥) → steps ≡ []

-- The step belongs to a settle: a letter is posted, or a node pushes to another, or reports to one.
abbrev pub IsOfSettle : MadeStep → Type 0
IsOfSettle one = IsPost one ⊎ ((from : ℕ) × (to : ℕ) × (one.step ≡ OfMessages (PushTo from to))) ⊎ ((from : ℕ) × (to : ℕ) × (one.step ≡ ReportTo from to))

-- The steps that a run line asks for were made.
abbrev pub MakesOrder : Plan → ClusterOrder → List MadeStep → World → World → Type 0
MakesOrder plan (order.Crash node) steps old new = StepsOnce plan (OfMessages (Crash node)) steps old new
MakesOrder plan (order.Start node) steps old new = StepsOnce plan (OfMessages (Start node)) steps old new
MakesOrder plan (order.Lose node) steps old new = StepsOnce plan (OfMessages (Lose node)) steps old new
MakesOrder plan (order.Post letter) steps old new = StepsOnce plan (OfMessages (Post letter false)) steps old new
MakesOrder plan (order.Again letter) steps old new = StepsOnce plan (OfMessages (Post letter true)) steps old new
MakesOrder plan (order.Drop letter) steps old new = StepsOnce plan (OfMessages (DropLetter letter)) steps old new
MakesOrder plan order.Flow steps old new = PostsAll plan steps old new
MakesOrder plan (order.Push node) steps old new = PushesAll plan.nodes old node steps × MakesAll plan true old steps new
MakesOrder plan (order.Widen at user id to) steps old new = StepsOnce plan (OfMessages (Widen at user id to)) steps old new
MakesOrder plan (order.Group node) steps old new = StepsOnce plan (OpenGroup node) steps old new
MakesOrder plan (order.Conclude node) steps old new = StepsOnce plan (ConcludeGroup node) steps old new
MakesOrder plan (order.Regroup node) steps old new = AreOfRegroup node steps × MakesAll plan true old steps new
MakesOrder plan (order.Report node) steps old new = ReportsAll old node steps × MakesAll plan true old steps new
MakesOrder plan order.Settle steps old new = AreOf IsOfSettle steps × MakesAll plan true old steps new
MakesOrder plan (order.Maps user) steps old new = (steps ≡ []) × (new ≡ old)
MakesOrder plan (order.Tick seconds) steps old new = StepsOnce plan (OfMessages (Tick seconds)) steps old new
MakesOrder plan order.Sum steps old new = (steps ≡ []) × (new ≡ old)

-- this is what came of the last of them
abbrev pub EndsIn : StepOutcome → List MadeStep → Type 0
EndsIn outcome steps = (before : List MadeStep) × (one : MadeStep) × (steps ≡ before ++ one ∷ []) × (one.outcome ≡ outcome)

-- The last of them was refused so; or a regroup was, before its first step.
abbrev pub AreDenied : ClusterOrder → StepFault → List MadeStep → Type 0
AreDenied (order.Regroup node) why steps = EndsIn (Refused why) steps ⊎ (steps ≡ [])
AreDenied order why steps = EndsIn (Refused why) steps

-- none of them failed
abbrev pub WentWell : List MadeStep → Type 0
WentWell [] = ⊤
WentWell (one ∷ more) = (has_failed one.outcome ≡ false) × WentWell more

-- that the disk of a node failed in the last of them is told, and nothing else where one failed
abbrev pub WentSo : ClusterEvent → List MadeStep → Type 0
WentSo (HasFaulted node) steps = EndsIn (Says (Told (Faulted node))) steps
WentSo event steps = WentWell steps
