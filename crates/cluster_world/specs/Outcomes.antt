-- The steps that the lines of a tape lead to in a world, one after another, and what came of each. Of them what a cluster owes is read off: what it was asked, and
-- what it answered.
use Rattle.std.specs.Prelude.{◌≡◌, ℕ, true, false, not, nat_eq, List, [], ◌∷◌, ◌++◌, filter, ⊤, Option, Some, None, Result, Ok, Err}
use Rattle.mail_model.specs.Tape.{ClusterOrder}
use Rattle.mail_model.specs.Tape.{ClusterOrder as order}
use Rattle.session_model.specs.Sums.{BookSum, sum_of}
use Rattle.object_model.specs.Letters.{Number}
use Rattle.object_model.specs.Sets.{nodes_in}
use Rattle.session_model.specs.Calls.{Call, Answer, IsAnswerTo}
use Rattle.session_model.specs.Calls.Answer.{Failed}
use Rattle.session_model.specs.Logs.{Asked, Answered}
use Rattle.session_model.specs.Run.{Made}
use Rattle.object_model.specs.Lists.{Among}
use Rattle.call_tickets.specs.Seen.{call_seen, answer_seen}
use Rattle.call_tickets.specs.declared.call.Call.{Call as WorldCall}
use Rattle.call_tickets.specs.declared.call.Call.TheVariants.{Leave}
use Rattle.call_tickets.specs.declared.answer.Answer.{Answer as WorldAnswer}
use Rattle.call_tickets.specs.declared.answer.Ask.TheVariants as ask
use Rattle.node_store.specs.Disks.{View}
use Rattle.cluster_world.specs.Lives.{nodes_up}
use Rattle.cluster_world.specs.Made.{StepMade, MakesSteps, MakesOne, PostsAll, PushesAll, ReportsAll}
use Rattle.cluster_world.specs.Regroups.{MakesRegroup}
use Rattle.cluster_world.specs.Settling.{MakesSettle, maps_in}
use Rattle.cluster_world.specs.Steps.{IsStep}
use Rattle.cluster_world.specs.Worlds.{state_of, plan_of, life_of, book_of}
use Rattle.cluster_world.specs.declared.world.World.{World}
use Rattle.cluster_world.specs.declared.step.Step.{Step}
use Rattle.cluster_world.specs.declared.step.Step.TheVariants as step
use Rattle.cluster_world.specs.declared.step.Said.{Said}
use Rattle.cluster_world.specs.declared.step.Said.TheVariants as said
use Rattle.cluster_world.specs.declared.fault.StepFault.{StepFault}
use Rattle.cluster_world.specs.declared.fault.StepFault.TheVariants as fault
use Rattle.cluster_world.specs.declared.regrouping.Regroup.{Regroup}
use Rattle.cluster_world.specs.declared.settling.Settle.{Settle}

-- what is told of a map: the manager, and the nodes that it names in rising order
abbrev pub map_seen : Option (ℕ × ℕ) → Option (ℕ × List ℕ)
map_seen None = None
map_seen (Some told) = Some (told.0, nodes_in told.1 16)

-- the call of the world is the user's leave
abbrev pub IsLeave : List ℕ → WorldCall → Type 0
IsLeave user (Leave name login manager) = name ≡ user
IsLeave user begun = ⊥

-- What came of a step that session k led to, or of a run line that moves the cluster.
pub data Outcome : Type 0 where
  -- its call has begun at this node, and has this ticket
  Began : (k node : ℕ) (asked : Call) (ticket : Number) → Outcome
  -- its call was refused, or memory ran out before anything was done
  Refused : (k node : ℕ) (asked : Call) → Outcome
  -- the disk of the node failed in its call, and the node went down
  Fell : (k node : ℕ) (asked : Call) → Outcome
  -- the node went down in its call as memory ran out
  Broke : (k node : ℕ) (asked : Call) → Outcome
  -- its ticket was asked for, and the call was answered so
  Answers : (k : ℕ) (asked : Call) (ticket : Number) (given : Answer) → Outcome
  -- its ticket was asked for, and it still waits
  StillPending : (k : ℕ) (ticket : Number) → Outcome
  -- its ticket was asked for in vain: memory ran out
  Unanswered : (k : ℕ) (asked : Call) (ticket : Number) → Outcome
  -- its call was given up, and it is told so; or it is closed
  GaveUp : (k : ℕ) (asked : Call) (ticket : Number) → Outcome
  Abandoned : (k : ℕ) (asked : Call) (ticket : Number) → Outcome
  -- its call was to be given up, and that was refused
  KeptUp : (k : ℕ) (ticket : Number) (why : StepFault) → Outcome
  -- it has left its node, or was refused
  Left : (k node : ℕ) (user : List ℕ) → Outcome
  -- these steps were made for a run line, where the book had so many entries and these nodes were up
  Moved : (order : ClusterOrder) (steps : List StepMade) (sum : BookSum) (up : List ℕ) → Outcome
  -- the cluster was to settle: this came of it, and these steps were made
  Settling : (result : Result Settle StepFault) (steps : List StepMade) → Outcome
  -- the world was asked for a user's map, and told this: the manager and the set that it names, or nothing
  Mapped : (user : List ℕ) (told : Option (ℕ × ℕ)) → Outcome

-- the outcome of a run line for which these steps were made in this world
abbrev pub moved_in : {D : Type 0} → World D → ClusterOrder → List StepMade → Outcome
moved_in world order steps = Moved order steps (sum_of (book_of world)) (nodes_up (life_of world) (plan_of world).nodes)

-- what was made of the cluster
abbrev pub made_of : Outcome → Made
made_of (Began k node asked ticket) = Made.Begins k asked
made_of (Refused k node asked) = Made.Begins k asked
made_of (Fell k node asked) = Made.Begins k asked
made_of (Broke k node asked) = Made.Begins k asked
made_of (Answers k asked ticket given) = Made.Asks k
made_of (StillPending k ticket) = Made.Asks k
made_of (Unanswered k asked ticket) = Made.Asks k
made_of (GaveUp k asked ticket) = Made.GivesUp k
made_of (Abandoned k asked ticket) = Made.GivesUp k
made_of (KeptUp k ticket why) = Made.GivesUp k
made_of (Left k node user) = Made.Leaves k user
made_of (Moved order steps sum up) = Made.Moves order
made_of (Settling result steps) = Made.Moves order.Settle
made_of (Mapped user told) = Made.Moves (order.Maps user)

-- What it was asked. A call that was refused is none: nothing came of it.
abbrev pub asked_by_outcome : Outcome → List Asked
asked_by_outcome (Began k node asked ticket) = record { session = k; call = asked } ∷ []
asked_by_outcome (Fell k node asked) = record { session = k; call = asked } ∷ []
asked_by_outcome (Broke k node asked) = record { session = k; call = asked } ∷ []
asked_by_outcome outcome = []

-- and what it answered; a call that was given up has failed
abbrev pub answered_by_outcome : Outcome → List Answered
answered_by_outcome (Answers k asked ticket given) = record { session = k; call = asked; answer = given } ∷ []
answered_by_outcome (GaveUp k asked ticket) = record { session = k; call = asked; answer = Failed } ∷ []
answered_by_outcome outcome = []

-- a call that has begun and was not answered yet: its ticket, and whose it is
pub record Awaited : Type 0 where
  pub ticket : Number
  pub session : ℕ
  pub call : Call

-- those of other sessions than this
abbrev pub without_session : ℕ → List Awaited → List Awaited
without_session k awaited = filter (λ one. not (nat_eq one.session k)) awaited

-- those at other nodes than this
abbrev pub awaited_elsewhere : ℕ → List Awaited → List Awaited
awaited_elsewhere n awaited = filter (λ one. not (nat_eq one.ticket.node n)) awaited

-- the node that goes down in a step, or is lost
abbrev pub fallen_in : Step → Result Said StepFault → Option ℕ
fallen_in step (Ok (said.Faulted node)) = Some node
fallen_in (step.Crash node) (Ok said.Done) = Some node
fallen_in (step.Lose node) (Ok said.Done) = Some node
fallen_in step (Err (fault.NoMemory (Some node))) = Some node
fallen_in step result = None

-- what is still awaited once a node went down, if one did
abbrev pub left_after : Option ℕ → List Awaited → List Awaited
left_after None awaited = awaited
left_after (Some node) awaited = awaited_elsewhere node awaited

-- and after some steps
abbrev pub left_after_all : List StepMade → List Awaited → List Awaited
left_after_all [] awaited = awaited
left_after_all (one ∷ more) awaited = left_after_all more (left_after (fallen_in one.step one.result) awaited)

-- The steps that a run line asks for were made. What comes of a settle, and what is told of a map, can't be read off steps: those lines have outcomes of their own.
abbrev pub MakesOrder : {D : Type 0} → View D → ClusterOrder → List StepMade → World D → World D → Type 0
MakesOrder on (order.Crash node) steps old new = MakesOne on (step.Crash node) steps old new
MakesOrder on (order.Start node) steps old new = MakesOne on (step.Start node) steps old new
MakesOrder on (order.Lose node) steps old new = MakesOne on (step.Lose node) steps old new
MakesOrder on (order.Post letter) steps old new = MakesOne on (step.Post letter false) steps old new
MakesOrder on (order.Again letter) steps old new = MakesOne on (step.Post letter true) steps old new
MakesOrder on (order.Drop letter) steps old new = MakesOne on (step.Drop letter) steps old new
MakesOrder on order.Flow steps old new = PostsAll on steps old new
MakesOrder on (order.Push node) steps old new = PushesAll (plan_of old).nodes (life_of old node) node steps × MakesSteps on steps old new
MakesOrder on (order.Widen at user id to) steps old new = MakesOne on (step.Widen at user id to) steps old new
MakesOrder on (order.Tick seconds) steps old new = MakesOne on (step.Tick seconds) steps old new
MakesOrder on (order.Group node) steps old new = MakesOne on (step.Group node) steps old new
MakesOrder on (order.Conclude node) steps old new = MakesOne on (step.Conclude node) steps old new
MakesOrder on (order.Regroup node) steps old new = (result : Result Regroup StepFault) × MakesRegroup on node result steps old new
MakesOrder on (order.Report node) steps old new = ReportsAll old node steps × MakesSteps on steps old new
MakesOrder on order.Sum steps old new = (steps ≡ []) × (new ≡ old)
MakesOrder on order.Settle steps old new = ⊥
MakesOrder on (order.Maps user) steps old new = ⊥

-- a refusal after which the world is as it was
abbrev pub IsRefusal : StepFault → Type 0
IsRefusal (fault.NoMemory (Some failed)) = ⊥
IsRefusal why = ⊤

-- what an ask said that leaves the session with no answer: none that fits its call
abbrev pub LeavesUnanswered : Call → Result Said StepFault → Type 0
LeavesUnanswered asked (Ok (said.Asked (ask.Done own))) = IsAnswerTo asked (answer_seen own) → ⊥
LeavesUnanswered asked (Ok (said.Asked (ask.Pending got wanted))) = ⊥
LeavesUnanswered asked result = ⊤

-- the world made a step of which this came, and these calls are then awaited
abbrev pub Came : {D : Type 0} → View D → Outcome → List Awaited → World D → List Awaited → World D → Type 0
Came on (Began k node asked ticket) awaited old left new =
    (begun : WorldCall) × (stirs : ℕ) × (call_seen begun ≡ Some asked) × IsStep on (Ok (said.Begun ticket stirs)) (step.Begin node begun) old new
    × (left ≡ awaited ++ record { ticket = ticket; session = k; call = asked } ∷ [])
Came on (Refused k node asked) awaited old left new =
    (begun : WorldCall) × (why : StepFault) × (call_seen begun ≡ Some asked) × IsRefusal why × IsStep on (Err why) (step.Begin node begun) old new × (left ≡ awaited)
Came on (Fell k node asked) awaited old left new =
    (begun : WorldCall) × (call_seen begun ≡ Some asked) × IsStep on (Ok (said.Faulted node)) (step.Begin node begun) old new × (left ≡ awaited_elsewhere node awaited)
Came on (Broke k node asked) awaited old left new =
    (begun : WorldCall) × (failed : ℕ) × (call_seen begun ≡ Some asked) × IsStep on (Err (fault.NoMemory (Some failed))) (step.Begin node begun) old new
    × (left ≡ awaited_elsewhere failed awaited)
Came on (Answers k asked ticket given) awaited old left new =
    (own : WorldAnswer) × (given ≡ answer_seen own) × Among (record { ticket = ticket; session = k; call = asked }) awaited
    × IsStep on (Ok (said.Asked (ask.Done own))) (step.Ask ticket) old new × (left ≡ without_session k awaited)
Came on (StillPending k ticket) awaited old left new =
    (asked : Call) × (got : ℕ) × (wanted : ℕ) × Among (record { ticket = ticket; session = k; call = asked }) awaited
    × IsStep on (Ok (said.Asked (ask.Pending got wanted))) (step.Ask ticket) old new × (left ≡ awaited)
Came on (Unanswered k asked ticket) awaited old left new =
    (result : Result Said StepFault) × Among (record { ticket = ticket; session = k; call = asked }) awaited × LeavesUnanswered asked result
    × IsStep on result (step.Ask ticket) old new × (left ≡ left_after (fallen_in (step.Ask ticket) result) awaited)
Came on (GaveUp k asked ticket) awaited old left new =
    Among (record { ticket = ticket; session = k; call = asked }) awaited × IsStep on (Ok said.Done) (step.GiveUp ticket) old new × (left ≡ without_session k awaited)
Came on (Abandoned k asked ticket) awaited old left new =
    Among (record { ticket = ticket; session = k; call = asked }) awaited × IsStep on (Ok said.Done) (step.GiveUp ticket) old new × (left ≡ without_session k awaited)
Came on (KeptUp k ticket why) awaited old left new =
    (asked : Call) × Among (record { ticket = ticket; session = k; call = asked }) awaited × IsStep on (Err why) (step.GiveUp ticket) old new
    × (left ≡ left_after (fallen_in (step.GiveUp ticket) (Err why)) awaited)
Came on (Left k node user) awaited old left new =
    (begun : WorldCall) × (result : Result Said StepFault) × IsLeave user begun × IsStep on result (step.Begin node begun) old new
    × (left ≡ left_after (fallen_in (step.Begin node begun) result) awaited)
Came on (Moved order steps sum up) awaited old left new =
    MakesOrder on order steps old new × (left ≡ left_after_all steps awaited) × (sum ≡ sum_of (book_of old)) × (up ≡ nodes_up (life_of old) (plan_of old).nodes)
Came on (Settling result steps) awaited old left new =
    (makes : MakesSettle on result old new) × (makes.steps ≡ steps) × (left ≡ left_after_all steps awaited)
Came on (Mapped user told) awaited old left new = (told ≡ maps_in (state_of old) user) × (left ≡ awaited) × (new ≡ old)

-- the world made these steps, one after another, and no others
abbrev pub Makes : {D : Type 0} → View D → List Outcome → List Awaited → World D → List Awaited → World D → Type 0
Makes on [] awaited old left new = (left ≡ awaited) × (new ≡ old)
Makes {D} on (outcome ∷ more) awaited old left new =
    (between : List Awaited) × (mid : World D) × Came on outcome awaited old between mid × Makes on more between mid left new
