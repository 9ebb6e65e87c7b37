-- What holds of a cluster whatever steps it makes.
use Rattle.std.specs.Prelude.{◌≡◌, ◌≤◌, ℕ, Bool, true, List, [], flat_map, Option}
use Rattle.mail_model.specs.Plan.{Plan}
use Rattle.mail_model.specs.Record.{Record}
use Rattle.session_model.specs.Copies.{AreDisks}
use Rattle.session_model.specs.Owes.{Owes}
use Rattle.object_model.specs.Lists.{Among}
use Rattle.object_model.specs.Letters.{Number, MapRow}
use Rattle.session_model.specs.Calls.{Call, Answer, IsAnswerTo}
use Rattle.cluster_model.specs.Starts.{first_membership}
use Rattle.cluster_model.specs.Progress.Ask.{Pending}
use Rattle.cluster_model.specs.Steps.Step.{AskFor}
use Rattle.cluster_model.specs.Steps.Said.{Asked as AskedFor}
use Rattle.maps_model.specs.Words.{ManagersAreMembers}
use Rattle.whole_world.specs.Steps.Step.{OfMessages}
use Rattle.whole_world.specs.Steps.Said.{Told}
use Rattle.whole_world.specs.Steps.StepOutcome.{Says}
use Rattle.joint_world.specs.World.{World, mail_world_of}
use Rattle.joint_world.specs.First.{first_world}
use Rattle.cluster_owes.specs.Outcomes.{Outcome, Makes, AreOfSessions, asked_by_outcome, answered_by_outcome}
use Rattle.cluster_owes.specs.Outcomes.Outcome.{Answers, Other}
use Rattle.cluster_owes.specs.Held.{AreHeld, AreCounted, filed_on}

-- From its opening, where members alone manage users, a cluster makes steps, in whatever order its calls begin and are asked for, whatever becomes of its letters and of its nodes. Whatever
-- its stores then turn out to hold of what was pending: it owes of its calls what sessions are promised, and has it.
abbrev pub ClusterOwes : Type 0
ClusterOwes = (plan : Plan) (tells : Bool) (map : List MapRow) (lines : List (List ℕ)) (stores : List (Option (List ℕ))) (disks : List (List Record))
    (outcomes : List Outcome) (last : World) → 1 ≤ plan.nodes → plan.nodes ≤ 64 → ManagersAreMembers (first_membership plan.nodes map)
    → Makes plan tells outcomes [] (first_world plan.nodes map) last → AreOfSessions lines outcomes
    → AreHeld (mail_world_of last).slots disks → AreDisks 1 stores disks → (tells ≡ true → AreCounted disks)
    → Owes plan tells lines stores disks (filed_on disks) (flat_map asked_by_outcome outcomes) (flat_map answered_by_outcome outcomes) last.book

-- And each call that was answered was answered by an answer of its kind.
abbrev pub AnswersFit : Type 0
AnswersFit = (plan : Plan) (tells : Bool) (map : List MapRow) (lines : List (List ℕ)) (outcomes : List Outcome) (last : World)
    → 1 ≤ plan.nodes → plan.nodes ≤ 64 → ManagersAreMembers (first_membership plan.nodes map) → Makes plan tells outcomes [] (first_world plan.nodes map) last
    → AreOfSessions lines outcomes → (k : ℕ) (asked : Call) (ticket : Number) (given : Answer) → Among (Answers k asked ticket given) outcomes → IsAnswerTo asked given

-- In a plan of one node no call that has begun ever waits: it is done as it is asked for.
abbrev pub NoneWaits : Type 0
NoneWaits = (plan : Plan) (tells : Bool) (map : List MapRow) (outcomes : List Outcome) (last : World) → plan.nodes ≡ 1 → plan.confirm ≡ 1 → 1 ≤ plan.copies
    → ManagersAreMembers (first_membership plan.nodes map) → Makes plan tells outcomes [] (first_world plan.nodes map) last
    → (ticket : Number) (got wanted : ℕ) → Among (Other (OfMessages (AskFor ticket)) (Says (Told (AskedFor (Pending got wanted))))) outcomes → ⊥
