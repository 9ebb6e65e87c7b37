-- Run lines that are accepted, one after another.
use Rattle.std.specs.Prelude.{◌≡◌, ℕ, true, List, [], ◌∷◌, ◌++◌, flat_map, ⊤, Some, None}
use Rattle.mail_model.specs.Plan.{Plan}
use Rattle.mail_model.specs.Tape.{Order, tape_order}
use Rattle.mail_model.specs.Tape.Order.{Close, GiveUp, Moves}
use Rattle.mail_model.specs.Transcript.{Entry}
use Rattle.object_model.specs.Lists.{Among}
use Rattle.object_model.specs.Letters.{Number, MapRow}
use Rattle.session_model.specs.Sessions.{Session}
use Rattle.session_model.specs.Acts.{Act}
use Rattle.session_model.specs.Acts.Act.{StillWaits}
use Rattle.session_model.specs.Run.{Made, AreHandled, FirstStep, refusal}
use Rattle.session_model.specs.Lives.{failed_in}
use Rattle.cluster_model.specs.Starts.{first_membership}
use Rattle.cluster_model.specs.Steps.Step.{GiveUp as EndCall}
use Rattle.maps_model.specs.Words.{ManagersAreMembers}
use Rattle.whole_world.specs.Steps.{StepFault}
use Rattle.whole_world.specs.Steps.Step.{OfMessages}
use Rattle.whole_world.specs.Steps.StepOutcome.{Refused}
use Rattle.whole_world.specs.Makes.{MadeStep}
use Rattle.joint_world.specs.World.{World}
use Rattle.joint_world.specs.First.{first_world}
use Rattle.joint_world.specs.Makes.{MakesStep}
use Rattle.accepted_tapes.specs.Orders.{MakesOrder, AreDenied}
use Rattle.accepted_tapes.specs.Follows.{Standing, FollowsAll}

-- no session was asked in vain
abbrev pub NobodyWaits : List Act → Type 0
NobodyWaits acts = (k : ℕ) → Among (StillWaits k) acts → ⊥

-- the step that the order begins with is one that a cluster may refuse
abbrev pub MayBeDenied : Order → List Session → Type 0
MayBeDenied order sessions = (step : Made) × FirstStep order sessions step

-- no ticket of session k is one that the machine refuses to give up
abbrev pub GrantsEnd : Plan → ℕ → List Standing → World → Type 0
GrantsEnd plan k calls w = (ticket : Number) (why : StepFault) (next : World) → Among (record { session = k; ticket = ticket }) calls → MakesStep plan true w (OfMessages (EndCall ticket)) (Refused why) next → ⊥

-- no step that the order asks for is one that the machine refuses
abbrev pub Grants : Plan → Order → List Standing → World → Type 0
Grants plan (Moves order) calls w = (steps : List MadeStep) (why : StepFault) (next : World) → MakesOrder plan order steps w next → AreDenied order why steps → ⊥
Grants plan (GiveUp k) calls w = GrantsEnd plan k calls w
Grants plan (Close k) calls w = GrantsEnd plan k calls w
Grants plan order calls w = ⊤

-- The line is an order that is accepted after these acts, and the machine refuses no step of it.
abbrev pub IsAccepted : Plan → List Act → List Session → List Standing → World → List ℕ → Type 0
IsAccepted plan been sessions calls w line =
    (order : Order) × (tape_order line ≡ Some order) × (refusal plan been sessions order ≡ None) × (MayBeDenied order sessions → Grants plan order calls w)

-- Each of the run lines is accepted after those before it, whichever members manage the users as the cluster opens and whatever the machine makes of these lines on disks that do not
-- fail. In a plan of one node nobody waits.
abbrev pub AreAccepted : Plan → List (List ℕ) → Type 0
AreAccepted plan lines = (map : List MapRow) (front : List (List ℕ)) (line : List ℕ) (rest : List (List ℕ)) (acts : List (List Act)) (outputs : List (List (List Entry))) (sessions : List Session)
    → (calls : List Standing) (w : World) → ManagersAreMembers (first_membership plan.nodes map) → lines ≡ front ++ line ∷ rest → AreHandled plan [] [] front acts outputs sessions
    → FollowsAll plan lines (flat_map (λ a. a) acts) [] (first_world plan.nodes map) calls w → failed_in (flat_map (λ a. a) acts) ≡ []
    → (plan.nodes ≡ 1 → NobodyWaits (flat_map (λ a. a) acts)) → IsAccepted plan (flat_map (λ a. a) acts) sessions calls w line
