-- What a run line made of the cluster.
use Rattle.std.specs.Prelude.{◌≡◌, ◌-◌, ◌^◌, min, ℕ, List, [], ◌∷◌, ◌++◌, ⊤, Option, Some, None, Result, Ok, Err}
use Rattle.object_model.specs.Lists.{Among}
use Rattle.mail_model.specs.Tape.{ClusterOrder}
use Rattle.session_model.specs.Acts.{Act}
use Rattle.session_model.specs.Acts.Act.{Makes}
use Rattle.session_model.specs.Events.{IsEventOf, failed_by_event}
use Rattle.session_model.specs.Lives.{life_after}
use Rattle.session_model.specs.Run.{IsAlwaysDone, cluster_refusal}
use Rattle.node_store.specs.Disks.{View}
use Rattle.cluster_world.specs.Lives.{nodes_up}
use Rattle.cluster_world.specs.Worlds.{plan_of, life_of}
use Rattle.cluster_world.specs.Steps.{IsStep}
use Rattle.cluster_world.specs.Made.{StepMade, StepsTo, MakesSteps}
use Rattle.cluster_world.specs.Outcomes.{Outcome, Awaited, left_after}
use Rattle.cluster_world.specs.declared.world.World.{World}
use Rattle.cluster_world.specs.declared.step.Step.TheVariants as step
use Rattle.cluster_world.specs.declared.step.Said.{Said}
use Rattle.cluster_world.specs.declared.step.Said.TheVariants as said
use Rattle.cluster_world.specs.declared.fault.StepFault.{StepFault}
use Rattle.drive_tape.specs.declared.drove.Stop.{Stop}
use Rattle.drive_tape.specs.declared.event.ClusterEvent.{ClusterEvent}
use Rattle.drive_tape.specs.declared.event.ClusterEvent.TheVariants as event
use Rattle.drive_tape.specs.Denials.{stop_by}
use Rattle.drive_tape.specs.Happenings.{event_seen, fallen_by}
use Rattle.drive_tape.specs.Led.{TellsMove, DeniesMove, WentWell, sent_in}
use Rattle.drive_tape.specs.Worlds.{WorldIsAt, WentTo, HasGone, AreLives, StaysOn, HasFailed}

-- The order is not refused to a world that the acts so far left.
pub record OrderIsFit {D : Type 0} (on : View D) (start : World D) (outcomes : List Outcome) (awaited : List Awaited) (been : List Act) (order : ClusterOrder) (world : World D) : Type 0 where
  pub at : WorldIsAt on start outcomes awaited world
  pub lives : AreLives (plan_of world) been world
  pub accepted : cluster_refusal (plan_of world) (life_after been) order ≡ None

-- The steps were made, and this came of them.
pub record Happened {D : Type 0} (on : View D) (start : World D) (outcomes : List Outcome) (awaited : List Awaited) (been : List Act) (old : World D) (order : ClusterOrder) (event : ClusterEvent) (world : World D) : Type 0 where
  pub outcome : Outcome
  pub at : WentTo on start old (outcomes ++ outcome ∷ []) (left_after (fallen_by (event_seen event)) awaited) world
  pub is : IsEventOf (plan_of old) (life_after been) order (event_seen event)
  pub tells : TellsMove (nodes_up (life_of old) (plan_of old).nodes) order (event_seen event) outcome
  pub lives : AreLives (plan_of old) (been ++ Makes order (event_seen event) ∷ []) world
  pub cause : (n : ℕ) → Among n (failed_by_event (event_seen event)) → HasFailed on start world n

-- the order was denied, and so the work stops
pub record IsDeniedBy (order : ClusterOrder) (outcome : Outcome) (stop : Stop) : Type 0 where
  pub why : StepFault
  pub denied : DeniesMove order why outcome
  pub stops : stop ≡ stop_by why

abbrev pub MovedSo : {D : Type 0} → View D → World D → List Outcome → List Awaited → List Act → World D → ClusterOrder → Result ClusterEvent Stop → World D → Type 0
MovedSo on start outcomes awaited been old order (Ok event) world = Happened on start outcomes awaited been old order event world
MovedSo on start outcomes awaited been old order (Err stop) world =
    (IsAlwaysDone order → ⊥) × (outcome : Outcome) × IsDeniedBy order outcome stop × HasGone on start old (outcomes ++ outcome ∷ []) world × StaysOn stop old world

-- one node pushed to another
abbrev pub PushedSo : {D : Type 0} → View D → ℕ → ℕ → Result (Option ℕ) Stop → World D → World D → Type 0
PushedSo on from to (Ok (Some letters)) old new = IsStep on (Ok (said.Sent letters)) (step.Push from to) old new
PushedSo on from to (Ok None) old new = IsStep on (Ok (said.Faulted from)) (step.Push from to) old new
PushedSo on from to (Err stop) old new = (why : StepFault) × (stop ≡ stop_by why) × IsStep on (Err why) (step.Push from to) old new

-- a letter that was posted was heard or thrown, or took its receiver down, or the step was refused
abbrev pub IsSaidOfPost : Result Said StepFault → Type 0
IsSaidOfPost (Ok said.Heard) = ⊤
IsSaidOfPost (Ok (said.Thrown why)) = ⊤
IsSaidOfPost (Ok (said.Faulted node)) = ⊤
IsSaidOfPost (Ok what) = ⊥
IsSaidOfPost (Err why) = ⊤

-- what is said of a letter that was posted
abbrev pub PostsTo : ℕ → Result Said StepFault → Result ClusterEvent Stop → Type 0
PostsTo letter (Ok said.Heard) (Ok happened) = happened ≡ event.WasHeard letter
PostsTo letter (Ok said.Heard) (Err stop) = ⊥
PostsTo letter (Ok (said.Thrown why)) (Ok happened) = happened ≡ event.WasThrown letter why
PostsTo letter (Ok (said.Thrown why)) (Err stop) = ⊥
PostsTo letter (Ok (said.Faulted node)) (Ok happened) = happened ≡ event.HasFaulted node
PostsTo letter (Ok (said.Faulted node)) (Err stop) = ⊥
PostsTo letter (Ok said) (Ok happened) = ⊥
PostsTo letter (Ok said) (Err stop) = ⊤
PostsTo letter (Err why) (Ok happened) = ⊥
PostsTo letter (Err why) (Err stop) = stop ≡ stop_by why

-- a report says how many letters it sent, or was refused
abbrev pub IsSaidOfReport : Result Said StepFault → Type 0
IsSaidOfReport (Ok (said.Sent letters)) = ⊤
IsSaidOfReport (Ok what) = ⊥
IsSaidOfReport (Err why) = ⊤

-- what is said of a report
abbrev pub SendsTo : Result Said StepFault → Result ℕ Stop → Type 0
SendsTo (Ok (said.Sent letters)) (Ok sent) = sent ≡ letters
SendsTo (Ok (said.Sent letters)) (Err stop) = ⊥
SendsTo (Ok what) handed = ⊥
SendsTo (Err why) (Ok sent) = ⊥
SendsTo (Err why) (Err stop) = stop ≡ stop_by why

-- a node reported to another
abbrev pub ReportedSo : {D : Type 0} → View D → ℕ → ℕ → Result ℕ Stop → World D → World D → Type 0
ReportedSo on from to (Ok letters) old new = IsStep on (Ok (said.Sent letters)) (step.Report from to) old new
ReportedSo on from to (Err stop) old new = (why : StepFault) × (stop ≡ stop_by why) × IsStep on (Err why) (step.Report from to) old new

-- A node reported to these, one after another, and so many letters were sent; or a step was refused, and so the work stops.
pub record HasReported {D : Type 0} (on : View D) (from : ℕ) (others : List ℕ) (sent : ℕ) (old new : World D) : Type 0 where
  pub steps : List StepMade
  pub made : MakesSteps on steps old new
  pub to : StepsTo (step.Report from) others steps
  pub well : WentWell steps
  pub count : sent ≡ min (sent_in steps) (2 ^ 64 - 1)

pub record IsRefusedReport {D : Type 0} (on : View D) (from : ℕ) (others : List ℕ) (stop : Stop) (old new : World D) : Type 0 where
  pub front : List StepMade
  pub to : ℕ
  pub why : StepFault
  pub mid : World D
  pub before : MakesSteps on front old mid
  pub well : WentWell front
  pub last : IsStep on (Err why) (step.Report from to) mid new
  pub each : StepsTo (step.Report from) others (front ++ record { step = step.Report from to; result = Err why } ∷ [])
  pub stops : stop ≡ stop_by why

abbrev pub ReportsSo : {D : Type 0} → View D → ℕ → List ℕ → Result ℕ Stop → World D → World D → Type 0
ReportsSo on from others (Ok sent) old new = HasReported on from others sent old new
ReportsSo on from others (Err stop) old new = IsRefusedReport on from others stop old new
