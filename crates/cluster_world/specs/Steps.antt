-- What is known of each step of a world.
use Rattle.std.specs.Prelude.{◌≡◌, ◌≢◌, ◌⊎◌, ℕ, ◌≤◌, Bool, true, false, List, length, Option, Some, None, ⊤, IfOk, Result, Ok, Err}
use Rattle.io_edge.specs.Causes.{Rose}
use Rattle.io_edge.specs.Octets.{IsToldAlike}
use Rattle.cluster_model.specs.Cluster as plain
use Rattle.cluster_model.specs.Cluster.{slot_at}
use Rattle.cluster_model.specs.World as machine
use Rattle.cluster_model.specs.Makes.{MakesStep}
use Rattle.cluster_model.specs.Room.{Flight}
use Rattle.cluster_model.specs.Steps.{letter_at}
use Rattle.mail_model.specs.Plan.{Plan}
use Rattle.whole_world.specs.World as whole_world
use Rattle.whole_world.specs.World.{mail_world_of}
use Rattle.whole_world.specs.Laws.{Stands}
use Rattle.whole_world.specs.Makes as whole_makes
use Rattle.joint_world.specs.World as joint_world
use Rattle.joint_world.specs.Laws as joint_laws
use Rattle.joint_world.specs.Makes as joint_makes
use Rattle.login_model.specs.Cluster as login
use Rattle.node_store.specs.Disks.{View}
use Rattle.node_core.specs.Works.{IsOnlyRead}
use Rattle.call_tickets.specs.declared.call.Call.{Call}
use Rattle.call_tickets.specs.declared.call.Call.TheVariants.{Fetch, Leave}
use Rattle.session_model.specs.Events.{NodeLife}
use Rattle.session_model.specs.Events.NodeLife.{Up}
use Rattle.cluster_world.specs.Books.{IsLongerBook}
use Rattle.cluster_world.specs.Flights.{AreAbove, first_number}
use Rattle.cluster_world.specs.Readers.{reader_of}
use Rattle.cluster_world.specs.Installs.{BooksInstalls}
use Rattle.cluster_world.specs.Worlds.{WorldState, state_of, life_in, memory_in, disk_in, tells_in, steps_of, one_more, StateStandsFor}
use Rattle.cluster_world.specs.Seen.{step_seen, outcome_seen, whole_step, whole_outcome}
use Rattle.cluster_world.specs.Maps.{AreMaps, StandsForAll}
use Rattle.cluster_world.specs.Ended.{IsEnded}
use Rattle.cluster_world.specs.Turns.{node_refusal, refused_for_node, life_after_step, seconds_after_step}
use Rattle.cluster_world.specs.Moments.{StopsKeep}
use Rattle.cluster_world.specs.declared.life.Life.{Life}
use Rattle.cluster_world.specs.declared.world.World.{World}
use Rattle.cluster_world.specs.declared.step.Step.{Step}
use Rattle.cluster_world.specs.declared.step.Step.TheVariants.{Begin, Ask, GiveUp, Post, Drop, Push, Widen, Group, Conclude, Report, Crash, Start, Lose, Tick}
use Rattle.cluster_world.specs.declared.step.Said.{Said}
use Rattle.cluster_world.specs.declared.step.Said.TheVariants.{Begun, Noted, Asked, Heard, Thrown, Sent, Widened, Grouped, Concluded, NodeUp, Done, Faulted}
use Rattle.cluster_world.specs.declared.fault.StepFault.{StepFault}
use Rattle.cluster_world.specs.declared.fault.StepFault.TheVariants.{NoMemory}

-- the step reads from a disk what the machine has to know: the records at a start, and octets as a node pushes to another
abbrev pub IsBlind : ℕ → Step → Type 0
IsBlind nodes (Push from to) = nodes ≡ 1
IsBlind nodes (Start node) = ⊥
IsBlind nodes step = ⊤

-- What the machine does in the step is known: the disks tell what they hold, or the step needs nothing of that.
abbrev pub StepIsKnown : {D : Type 0} → (D → Option (List ℕ)) → WorldState D → Step → Type 0
StepIsKnown seen state step = (tells_in seen state ≡ true) ⊎ IsBlind state.plan.nodes step

-- The disk of each node that is not lost keeps what it held, whenever the machine stops.
pub record EveryStopKeeps {D : Type 0} (on : View D) (old new : WorldState D) (before after : List plain.Slot) : Type 0 where
  pub each : (n : ℕ) (disk disk' : D) (slot slot' : plain.Slot) → disk_in old n ≡ Some disk → disk_in new n ≡ Some disk' → slot_at before n ≡ Some slot → slot_at after n ≡ Some slot' → slot.life ≢ plain.Life.Lost
      → StopsKeep on n disk disk' slot slot'

-- What steps show that are none of calls that read. As the whole machine has it: the step leads to a world that messages see as this next one, and that has the maps of these nodes.
pub record LeadsWhole (plan : Plan) (tells : Bool) (result : Result Said StepFault) (step : Step) (lives : List Life) (v : whole_world.World) (next : machine.World) : Type 0 where
  pub now : whole_world.World
  pub seen : mail_world_of now ≡ next
  pub maps : AreMaps lives now.slots
  pub made : whole_makes.MakesStep plan tells v (whole_step step) (whole_outcome result) now

-- As messages have it: it leads from a world of theirs to one for which the new world stands. So it does from each sound world of the whole machine that messages see so, and that has the maps
-- of the nodes: to one that they see as the very same next.
pub record LeadsMail {D : Type 0} (on : View D) (result : Result Said StepFault) (step : Step) (old new : WorldState D) (w : machine.World) : Type 0 where
  pub next : machine.World
  pub stands : StateStandsFor on new next
  pub made : MakesStep old.plan (tells_in on.seen old) w (step_seen step) (outcome_seen result) next
  pub stops : EveryStopKeeps on old new w.slots next.slots
  pub whole : (v : whole_world.World) → mail_world_of v ≡ w → Stands old.plan v → AreMaps old.lives v.slots → LeadsWhole old.plan (tells_in on.seen old) result step new.lives v next

-- The step leads from a world with all that nodes keep to one for which the new world stands.
pub record LeadsTo {D : Type 0} (on : View D) (result : Result Said StepFault) (step : Step) (old new : WorldState D) (v : joint_world.World) : Type 0 where
  pub next : joint_world.World
  pub stands : StandsForAll on new next
  pub made : joint_makes.MakesStep old.plan (tells_in on.seen old) v (whole_step step) (whole_outcome result) next
  pub stops : EveryStopKeeps on old new (joint_world.mail_world_of v).slots (joint_world.mail_world_of next).slots

-- whether each disk tells what it holds has not changed
pub record AreToldAlike {D : Type 0} (seen : D → Option (List ℕ)) (old new : WorldState D) : Type 0 where
  pub each : (n : ℕ) (disk disk' : D) → disk_in old n ≡ Some disk → disk_in new n ≡ Some disk' → IsToldAlike (seen disk) (seen disk')

-- No count of faults falls. Where a node is up afterwards the count of its disk has not risen, however the node was before: no failed call is passed over, nor by a start.
pub record IsQuiet {D : Type 0} (faults : D → ℕ) (old new : WorldState D) : Type 0 where
  pub later : (n : ℕ) (disk disk' : D) → disk_in old n ≡ Some disk → disk_in new n ≡ Some disk' → faults disk ≤ faults disk'
  pub same : (n boot : ℕ) (disk disk' : D) → life_in new n ≡ Up boot → disk_in old n ≡ Some disk → disk_in new n ≡ Some disk' → faults disk' ≡ faults disk

-- the call reads octets of a message
abbrev pub MayReadAmiss : Call → Type 0
MayReadAmiss (Fetch user id holders from most) = ⊤
MayReadAmiss call = ⊥

-- the step starts the node, or reads octets
abbrev pub MayMisread : List Flight → Step → Type 0
MayMisread flights (Begin node call) = MayReadAmiss call
MayMisread flights (Ask ticket) = ⊥
MayMisread flights (GiveUp ticket) = ⊥
MayMisread flights (Post letter keep) = (node : ℕ) × (reader_of (letter_at letter flights) ≡ Some node)
MayMisread flights (Drop letter) = ⊥
MayMisread flights (Push from to) = ⊤
MayMisread flights (Widen at user id to) = ⊥
MayMisread flights (Group node) = ⊥
MayMisread flights (Conclude node) = ⊥
MayMisread flights (Report from to) = ⊥
MayMisread flights (Crash node) = ⊥
MayMisread flights (Start node) = ⊤
MayMisread flights (Lose node) = ⊥
MayMisread flights (Tick seconds) = ⊥

-- That a disk failed is said only where its count rose, or where it does not tell what it holds and was read. The octets of a disk that tells them are those of its node's
-- records, as long as the world stands for one of the machine.
abbrev pub FaultHasCause : {D : Type 0} → View D → Result Said StepFault → Step → WorldState D → WorldState D → Type 0
FaultHasCause on (Ok (Faulted n)) step old new = (disk disk' : _) → disk_in old n ≡ Some disk → disk_in new n ≡ Some disk'
    → Rose (on.faults disk) (on.faults disk') ⊎ ((on.seen disk ≡ None) × MayMisread old.flying.flights step)
FaultHasCause on result step old new = ⊤

-- the disk of each node that is up is settled
pub record AreSettled {D : Type 0} (is_settled : D → Type 0) (state : WorldState D) : Type 0 where
  pub each : (n boot : ℕ) (disk : D) → life_in state n ≡ Up boot → disk_in state n ≡ Some disk → is_settled disk

-- Out of memory may come before a refusal is found; any other answer is a refusal for the sake of a node exactly where it has to be.
abbrev pub IsRefusedRight : Result Said StepFault → Option StepFault → Type 0
IsRefusedRight (Err (NoMemory down)) refusal = ⊤
IsRefusedRight result refusal = refused_for_node result ≡ refusal

-- what a call that begins may say: a Leave is noted, and any other has a ticket
abbrev pub BeginsSo : Call → ℕ → Said → Type 0
BeginsSo (Leave user login manager) node Noted = ⊤
BeginsSo (Leave user login manager) node said = ⊥
BeginsSo call node (Begun ticket stirs) = (ticket.node ≡ node) × (stirs ≡ 0)
BeginsSo call node (Faulted failed) = failed ≡ node
BeginsSo call node said = ⊥

-- what each step may say
abbrev pub SaysSo : Step → Said → Type 0
SaysSo (Begin node call) said = BeginsSo call node said
SaysSo (Ask ticket) (Asked ask) = ⊤
SaysSo (GiveUp ticket) Done = ⊤
SaysSo (Post letter keep) Heard = ⊤
SaysSo (Post letter keep) (Thrown why) = ⊤
SaysSo (Post letter keep) (Faulted failed) = ⊤
SaysSo (Drop letter) Done = ⊤
SaysSo (Push from to) (Sent letters) = ⊤
SaysSo (Push from to) (Faulted failed) = failed ≡ from
SaysSo (Widen at user id to) (Widened did) = ⊤
SaysSo (Widen at user id to) (Faulted failed) = failed ≡ at
SaysSo (Group node) (Grouped epoch) = ⊤
SaysSo (Group node) (Faulted failed) = failed ≡ node
SaysSo (Conclude node) (Concluded epoch members) = ⊤
SaysSo (Conclude node) (Faulted failed) = failed ≡ node
SaysSo (Report from to) (Sent letters) = ⊤
SaysSo (Crash node) Done = ⊤
SaysSo (Start node) (NodeUp boot) = ⊤
SaysSo (Start node) (Faulted failed) = failed ≡ node
SaysSo (Lose node) Done = ⊤
SaysSo (Tick seconds) Done = ⊤
SaysSo step said = ⊥

-- A node of the plan goes down that was up, or it was to start.
pub record WasToWork (nodes : ℕ) (step : Step) (life : NodeLife) (n : ℕ) : Type 0 where
  pub above : 1 ≤ n
  pub within : n ≤ nodes
  pub worked : ((boot : ℕ) × (life ≡ Up boot)) ⊎ (step ≡ Start n)

abbrev pub FallsSo : Result Said StepFault → ℕ → Step → (ℕ → NodeLife) → Type 0
FallsSo (Ok (Faulted n)) nodes step lives = WasToWork nodes step (lives n) n
FallsSo (Err (NoMemory (Some n))) nodes step lives = WasToWork nodes step (lives n) n
FallsSo result nodes step lives = ⊤

-- Where the letter of the lowest number was posted and does not stay in flight, all others have higher numbers, and so has what was sent.
abbrev pub HasPassed : {D : Type 0} → Result Said StepFault → Step → WorldState D → WorldState D → Type 0
HasPassed (Ok said) (Post letter false) old new = first_number old.flying.flights ≡ Some letter → AreAbove letter new.flying.flights
HasPassed result step old new = ⊤

-- the node whose disk the step may read before it is refused
abbrev pub reader_in : List Flight → Step → Option ℕ
reader_in flights (Begin node call) = Some node
reader_in flights (Post letter keep) = reader_of (letter_at letter flights)
reader_in flights (Push from to) = Some from
reader_in flights (Start node) = Some node
reader_in flights step = None

-- Nothing was changed: no node in what it has in memory, no disk, no letter in flight, no second and no entry of the book. A disk may have been read, that of one node; a start reads all of
-- it again, and what it may then hold is said by the machine.
pub record IsUnchanged {D : Type 0} (on : View D) (step : Step) (old new : WorldState D) : Type 0 where
  pub nodes : (n : ℕ) → memory_in new n ≡ memory_in old n
  pub disks : (n : ℕ) (disk disk' : D) → disk_in old n ≡ Some disk → disk_in new n ≡ Some disk' → (reader_in old.flying.flights step ≡ Some n → ⊥) → disk' ≡ disk
  pub reads : (n : ℕ) (disk disk' : D) → disk_in old n ≡ Some disk → disk_in new n ≡ Some disk' → ((node : ℕ) → step ≡ Start node → ⊥)
      → IsOnlyRead on disk disk' × (on.faults disk' ≡ on.faults disk)
  pub flying : new.flying ≡ old.flying
  pub seconds : new.seconds ≡ old.seconds
  pub book : new.book ≡ old.book

-- A step that is refused changes nothing, whatever the disks tell. One that ran out of memory and took a node down is not refused.
abbrev pub ChangesNothing : {D : Type 0} → View D → Result Said StepFault → Step → WorldState D → WorldState D → Type 0
ChangesNothing on (Ok said) step old new = ⊤
ChangesNothing on (Err (NoMemory (Some failed))) step old new = ⊤
ChangesNothing on (Err why) step old new = IsUnchanged on step old new

-- What a step does, whatever comes of it.
pub record StepDid {D : Type 0} (on : View D) (result : Result Said StepFault) (step : Step) (old new : WorldState D) : Type 0 where
  pub plan : new.plan ≡ old.plan
  pub handed : length new.disks ≡ length old.disks
  pub refused : IsRefusedRight result (node_refusal old.plan (life_in old) step)
  pub kind : IfOk result (SaysSo step)
  pub falls : FallsSo result old.plan.nodes step (life_in old)
  pub lives : (n : ℕ) → life_in new n ≡ life_after_step result step n (life_in old n)
  pub clock : new.seconds ≡ seconds_after_step step result old.seconds
  pub told : AreToldAlike on.seen old new
  pub quiet : IsQuiet on.faults old new
  pub passed : HasPassed result step old new
  pub books : IsLongerBook old.book new.book
  pub kept : ChangesNothing on result step old new
  pub leads : StepIsKnown on.seen old step → IsEnded step → (story : List (List login.Slot)) (v : joint_world.World) → StandsForAll on old v → joint_laws.Stands old.plan (tells_in on.seen old) story v
      → LeadsTo on result step old new v
  pub cause : (w : machine.World) → StateStandsFor on old w → FaultHasCause on result step old new

-- What is known of a step: what it did, that the book has the epoch that was installed in it, and that it was counted.
pub record IsStep {D : Type 0} (on : View D) (result : Result Said StepFault) (step : Step) (old new : World D) : Type 0 where
  pub did : StepDid on result step (state_of old) (state_of new)
  pub installs : BooksInstalls step old new
  pub count : steps_of new ≡ one_more (steps_of old)
