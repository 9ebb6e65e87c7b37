-- What the cluster made of each act of a run, and what each run line tells of the steps that were made for it.
use Rattle.std.specs.Prelude.{◌≡◌, ◌⊎◌, ℕ, ◌+◌, ◌-◌, ◌^◌, min, false, List, [], ◌∷◌, ◌++◌, ⊤, Option, Some, None, Result, Ok, Err}
use Rattle.object_model.specs.Letters.{Number}
use Rattle.object_model.specs.Sets.{nodes_in}
use Rattle.session_model.specs.Sums.{BookSum}
use Rattle.mail_model.specs.Plan.{Plan}
use Rattle.mail_model.specs.Tape.{ClusterOrder}
use Rattle.mail_model.specs.Tape.{ClusterOrder as order}
use Rattle.session_model.specs.Calls.{Call}
use Rattle.session_model.specs.Events.{ClusterEvent}
use Rattle.session_model.specs.Events.ClusterEvent.{WentDown, CameUp, WasLost, WasHeard, WasThrown, WasDropped, HasFlowed, HasSent, HasWidened, HasGrouped, HasFormed, HasSettled, WasAbsent, HasMapped, HasTicked, HasSummed, HasFaulted}
use Rattle.session_model.specs.Acts.{Act}
use Rattle.session_model.specs.Acts.Act.{Opens, Does, Faults, StillWaits, Leaves, Makes, Abandons}
use Rattle.session_model.specs.Acts.Deed.{IsFed, Hears, IsAnswered, IsGivenUp, Falls, Closes}
use Rattle.session_model.specs.Lives.{life_after}
use Rattle.session_model.specs.Logs.{Asked}
use Rattle.session_model.specs.Run.{Made, Stop}
use Rattle.session_model.specs.Run.Stop.{OutOfMemory}
use Rattle.cluster_world.specs.Lives.{nodes_up}
use Rattle.cluster_world.specs.Made.{StepMade, has_failed}
use Rattle.cluster_world.specs.Outcomes.{Outcome, made_of, map_seen}
use Rattle.cluster_world.specs.Outcomes.Outcome.{Began, Refused, Fell, Broke, Answers, StillPending, Unanswered, GaveUp, Abandoned, KeptUp, Left, Moved, Settling, Mapped}
use Rattle.cluster_world.specs.declared.step.Step.{Step}
use Rattle.cluster_world.specs.declared.step.Step.TheVariants as step
use Rattle.cluster_world.specs.declared.step.Said.{Said}
use Rattle.cluster_world.specs.declared.step.Said.TheVariants as said
use Rattle.cluster_world.specs.declared.fault.StepFault.{StepFault}
use Rattle.cluster_world.specs.declared.fault.StepFault.TheVariants as fault
use Rattle.cluster_world.specs.declared.settling.Settle.{Settle}
use Rattle.cluster_world.specs.declared.settling.Settle.TheVariants as settle
use Rattle.cluster_world.specs.Regroups.{FormsBy, BeginsByGroup}
use Rattle.drive_tape.specs.Happenings.{why_seen}

-- what the transcript tells of a step that a run line asked for
abbrev pub told_of : Step → Result Said StepFault → Option ClusterEvent
told_of (step.Crash node) (Ok said.Done) = Some (WentDown node)
told_of (step.Start node) (Ok (said.NodeUp boot)) = Some (CameUp node boot)
told_of (step.Lose node) (Ok said.Done) = Some (WasLost node)
told_of (step.Post letter keep) (Ok said.Heard) = Some (WasHeard letter)
told_of (step.Post letter keep) (Ok (said.Thrown why)) = Some (WasThrown letter (why_seen why))
told_of (step.Drop letter) (Ok said.Done) = Some (WasDropped letter)
told_of (step.Widen at user id to) (Ok (said.Widened did)) = Some (HasWidened did)
told_of (step.Group node) (Ok (said.Grouped epoch)) = Some (HasGrouped epoch)
told_of (step.Conclude node) (Ok (said.Concluded epoch members)) = Some (HasFormed epoch (nodes_in members 16))
told_of (step.Tick seconds) (Ok said.Done) = Some HasTicked
told_of step result = None

-- none of the steps failed
abbrev pub WentWell : List StepMade → Type 0
WentWell [] = ⊤
WentWell (one ∷ more) = (has_failed one.result ≡ false) × WentWell more

-- how many letters they sent
abbrev pub sent_of : Result Said StepFault → ℕ
sent_of (Ok (said.Sent letters)) = letters
sent_of result = 0

abbrev pub sent_in : List StepMade → ℕ
sent_in [] = 0
sent_in (one ∷ more) = sent_of one.result + sent_in more

-- this is what came of the last of them
abbrev pub EndsIn : Result Said StepFault → List StepMade → Type 0
EndsIn result steps = (before : List StepMade) × (one : StepMade) × (steps ≡ before ++ one ∷ []) × (one.result ≡ result)

-- What a run line tells of its steps, and of a book with so many entries. That the disk of a node failed is told of the last of them; else what came of the one that there
-- is, or of all. A count of letters stays at its type's end. Of a regroup the epoch is told that its one conclusion
-- formed. Of no step the entries of the book are told.
abbrev pub Tells : ClusterOrder → List StepMade → BookSum → ClusterEvent → Type 0
Tells asked steps sum (HasFaulted node) = EndsIn (Ok (said.Faulted node)) steps
Tells order.Flow steps sum HasFlowed = WentWell steps
Tells (order.Push node) steps sum (HasSent count) = WentWell steps × (count ≡ min (sent_in steps) (2 ^ 64 - 1))
Tells (order.Report node) steps sum (HasSent count) = WentWell steps × (count ≡ min (sent_in steps) (2 ^ 64 - 1))
Tells order.Sum steps sum (HasSummed told) = (steps ≡ []) × (told ≡ sum)
Tells (order.Regroup node) steps sum (HasFormed epoch members) = (mask : ℕ) × FormsBy node epoch mask steps × BeginsByGroup node steps × (members ≡ nodes_in mask 16)
Tells asked steps sum event = (one : StepMade) × (steps ≡ one ∷ []) × (told_of one.step one.result ≡ Some event)

-- what is told of a settle
abbrev pub TellsSettle : Result Settle StepFault → ClusterEvent → Type 0
TellsSettle (Ok settle.Settled) event = event ≡ HasSettled
TellsSettle (Ok (settle.NotAllUp member)) event = event ≡ WasAbsent member
TellsSettle (Ok (settle.Fault failed)) event = event ≡ HasFaulted failed
TellsSettle (Err why) event = ⊥

-- Which event an outcome of an order tells, where these nodes were up: that of its steps; of a settle, what came of it; of a map, who is named.
pub data TellsMove (up : List ℕ) (asked : ClusterOrder) (event : ClusterEvent) (outcome : Outcome) : Type 0 where
  OfSteps : (steps : List StepMade) (sum : BookSum) → outcome ≡ Moved asked steps sum up → Tells asked steps sum event → TellsMove up asked event outcome
  OfSettle : (result : Result Settle StepFault) (steps : List StepMade) → asked ≡ order.Settle → outcome ≡ Settling result steps → TellsSettle result event → TellsMove up asked event outcome
  OfMap : (user : List ℕ) (told : Option (ℕ × ℕ)) → asked ≡ order.Maps user → outcome ≡ Mapped user told → event ≡ HasMapped user (map_seen told) → TellsMove up asked event outcome

-- the call that a session asks, if any, began; or its node went down in it, since its disk failed
abbrev pub Begins : ℕ → Option Call → List Outcome → Type 0
Begins k None outcomes = outcomes ≡ []
Begins k (Some asked) outcomes =
    (node : ℕ) × (((ticket : Number) × (outcomes ≡ Began k node asked ticket ∷ [])) ⊎ (outcomes ≡ Fell k node asked ∷ []))

-- the last was a call in which this node fell
abbrev pub EndsFell : ℕ → List Outcome → Type 0
EndsFell node outcomes = (before : List Outcome) × (k : ℕ) × (asked : Call) × (outcomes ≡ before ++ Fell k node asked ∷ [])

-- What the cluster made of an act, behind the acts so far and what it had made of them. That a disk failed is noted behind the call that its node fell in. As a run line
-- moves the cluster those nodes are up that the acts so far left so.
abbrev pub Led : Plan → List Act → List Outcome → Act → List Outcome → Type 0
Led plan been before (Opens protocol node greeting) outcomes = outcomes ≡ []
Led plan been before (Does k (Hears one)) outcomes = Begins k one.call outcomes
Led plan been before (Does k (IsAnswered call answer reply)) outcomes = (ticket : Number) × (outcomes ≡ Answers k call ticket answer ∷ [])
Led plan been before (Does k (IsGivenUp call reply)) outcomes = (ticket : Number) × (outcomes ≡ GaveUp k call ticket ∷ [])
Led plan been before (Does k (IsFed octets)) outcomes = outcomes ≡ []
Led plan been before (Does k Falls) outcomes = outcomes ≡ []
Led plan been before (Does k Closes) outcomes = outcomes ≡ []
Led plan been before (Faults node) outcomes = (outcomes ≡ []) × EndsFell node before
Led plan been before (StillWaits k) outcomes = (ticket : Number) × (outcomes ≡ StillPending k ticket ∷ [])
Led plan been before (Leaves k user) outcomes = (node : ℕ) × (outcomes ≡ Left k node user ∷ [])
Led plan been before (Makes asked event) outcomes = (outcome : Outcome) × (outcomes ≡ outcome ∷ []) × TellsMove (nodes_up (life_after been) plan.nodes) asked event outcome
Led plan been before (Abandons k) outcomes = (asked : Call) × (ticket : Number) × (outcomes ≡ Abandoned k asked ticket ∷ [])

-- so it is of acts, one after another
abbrev pub AreLed : Plan → List Act → List Outcome → List Act → List Outcome → Type 0
AreLed plan been before [] outcomes = outcomes ≡ []
AreLed plan been before (act ∷ acts) outcomes =
    (own : List Outcome) × (others : List Outcome) × (outcomes ≡ own ++ others) × Led plan been before act own × AreLed plan (been ++ act ∷ []) (before ++ own) acts others

-- The steps of a run line were denied: the last of them was refused so; or a regroup, before its first step, for want of room.
abbrev pub AreDenied : ClusterOrder → StepFault → List StepMade → Type 0
AreDenied (order.Regroup node) why steps = EndsIn (Err why) steps ⊎ ((steps ≡ []) × (why ≡ fault.NoRoom))
AreDenied asked why steps = EndsIn (Err why) steps

-- An order was denied: its steps were, or a settle was refused so.
pub data DeniesMove (asked : ClusterOrder) (why : StepFault) (outcome : Outcome) : Type 0 where
  DeniedSteps : (steps : List StepMade) (sum : BookSum) (up : List ℕ) → outcome ≡ Moved asked steps sum up → AreDenied asked why steps → DeniesMove asked why outcome
  DeniedSettle : (steps : List StepMade) → asked ≡ order.Settle → outcome ≡ Settling (Err why) steps → DeniesMove asked why outcome

-- A step of which no act tells: a ticket was asked for in vain, a call could not be given up, or the steps of a run line were denied.
abbrev pub IsUntold : Outcome → Type 0
IsUntold (Unanswered k asked ticket) = ⊤
IsUntold (KeptUp k ticket why) = ⊤
IsUntold (Moved asked steps sum up) = (why : StepFault) × AreDenied asked why steps
IsUntold (Settling (Err why) steps) = ⊤
IsUntold outcome = ⊥

-- nothing came of the call but this: it was refused, and is lacking among those that have begun; or its node went down in it as memory ran out
abbrev pub CameToNothing : ℕ → Call → Outcome → List Asked → Type 0
CameToNothing k asked (Refused j node call) lacking = (j ≡ k) × (call ≡ asked) × (lacking ≡ record { session = k; call = asked } ∷ [])
CameToNothing k asked (Broke j node call) lacking = (j ≡ k) × (call ≡ asked) × (lacking ≡ [])
CameToNothing k asked outcome lacking = ⊥

-- How the work ends: with the last act; with a step more, of which no act tells; or, as memory ran out, with a call of which nothing came.
abbrev pub EndsWith : List Act → List Outcome → Stop → List Asked → List Made → Type 0
EndsWith [] [] stop lacking extra = (lacking ≡ []) × (extra ≡ [])
EndsWith [] (outcome ∷ []) stop lacking extra = IsUntold outcome × (lacking ≡ []) × (extra ≡ made_of outcome ∷ [])
EndsWith (Does k (Hears one) ∷ []) (outcome ∷ []) stop lacking extra =
    (asked : Call) × (one.call ≡ Some asked) × CameToNothing k asked outcome lacking × (stop ≡ OutOfMemory) × (extra ≡ [])
EndsWith acts outcomes stop lacking extra = ⊥

-- What the cluster made of acts, up to where the work stopped.
pub record AreLedTo (stop : Stop) (plan : Plan) (been : List Act) (before : List Outcome) (acts : List Act) (outcomes : List Outcome) (lacking : List Asked) (extra : List Made) : Type 0 where
  pub done : List Act
  pub last : List Act
  pub acts_are : acts ≡ done ++ last
  pub own : List Outcome
  pub rest : List Outcome
  pub outcomes_are : outcomes ≡ own ++ rest
  pub led : AreLed plan been before done own
  pub ends : EndsWith last rest stop lacking extra
