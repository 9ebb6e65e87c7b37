-- A world that made steps since it was opened.
use Rattle.std.specs.Prelude.{◌≡◌, ◌⊎◌, ◌≤◌, ℕ, true, false, ⊤, List, [], ◌∷◌, ◌++◌, Option, Some, None, Result, Ok, Err}
use Rattle.object_model.specs.Letters.{Number}
use Rattle.io_edge.specs.Causes.{Rose}
use Rattle.mail_model.specs.Lines.{ends_in_crlf}
use Rattle.mail_model.specs.Plan.{Plan}
use Rattle.session_model.specs.Calls as calls
use Rattle.session_model.specs.Calls.Call.{Deliver, Login, Fetch, Strike}
use Rattle.session_model.specs.Events.{turned}
use Rattle.session_model.specs.Events.NodeLife.{Down}
use Rattle.session_model.specs.Acts.{Act}
use Rattle.session_model.specs.Lives.{life_after}
use Rattle.session_model.specs.Run.{is_no_node}
use Rattle.object_model.specs.Lists.{Among}
use Rattle.mail_base.specs.declared.filing.CallKind.{CallKind}
use Rattle.call_tickets.specs.declared.answer.Answer.{Answer}
use Rattle.call_tickets.specs.Seen.{answer_seen}
use Rattle.node_store.specs.Disks.{View}
use Rattle.cluster_world.specs.Sound.{IsWhole}
use Rattle.cluster_world.specs.Worlds.{CanMakeSteps, state_of, plan_of, life_of, disk_of_node, disks_tell}
use Rattle.cluster_world.specs.Outcomes.{Outcome, Awaited, Makes, awaited_elsewhere, without_session}
use Rattle.cluster_world.specs.Outcomes.Outcome.{Began, Refused, Fell, Broke, Answers, StillPending, Unanswered, GaveUp, Abandoned, KeptUp, Left}
use Rattle.cluster_world.specs.Steps.{AreSettled}
use Rattle.cluster_world.specs.declared.step.Said.{Said}
use Rattle.cluster_world.specs.declared.step.Said.TheVariants as said
use Rattle.cluster_world.specs.declared.fault.StepFault.{StepFault}
use Rattle.cluster_world.specs.declared.world.World.{World}
use Rattle.drive_tape.specs.declared.drove.Stop.{Stop}
use Rattle.drive_tape.specs.declared.drove.Stop.TheVariants.{Bad}
use Rattle.drive_tape.specs.declared.drove.TapeFault.{TapeFault}
use Rattle.drive_tape.specs.declared.open_call.OpenCall.{OpenCall}
use Rattle.drive_tape.specs.Denials.{stop_by}
use Rattle.drive_tape.specs.Kinds.{fits_kind, IsKindOf}

-- the text of a message that is to be stored is empty or ends in CRLF
abbrev pub IsWholeCall : calls.Call → Type 0
IsWholeCall (Deliver mail) = (mail.text ≡ []) ⊎ (ends_in_crlf mail.text ≡ true)
IsWholeCall (Login user given) = ⊤
IsWholeCall (Fetch user id) = ⊤
IsWholeCall (Strike user ids) = ⊤

-- so it is of each call that was begun
abbrev pub IsWholeOutcome : Outcome → Type 0
IsWholeOutcome (Began k node asked ticket) = IsWholeCall asked
IsWholeOutcome (Refused k node asked) = IsWholeCall asked
IsWholeOutcome (Fell k node asked) = IsWholeCall asked
IsWholeOutcome (Broke k node asked) = IsWholeCall asked
IsWholeOutcome outcome = ⊤

abbrev pub AreWhole : List Outcome → Type 0
AreWhole [] = ⊤
AreWhole (outcome ∷ outcomes) = IsWholeOutcome outcome × AreWhole outcomes

-- A world began here, and made these steps since and no others; these calls are awaited. It began as a sound one of the whole machine.
pub record WorldIsAt {D : Type 0} (on : View D) (start : World D) (outcomes : List Outcome) (awaited : List Awaited) (world : World D) : Type 0 where
  pub stands : IsWhole on (plan_of start) start
  pub made : Makes on outcomes [] start awaited world
  pub whole : AreWhole outcomes

-- the same of its steps, whatever is awaited
abbrev pub IsSince : {D : Type 0} → View D → World D → List Outcome → World D → Type 0
IsSince on start outcomes world = (awaited : List Awaited) × WorldIsAt on start outcomes awaited world

-- the nodes of the plan are as these acts left them
abbrev pub AreLives : {D : Type 0} → Plan → List Act → World D → Type 0
AreLives plan been world = (n : ℕ) → is_no_node plan n ≡ false → life_of world n ≡ life_after been n

-- each node is as it was
abbrev pub AreSameLives : {D : Type 0} → World D → World D → Type 0
AreSameLives old new = (n : ℕ) → life_of new n ≡ life_of old n

-- so it is where the tape has a fault, and not where memory ran out
abbrev pub StaysOn : {D : Type 0} → Stop → World D → World D → Type 0
StaysOn stop old new = (fault : TapeFault) → stop ≡ Bad fault → AreSameLives old new

-- each but this one, which is down
abbrev pub IsDownNow : {D : Type 0} → ℕ → World D → World D → Type 0
IsDownNow node old new = (n : ℕ) → life_of new n ≡ turned node Down n (life_of old n)

-- The disk of the node has failed since; or it does not tell what it holds.
abbrev pub HasFailed : {D : Type 0} → View D → World D → World D → ℕ → Type 0
HasFailed {D} on start world node = (disk disk' : D) → disk_of_node start node ≡ Some disk → disk_of_node world node ≡ Some disk'
    → Rose (on.faults disk) (on.faults disk') ⊎ (on.seen disk ≡ None) ⊎ (disks_tell on.seen start ≡ false)

-- so it is of each node that failed in these acts
abbrev pub HasCauses : {D : Type 0} → View D → World D → List ℕ → World D → Type 0
HasCauses on start failed world = (n : ℕ) → Among n failed → HasFailed on start world n

-- A world made steps since: it is as above, and what failed before has failed.
pub record WentTo {D : Type 0} (on : View D) (start old : World D) (outcomes : List Outcome) (awaited : List Awaited) (new : World D) : Type 0 where
  pub at : WorldIsAt on start outcomes awaited new
  pub causes : (failed : List ℕ) → HasCauses on start failed old → HasCauses on start failed new

abbrev pub HasGone : {D : Type 0} → View D → World D → World D → List Outcome → World D → Type 0
HasGone on start old outcomes new = (awaited : List Awaited) × WentTo on start old outcomes awaited new

-- a world of few nodes, and the disk of each that is up is settled
pub record WorldIsReady {D : Type 0} (seen : D → Option (List ℕ)) (is_settled : D → Type 0) (world : World D) : Type 0 where
  pub few : (plan_of world).nodes ≤ 16
  pub ready : CanMakeSteps seen world
  pub settled : AreSettled is_settled (state_of world)

-- what a step may say that begins a call: a ticket, or that the disk failed; or it was refused
abbrev pub IsSaidOfBeginning : Result Said StepFault → Type 0
IsSaidOfBeginning (Ok (said.Begun ticket stirs)) = ⊤
IsSaidOfBeginning (Ok (said.Faulted node)) = ⊤
IsSaidOfBeginning (Ok what) = ⊥
IsSaidOfBeginning (Err why) = ⊤

-- what a step may say that begins a leave: that it is noted; or it was refused
abbrev pub IsSaidOfLeave : Result Said StepFault → Type 0
IsSaidOfLeave (Ok said.Noted) = ⊤
IsSaidOfLeave (Ok what) = ⊥
IsSaidOfLeave (Err why) = ⊤

-- which of both it was
abbrev pub IsNoted : {T E : Type 0} → Result Said StepFault → Result T E → Type 0
IsNoted (Ok what) (Ok _) = what ≡ said.Noted
IsNoted (Ok what) (Err _) = ⊥
IsNoted (Err why) (Ok _) = ⊥
IsNoted (Err why) (Err _) = ⊤

-- what is handed on of what a step said that began a call of this kind
abbrev pub HandsOn : {E : Type 0} → CallKind → Result Said StepFault → Result (Option OpenCall) E → Type 0
HandsOn kind (Ok (said.Begun ticket stirs)) (Ok (Some given)) = (given.ticket ≡ ticket) × (given.kind ≡ kind)
HandsOn kind (Ok (said.Begun ticket stirs)) other = ⊥
HandsOn kind (Ok (said.Faulted failed)) (Ok None) = ⊤
HandsOn kind (Ok (said.Faulted failed)) other = ⊥
HandsOn kind result (Err _) = ⊤
HandsOn kind result handed = ⊥

-- what came of the beginning of session k's call at this node: it is in progress, or the node failed; or out of memory
abbrev pub BeganSo : {D E : Type 0} → View D → World D → List Outcome → List Awaited → ℕ → ℕ → calls.Call → Result (Option OpenCall) E → World D → World D → Type 0
BeganSo on start outcomes awaited k node call (Ok (Some given)) old new =
    (given.ticket.node ≡ node) × IsKindOf given.kind call × AreSameLives old new
    × WentTo on start old (outcomes ++ Began k node call given.ticket ∷ []) (awaited ++ record { ticket = given.ticket; session = k; call = call } ∷ []) new
BeganSo on start outcomes awaited k node call (Ok None) old new =
    IsDownNow node old new × HasFailed on start new node × WentTo on start old (outcomes ++ Fell k node call ∷ []) (awaited_elsewhere node awaited) new
BeganSo on start outcomes awaited k node call (Err _) old new =
    HasGone on start old (outcomes ++ Refused k node call ∷ []) new ⊎ HasGone on start old (outcomes ++ Broke k node call ∷ []) new

-- what came of asking for it: its answer, or that it still waits; or out of memory
abbrev pub AskedSo : {D E : Type 0} → View D → World D → List Outcome → List Awaited → ℕ → calls.Call → OpenCall → Result (Option Answer) E → World D → World D → Type 0
AskedSo on start outcomes awaited k call asked (Ok (Some answer)) old new =
    (fits_kind asked.kind answer ≡ true) × AreSameLives old new
    × WentTo on start old (outcomes ++ Answers k call asked.ticket (answer_seen answer) ∷ []) (without_session k awaited) new
AskedSo on start outcomes awaited k call asked (Ok None) old new = AreSameLives old new × WentTo on start old (outcomes ++ StillPending k asked.ticket ∷ []) awaited new
AskedSo on start outcomes awaited k call asked (Err _) old new = HasGone on start old (outcomes ++ Unanswered k call asked.ticket ∷ []) new

-- what came of giving it up, for a session that is told so and for one that is closed; or why it was not
abbrev pub GaveUpSo : {D T : Type 0} → View D → World D → List Outcome → List Awaited → ℕ → calls.Call → Number → Result T Stop → World D → World D → Type 0
GaveUpSo on start outcomes awaited k call ticket (Ok _) old new =
    AreSameLives old new × WentTo on start old (outcomes ++ GaveUp k call ticket ∷ []) (without_session k awaited) new
    × WentTo on start old (outcomes ++ Abandoned k call ticket ∷ []) (without_session k awaited) new
GaveUpSo on start outcomes awaited k call ticket (Err stop) old new =
    (why : StepFault) × (stop ≡ stop_by why) × HasGone on start old (outcomes ++ KeptUp k ticket why ∷ []) new × StaysOn stop old new

-- what came of a leave
abbrev pub LeftSo : {D T E : Type 0} → View D → World D → List Outcome → List Awaited → ℕ → ℕ → List ℕ → Result T E → World D → World D → Type 0
LeftSo on start outcomes awaited k node user (Ok _) old new = AreSameLives old new × WentTo on start old (outcomes ++ Left k node user ∷ []) awaited new
LeftSo on start outcomes awaited k node user (Err _) old new = HasGone on start old (outcomes ++ Left k node user ∷ []) new
