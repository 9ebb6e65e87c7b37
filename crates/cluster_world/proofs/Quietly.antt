-- Steps that no session hears of: a call that is refused, a ticket that still waits, and what moves the cluster.
use Rattle.std.proofs.Common.{◌≡◌, ◌⊎◌, inl, inr, ⊎_elim, ℕ, true, false, List, [], ◌∷◌, Some, None, refl, sym, subst}
use Rattle.std.specs.Prelude.{⊤, All, Result, Ok, Err}
use Rattle.std.proofs.lemmas.List.Elements.{All-head, All-tail}
use Rattle.mail_model.specs.Tape.{ClusterOrder}
use Rattle.mail_model.specs.Tape.{ClusterOrder as order}
use Rattle.object_model.specs.Letters.{Number}
use Rattle.session_model.specs.Calls as model
use Rattle.session_model.specs.Calls.{IsAnswerTo}
use Rattle.call_tickets.specs.Seen.{answer_seen}
use Rattle.call_tickets.specs.declared.answer.Answer.{Answer}
use Rattle.call_tickets.specs.declared.answer.Ask.TheVariants as ask
use Rattle.cluster_model.specs.Steps as machine
use Rattle.cluster_owes.specs.Outcomes.{IsIdleStep}
use Rattle.cluster_world.specs.Seen.{step_seen, outcome_seen}
use Rattle.cluster_world.specs.Steps.{SaysSo}
use Rattle.cluster_world.specs.Ended.{IsEnded}
use Rattle.cluster_world.specs.Made.{StepMade, IsPost, AreOfRegroup}
use Rattle.cluster_world.specs.Settling.{IsOfSettle, AreOfSettle}
use Rattle.cluster_world.specs.Settling.IsOfSettle.{Posts, Pushes, Reports}
use Rattle.cluster_world.specs.Outcomes.{IsRefusal, LeavesUnanswered}
use Rattle.cluster_world.proofs.Ordered.{IsPushOf, IsReportOf, AreOne, AreStepsOf}
use Rattle.cluster_world.specs.declared.step.Step.{Step}
use Rattle.cluster_world.specs.declared.step.Step.TheVariants as step
use Rattle.cluster_world.specs.declared.step.Said.{Said}
use Rattle.cluster_world.specs.declared.step.Said.TheVariants as said
use Rattle.cluster_world.specs.declared.fault.StepFault.{StepFault}
use Rattle.cluster_world.specs.declared.fault.StepFault.TheVariants as fault

-- whatever comes of the step, no session hears of it; and it hands no message in
abbrev pub IsQuietStep : Step → Type 0
IsQuietStep step = ((outcome : machine.StepOutcome) → IsIdleStep (step_seen step) outcome) × IsEnded step

pub refused_begins : (node : ℕ) (call : machine.NodeCall) (fault : machine.StepFault) → IsIdleStep (machine.Step.Begin node call) (machine.StepOutcome.Refused fault)
refused_begins node (machine.NodeCall.Deliver mail) fault = tt
refused_begins node (machine.NodeCall.Login user proof) fault = tt
refused_begins node (machine.NodeCall.Fetch user id from most holders) fault = tt
refused_begins node (machine.NodeCall.Strike user items) fault = tt
refused_begins node (machine.NodeCall.Leave user login manager) fault = tt

short_begins : (node : ℕ) (call : machine.NodeCall) → IsIdleStep (machine.Step.Begin node call) (machine.StepOutcome.NoMemory None)
short_begins node (machine.NodeCall.Deliver mail) = tt
short_begins node (machine.NodeCall.Login user proof) = tt
short_begins node (machine.NodeCall.Fetch user id from most holders) = tt
short_begins node (machine.NodeCall.Strike user items) = tt
short_begins node (machine.NodeCall.Leave user login manager) = tt

-- a call is refused
pub refusal_quiet : (node : ℕ) (call : machine.NodeCall) (why : StepFault) → IsRefusal why → IsIdleStep (machine.Step.Begin node call) (outcome_seen (Err why))
refusal_quiet node call fault.NoSuchNode is = refused_begins node call machine.StepFault.NoSuchNode
refusal_quiet node call fault.NodeLost is = refused_begins node call machine.StepFault.NodeLost
refusal_quiet node call fault.NodeDown is = refused_begins node call machine.StepFault.NodeDown
refusal_quiet node call fault.NodeUp is = refused_begins node call machine.StepFault.NodeIsUp
refusal_quiet node call fault.NoSuchLetter is = refused_begins node call machine.StepFault.NoSuchLetter
refusal_quiet node call fault.NoSuchTicket is = refused_begins node call machine.StepFault.NoSuchTicket
refusal_quiet node call fault.NotAGroup is = refused_begins node call machine.StepFault.NotAGroup
refusal_quiet node call fault.Worn is = refused_begins node call machine.StepFault.Worn
refusal_quiet node call fault.NoRoom is = refused_begins node call machine.StepFault.NoRoom
refusal_quiet node call (fault.NoMemory None) is = short_begins node call
refusal_quiet node call (fault.NoMemory (Some failed)) is = absurd is

-- an ask is refused
refused_asks : (ticket : Number) (why : StepFault) → IsIdleStep (machine.Step.AskFor ticket) (outcome_seen (Err why))
refused_asks ticket fault.NoSuchNode = tt
refused_asks ticket fault.NodeLost = tt
refused_asks ticket fault.NodeDown = tt
refused_asks ticket fault.NodeUp = tt
refused_asks ticket fault.NoSuchLetter = tt
refused_asks ticket fault.NoSuchTicket = tt
refused_asks ticket fault.NotAGroup = tt
refused_asks ticket fault.Worn = tt
refused_asks ticket fault.NoRoom = tt
refused_asks ticket (fault.NoMemory down) = tt

-- an answer that does not fit the call
pub record AnswersAmiss (asked : model.Call) (result : Result Said StepFault) : Type 0 where
  pub own : Answer
  pub is : result ≡ Ok (said.Asked (ask.Done own))
  pub amiss : IsAnswerTo asked (answer_seen own) → ⊥

-- an ask tells the session nothing, or gives an answer that does not fit
pub untold_quiet : (asked : model.Call) (ticket : Number) (result : Result Said StepFault) → LeavesUnanswered asked result → IsIdleStep (machine.Step.AskFor ticket) (outcome_seen result) ⊎ AnswersAmiss asked result
untold_quiet asked ticket (Ok (said.Begun number stirs)) is = inl tt
untold_quiet asked ticket (Ok said.Noted) is = inl tt
untold_quiet asked ticket (Ok (said.Asked (ask.Pending got wanted))) is = absurd is
untold_quiet asked ticket (Ok (said.Asked (ask.Done own))) is = inr (record { own = own; is = refl; amiss = is })
untold_quiet asked ticket (Ok said.Heard) is = inl tt
untold_quiet asked ticket (Ok (said.Thrown why)) is = inl tt
untold_quiet asked ticket (Ok (said.Sent letters)) is = inl tt
untold_quiet asked ticket (Ok (said.Widened did)) is = inl tt
untold_quiet asked ticket (Ok (said.Grouped epoch)) is = inl tt
untold_quiet asked ticket (Ok (said.Concluded epoch members)) is = inl tt
untold_quiet asked ticket (Ok (said.NodeUp boot)) is = inl tt
untold_quiet asked ticket (Ok said.Done) is = inl tt
untold_quiet asked ticket (Ok (said.Faulted node)) is = inl tt
untold_quiet asked ticket (Err why) is = inl (refused_asks ticket why)

-- the steps of a run line
abbrev pub AreQuiet : List StepMade → Type 0
AreQuiet [] = ⊤
AreQuiet (one ∷ more) = IsQuietStep one.step × AreQuiet more

one_quiet : (made : Step) (steps : List StepMade) → IsQuietStep made → AreOne made steps → AreQuiet steps
one_quiet made steps quiet (result, are) = subst AreQuiet (sym are) (quiet, tt)

all_quiet : (P : StepMade → Type 0) → ((one : StepMade) → P one → IsQuietStep one.step) → (steps : List StepMade) → All P steps → AreQuiet steps
all_quiet P each [] all = tt
all_quiet P each (one ∷ more) all = (each one (All-head P one more all), all_quiet P each more (All-tail P one more all))

-- those of a regroup
regroup_quiet : (node : ℕ) (steps : List StepMade) → AreOfRegroup node steps → AreQuiet steps
regroup_quiet node [] are = tt
regroup_quiet node (one ∷ more) (is, are) = (
  ⊎_elim
      (λ opens. subst IsQuietStep (sym opens) (λ outcome. tt, tt))
      (λ other. ⊎_elim (λ concludes. subst IsQuietStep (sym concludes) (λ outcome. tt, tt)) (λ (posts : IsPost one). subst IsQuietStep (sym posts.1) (λ outcome. tt, tt)) other)
      is,
  regroup_quiet node more are,
)

-- whether an order sets the clock
abbrev pub IsTick : ClusterOrder → Type 0
IsTick (order.Tick seconds) = ⊤
IsTick other = ⊥

pub tick_or : (asked : ClusterOrder) → ((seconds : ℕ) × (asked ≡ order.Tick seconds)) ⊎ (IsTick asked → ⊥)
tick_or (order.Crash node) = inr (λ is. is)
tick_or (order.Start node) = inr (λ is. is)
tick_or (order.Lose node) = inr (λ is. is)
tick_or (order.Post letter) = inr (λ is. is)
tick_or (order.Again letter) = inr (λ is. is)
tick_or (order.Drop letter) = inr (λ is. is)
tick_or order.Flow = inr (λ is. is)
tick_or (order.Push node) = inr (λ is. is)
tick_or (order.Widen at user id to) = inr (λ is. is)
tick_or (order.Group node) = inr (λ is. is)
tick_or (order.Conclude node) = inr (λ is. is)
tick_or (order.Regroup node) = inr (λ is. is)
tick_or (order.Tick seconds) = inl (seconds, refl)
tick_or (order.Report node) = inr (λ is. is)
tick_or order.Settle = inr (λ is. is)
tick_or (order.Maps user) = inr (λ is. is)
tick_or order.Sum = inr (λ is. is)

-- the clock is set, or nothing is done
pub tick_done : (seconds : ℕ) (what : Said) → SaysSo (step.Tick seconds) what → what ≡ said.Done
tick_done seconds said.Done so = refl
tick_done seconds (said.Begun number stirs) so = absurd so
tick_done seconds said.Noted so = absurd so
tick_done seconds (said.Asked ask) so = absurd so
tick_done seconds said.Heard so = absurd so
tick_done seconds (said.Thrown why) so = absurd so
tick_done seconds (said.Sent letters) so = absurd so
tick_done seconds (said.Widened did) so = absurd so
tick_done seconds (said.Grouped epoch) so = absurd so
tick_done seconds (said.Concluded epoch members) so = absurd so
tick_done seconds (said.NodeUp boot) so = absurd so
tick_done seconds (said.Faulted node) so = absurd so

pub unticked_quiet : (seconds : ℕ) (why : StepFault) → IsIdleStep (machine.Step.Tick seconds) (outcome_seen (Err why))
unticked_quiet seconds fault.NoSuchNode = tt
unticked_quiet seconds fault.NodeLost = tt
unticked_quiet seconds fault.NodeDown = tt
unticked_quiet seconds fault.NodeUp = tt
unticked_quiet seconds fault.NoSuchLetter = tt
unticked_quiet seconds fault.NoSuchTicket = tt
unticked_quiet seconds fault.NotAGroup = tt
unticked_quiet seconds fault.Worn = tt
unticked_quiet seconds fault.NoRoom = tt
unticked_quiet seconds (fault.NoMemory down) = tt

pub moves_quiet : (asked : ClusterOrder) (steps : List StepMade) → (IsTick asked → ⊥) → AreStepsOf asked steps → AreQuiet steps
moves_quiet (order.Crash node) steps other are = one_quiet (step.Crash node) steps (λ outcome. tt, tt) are
moves_quiet (order.Start node) steps other are = one_quiet (step.Start node) steps (λ outcome. tt, tt) are
moves_quiet (order.Lose node) steps other are = one_quiet (step.Lose node) steps (λ outcome. tt, tt) are
moves_quiet (order.Post letter) steps other are = one_quiet (step.Post letter false) steps (λ outcome. tt, tt) are
moves_quiet (order.Again letter) steps other are = one_quiet (step.Post letter true) steps (λ outcome. tt, tt) are
moves_quiet (order.Drop letter) steps other are = one_quiet (step.Drop letter) steps (λ outcome. tt, tt) are
moves_quiet order.Flow steps other are = all_quiet IsPost (λ one is. subst IsQuietStep (sym is.1) (λ outcome. tt, tt)) steps are
moves_quiet (order.Push node) steps other are = all_quiet (IsPushOf node) (λ one is. subst IsQuietStep (sym is.1) (λ outcome. tt, tt)) steps are
moves_quiet (order.Widen at user id to) steps other are = one_quiet (step.Widen at user id to) steps (λ outcome. tt, tt) are
moves_quiet (order.Group node) steps other are = one_quiet (step.Group node) steps (λ outcome. tt, tt) are
moves_quiet (order.Conclude node) steps other are = one_quiet (step.Conclude node) steps (λ outcome. tt, tt) are
moves_quiet (order.Regroup node) steps other are = regroup_quiet node steps are
moves_quiet (order.Tick seconds) steps other are = absurd (other tt)
moves_quiet (order.Report node) steps other are = all_quiet (IsReportOf node) (λ one is. subst IsQuietStep (sym is.1) (λ outcome. tt, tt)) steps are
moves_quiet order.Settle steps other are = absurd are
moves_quiet (order.Maps user) steps other are = absurd are
moves_quiet order.Sum steps other are = subst AreQuiet (sym are) tt

of_settle_quiet : (one : StepMade) → IsOfSettle one → IsQuietStep one.step
of_settle_quiet one (Posts post) = subst IsQuietStep (sym post.1) (λ outcome. tt, tt)
of_settle_quiet one (Pushes from to apart is) = subst IsQuietStep (sym is) (λ outcome. tt, tt)
of_settle_quiet one (Reports from to apart is) = subst IsQuietStep (sym is) (λ outcome. tt, tt)

pub settle_quiet : (steps : List StepMade) → AreOfSettle steps → AreQuiet steps
settle_quiet [] of = tt
settle_quiet (one ∷ more) of = (of_settle_quiet one of.0, settle_quiet more of.1)
