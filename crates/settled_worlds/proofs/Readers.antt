-- Which steps of a world are steps of readers, and what is still awaited behind them.
use Rattle.std.proofs.Common.{◌≡◌, ◌≢◌, inl, inr, ℕ, Bool, true, false, true≢false, List, [], ◌∷◌, filter, Option, Some, None, Result, Ok, Err, refl, sym, subst, cond}
use Rattle.std.specs.Prelude.{IfOk}
use Rattle.mail_model.specs.Plan.{Plan}
use Rattle.object_model.specs.Letters.{Number}
use Rattle.object_model.specs.Lists.{Among}
use Rattle.session_model.specs.Calls as model
use Rattle.call_tickets.specs.Seen.{call_seen}
use Rattle.call_tickets.specs.declared.call.Call.{Call as WorldCall}
use Rattle.call_tickets.specs.declared.call.Call.TheVariants as calls
use Rattle.call_tickets.specs.declared.answer.Ask.{Ask}
use Rattle.cluster_model.specs.Steps.Said.{Faulted as MailFaulted}
use Rattle.whole_world.specs.Steps as whole_steps
use Rattle.whole_world.specs.Steps.{StepOutcome}
use Rattle.whole_world.specs.Steps.Step.{OfMessages}
use Rattle.whole_world.specs.Steps.Said.{Told}
use Rattle.whole_world.specs.Steps.StepOutcome.{Says}
use Rattle.joint_world.specs.Makes.{MakesStep}
use Rattle.joint_world.specs.World as joint
use Rattle.settled_logins.specs.Reading.{GoesWell, IsReaderStep}
use Rattle.settled_logins.specs.Reading.IsReaderStep.{LogsIn, Fetches, Leaves, Asks, Posts}
use Rattle.fresh_sessions.specs.Acts.{IsReadCall}
use Rattle.cluster_world.specs.Ended.{IsEnded}
use Rattle.cluster_world.specs.Made.{StepMade, has_failed}
use Rattle.cluster_world.specs.Outcomes.{Awaited, IsLeave, without_session, left_after, left_after_all, fallen_in}
use Rattle.cluster_world.specs.Seen.{whole_step, whole_said, whole_outcome}
use Rattle.cluster_world.specs.Steps.{SaysSo}
use Rattle.cluster_world.specs.declared.fault.StepFault.{StepFault}
use Rattle.cluster_world.specs.declared.fault.StepFault.TheVariants as fault
use Rattle.cluster_world.specs.declared.step.Said.{Said}
use Rattle.cluster_world.specs.declared.step.Said.TheVariants as said
use Rattle.cluster_world.specs.declared.step.Step.TheVariants as step
use Rattle.cluster_world.proofs.Formed.{fine_of}

-- ---- what is still awaited was

filtered : {X : Type 0} (p : X → Bool) (xs : List X) (x : X) → Among x (filter p xs) → Among x xs
filtered p [] x m = m
filtered {X} p (y ∷ ys) x m = by (λ n. filtered p ys x n) (p y) m
  where
    by : (Among x (filter p ys) → Among x ys) → (b : Bool) → Among x (cond b (y ∷ filter p ys) (filter p ys)) → Among x (y ∷ ys)
    by rest true (inl same) = inl same
    by rest true (inr more) = inr (rest more)
    by rest false more = inr (rest more)

-- each of the one list is in the other
abbrev pub AreFewer : List Awaited → List Awaited → Type 0
AreFewer left awaited = (one : Awaited) → Among one left → Among one awaited

pub fewer_sessions : (k : ℕ) (awaited : List Awaited) → AreFewer (without_session k awaited) awaited
fewer_sessions k awaited one m = filtered _ awaited one m

pub fewer_after : (o : Option ℕ) (awaited : List Awaited) → AreFewer (left_after o awaited) awaited
fewer_after None awaited one m = m
fewer_after (Some node) awaited one m = filtered _ awaited one m

pub fewer_after_all : (steps : List StepMade) (awaited : List Awaited) → AreFewer (left_after_all steps awaited) awaited
fewer_after_all [] awaited one m = m
fewer_after_all (made ∷ more) awaited one m = fewer_after (fallen_in made.step made.result) awaited one (fewer_after_all more (left_after (fallen_in made.step made.result) awaited) one m)

-- ---- steps of readers

says_same : (a b : whole_steps.Said) → Says a ≡ Says b → a ≡ b
says_same a b e = cc

says_well : (what : Said) → ((n : ℕ) → whole_said what ≢ Told (MailFaulted n)) → GoesWell (whole_outcome (Ok what))
says_well what fine = record { disks = λ n e. fine n (says_same (whole_said what) (Told (MailFaulted n)) e); memory = λ n e. cc e }

-- a step that did not fail
pub goes_well : (result : Result Said StepFault) → has_failed result ≡ false → GoesWell (whole_outcome result)
goes_well (Ok what) fine = says_well what (λ n. fine_of what n fine)
goes_well (Err why) fine = absurd (true≢false fine)

-- a call that a session makes, and that reads
pub record ReadsSo (node : ℕ) (begun : WorldCall) : Type 0 where
  pub ended : IsEnded (step.Begin node begun)
  pub reader : (result : Result Said StepFault) → GoesWell (whole_outcome result) → IsReaderStep (record { step = whole_step (step.Begin node begun); outcome = whole_outcome result })

pub reads_so : (node : ℕ) (begun : WorldCall) (asked : model.Call) → call_seen begun ≡ Some asked → IsReadCall (Some asked) → ReadsSo node begun
reads_so node (calls.Deliver deliver) asked e read = absurd (subst IsReadCall (sym e) read)
reads_so node (calls.Login user proof) asked e read = record { ended = tt; reader = λ result well. LogsIn node user _ refl well }
reads_so node (calls.Fetch user id holders from most) asked e read = record { ended = tt; reader = λ result well. Fetches node user id from most holders refl well }
reads_so node (calls.Strike user items) asked e read = absurd (subst IsReadCall (sym e) read)
reads_so node (calls.Leave user login manager) asked e read = absurd (let never : None ≡ Some asked = e in cc)

-- What a leave says is that it is noted, or that it was refused: no call that reads takes a node down.
leave_says : (node : ℕ) (user : List ℕ) (login : Number) (manager : ℕ) (what : Said) → SaysSo (step.Begin node (calls.Leave user login manager)) what → has_failed (Ok what) ≡ false
leave_says node user login manager said.Noted so = refl
leave_says node user login manager (said.Begun ticket stirs) so = absurd so
leave_says node user login manager (said.Asked ask) so = absurd so
leave_says node user login manager said.Heard so = absurd so
leave_says node user login manager (said.Thrown why) so = absurd so
leave_says node user login manager (said.Sent letters) so = absurd so
leave_says node user login manager (said.Widened did) so = absurd so
leave_says node user login manager (said.Grouped epoch) so = absurd so
leave_says node user login manager (said.Concluded epoch members) so = absurd so
leave_says node user login manager (said.NodeUp boot) so = absurd so
leave_says node user login manager said.Done so = absurd so
leave_says node user login manager (said.Faulted failed) so = absurd so

refused_well : (why : StepFault) → ((n : ℕ) → why ≢ fault.NoMemory (Some n)) → GoesWell (whole_outcome (Err why))
refused_well fault.NoSuchNode not_short = record { disks = λ n e. cc e; memory = λ n e. cc e }
refused_well fault.NodeLost not_short = record { disks = λ n e. cc e; memory = λ n e. cc e }
refused_well fault.NodeDown not_short = record { disks = λ n e. cc e; memory = λ n e. cc e }
refused_well fault.NodeUp not_short = record { disks = λ n e. cc e; memory = λ n e. cc e }
refused_well fault.NoSuchLetter not_short = record { disks = λ n e. cc e; memory = λ n e. cc e }
refused_well fault.NoSuchTicket not_short = record { disks = λ n e. cc e; memory = λ n e. cc e }
refused_well fault.NotAGroup not_short = record { disks = λ n e. cc e; memory = λ n e. cc e }
refused_well fault.Worn not_short = record { disks = λ n e. cc e; memory = λ n e. cc e }
refused_well fault.NoRoom not_short = record { disks = λ n e. cc e; memory = λ n e. cc e }
refused_well (fault.NoMemory None) not_short = record { disks = λ n e. cc e; memory = λ n e. cc e }
refused_well (fault.NoMemory (Some m)) not_short = absurd (not_short m refl)

module _ (plan : Plan) (told : Bool) (v w : joint.World) where
  leave_well : (node : ℕ) (user : List ℕ) (login : Number) (manager : ℕ) (result : Result Said StepFault) → IfOk result (SaysSo (step.Begin node (calls.Leave user login manager)))
      → MakesStep plan told v (whole_step (step.Begin node (calls.Leave user login manager))) (whole_outcome result) w → GoesWell (whole_outcome result)
  leave_well node user login manager (Ok what) so makes = goes_well (Ok what) (leave_says node user login manager what so)
  leave_well node user login manager (Err fault.NoSuchNode) so makes = refused_well fault.NoSuchNode (λ n e. cc e)
  leave_well node user login manager (Err fault.NodeLost) so makes = refused_well fault.NodeLost (λ n e. cc e)
  leave_well node user login manager (Err fault.NodeDown) so makes = refused_well fault.NodeDown (λ n e. cc e)
  leave_well node user login manager (Err fault.NodeUp) so makes = refused_well fault.NodeUp (λ n e. cc e)
  leave_well node user login manager (Err fault.NoSuchLetter) so makes = refused_well fault.NoSuchLetter (λ n e. cc e)
  leave_well node user login manager (Err fault.NoSuchTicket) so makes = refused_well fault.NoSuchTicket (λ n e. cc e)
  leave_well node user login manager (Err fault.NotAGroup) so makes = refused_well fault.NotAGroup (λ n e. cc e)
  leave_well node user login manager (Err fault.Worn) so makes = refused_well fault.Worn (λ n e. cc e)
  leave_well node user login manager (Err fault.NoRoom) so makes = refused_well fault.NoRoom (λ n e. cc e)
  leave_well node user login manager (Err (fault.NoMemory None)) so makes = refused_well (fault.NoMemory None) (λ n e. cc e)
  leave_well node user login manager (Err (fault.NoMemory (Some m))) so makes = absurd makes.for_whole

  pub leaves_so : (node : ℕ) (user : List ℕ) (begun : WorldCall) (result : Result Said StepFault) → IsLeave user begun → IfOk result (SaysSo (step.Begin node begun))
      → MakesStep plan told v (whole_step (step.Begin node begun)) (whole_outcome result) w → IsReaderStep (record { step = whole_step (step.Begin node begun); outcome = whole_outcome result })
  leaves_so node user (calls.Leave name login manager) result is so makes = Leaves node name login manager refl (leave_well node name login manager result so makes)
  leaves_so node user (calls.Deliver deliver) result is so makes = absurd is
  leaves_so node user (calls.Login name proof) result is so makes = absurd is
  leaves_so node user (calls.Fetch name id holders from most) result is so makes = absurd is
  leaves_so node user (calls.Strike name items) result is so makes = absurd is

pub asks_so : (ticket : Number) (ask : Ask) → IsReaderStep (record { step = whole_step (step.Ask ticket); outcome = whole_outcome (Ok (said.Asked ask)) })
asks_so ticket ask = Asks ticket refl (goes_well (Ok (said.Asked ask)) refl)

pub posts_so : (letter : ℕ) (keep : Bool) (result : Result Said StepFault) → has_failed result ≡ false → IsReaderStep (record { step = whole_step (step.Post letter keep); outcome = whole_outcome result })
posts_so letter keep result fine = Posts letter keep refl (goes_well result fine)
