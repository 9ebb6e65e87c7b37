-- A step for messages, in the words of the whole machine.
use Rattle.std.proofs.Common.{◌≡◌, ◌⊎◌, inl, inr, ⊎_elim, Bool, Some, None, Result, refl, sym, ap, subst}
use Rattle.std.specs.Option.{option_map}
use Rattle.mail_model.specs.Plan.{Plan}
use Rattle.cluster_model.specs.Makes as mail_makes
use Rattle.cluster_model.specs.Steps as mail_steps
use Rattle.whole_world.specs.Makes as whole_makes
use Rattle.whole_world.specs.Steps as whole_steps
use Rattle.whole_world.specs.World as whole_world
use Rattle.whole_world.specs.World.{mail_world_of}
use Rattle.cluster_world.specs.Seen.{step_seen, outcome_seen, whole_step, whole_outcome}
use Rattle.cluster_world.specs.declared.fault.StepFault.{StepFault}
use Rattle.cluster_world.specs.declared.step.Said.{Said}
use Rattle.cluster_world.specs.declared.step.Step.{Step}

-- what messages say, in the words of the whole machine
abbrev pub told : mail_steps.StepOutcome → whole_steps.StepOutcome
told (mail_steps.StepOutcome.Says said) = whole_steps.StepOutcome.Says (whole_steps.Said.Told said)
told (mail_steps.StepOutcome.Refused fault) = whole_steps.StepOutcome.Refused (whole_steps.StepFault.Fault fault)
told (mail_steps.StepOutcome.NoMemory down) = whole_steps.StepOutcome.NoMemory down

-- it opens and concludes no group, and reports nothing
abbrev pub IsNoForm : mail_steps.Step → Type 0
IsNoForm (mail_steps.Step.Form n) = ⊥
IsNoForm one = Unit {0}

-- The step is one for messages, and so is what is said of it. That it is not a start, nor a letter of maps that is looked at, is asked where it is done alone.
pub record IsOfMail (result : Result Said StepFault) (step : Step) : Type 0 where
  pub step_is : whole_step step ≡ whole_steps.Step.OfMessages (step_seen step)
  pub said_is : whole_outcome result ≡ told (outcome_seen result)
  pub sees : IsNoForm (step_seen step)

-- it is done, as far as memory lasts
abbrev pub IsDone : mail_steps.StepOutcome → Type 0
IsDone (mail_steps.StepOutcome.Says said) = Unit {0}
IsDone (mail_steps.StepOutcome.Refused fault) = ⊥
IsDone (mail_steps.StepOutcome.NoMemory None) = ⊥
IsDone (mail_steps.StepOutcome.NoMemory (Some n)) = Unit {0}

-- What messages do not see of their steps is not seen by the whole machine either.
unseen_on : (plan : Plan) (v : whole_world.World) (one : mail_steps.Step) (fault : mail_steps.StepFault) → IsNoForm one → mail_makes.IsUnseen plan (mail_world_of v) one fault
    → whole_makes.IsUnseen plan v (whole_steps.Step.OfMessages one) (whole_steps.StepFault.Fault fault)
unseen_on plan v (mail_steps.Step.AskFor number) fault sees (is, has) = (ap whole_steps.StepFault.Fault is, has)
unseen_on plan v (mail_steps.Step.GiveUp number) fault sees (is, has) = (ap whole_steps.StepFault.Fault is, has)
unseen_on plan v (mail_steps.Step.Form n) fault sees unseen = absurd sees
unseen_on plan v (mail_steps.Step.Begin node call) fault sees unseen = absurd unseen
unseen_on plan v (mail_steps.Step.Post letter keep) fault sees unseen = absurd unseen
unseen_on plan v (mail_steps.Step.DropLetter letter) fault sees unseen = absurd unseen
unseen_on plan v (mail_steps.Step.PushTo from to) fault sees unseen = absurd unseen
unseen_on plan v (mail_steps.Step.Widen at user id to) fault sees unseen = absurd unseen
unseen_on plan v (mail_steps.Step.Crash node) fault sees unseen = absurd unseen
unseen_on plan v (mail_steps.Step.Start node) fault sees unseen = absurd unseen
unseen_on plan v (mail_steps.Step.Lose node) fault sees unseen = absurd unseen
unseen_on plan v (mail_steps.Step.Tick seconds) fault sees unseen = absurd unseen

-- what messages refuse of their steps is refused
pub refused_on : (plan : Plan) (v : whole_world.World) (one : mail_steps.Step) (fault : mail_steps.StepFault) → IsNoForm one
    → ((mail_steps.step_fault plan one (mail_world_of v) ≡ Some fault)
    ⊎ ((mail_steps.step_fault plan one (mail_world_of v) ≡ None) × (fault ≡ mail_steps.StepFault.Worn) × mail_makes.StartIsWorn (mail_world_of v) one)) ⊎ mail_makes.IsUnseen plan (mail_world_of v) one fault
    → (whole_steps.step_fault plan (whole_steps.Step.OfMessages one) v ≡ Some (whole_steps.StepFault.Fault fault))
    ⊎ ((whole_steps.step_fault plan (whole_steps.Step.OfMessages one) v ≡ None) × (whole_steps.StepFault.Fault fault ≡ whole_steps.StepFault.Fault mail_steps.StepFault.Worn)
    × whole_makes.StartIsWorn v (whole_steps.Step.OfMessages one))
    ⊎ ((whole_steps.step_fault plan (whole_steps.Step.OfMessages one) v ≡ None) × (whole_steps.StepFault.Fault fault ≡ whole_steps.StepFault.Fault mail_steps.StepFault.NoRoom)
    × whole_makes.ReportHasNoRoom v (whole_steps.Step.OfMessages one))
    ⊎ whole_makes.IsUnseen plan v (whole_steps.Step.OfMessages one) (whole_steps.StepFault.Fault fault)
refused_on plan v one fault sees why = ⊎_elim
    (λ told_why. ⊎_elim (λ faults. inl (ap (option_map whole_steps.StepFault.Fault) faults))
    (λ (goes, worn, start). inr (inl (ap (option_map whole_steps.StepFault.Fault) goes, ap whole_steps.StepFault.Fault worn, start))) told_why)
    (λ unseen. inr (inr (inr (unseen_on plan v one fault sees unseen))))
    why

-- What was not done changed nothing.
pub kept_on : (plan : Plan) (tells : Bool) (v : whole_world.World) (one : mail_steps.Step) (out : mail_steps.StepOutcome) → (IsDone out → ⊥) → IsNoForm one
    → mail_makes.MakesStep plan tells (mail_world_of v) one out (mail_world_of v) → whole_makes.MakesStep plan tells v (whole_steps.Step.OfMessages one) (told out) v
kept_on plan tells v one (mail_steps.StepOutcome.Says said) none sees made = absurd (none tt)
kept_on plan tells v one (mail_steps.StepOutcome.Refused fault) none sees (why, same) = (refused_on plan v one fault sees why, refl)
kept_on plan tells v one (mail_steps.StepOutcome.NoMemory None) none sees same = refl
kept_on plan tells v one (mail_steps.StepOutcome.NoMemory (Some n)) none sees made = absurd (none tt)

pub kept_whole : (plan : Plan) (tells : Bool) (result : Result Said StepFault) (step : Step) (v : whole_world.World) → IsOfMail result step → (IsDone (outcome_seen result) → ⊥)
    → mail_makes.MakesStep plan tells (mail_world_of v) (step_seen step) (outcome_seen result) (mail_world_of v) → whole_makes.MakesStep plan tells v (whole_step step) (whole_outcome result) v
kept_whole plan tells result step v is none made =
    subst (λ s. whole_makes.MakesStep plan tells v s (whole_outcome result) v) (sym is.step_is)
    (subst (λ o. whole_makes.MakesStep plan tells v (whole_steps.Step.OfMessages (step_seen step)) o v) (sym is.said_is) (kept_on plan tells v (step_seen step) (outcome_seen result) none is.sees made))
