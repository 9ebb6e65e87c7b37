-- A step that changes nothing.
use Rattle.std.proofs.Common.{◌≡◌, inl, ℕ, ◌≤◌, Some, None, Result, Err, refl, sym, ap, ◌∙◌, subst, arith}
use Rattle.std.specs.Prelude.{is_some}
use Rattle.cluster_model.specs.World as machine
use Rattle.cluster_model.specs.Makes as mail_makes
use Rattle.cluster_model.specs.Steps as mail_steps
use Rattle.whole_world.specs.Makes as whole_makes
use Rattle.whole_world.specs.Steps as whole_steps
use Rattle.joint_world.specs.Makes as joint_makes
use Rattle.joint_world.specs.Steps.{step_fault}
use Rattle.joint_world.specs.World as joint_world
use Rattle.joint_world.specs.World.{whole_world_of, mail_world_of}
use Rattle.node_store.specs.Disks.{View}
use Rattle.cluster_world.specs.Maps.{StandsForAll}
use Rattle.cluster_world.specs.Seen.{step_seen, outcome_seen, whole_step, whole_outcome, whole_fault}
use Rattle.cluster_world.specs.Worlds.{WorldState, disk_in, tells_in, StateStandsFor}
use Rattle.cluster_world.specs.Steps.{AreToldAlike, IsQuiet, IsUnchanged, EveryStopKeeps, StepDid, LeadsTo}
use Rattle.cluster_world.proofs.Clocks.{unticked}
use Rattle.cluster_world.proofs.Still.{some_same, nothing_read, all_untouched}
use Rattle.cluster_world.specs.Moments.{StopsKeep}
use Rattle.cluster_world.specs.declared.step.Said.{Said}
use Rattle.cluster_world.specs.declared.step.Step.{Step}
use Rattle.cluster_world.specs.declared.fault.StepFault.{StepFault}
use Rattle.cluster_world.specs.declared.fault.StepFault.TheVariants as fault
use Rattle.cluster_world.proofs.Lifting.{IsDoneWhole, IsNoAsk, no_ask_alike, none_over}
use Rattle.cluster_world.proofs.Longer.{same_book}
use Rattle.cluster_world.proofs.Told.{told, IsOfMail, IsDone, kept_whole}

-- what was done as the whole machine says it was done as messages say it
mail_done : (result : Result Said StepFault) (step : Step) → IsOfMail result step → IsDoneWhole (whole_outcome result) → IsDone (outcome_seen result)
mail_done result step is done = by (outcome_seen result) (subst IsDoneWhole is.said_is done)
  where
    by : (out : mail_steps.StepOutcome) → IsDoneWhole (told out) → IsDone out
    by (mail_steps.StepOutcome.Says said) done = tt
    by (mail_steps.StepOutcome.Refused fault) done = absurd done
    by (mail_steps.StepOutcome.NoMemory None) done = absurd done
    by (mail_steps.StepOutcome.NoMemory (Some n)) done = tt

module _ {D : Type 0} (on : View D) (state : WorldState D) where
  same_disk : (n : ℕ) (disk disk' : D) → disk_in state n ≡ Some disk → disk_in state n ≡ Some disk' → disk' ≡ disk
  same_disk n disk disk' e f = some_same disk' disk (sym f ∙ e)

  pub same_stops : (w : machine.World) → StateStandsFor on state w → EveryStopKeeps on state state w.slots w.slots
  same_stops w s = record {
    each = λ n disk disk' slot slot' e f a b here.
        let one = all_untouched on state.lives state.disks w.slots s.slots n disk slot e a here in
        subst (λ after. StopsKeep on n disk after slot slot') (sym (same_disk n disk disk' e f)) (subst (λ next. StopsKeep on n disk disk slot next) (some_same slot slot' (sym a ∙ b)) one);
  }

  pub same_told : AreToldAlike on.seen state state
  same_told = record { each = λ n disk disk' e f. ap (λ d. is_some (on.seen d)) (same_disk n disk disk' e f) }

  pub same_quiet : IsQuiet on.faults state state
  same_quiet = record {
    later = λ n disk disk' e f. subst (λ d. on.faults disk ≤ on.faults d) (sym (same_disk n disk disk' e f)) (omega arith);
    same = λ n boot disk disk' b e f. ap on.faults (same_disk n disk disk' e f);
  }

  pub same_unchanged : (step : Step) → IsUnchanged on step state state
  same_unchanged step = record {
    nodes = λ n. refl;
    disks = λ n disk disk' e f _. same_disk n disk disk' e f;
    reads = λ n disk disk' e f _. (nothing_read on disk disk' (same_disk n disk disk' e f), ap on.faults (same_disk n disk disk' e f));
    flying = refl;
    seconds = refl;
    book = refl;
  }

  -- A step that is refused, or for which there was no memory, leads to the world that was.
  pub led_same : (result : Result Said StepFault) (step : Step) (v : joint_world.World) → StandsForAll on state v
      → joint_makes.MakesStep state.plan (tells_in on.seen state) v (whole_step step) (whole_outcome result) v → LeadsTo on result step state state v
  led_same result step v st made = record { next = v; stands = st; made = made; stops = same_stops (mail_world_of v) st.mail }

  -- so it is of one that the machine refuses
  pub led_refused : (why : StepFault) (fault : whole_steps.StepFault) (step : Step) (v : joint_world.World) → StandsForAll on state v → whole_fault why ≡ whole_steps.StepOutcome.Refused fault
      → step_fault state.plan (whole_step step) v ≡ Some fault → LeadsTo on (Err why) step state state v
  led_refused why fault step v st is refused = led_same (Err why) step v st
      (subst (λ o. joint_makes.MakesStep state.plan (tells_in on.seen state) v (whole_step step) o v) (sym is) (inl refused, refl))

  -- so it is where the whole machine makes the step that is none of calls that read,
  pub led_whole : (result : Result Said StepFault) (step : Step) (v : joint_world.World) → StandsForAll on state v → IsNoAsk step → (IsDoneWhole (whole_outcome result) → ⊥)
      → whole_makes.MakesStep state.plan (tells_in on.seen state) (whole_world_of v) (whole_step step) (whole_outcome result) (whole_world_of v) → LeadsTo on result step state state v
  led_whole result step v st aside none made =
      led_same result step v st (none_over state.plan (tells_in on.seen state) v (whole_step step) (no_ask_alike state.plan step v aside) (whole_outcome result) none (whole_world_of v) made).1

  -- or messages do
  pub led_kept : (result : Result Said StepFault) (step : Step) (v : joint_world.World) → StandsForAll on state v → IsOfMail result step → IsNoAsk step → (IsDone (outcome_seen result) → ⊥)
      → mail_makes.MakesStep state.plan (tells_in on.seen state) (mail_world_of v) (step_seen step) (outcome_seen result) (mail_world_of v) → LeadsTo on result step state state v
  led_kept result step v st is aside none made = led_whole result step v st aside (λ done. none (mail_done result step is done))
      (kept_whole state.plan (tells_in on.seen state) result step (whole_world_of v) is none made)

  -- out of memory, and nothing was done
  pub none_done : (step : Step) → StepDid on (Err (fault.NoMemory None)) step state state
  none_done step = record {
    plan = refl;
    handed = refl;
    clock = unticked step (fault.NoMemory None) state.seconds;
    passed = tt;
    books = same_book state.book;
    kept = same_unchanged step;
    refused = tt;
    kind = tt;
    falls = tt;
    lives = λ n. refl;
    told = same_told;
    quiet = same_quiet;
    leads = λ known ended story v st sound. led_same (Err (fault.NoMemory None)) step v st refl;
    cause = λ w s. tt;
  }
