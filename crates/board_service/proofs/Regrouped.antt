-- A regroup adds nothing to the book that acknowledges or strikes, over a sound world.
use Rattle.std.proofs.Common.{◌≡◌, inl, inr, ℕ, List, [], ◌∷◌, sym, subst}
use Rattle.std.specs.Prelude.{Result}
use Rattle.cluster_owes.specs.Outcomes.{IsIdleStep}
use Rattle.desk_model.proofs.Begun.{idle_steps_are_quiet}
use Rattle.joint_world.specs.World.{mail_world_of}
use Rattle.node_store.specs.Disks.{View}
use Rattle.cluster_world.specs.Made.{StepMade, MakesSteps, IsOfRegroup, AreOfRegroup}
use Rattle.cluster_world.specs.Seen.{step_seen, outcome_seen}
use Rattle.cluster_world.specs.Steps.{IsStep}
use Rattle.cluster_world.specs.Worlds.{plan_of, disks_tell}
use Rattle.cluster_world.specs.declared.world.World.{World}
use Rattle.cluster_world.specs.declared.fault.StepFault.{StepFault}
use Rattle.cluster_world.specs.declared.regrouping.Regroup.{Regroup}
use Rattle.cluster_world.specs.declared.step.Step.{Step}
use Rattle.cluster_world.proofs.Leading.{step_leads}
use Rattle.desk_model.specs.Added.{AreQuiet}
use Rattle.solo_desk.specs.Serving.{AddsTo}
use Rattle.solo_desk.proofs.Stepping.{booked}
use Rattle.shard_board.specs.Deeds.{Regroups}
use Rattle.shard_board.specs.Worlds.{IsSoundWorld}
use Rattle.shard_board.proofs.Keeping.{IsSound, regroup_blind, regroup_ended, step_stays}
use Rattle.board_desk.proofs.Posted.{quiet_both}
use Rattle.board_desk.proofs.Sound.{same_world_adds}

-- no call begins in a step of it, and none is answered
idle_so : (n : ℕ) (one : StepMade) → IsOfRegroup n one → IsIdleStep (step_seen one.step) (outcome_seen one.result)
idle_so n one (inl is) = subst (λ (s : Step). IsIdleStep (step_seen s) (outcome_seen one.result)) (sym is) tt
idle_so n one (inr (inl is)) = subst (λ (s : Step). IsIdleStep (step_seen s) (outcome_seen one.result)) (sym is) tt
idle_so n one (inr (inr (letter, is))) = subst (λ (s : Step). IsIdleStep (step_seen s) (outcome_seen one.result)) (sym is) tt

module _ {D : Type 0} (on : View D) where
  one_adds : (n : ℕ) (one : StepMade) (old mid : World D) → IsOfRegroup n one → IsSound on old → IsStep on one.result one.step old mid → AddsTo AreQuiet old mid
  one_adds n one old mid of s is =
      let l = step_leads on one.result one.step old mid (inr (regroup_blind (plan_of old).nodes n one of)) (regroup_ended n one of) is s.whole in
      booked on AreQuiet old mid s.whole l.whole
      (idle_steps_are_quiet (plan_of old) (disks_tell on.seen old) (mail_world_of s.whole.v) (mail_world_of l.whole.v) (step_seen one.step) (outcome_seen one.result) l.seen s.whole.sound.whole.sound.mail (idle_so n one of))

  all_add : (n : ℕ) (steps : List StepMade) (old new : World D) → AreOfRegroup n steps → IsSound on old → MakesSteps on steps old new → AddsTo AreQuiet old new
  all_add n [] old new of s same = same_world_adds old new same
  all_add n (one ∷ more) old new (here, rest) s (mid, is, makes) =
      let stays = step_stays on one.result one.step old mid (inr (regroup_blind (plan_of old).nodes n one here)) (regroup_ended n one here) is in
      quiet_both on old mid new (one_adds n one old mid here s is) (all_add n more mid new rest (stays.sound s) makes)

  pub regroups_add : (n : ℕ) (result : Result Regroup StepFault) (old new : World D) → IsSoundWorld on old → Regroups on n result old new → AddsTo AreQuiet old new
  regroups_add n result old new c (inl (steps, made)) =
      all_add n steps old new made.of (record { whole = c.whole; tickets = c.tickets }) made.made
  regroups_add n result old new c (inr (short, same)) = same_world_adds old new same
