-- A settle adds nothing to the book that acknowledges or strikes, over a sound world whose disks tell what they hold.
use Rattle.std.proofs.Common.{◌≡◌, inl, inr, ℕ, true, List, [], ◌∷◌, sym, subst, ◌∙◌}
use Rattle.std.specs.Prelude.{Result}
use Rattle.cluster_owes.specs.Outcomes.{IsIdleStep}
use Rattle.desk_model.proofs.Begun.{idle_steps_are_quiet}
use Rattle.joint_world.specs.World.{mail_world_of}
use Rattle.node_store.specs.Disks.{View}
use Rattle.cluster_world.specs.Made.{StepMade, MakesSteps}
use Rattle.cluster_world.specs.Seen.{step_seen, outcome_seen}
use Rattle.cluster_world.specs.Settling.{IsOfSettle, AreOfSettle}
use Rattle.cluster_world.specs.Settling.IsOfSettle.{Posts, Pushes, Reports}
use Rattle.cluster_world.specs.Steps.{IsStep}
use Rattle.cluster_world.specs.Worlds.{plan_of, disks_tell}
use Rattle.cluster_world.specs.declared.world.World.{World}
use Rattle.cluster_world.specs.declared.fault.StepFault.{StepFault}
use Rattle.cluster_world.specs.declared.settling.Settle.{Settle}
use Rattle.cluster_world.specs.declared.step.Step.{Step}
use Rattle.cluster_world.proofs.Leading.{step_leads}
use Rattle.desk_model.specs.Added.{AreQuiet}
use Rattle.solo_desk.specs.Serving.{AddsTo}
use Rattle.solo_desk.proofs.Stepping.{booked}
use Rattle.shard_board.specs.Deeds.{Settles}
use Rattle.shard_board.specs.Worlds.{IsSoundWorld}
use Rattle.shard_board.proofs.Keeping.{IsSound, settle_ended, step_stays}
use Rattle.board_desk.proofs.Posted.{quiet_both}
use Rattle.board_desk.proofs.Sound.{same_world_adds}

-- no call begins in a step of it, and none is answered
idle_so : (one : StepMade) → IsOfSettle one → IsIdleStep (step_seen one.step) (outcome_seen one.result)
idle_so one (Posts post) = subst (λ (s : Step). IsIdleStep (step_seen s) (outcome_seen one.result)) (sym post.1) tt
idle_so one (Pushes from to apart is) = subst (λ (s : Step). IsIdleStep (step_seen s) (outcome_seen one.result)) (sym is) tt
idle_so one (Reports from to apart is) = subst (λ (s : Step). IsIdleStep (step_seen s) (outcome_seen one.result)) (sym is) tt

module _ {D : Type 0} (on : View D) where
  one_adds : (one : StepMade) (old mid : World D) → disks_tell on.seen old ≡ true → IsOfSettle one → IsSound on old → IsStep on one.result one.step old mid → AddsTo AreQuiet old mid
  one_adds one old mid tell of s is =
      let l = step_leads on one.result one.step old mid (inl tell) (settle_ended one of) is s.whole in
      booked on AreQuiet old mid s.whole l.whole
      (idle_steps_are_quiet (plan_of old) (disks_tell on.seen old) (mail_world_of s.whole.v) (mail_world_of l.whole.v) (step_seen one.step) (outcome_seen one.result) l.seen s.whole.sound.whole.sound.mail (idle_so one of))

  all_add : (steps : List StepMade) (old new : World D) → disks_tell on.seen old ≡ true → AreOfSettle steps → IsSound on old → MakesSteps on steps old new → AddsTo AreQuiet old new
  all_add [] old new tell of s same = same_world_adds old new same
  all_add (one ∷ more) old new tell (here, rest) s (mid, is, makes) =
      let stays = step_stays on one.result one.step old mid (inl tell) (settle_ended one here) is in
      quiet_both on old mid new (one_adds one old mid tell here s is) (all_add more mid new (stays.told ∙ tell) rest (stays.sound s) makes)

  pub settles_add : (result : Result Settle StepFault) (old new : World D) → disks_tell on.seen old ≡ true → IsSoundWorld on old → Settles on result old new → AddsTo AreQuiet old new
  settles_add result old new tell c (inl s) =
      all_add s.makes.steps old new tell s.makes.of (record { whole = c.whole; tickets = c.tickets }) s.makes.made
  settles_add result old new tell c (inr (short, same)) = same_world_adds old new same
