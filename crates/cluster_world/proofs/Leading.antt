-- What a step of a world leads to that stands for a sound one, and that a world which opens stands for one.
use Rattle.std.proofs.Common.{◌≡◌, ◌⊎◌, inl, inr, ⊎_elim, ◌∷◌, [], map, Bool, true, refl, sym, ap, ◌∙◌, subst, arith}
use Rattle.std.specs.Prelude.{Result, Ok, Err, ◌≤◌}
use Rattle.mail_model.specs.Plan.{Plan}
use Rattle.cluster_model.specs.Makes as mail_makes
use Rattle.cluster_model.specs.WorldLaws.{opening_world}
use Rattle.whole_world.specs.Makes.{MadeStep}
use Rattle.whole_world.specs.Seen as whole_seen
use Rattle.whole_world.specs.Sweeps.{IsCharted}
use Rattle.whole_world.specs.World.{mail_world_of as whole_mail_world_of}
use Rattle.whole_world.proofs.Charting.{all_chart}
use Rattle.whole_world.proofs.Projecting.{makes_seen}
use Rattle.joint_model.specs.Joint.{read_slot}
use Rattle.joint_world.specs.First.{first_world}
use Rattle.joint_world.specs.Laws.{Stands}
use Rattle.joint_world.specs.Makes.{MakesStep}
use Rattle.joint_world.specs.World.{whole_world_of, mail_world_of}
use Rattle.joint_world.proofs.Opening.{first_all_stand}
use Rattle.joint_world.proofs.SameStep.{makes_same}
use Rattle.joint_world.proofs.Standing.{all_stand}
use Rattle.node_store.specs.Disks.{View}
use Rattle.whole_node.specs.Starting.{first_map}
use Rattle.cluster_world.specs.Ended.{IsEnded}
use Rattle.cluster_world.specs.Maps.{StandsForAll}
use Rattle.cluster_world.specs.Opens.{IsAtBeginning}
use Rattle.cluster_world.specs.Seen.{step_seen, outcome_seen, whole_step, whole_outcome}
use Rattle.cluster_world.specs.Sound.{IsWhole}
use Rattle.cluster_world.specs.Steps.{IsBlind, IsStep, StepIsKnown, LeadsTo}
use Rattle.cluster_world.specs.Worlds.{state_of, plan_of, disks_tell}
use Rattle.cluster_world.specs.declared.fault.StepFault.{StepFault}
use Rattle.cluster_world.specs.declared.fault.StepFault.TheVariants as fault
use Rattle.cluster_world.specs.declared.step.Said.{Said}
use Rattle.cluster_world.specs.declared.step.Said.TheVariants as said
use Rattle.cluster_world.specs.declared.step.Step.{Step}
use Rattle.cluster_world.specs.declared.step.Step.TheVariants as step
use Rattle.cluster_world.specs.declared.world.World.{World}
use Rattle.cluster_world.proofs.Chained.{step_stays}
use Rattle.cluster_world.proofs.AtFirst.{first_managers, first_world_stands, first_world_charted}

-- messages see a step of the whole machine as the step of their own
pub step_alike : (one : Step) → whole_seen.step_seen (whole_step one) ≡ step_seen one
step_alike (step.Begin node call) = refl
step_alike (step.Ask ticket) = refl
step_alike (step.GiveUp ticket) = refl
step_alike (step.Post letter keep) = refl
step_alike (step.Drop letter) = refl
step_alike (step.Push from to) = refl
step_alike (step.Widen at user id to) = refl
step_alike (step.Group node) = refl
step_alike (step.Conclude node) = refl
step_alike (step.Report from to) = refl
step_alike (step.Crash node) = refl
step_alike (step.Start node) = refl
step_alike (step.Lose node) = refl
step_alike (step.Tick seconds) = refl

-- and what came of it
said_alike : (what : Said) → whole_seen.outcome_seen (whole_outcome (Ok what)) ≡ outcome_seen (Ok what)
said_alike (said.Begun ticket stirs) = refl
said_alike said.Noted = refl
said_alike (said.Asked ask) = refl
said_alike said.Heard = refl
said_alike (said.Thrown why) = refl
said_alike (said.Sent letters) = refl
said_alike (said.Widened did) = refl
said_alike (said.Grouped epoch) = refl
said_alike (said.Concluded epoch members) = refl
said_alike (said.NodeUp boot) = refl
said_alike said.Done = refl
said_alike (said.Faulted node) = refl

fault_alike : (why : StepFault) → whole_seen.outcome_seen (whole_outcome (Err why)) ≡ outcome_seen (Err why)
fault_alike fault.NoSuchNode = refl
fault_alike fault.NodeLost = refl
fault_alike fault.NodeDown = refl
fault_alike fault.NodeUp = refl
fault_alike fault.NoSuchLetter = refl
fault_alike fault.NoSuchTicket = refl
fault_alike fault.NotAGroup = refl
fault_alike fault.Worn = refl
fault_alike fault.NoRoom = refl
fault_alike (fault.NoMemory down) = refl

pub outcome_alike : (result : Result Said StepFault) → whole_seen.outcome_seen (whole_outcome result) ≡ outcome_seen result
outcome_alike (Ok what) = said_alike what
outcome_alike (Err why) = fault_alike why

module _ {D : Type 0} (on : View D) where
  -- The new world stands for one, too. The whole machine made the step between both, and so did that of messages.
  pub record StepsWhole (result : Result Said StepFault) (one : Step) (old new : World D) (h : IsWhole on (plan_of old) old) : Type 0 where
    pub whole : IsWhole on (plan_of new) new
    pub made : MakesStep (plan_of old) (disks_tell on.seen old) h.v (whole_step one) (whole_outcome result) whole.v
    pub seen : mail_makes.MakesStep (plan_of old) (disks_tell on.seen old) (mail_world_of h.v) (step_seen one) (outcome_seen result) (mail_world_of whole.v)

  pub step_leads : (result : Result Said StepFault) (one : Step) (old new : World D) → StepIsKnown on.seen (state_of old) one → IsEnded one → IsStep on result one old new
      → (h : IsWhole on (plan_of old) old) → StepsWhole result one old new h
  step_leads result one old new known ended is h =
      let plan = plan_of old in
      let tells = disks_tell on.seen old in
      let l : LeadsTo on result one (state_of old) (state_of new) h.v = is.did.leads known ended h.story h.v h.stands h.sound in
      let s = step_stays on result one old new is in
      let made_one : MadeStep = record { step = whole_step one; outcome = whole_outcome result } in
      let kept = all_stand plan tells h.v l.next (made_one ∷ []) h.story (l.next, l.made, refl) h.sound in
      let sees = makes_same plan tells h.story h.v h.sound (whole_step one) (whole_outcome result) l.next l.made in
      let charted = all_chart plan tells (whole_world_of h.v) (whole_world_of l.next) (made_one ∷ []) (whole_world_of l.next, sees, refl) h.sound.whole h.charted in
      record {
        whole = record {
          v = l.next;
          story = kept.0;
          sound = subst (λ (p : Plan). Stands p (disks_tell on.seen new) kept.0 l.next) (sym s.plan) (subst (λ t. Stands plan t kept.0 l.next) (sym s.told) kept.1);
          charted = subst (λ (p : Plan). IsCharted p (whole_world_of l.next)) (sym s.plan) charted;
          stands = l.stands;
        };
        made = l.made;
        seen = subst (λ o. mail_makes.MakesStep plan tells (mail_world_of h.v) (step_seen one) o (mail_world_of l.next)) (outcome_alike result)
            (subst (λ x. mail_makes.MakesStep plan tells (mail_world_of h.v) x (whole_seen.outcome_seen (whole_outcome result)) (mail_world_of l.next)) (step_alike one)
            (makes_seen plan tells (whole_world_of h.v) (whole_world_of l.next) (whole_step one) (whole_outcome result) sees));
      }

  -- A world that opens stands for the opening of the whole machine, which messages see as their own.
  pub opens_whole : (plan : Plan) (world : World D) → IsAtBeginning on plan world
      → (h : IsWhole on (plan_of world) world) × (h.v ≡ first_world plan.nodes (first_map plan)) × (mail_world_of (first_world plan.nodes (first_map plan)) ≡ opening_world plan.nodes (first_map plan))
  opens_whole plan world begins =
      let few : plan.nodes ≤ 64 = omega (arith, world.nodes.few, ap (λ (p : Plan). p.nodes) begins.plan_is) in
      let tells = disks_tell on.seen world in
      let first = first_all_stand plan tells (first_map plan) begins.some few (first_managers plan begins.some) in
      let charted = first_world_charted plan (omega (arith, world.nodes.bucketed, ap (λ (p : Plan). p.buckets) begins.plan_is)) in (
        record {
          v = first_world plan.nodes (first_map plan);
          story = map (read_slot tells) (first_world plan.nodes (first_map plan)).slots ∷ [];
          sound = subst (λ (p : Plan). Stands p tells (map (read_slot tells) (first_world plan.nodes (first_map plan)).slots ∷ []) (first_world plan.nodes (first_map plan))) (sym begins.plan_is) first.0;
          charted = subst (λ (p : Plan). IsCharted p (whole_world_of (first_world plan.nodes (first_map plan)))) (sym begins.plan_is) (subst (IsCharted plan) (sym first.1) charted);
          stands = begins.stands;
        },
        refl,
        ap whole_mail_world_of first.1 ∙ (first_world_stands plan few).1,
      )

  -- a world that is the same stands for the same
  abbrev pub same_whole : (plan : Plan) (old new : World D) → new ≡ old → IsWhole on plan old → IsWhole on plan new
  same_whole plan old new same h = record {
    v = h.v;
    story = h.story;
    sound = subst (λ (w : World D). Stands plan (disks_tell on.seen w) h.story h.v) (sym same) h.sound;
    charted = h.charted;
    stands = subst (λ (w : World D). StandsForAll on (state_of w) h.v) (sym same) h.stands;
  }

  -- The same of a step, where the plan is this and disks tell, or do not.
  pub record LedWhole (plan : Plan) (told : Bool) (result : Result Said StepFault) (one : Step) (old new : World D) (h : IsWhole on plan old) : Type 0 where
    pub whole : IsWhole on plan new
    pub made : MakesStep plan told h.v (whole_step one) (whole_outcome result) whole.v

  pub led_whole : (plan : Plan) (told : Bool) (result : Result Said StepFault) (one : Step) (old new : World D) → plan_of old ≡ plan → disks_tell on.seen old ≡ told → (told ≡ true) ⊎ IsBlind plan.nodes one → IsEnded one
      → IsStep on result one old new → (h : IsWhole on plan old) → LedWhole plan told result one old new h
  led_whole plan told result one old new plan_is told_is known ended is h =
      subst (λ (p : Plan). (k : IsWhole on p old) → LedWhole p told result one old new k) plan_is
      (λ k. subst (λ t. LedWhole (plan_of old) t result one old new k) told_is (own k)) h
    where
      known_here : StepIsKnown on.seen (state_of old) one
      known_here = ⊎_elim (λ t. inl (told_is ∙ t)) (λ b. inr (subst (λ (p : Plan). IsBlind p.nodes one) (sym plan_is) b)) known

      own : (k : IsWhole on (plan_of old) old) → LedWhole (plan_of old) (disks_tell on.seen old) result one old new k
      own k =
          let s = step_leads result one old new known_here ended is k in
          record {
            whole = record {
              v = s.whole.v;
              story = s.whole.story;
              sound = subst (λ (p : Plan). Stands p (disks_tell on.seen new) s.whole.story s.whole.v) is.did.plan s.whole.sound;
              charted = subst (λ (p : Plan). IsCharted p (whole_world_of s.whole.v)) is.did.plan s.whole.charted;
              stands = s.whole.stands;
            };
            made = s.made;
          }
