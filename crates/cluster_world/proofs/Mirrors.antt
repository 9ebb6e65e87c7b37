-- A chain of steps of a world, as the machine makes them: each step once, marked with the session that led to it.
use Rattle.std.proofs.Common.{◌≡◌, ⊎_elim, ◌⊎◌, inl, inr, ℕ, Bool, true, List, [], ◌∷◌, ◌++◌, append-nil, append_assoc, refl, sym, ap, ◌∙◌, subst}
use Rattle.std.specs.Prelude.{flat_map, Result}
use Rattle.std.proofs.lemmas.Grind.{flat_map-append}
use Rattle.mail_model.specs.Plan.{Plan}
use Rattle.object_model.specs.Lists.{Among}
use Rattle.object_model.proofs.Lists.{among_front, among_behind}
use Rattle.cluster_model.specs.Steps as mail
use Rattle.whole_world.specs.Seen as whole_seen
use Rattle.joint_world.specs.World as joint
use Rattle.cluster_owes.specs.Outcomes as owes
use Rattle.node_store.specs.Disks.{View}
use Rattle.cluster_world.specs.Worlds.{plan_of, disks_tell}
use Rattle.cluster_world.specs.Seen.{step_seen, outcome_seen, whole_step, whole_outcome}
use Rattle.cluster_world.specs.Sound.{IsWhole}
use Rattle.cluster_world.specs.Ended.{IsEnded}
use Rattle.cluster_world.specs.Steps.{IsBlind, IsStep}
use Rattle.cluster_world.specs.Outcomes.{Outcome, Awaited, asked_by_outcome, answered_by_outcome}
use Rattle.cluster_world.specs.Owing.{AreOfSessions}
use Rattle.cluster_world.specs.declared.world.World.{World}
use Rattle.cluster_world.specs.declared.step.Step.{Step}
use Rattle.cluster_world.specs.declared.step.Said.{Said}
use Rattle.cluster_world.specs.declared.fault.StepFault.{StepFault}
use Rattle.cluster_world.proofs.Leading.{LedWhole, led_whole, step_alike, outcome_alike}

abbrev pub begun_of : Awaited → owes.BegunCall
begun_of one = record { ticket = one.ticket; session = one.session; call = one.call }

-- what is awaited has begun
abbrev pub HaveBegun : List Awaited → List owes.BegunCall → Type 0
HaveBegun awaited begun = (one : Awaited) → Among one awaited → Among (begun_of one) begun

abbrev pub begun_with : List owes.BegunCall → List owes.Outcome → List owes.BegunCall
begun_with begun outs = begun ++ flat_map owes.begun_by_outcome outs

-- what the machine makes of these outcomes
pub record Mirrored {D : Type 0} (on : View D) (plan : Plan) (disks_tell : Bool) (outcomes : List Outcome) (left : List Awaited) (begun : List owes.BegunCall) (w : joint.World) (new : World D) : Type 0 where
  pub outs : List owes.Outcome
  pub whole : IsWhole on plan new
  pub makes : owes.Makes plan disks_tell outs begun w whole.v
  pub asked : flat_map owes.asked_by_outcome outs ≡ flat_map asked_by_outcome outcomes
  pub answered : flat_map owes.answered_by_outcome outs ≡ flat_map answered_by_outcome outcomes
  pub within : HaveBegun left (begun_with begun outs)
  pub sessions : (lines : List (List ℕ)) → AreOfSessions lines outcomes → owes.AreOfSessions lines outs

module _ {D : Type 0} (on : View D) (plan : Plan) (told : Bool) where
  -- the world is of this plan, and its disks tell so
  pub record IsOf (world : World D) : Type 0 where
    pub plan_is : plan_of world ≡ plan
    pub told_is : disks_tell on.seen world ≡ told

  pub led : (result : Result Said StepFault) (step : Step) (old new : World D) → IsOf old → (told ≡ true) ⊎ IsBlind plan.nodes step → IsEnded step → IsStep on result step old new
      → (h : IsWhole on plan old) → LedWhole on plan told result step old new h
  led result step old new of known ended is h = led_whole on plan told result step old new of.plan_is of.told_is known ended is h

  idle_alike : (step : Step) (result : Result Said StepFault) → owes.IsIdleStep (step_seen step) (outcome_seen result) → owes.IsIdleStep (whole_seen.step_seen (whole_step step)) (whole_seen.outcome_seen (whole_outcome result))
  idle_alike step result idle =
      subst (λ (s : mail.Step). owes.IsIdleStep s (whole_seen.outcome_seen (whole_outcome result))) (sym (step_alike step))
      (subst (λ (o : mail.StepOutcome). owes.IsIdleStep (step_seen step) o) (sym (outcome_alike result)) idle)

  -- one step of which no session hears
  pub quiet_one : (outcomes : List Outcome) (awaited left : List Awaited) (begun : List owes.BegunCall) (old new : World D) (h : IsWhole on plan old) (result : Result Said StepFault) (step : Step)
      → LedWhole on plan told result step old new h → owes.IsIdleStep (step_seen step) (outcome_seen result) → flat_map asked_by_outcome outcomes ≡ [] → flat_map answered_by_outcome outcomes ≡ []
      → HaveBegun awaited begun → ((one : Awaited) → Among one left → Among one awaited) → Mirrored on plan told outcomes left begun h.v new
  quiet_one outcomes awaited left begun old new h result step l other no_asked no_answer within fewer = record {
    outs = owes.Outcome.Other (whole_step step) (whole_outcome result) ∷ [];
    whole = l.whole;
    makes = (l.whole.v, (idle_alike step result other, l.made), refl);
    asked = sym no_asked;
    answered = sym no_answer;
    within = λ one m. among_front (begun_of one) begun [] (within one (fewer one m));
    sessions = λ lines of. (tt, tt);
  }

  -- the machine makes both, one after the other
  pub makes_both : (xs ys : List owes.Outcome) (begun : List owes.BegunCall) (u v w : joint.World) → owes.Makes plan told xs begun u v → owes.Makes plan told ys (begun_with begun xs) v w
      → owes.Makes plan told (xs ++ ys) begun u w
  makes_both [] ys begun u v w is more = subst (λ s. owes.Makes plan told ys begun s w) is (subst (λ b. owes.Makes plan told ys b v w) (append-nil begun) more)
  makes_both (x ∷ xs) ys begun u v w (mid, came, makes) more = (
    mid,
    came,
    makes_both xs ys (begun ++ owes.begun_by_outcome x) mid v w makes
        (subst (λ b. owes.Makes plan told ys b v w) (sym (append_assoc begun (owes.begun_by_outcome x) (flat_map owes.begun_by_outcome xs))) more),
  )

  pub sessions_both : (lines : List (List ℕ)) (xs ys : List owes.Outcome) → owes.AreOfSessions lines xs → owes.AreOfSessions lines ys → owes.AreOfSessions lines (xs ++ ys)
  sessions_both lines [] ys p q = q
  sessions_both lines (x ∷ xs) ys (one, p) q = (one, sessions_both lines xs ys p q)

  both_flat : {X : Type 0} (f : owes.Outcome → List X) (g : Outcome → List X) (xs ys : List owes.Outcome) (outcomes more : List Outcome)
      → flat_map f xs ≡ flat_map g outcomes → flat_map f ys ≡ flat_map g more → flat_map f (xs ++ ys) ≡ flat_map g (outcomes ++ more)
  both_flat f g xs ys outcomes more p q = flat_map-append f xs ys ∙ rw (p, q) refl ∙ sym (flat_map-append g outcomes more)

  pub joined : (outcomes more : List Outcome) (between left : List Awaited) (begun : List owes.BegunCall) (w : joint.World) (mid new : World D)
      → (a : Mirrored on plan told outcomes between begun w mid) → Mirrored on plan told more left (begun_with begun a.outs) a.whole.v new → Mirrored on plan told (outcomes ++ more) left begun w new
  joined outcomes more between left begun w mid new a b = record {
    outs = a.outs ++ b.outs;
    whole = b.whole;
    makes = makes_both a.outs b.outs begun w a.whole.v b.whole.v a.makes b.makes;
    asked = both_flat owes.asked_by_outcome asked_by_outcome a.outs b.outs outcomes more a.asked b.asked;
    answered = both_flat owes.answered_by_outcome answered_by_outcome a.outs b.outs outcomes more a.answered b.answered;
    within = λ one m. subst (Among (begun_of one)) (append_assoc begun (flat_map owes.begun_by_outcome a.outs) (flat_map owes.begun_by_outcome b.outs)
        ∙ ap (λ (l : List owes.BegunCall). begun ++ l) (sym (flat_map-append owes.begun_by_outcome a.outs b.outs))) (b.within one m);
    sessions = λ lines of. sessions_both lines a.outs b.outs
        (a.sessions lines (λ outcome m. of outcome (among_front outcome outcomes more m)))
        (b.sessions lines (λ outcome m. of outcome (among_behind outcome outcomes more m)));
  }
