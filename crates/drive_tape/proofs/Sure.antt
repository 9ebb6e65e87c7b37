-- A node that may stop, or be lost, is not refused it.
use Rattle.std.proofs.Common.{◌≡◌, ℕ, nat_eq, nat_lt, Bool, true, false, Option, Some, None, refl, sym, ap, ◌∙◌, arith}
use Rattle.std.proofs.lemmas.Bool.Decides.{nat_tests}
use Rattle.std.specs.Prelude.{◌||◌, nat_le, List}
use Rattle.mail_model.specs.Plan.{Plan}
use Rattle.mail_model.specs.Site.TapeFault.{NoSuchNode}
use Rattle.mail_model.specs.Site.{TapeFault}
use Rattle.mail_model.specs.Tape.{or_else}
use Rattle.mail_model.specs.Tape.{ClusterOrder as order}
use Rattle.session_model.specs.Acts.{Act}
use Rattle.session_model.specs.Events.{NodeLife}
use Rattle.session_model.specs.Events.NodeLife.{Up, Down, Lost}
use Rattle.session_model.specs.Lives.{life_after}
use Rattle.session_model.specs.Run.{cluster_refusal, fault_if, is_no_node, work_fault, loss_fault}
use Rattle.cluster_model.specs.Steps.{is_node}
use Rattle.cluster_world.specs.Turns.{life_refusal, node_refusal}
use Rattle.cluster_world.specs.Worlds.{life_of}
use Rattle.cluster_world.specs.declared.fault.StepFault.{StepFault}
use Rattle.cluster_world.specs.declared.step.Step.TheVariants as step
use Rattle.cluster_world.specs.declared.world.World.{World}
use Rattle.drive_tape.specs.Worlds.{AreLives}

pub never_both : (refusal : Option StepFault) (why : StepFault) → refusal ≡ None → refusal ≡ Some why → ⊥
never_both refusal why none some = let never : ◌≡◌ {A = Option StepFault} None (Some why) = sym none ∙ some in let no : ⊥ = cc in no

-- a node that is named and may do it
record IsThere (plan : Plan) (n : ℕ) (fault : Option TapeFault) : Type 0 where
  there : is_no_node plan n ≡ false
  fit : fault ≡ None

is_there : (plan : Plan) (n : ℕ) (fault : Option TapeFault) → or_else (fault_if (is_no_node plan n) NoSuchNode) fault ≡ None → IsThere plan n fault
is_there plan n fault is = by (is_no_node plan n) refl is
  where
    by : (b : Bool) → is_no_node plan n ≡ b → or_else (fault_if b NoSuchNode) fault ≡ None → IsThere plan n fault
    by true so never = absurd (let no : ◌≡◌ {A = Option TapeFault} (Some NoSuchNode) None = never in cc)
    by false so none = record { there = so; fit = none }

named : (plan : Plan) (n : ℕ) → is_no_node plan n ≡ false → is_node plan n ≡ true
named plan n is = by (nat_eq n 0) (nat_lt plan.nodes n) refl refl is
  where
    by : (a b : Bool) → nat_eq n 0 ≡ a → nat_lt plan.nodes n ≡ b → (a || b) ≡ false → is_node plan n ≡ true
    by true b zero past never = absurd (let no : true ≡ false = never in cc)
    by false true zero past never = absurd (let no : true ≡ false = never in cc)
    by false false some within none =
        let above : nat_lt 0 n ≡ true = grind (arith, nat_tests, some) in
        let inside : nat_le n plan.nodes ≡ true = grind (arith, nat_tests, within) in rw (above, inside) refl

crash_life : (n : ℕ) (life : NodeLife) → work_fault life ≡ None → life_refusal (step.Crash n) life ≡ None
crash_life n (Up boot) is = refl
crash_life n Down is = absurd (let no : ◌≡◌ {A = Option TapeFault} (Some _) None = is in cc)
crash_life n Lost is = absurd (let no : ◌≡◌ {A = Option TapeFault} (Some _) None = is in cc)

loss_life : (n : ℕ) (life : NodeLife) → loss_fault life ≡ None → life_refusal (step.Lose n) life ≡ None
loss_life n (Up boot) is = refl
loss_life n Down is = refl
loss_life n Lost is = absurd (let no : ◌≡◌ {A = Option TapeFault} (Some _) None = is in cc)

module _ {D : Type 0} (plan : Plan) (been : List Act) (world : World D) (n : ℕ) (lives : AreLives plan been world) where
  pub crash_fits : cluster_refusal plan (life_after been) (order.Crash n) ≡ None → node_refusal plan (life_of world) (step.Crash n) ≡ None
  crash_fits accepted =
      let t = is_there plan n (work_fault (life_after been n)) accepted in
      rw (named plan n t.there) (ap (life_refusal (step.Crash n)) (lives n t.there) ∙ crash_life n (life_after been n) t.fit)

  pub loss_fits : cluster_refusal plan (life_after been) (order.Lose n) ≡ None → node_refusal plan (life_of world) (step.Lose n) ≡ None
  loss_fits accepted =
      let t = is_there plan n (loss_fault (life_after been n)) accepted in
      rw (named plan n t.there) (ap (life_refusal (step.Lose n)) (lives n t.there) ∙ loss_life n (life_after been n) t.fit)
