-- What each step leaves so, a chain of steps leaves so.
use Rattle.std.proofs.Common.{List, [], ◌∷◌, sym, subst}
use Rattle.std.specs.Prelude.{Result}
use Rattle.node_store.specs.Disks.{View}
use Rattle.cluster_world.specs.Steps.{IsStep}
use Rattle.cluster_world.specs.Made.{StepMade, MakesSteps}
use Rattle.cluster_world.specs.Outcomes.{Outcome, Awaited, Came, Makes}
use Rattle.cluster_world.specs.Outcomes.Outcome.{Began, Refused, Fell, Broke, Answers, StillPending, Unanswered, GaveUp, Abandoned, KeptUp, Left, Moved, Settling, Mapped}
use Rattle.cluster_world.proofs.Ordered.{order_makes}
use Rattle.cluster_world.specs.declared.world.World.{World}
use Rattle.cluster_world.specs.declared.step.Step.{Step}
use Rattle.cluster_world.specs.declared.step.Said.{Said}
use Rattle.cluster_world.specs.declared.fault.StepFault.{StepFault}

module _ {D : Type 0} (on : View D) (P : World D → World D → Type 0) (same : (world : World D) → P world world) (both : (a b c : World D) → P a b → P b c → P a c)
    (one : (result : Result Said StepFault) (step : Step) (old new : World D) → IsStep on result step old new → P old new) where
  pub along_steps : (steps : List StepMade) (old new : World D) → MakesSteps on steps old new → P old new
  along_steps [] old new is = subst (λ (w : World D). P old w) (sym is) (same old)
  along_steps (made ∷ more) old new (mid, is, makes) = both old mid new (one made.result made.step old mid is) (along_steps more mid new makes)

  pub along_came : (outcome : Outcome) (awaited left : List Awaited) (old new : World D) → Came on outcome awaited old left new → P old new
  along_came (Began k node asked ticket) awaited left old new came = one _ _ old new came.3
  along_came (Refused k node asked) awaited left old new came = one _ _ old new came.4
  along_came (Fell k node asked) awaited left old new came = one _ _ old new came.2
  along_came (Broke k node asked) awaited left old new came = one _ _ old new came.3
  along_came (Answers k asked ticket given) awaited left old new came = one _ _ old new came.3
  along_came (StillPending k ticket) awaited left old new came = one _ _ old new came.4
  along_came (Unanswered k asked ticket) awaited left old new came = one _ _ old new came.3
  along_came (GaveUp k asked ticket) awaited left old new came = one _ _ old new came.1
  along_came (Abandoned k asked ticket) awaited left old new came = one _ _ old new came.1
  along_came (KeptUp k ticket why) awaited left old new came = one _ _ old new came.2
  along_came (Left k node user) awaited left old new came = one _ _ old new came.3
  along_came (Moved order steps sum up) awaited left old new came = along_steps steps old new (order_makes on order steps old new came.0)
  along_came (Settling result steps) awaited left old new (makes, are, left_is) = along_steps steps old new (subst (λ (l : List StepMade). MakesSteps on l old new) are makes.made)
  along_came (Mapped user told) awaited left old new came = subst (λ (w : World D). P old w) (sym came.2) (same old)

  pub along : (outcomes : List Outcome) (awaited left : List Awaited) (old new : World D) → Makes on outcomes awaited old left new → P old new
  along [] awaited left old new makes = subst (λ (w : World D). P old w) (sym makes.1) (same old)
  along (outcome ∷ more) awaited left old new (between, mid, came, makes) =
      both old mid new (along_came outcome awaited between old mid came) (along more between left mid new makes)
