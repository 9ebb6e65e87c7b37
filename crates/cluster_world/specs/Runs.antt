-- What making several steps does.
use Rattle.std.specs.Prelude.{◌≡◌, ◌⊎◌, List, ◌∷◌, [], ◌++◌, map, None, Ok, Err}
use Rattle.node_store.specs.Disks.{View}
use Rattle.cluster_world.specs.Made.{StepMade, MakesSteps}
use Rattle.cluster_world.specs.declared.world.World.{World}
use Rattle.cluster_world.specs.declared.step.Step.{Step}
use Rattle.cluster_world.specs.declared.step.Said.{Said}
use Rattle.cluster_world.specs.declared.fault.StepFault.{StepFault}
use Rattle.cluster_world.specs.declared.fault.StepFault.TheVariants.{NoMemory}

-- these steps were made, one after another, and no others, and said this
pub record MadeThese {D : Type 0} (on : View D) (steps : List Step) (said : List Said) (old new : World D) : Type 0 where
  pub made : List StepMade
  pub makes : MakesSteps on made old new
  pub steps_are : map (λ one. one.step) made ≡ steps
  pub said_are : map (λ one. one.result) made ≡ map Ok said

-- the first of these steps were made, and the next was refused
pub record MadeSome {D : Type 0} (on : View D) (steps : List Step) (why : StepFault) (old new : World D) : Type 0 where
  pub front : List Step
  pub refused : Step
  pub rest : List Step
  pub split : front ++ refused ∷ rest ≡ steps
  pub said : List Said
  pub made : List StepMade
  pub makes : MakesSteps on made old new
  pub steps_are : map (λ one. one.step) made ≡ front ++ refused ∷ []
  pub results_are : map (λ one. one.result) made ≡ map Ok said ++ Err why ∷ []

-- so a run is refused; or memory ran out before the first
abbrev pub RunStops : {D : Type 0} → View D → List Step → StepFault → World D → World D → Type 0
RunStops on steps why old new = MadeSome on steps why old new ⊎ ((why ≡ NoMemory None) × (new ≡ old))
