-- Steps that are made one after another, up to the first that is refused.
use Rattle.std.proofs.Common.{◌≡◌, inl, inr, List, [], ◌∷◌, ◌++◌, None, Result, Ok, Err, refl, sym, ap, ◌∙◌}
use Rattle.std.proofs.lemmas.List.{map-append}
use Rattle.node_store.specs.Disks.{View}
use Rattle.cluster_world.specs.Made.{StepMade}
use Rattle.cluster_world.specs.Runs.{MadeThese, RunStops}
use Rattle.cluster_world.specs.Steps.{IsStep}
use Rattle.cluster_world.specs.declared.world.World.{World}
use Rattle.cluster_world.specs.declared.step.Step.{Step}
use Rattle.cluster_world.specs.declared.step.Said.{Said}
use Rattle.cluster_world.specs.declared.fault.StepFault.{StepFault}
use Rattle.cluster_world.specs.declared.fault.StepFault.TheVariants.{NoMemory}
use Rattle.cluster_world.proofs.Ordered.{steps_more}

-- what a step answered
abbrev answered : Said → Result Said StepFault
answered what = Ok what

module _ {D : Type 0} (on : View D) where
  pub none_made : (world : World D) → MadeThese on [] [] world world
  none_made world = record { made = []; makes = refl; steps_are = refl; said_are = refl }

  pub one_more_made : (steps : List Step) (said : List Said) (step : Step) (what : Said) (old mid new : World D) → MadeThese on steps said old mid → IsStep on (Ok what) step mid new
      → MadeThese on (steps ++ step ∷ []) (said ++ what ∷ []) old new
  one_more_made steps said step what old mid new h is = record {
    made = h.made ++ record { step = step; result = Ok what } ∷ [];
    makes = steps_more on h.made (record { step = step; result = Ok what }) old mid new h.makes is;
    steps_are = map-append (λ (one : StepMade). one.step) h.made (record { step = step; result = Ok what } ∷ []) ∙ ap (λ xs. xs ++ step ∷ []) h.steps_are;
    said_are = map-append (λ (one : StepMade). one.result) h.made (record { step = step; result = Ok what } ∷ []) ∙ ap (λ xs. xs ++ Ok what ∷ []) h.said_are
        ∙ sym (map-append answered said (what ∷ []));
  }

  pub stopped_at : (steps front rest : List Step) (said : List Said) (step : Step) (why : StepFault) (old mid new : World D) → front ++ step ∷ rest ≡ steps → MadeThese on front said old mid
      → IsStep on (Err why) step mid new → RunStops on steps why old new
  stopped_at steps front rest said step why old mid new split h is = inl (record {
    front = front;
    refused = step;
    rest = rest;
    split = split;
    said = said;
    made = h.made ++ record { step = step; result = Err why } ∷ [];
    makes = steps_more on h.made (record { step = step; result = Err why }) old mid new h.makes is;
    steps_are = map-append (λ (one : StepMade). one.step) h.made (record { step = step; result = Err why } ∷ []) ∙ ap (λ xs. xs ++ step ∷ []) h.steps_are;
    results_are = map-append (λ (one : StepMade). one.result) h.made (record { step = step; result = Err why } ∷ []) ∙ ap (λ xs. xs ++ Err why ∷ []) h.said_are;
  })

  pub never_began : (steps : List Step) (why : StepFault) (old new : World D) → why ≡ NoMemory None → new ≡ old → RunStops on steps why old new
  never_began steps why old new e f = inr (e, f)
