-- What the steps of a run line are, whatever came of them.
use Rattle.std.proofs.Common.{◌≡◌, ℕ, zero, suc, Bool, true, false, nat_eq, List, [], ◌∷◌, ◌++◌, Option, Some, None, Result, refl, sym, ap, ◌∙◌, subst}
use Rattle.std.specs.Prelude.{All, MatchBool, if◌then◌else◌}
use Rattle.std.proofs.lemmas.List.Elements.{All-nil, All-cons}
use Rattle.mail_model.specs.Tape.{ClusterOrder}
use Rattle.mail_model.specs.Tape.{ClusterOrder as order}
use Rattle.session_model.specs.Events.{NodeLife, IsUp}
use Rattle.session_model.specs.Events.NodeLife.{Up, Down, Lost}
use Rattle.node_store.specs.Disks.{View}
use Rattle.cluster_world.specs.Steps.{IsStep}
use Rattle.cluster_world.specs.Made.{StepMade, MakesSteps, IsPost, PostsAll, StepsTo, PushesTo, PushesAll, ReportsAll, others_in, AreOfRegroup, MakesOne, has_failed, nodes_but}
use Rattle.cluster_world.specs.Lives.{of_node}
use Rattle.cluster_world.specs.Outcomes.{MakesOrder}
use Rattle.cluster_world.specs.Telling.{members_seen}
use Rattle.cluster_world.specs.Worlds.{state_of, seen_life, life_of, node_of_life}
use Rattle.cluster_world.specs.declared.life.Life.{Life}
use Rattle.cluster_world.specs.declared.life.Life.TheVariants as lives
use Rattle.cluster_world.specs.declared.world.World.{World}
use Rattle.cluster_world.specs.declared.step.Step.{Step}
use Rattle.cluster_world.specs.declared.step.Step.TheVariants as step
use Rattle.cluster_world.specs.declared.step.Said.{Said}
use Rattle.cluster_world.specs.declared.fault.StepFault.{StepFault}

-- the step pushes from this node
abbrev pub IsPushOf : ℕ → StepMade → Type 0
IsPushOf node one = (to : ℕ) × (one.step ≡ step.Push node to)

-- the step reports from this node
abbrev pub IsReportOf : ℕ → StepMade → Type 0
IsReportOf node one = (to : ℕ) × (one.step ≡ step.Report node to)

-- the steps are this one
abbrev pub AreOne : Step → List StepMade → Type 0
AreOne step steps = (result : Result Said StepFault) × (steps ≡ record { step = step; result = result } ∷ [])

-- the steps are such as a run line asks for
abbrev pub AreStepsOf : ClusterOrder → List StepMade → Type 0
AreStepsOf (order.Crash node) steps = AreOne (step.Crash node) steps
AreStepsOf (order.Start node) steps = AreOne (step.Start node) steps
AreStepsOf (order.Lose node) steps = AreOne (step.Lose node) steps
AreStepsOf (order.Post letter) steps = AreOne (step.Post letter false) steps
AreStepsOf (order.Again letter) steps = AreOne (step.Post letter true) steps
AreStepsOf (order.Drop letter) steps = AreOne (step.Drop letter) steps
AreStepsOf order.Flow steps = All IsPost steps
AreStepsOf (order.Push node) steps = All (IsPushOf node) steps
AreStepsOf (order.Widen at user id to) steps = AreOne (step.Widen at user id to) steps
AreStepsOf (order.Group node) steps = AreOne (step.Group node) steps
AreStepsOf (order.Conclude node) steps = AreOne (step.Conclude node) steps
AreStepsOf (order.Regroup node) steps = AreOfRegroup node steps
AreStepsOf (order.Tick seconds) steps = AreOne (step.Tick seconds) steps
AreStepsOf (order.Report node) steps = All (IsReportOf node) steps
AreStepsOf order.Sum steps = steps ≡ []
AreStepsOf order.Settle steps = ⊥
AreStepsOf (order.Maps user) steps = ⊥

module _ {D : Type 0} (on : View D) where
  pub steps_more : (steps : List StepMade) (one : StepMade) (old mid new : World D) → MakesSteps on steps old mid → IsStep on one.result one.step mid new
      → MakesSteps on (steps ++ one ∷ []) old new
  steps_more [] one old mid new made step = (new, subst (λ w. IsStep on one.result one.step w new) made step, refl)
  steps_more (first ∷ steps) one old mid new (next, did, made) step = (next, did, steps_more steps one next mid new made step)

  pub posts_make : (steps : List StepMade) (old new : World D) → PostsAll on steps old new → MakesSteps on steps old new
  posts_make [] old new (none, same) = same
  posts_make (one ∷ more) old new (letter, mid, first, is, did, ends) = (mid, did, by (λ p. posts_make more mid new p) (has_failed one.result) ends)
    where
      by : (PostsAll on more mid new → MakesSteps on more mid new) → (b : Bool) → MatchBool b ((more ≡ []) × (new ≡ mid)) (PostsAll on more mid new) → MakesSteps on more mid new
      by rest true so = subst (λ (l : List StepMade). MakesSteps on l mid new) (sym so.0) so.1
      by rest false so = rest so

  posts_are : (steps : List StepMade) (old new : World D) → PostsAll on steps old new → All IsPost steps
  posts_are [] old new posts = All-nil IsPost
  posts_are (one ∷ more) old new (letter, mid, first, is, did, ends) = All-cons IsPost one more (letter, is) (by (λ p. posts_are more mid new p) (has_failed one.result) ends)
    where
      by : (PostsAll on more mid new → All IsPost more) → (b : Bool) → MatchBool b ((more ≡ []) × (new ≡ mid)) (PostsAll on more mid new) → All IsPost more
      by rest true so = subst (All IsPost) (sym so.0) (All-nil IsPost)
      by rest false so = rest so

  pushes_are : (node : ℕ) (others : List ℕ) (steps : List StepMade) → PushesTo node others steps → All (IsPushOf node) steps
  pushes_are node [] steps none = subst (All (IsPushOf node)) (sym none) (All-nil (IsPushOf node))
  pushes_are node (to ∷ others) [] pushes = All-nil (IsPushOf node)
  pushes_are node (to ∷ others) (one ∷ more) (is, ends) = All-cons (IsPushOf node) one more (to, is) (by (λ p. pushes_are node others more p) (has_failed one.result) ends)
    where
      by : (PushesTo node others more → All (IsPushOf node) more) → (b : Bool) → MatchBool b (more ≡ []) (PushesTo node others more) → All (IsPushOf node) more
      by rest true so = subst (All (IsPushOf node)) (sym so) (All-nil (IsPushOf node))
      by rest false so = rest so

  reports_are : (node : ℕ) (others : List ℕ) (steps : List StepMade) → StepsTo (step.Report node) others steps → All (IsReportOf node) steps
  reports_are node [] steps none = subst (All (IsReportOf node)) (sym none) (All-nil (IsReportOf node))
  reports_are node (to ∷ others) [] reports = All-nil (IsReportOf node)
  reports_are node (to ∷ others) (one ∷ more) (is, ends) = All-cons (IsReportOf node) one more (to, is) (by (λ p. reports_are node others more p) (has_failed one.result) ends)
    where
      by : (StepsTo (step.Report node) others more → All (IsReportOf node) more) → (b : Bool) → MatchBool b (more ≡ []) (StepsTo (step.Report node) others more) → All (IsReportOf node) more
      by rest true so = subst (All (IsReportOf node)) (sym so) (All-nil (IsReportOf node))
      by rest false so = rest so

  -- a node that is not up has no members to report to
  members_none : (life : Option Life) → (IsUp (seen_life life) → ⊥) → members_seen (node_of_life life) ≡ 0
  members_none None not_up = refl
  members_none (Some (lives.Up node)) not_up = absurd (not_up tt)
  members_none (Some lives.Down) not_up = refl
  members_none (Some lives.Lost) not_up = refl

  pub reports_none : (node : ℕ) (steps : List StepMade) (old : World D) → (IsUp (life_of old node) → ⊥) → ReportsAll old node steps → steps ≡ []
  reports_none node steps old not_up all =
      subst (λ (m : ℕ). StepsTo (step.Report node) (others_in node m 16) steps) (members_none (of_node (state_of old).lives node) not_up) all

  all_pushes : (nodes : ℕ) (life : NodeLife) (node : ℕ) (steps : List StepMade) → PushesAll nodes life node steps → All (IsPushOf node) steps
  all_pushes nodes (Up boot) node steps all = pushes_are node (nodes_but node nodes 1) steps (all.up tt)
  all_pushes nodes Down node steps all = subst (All (IsPushOf node)) (sym (all.else_none (λ up. up))) (All-nil (IsPushOf node))
  all_pushes nodes Lost node steps all = subst (All (IsPushOf node)) (sym (all.else_none (λ up. up))) (All-nil (IsPushOf node))

  one_makes : (made : Step) (steps : List StepMade) (old new : World D) → MakesOne on made steps old new → MakesSteps on steps old new
  one_makes made steps old new (result, are, is) = subst (λ (l : List StepMade). MakesSteps on l old new) (sym are) (new, is, refl)

  one_is : (made : Step) (steps : List StepMade) (old new : World D) → MakesOne on made steps old new → AreOne made steps
  one_is made steps old new (result, are, is) = (result, are)

  pub order_makes : (asked : ClusterOrder) (steps : List StepMade) (old new : World D) → MakesOrder on asked steps old new → MakesSteps on steps old new
  order_makes (order.Crash node) steps old new made = one_makes (step.Crash node) steps old new made
  order_makes (order.Start node) steps old new made = one_makes (step.Start node) steps old new made
  order_makes (order.Lose node) steps old new made = one_makes (step.Lose node) steps old new made
  order_makes (order.Post letter) steps old new made = one_makes (step.Post letter false) steps old new made
  order_makes (order.Again letter) steps old new made = one_makes (step.Post letter true) steps old new made
  order_makes (order.Drop letter) steps old new made = one_makes (step.Drop letter) steps old new made
  order_makes order.Flow steps old new made = posts_make steps old new made
  order_makes (order.Push node) steps old new made = made.1
  order_makes (order.Widen at user id to) steps old new made = one_makes (step.Widen at user id to) steps old new made
  order_makes (order.Group node) steps old new made = one_makes (step.Group node) steps old new made
  order_makes (order.Conclude node) steps old new made = one_makes (step.Conclude node) steps old new made
  order_makes (order.Regroup node) steps old new made = made.1.made
  order_makes (order.Tick seconds) steps old new made = one_makes (step.Tick seconds) steps old new made
  order_makes (order.Report node) steps old new made = made.1
  order_makes order.Settle steps old new made = absurd made
  order_makes (order.Maps user) steps old new made = absurd made
  order_makes order.Sum steps old new made = subst (λ (l : List StepMade). MakesSteps on l old new) (sym made.0) made.1

  pub order_are : (asked : ClusterOrder) (steps : List StepMade) (old new : World D) → MakesOrder on asked steps old new → AreStepsOf asked steps
  order_are (order.Crash node) steps old new made = one_is (step.Crash node) steps old new made
  order_are (order.Start node) steps old new made = one_is (step.Start node) steps old new made
  order_are (order.Lose node) steps old new made = one_is (step.Lose node) steps old new made
  order_are (order.Post letter) steps old new made = one_is (step.Post letter false) steps old new made
  order_are (order.Again letter) steps old new made = one_is (step.Post letter true) steps old new made
  order_are (order.Drop letter) steps old new made = one_is (step.Drop letter) steps old new made
  order_are order.Flow steps old new made = posts_are steps old new made
  order_are (order.Push node) steps old new made = all_pushes _ _ node steps made.0
  order_are (order.Widen at user id to) steps old new made = one_is (step.Widen at user id to) steps old new made
  order_are (order.Group node) steps old new made = one_is (step.Group node) steps old new made
  order_are (order.Conclude node) steps old new made = one_is (step.Conclude node) steps old new made
  order_are (order.Regroup node) steps old new made = made.1.of
  order_are (order.Tick seconds) steps old new made = one_is (step.Tick seconds) steps old new made
  order_are (order.Report node) steps old new made = reports_are node _ steps made.0
  order_are order.Settle steps old new made = absurd made
  order_are (order.Maps user) steps old new made = absurd made
  order_are order.Sum steps old new made = made.0
