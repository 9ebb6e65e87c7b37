-- A node that stays up from the beginning on has a disk that has not failed.
use Rattle.std.proofs.Common.{◌≡◌, ◌≢◌, ◌⊎◌, inl, inr, ⊎_elim, ℕ, nat_eq, Bool, true, false, List, [], ◌∷◌, All, Some, None, Result, Ok, Err, refl, sym, ap, ◌∙◌, subst}
use Rattle.std.specs.Prelude.{if◌then◌else◌}
use Rattle.std.proofs.lemmas.Bool.{eqb-true}
use Rattle.std.proofs.lemmas.List.Elements.{All-head, All-tail}
use Rattle.session_model.specs.Sums.{BookSum}
use Rattle.mail_model.specs.Tape.{ClusterOrder}
use Rattle.mail_model.specs.Tape.{ClusterOrder as order}
use Rattle.object_model.specs.Lists.{Among}
use Rattle.session_model.specs.Events.{NodeLife, turned}
use Rattle.session_model.specs.Events.NodeLife.{Up, Down, Lost}
use Rattle.node_store.specs.Disks.{View}
use Rattle.cluster_world.specs.Worlds.{life_of, disk_of_node, disks_of}
use Rattle.cluster_world.specs.Steps.{IsStep}
use Rattle.cluster_world.specs.Turns.{life_after_step}
use Rattle.cluster_world.specs.Made.{StepMade, MakesSteps, IsPost, IsOfRegroup, AreOfRegroup}
use Rattle.cluster_world.specs.Settling.{IsOfSettle, AreOfSettle}
use Rattle.cluster_world.specs.Settling.IsOfSettle.{Posts, Pushes, Reports}
use Rattle.cluster_world.specs.Outcomes.{Outcome, Awaited, Came, Makes}
use Rattle.cluster_world.proofs.Ordered.{AreStepsOf, AreOne, IsPushOf, IsReportOf, order_makes, order_are}
use Rattle.cluster_world.specs.Outcomes.Outcome.{Began, Refused, Fell, Broke, Answers, StillPending, Unanswered, GaveUp, Abandoned, KeptUp, Left, Moved, Settling, Mapped}
use Rattle.cluster_world.specs.declared.world.World.{World}
use Rattle.cluster_world.specs.declared.step.Step.{Step}
use Rattle.cluster_world.specs.declared.step.Step.TheVariants as step
use Rattle.cluster_world.specs.declared.step.Said.{Said}
use Rattle.cluster_world.specs.declared.step.Said.TheVariants as said
use Rattle.cluster_world.specs.declared.fault.StepFault.{StepFault}
use Rattle.cluster_world.specs.declared.fault.StepFault.TheVariants as fault
use Rattle.drive_tape.specs.Drive.{StartsAgain, StaysWhole}
use Rattle.drive_tape.proofs.Chains.{there_too}

-- a node that is up was so, or has started

turned_up : (other n now : ℕ) (new was : NodeLife) → ((boot : ℕ) → new ≢ Up boot) → turned other new n was ≡ Up now → was ≡ Up now
turned_up other n now new was not is = by (nat_eq other n) is
  where
    by : (b : Bool) → (if b then new else was) ≡ Up now → was ≡ Up now
    by true e = absurd (not now e)
    by false e = e

down_not_up : (boot : ℕ) → Down ≢ Up boot
down_not_up boot is = cc

lost_not_up : (boot : ℕ) → Lost ≢ Up boot
lost_not_up boot is = cc

done_up : (one : Step) (n now : ℕ) (was : NodeLife) → life_after_step (Ok said.Done) one n was ≡ Up now → was ≡ Up now
done_up (step.Begin node call) n now was is = is
done_up (step.Ask ticket) n now was is = is
done_up (step.GiveUp ticket) n now was is = is
done_up (step.Post letter keep) n now was is = is
done_up (step.Drop letter) n now was is = is
done_up (step.Report from to) n now was is = is
done_up (step.Push from to) n now was is = is
done_up (step.Widen at user id to) n now was is = is
done_up (step.Group node) n now was is = is
done_up (step.Conclude node) n now was is = is
done_up (step.Tick seconds) n now was is = is
done_up (step.Crash node) n now was is = turned_up node n now Down was down_not_up is
done_up (step.Start node) n now was is = is
done_up (step.Lose node) n now was is = turned_up node n now Lost was lost_not_up is

comes_up : (one : Step) (boot n now : ℕ) (was : NodeLife) → life_after_step (Ok (said.NodeUp boot)) one n was ≡ Up now → (was ≡ Up now) ⊎ (one ≡ step.Start n)
comes_up (step.Begin node call) boot n now was is = inl is
comes_up (step.Ask ticket) boot n now was is = inl is
comes_up (step.GiveUp ticket) boot n now was is = inl is
comes_up (step.Post letter keep) boot n now was is = inl is
comes_up (step.Drop letter) boot n now was is = inl is
comes_up (step.Push from to) boot n now was is = inl is
comes_up (step.Widen at user id to) boot n now was is = inl is
comes_up (step.Group node) boot n now was is = inl is
comes_up (step.Conclude node) boot n now was is = inl is
comes_up (step.Report from to) boot n now was is = inl is
comes_up (step.Tick seconds) boot n now was is = inl is
comes_up (step.Crash node) boot n now was is = inl is
comes_up (step.Lose node) boot n now was is = inl is
comes_up (step.Start node) boot n now was is = by (nat_eq node n) refl is
  where
    by : (b : Bool) → nat_eq node n ≡ b → (if b then Up boot else was) ≡ Up now → (was ≡ Up now) ⊎ (step.Start node ≡ step.Start n)
    by true same e = inr (ap step.Start (eqb-true node n same))
    by false other e = inl e

step_up : (result : Result Said StepFault) (one : Step) (n now : ℕ) (was : NodeLife) → life_after_step result one n was ≡ Up now → (was ≡ Up now) ⊎ (one ≡ step.Start n)
step_up (Ok said.Done) one n now was is = inl (done_up one n now was is)
step_up (Ok (said.NodeUp boot)) one n now was is = comes_up one boot n now was is
step_up (Ok (said.Faulted node)) one n now was is = inl (turned_up node n now Down was down_not_up is)
step_up (Ok (said.Begun ticket stirs)) one n now was is = inl is
step_up (Ok said.Noted) one n now was is = inl is
step_up (Ok (said.Asked ask)) one n now was is = inl is
step_up (Ok said.Heard) one n now was is = inl is
step_up (Ok (said.Thrown why)) one n now was is = inl is
step_up (Ok (said.Sent letters)) one n now was is = inl is
step_up (Ok (said.Widened did)) one n now was is = inl is
step_up (Ok (said.Grouped epoch)) one n now was is = inl is
step_up (Ok (said.Concluded epoch members)) one n now was is = inl is
step_up (Err (fault.NoMemory (Some node))) one n now was is = inl (turned_up node n now Down was down_not_up is)
step_up (Err (fault.NoMemory None)) one n now was is = inl is
step_up (Err fault.NoSuchNode) one n now was is = inl is
step_up (Err fault.NodeLost) one n now was is = inl is
step_up (Err fault.NodeDown) one n now was is = inl is
step_up (Err fault.NodeUp) one n now was is = inl is
step_up (Err fault.NoSuchLetter) one n now was is = inl is
step_up (Err fault.NoSuchTicket) one n now was is = inl is
step_up (Err fault.NotAGroup) one n now was is = inl is
step_up (Err fault.Worn) one n now was is = inl is
step_up (Err fault.NoRoom) one n now was is = inl is

-- an order that starts a node

one_starts : (made : Step) (steps : List StepMade) (one : StepMade) (n : ℕ) → AreOne made steps → Among one steps → one.step ≡ step.Start n → made ≡ step.Start n
one_starts made steps one n is among starts =
    let there : Among one (record { step = made; result = is.0 } ∷ []) = subst (Among one) is.1 among in
    ⊎_elim (λ (same : record { step = made; result = is.0 } ≡ one). ap (λ (m : StepMade). m.step) same ∙ starts) (λ none. absurd none) there

posts_start : (steps : List StepMade) (one : StepMade) (n : ℕ) → All IsPost steps → Among one steps → one.step ≡ step.Start n → ⊥
posts_start [] one n all among starts = among
posts_start (first ∷ steps) one n all among starts = ⊎_elim
    (λ (same : first ≡ one). let is : IsPost one = subst IsPost same (All-head IsPost first steps all) in let never : step.Post is.0 false ≡ step.Start n = sym is.1 ∙ starts in cc)
    (λ (rest : Among one steps). posts_start steps one n (All-tail IsPost first steps all) rest starts) among

pushes_start : (node : ℕ) (steps : List StepMade) (one : StepMade) (n : ℕ) → All (IsPushOf node) steps → Among one steps → one.step ≡ step.Start n → ⊥
pushes_start node [] one n all among starts = among
pushes_start node (first ∷ steps) one n all among starts = ⊎_elim
    (λ (same : first ≡ one). let is : IsPushOf node one = subst (IsPushOf node) same (All-head (IsPushOf node) first steps all) in let never : step.Push node is.0 ≡ step.Start n = sym is.1 ∙ starts in cc)
    (λ (rest : Among one steps). pushes_start node steps one n (All-tail (IsPushOf node) first steps all) rest starts) among

reports_start : (node : ℕ) (steps : List StepMade) (one : StepMade) (n : ℕ) → All (IsReportOf node) steps → Among one steps → one.step ≡ step.Start n → ⊥
reports_start node [] one n all among starts = among
reports_start node (first ∷ steps) one n all among starts = ⊎_elim
    (λ (same : first ≡ one). let is : IsReportOf node one = subst (IsReportOf node) same (All-head (IsReportOf node) first steps all) in let never : step.Report node is.0 ≡ step.Start n = sym is.1 ∙ starts in cc)
    (λ (rest : Among one steps). reports_start node steps one n (All-tail (IsReportOf node) first steps all) rest starts) among

of_settle_starts : (one : StepMade) (n : ℕ) → IsOfSettle one → one.step ≡ step.Start n → ⊥
of_settle_starts one n (Posts post) starts = let never : step.Post post.0 false ≡ step.Start n = sym post.1 ∙ starts in cc
of_settle_starts one n (Pushes from to apart is) starts = let never : step.Push from to ≡ step.Start n = sym is ∙ starts in cc
of_settle_starts one n (Reports from to apart is) starts = let never : step.Report from to ≡ step.Start n = sym is ∙ starts in cc

settle_starts : (steps : List StepMade) (one : StepMade) (n : ℕ) → AreOfSettle steps → Among one steps → one.step ≡ step.Start n → ⊥
settle_starts [] one n all among starts = among
settle_starts (first ∷ steps) one n all among starts = ⊎_elim
    (λ (same : first ≡ one). of_settle_starts one n (subst IsOfSettle same all.0) starts)
    (λ (rest : Among one steps). settle_starts steps one n all.1 rest starts) among

of_regroup_starts : (node : ℕ) (one : StepMade) (n : ℕ) → IsOfRegroup node one → one.step ≡ step.Start n → ⊥
of_regroup_starts node one n of starts = ⊎_elim
    (λ (opens : one.step ≡ step.Group node). let never : step.Group node ≡ step.Start n = sym opens ∙ starts in cc)
    (λ rest. ⊎_elim
    (λ (concludes : one.step ≡ step.Conclude node). let never : step.Conclude node ≡ step.Start n = sym concludes ∙ starts in cc)
    (λ (post : IsPost one). let never : step.Post post.0 false ≡ step.Start n = sym post.1 ∙ starts in cc) rest) of

regroup_starts : (node : ℕ) (steps : List StepMade) (one : StepMade) (n : ℕ) → AreOfRegroup node steps → Among one steps → one.step ≡ step.Start n → ⊥
regroup_starts node [] one n all among starts = among
regroup_starts node (first ∷ steps) one n all among starts = ⊎_elim
    (λ (same : first ≡ one). of_regroup_starts node one n (subst (IsOfRegroup node) same all.0) starts)
    (λ (rest : Among one steps). regroup_starts node steps one n all.1 rest starts) among

order_starts : (asked : ClusterOrder) (steps : List StepMade) (sum : BookSum) (up : List ℕ) (one : StepMade) (n : ℕ) → AreStepsOf asked steps → Among one steps → one.step ≡ step.Start n → StartsAgain n (Moved asked steps sum up)
order_starts (order.Crash node) steps sum up one n are among starts = absurd (let never : step.Crash node ≡ step.Start n = one_starts (step.Crash node) steps one n are among starts in cc)
order_starts (order.Lose node) steps sum up one n are among starts = absurd (let never : step.Lose node ≡ step.Start n = one_starts (step.Lose node) steps one n are among starts in cc)
order_starts (order.Start node) steps sum up one n are among starts = start_same node n (one_starts (step.Start node) steps one n are among starts)
  where
    start_same : (a b : ℕ) → step.Start a ≡ step.Start b → a ≡ b
    start_same a b e = cc
order_starts (order.Post letter) steps sum up one n are among starts = absurd (let never : step.Post letter false ≡ step.Start n = one_starts (step.Post letter false) steps one n are among starts in cc)
order_starts (order.Again letter) steps sum up one n are among starts = absurd (let never : step.Post letter true ≡ step.Start n = one_starts (step.Post letter true) steps one n are among starts in cc)
order_starts (order.Drop letter) steps sum up one n are among starts = absurd (let never : step.Drop letter ≡ step.Start n = one_starts (step.Drop letter) steps one n are among starts in cc)
order_starts order.Flow steps sum up one n are among starts = absurd (posts_start steps one n are among starts)
order_starts (order.Push node) steps sum up one n are among starts = absurd (pushes_start node steps one n are among starts)
order_starts (order.Widen at user id to) steps sum up one n are among starts = absurd (let never : step.Widen at user id to ≡ step.Start n = one_starts (step.Widen at user id to) steps one n are among starts in cc)
order_starts (order.Group node) steps sum up one n are among starts = absurd (let never : step.Group node ≡ step.Start n = one_starts (step.Group node) steps one n are among starts in cc)
order_starts (order.Conclude node) steps sum up one n are among starts = absurd (let never : step.Conclude node ≡ step.Start n = one_starts (step.Conclude node) steps one n are among starts in cc)
order_starts (order.Regroup node) steps sum up one n are among starts = absurd (regroup_starts node steps one n are among starts)
order_starts (order.Tick seconds) steps sum up one n are among starts = absurd (let never : step.Tick seconds ≡ step.Start n = one_starts (step.Tick seconds) steps one n are among starts in cc)
order_starts (order.Report node) steps sum up one n are among starts = absurd (reports_start node steps one n are among starts)
order_starts order.Settle steps sum up one n are among starts = absurd are
order_starts (order.Maps user) steps sum up one n are among starts = absurd are
order_starts order.Sum steps sum up one n are among starts = absurd (subst (Among one) are among)

-- a node that is up now was so, in the same boot, and its disk has not failed since
pub record IsWhole {D : Type 0} (on : View D) (n now : ℕ) (old new : World D) : Type 0 where
  pub was : life_of old n ≡ Up now
  pub same : (disk disk' : D) → disk_of_node old n ≡ Some disk → disk_of_node new n ≡ Some disk' → on.faults disk' ≡ on.faults disk

module _ {D : Type 0} (on : View D) (n now : ℕ) where
  whole_none : (world : World D) → life_of world n ≡ Up now → IsWhole on n now world world
  whole_none world up = record { was = up; same = λ disk disk' is has. ap on.faults (some_same disk' disk (sym has ∙ is)) }
    where
      some_same : (x y : D) → Some x ≡ Some y → x ≡ y
      some_same x y e = cc

  whole_step : (result : Result Said StepFault) (one : Step) (old mid new : World D) → IsStep on result one old mid → (one ≡ step.Start n → ⊥) → IsWhole on n now mid new → IsWhole on n now old new
  whole_step result one old mid new is other later = record {
    was = was;
    same = λ disk disk' there at.
        let between = there_too (disks_of old) (disks_of mid) n disk is.did.handed there in
        later.same between.0 disk' between.1 at ∙ is.did.quiet.same n now disk between.0 later.was there between.1;
  }
    where
      was : life_of old n ≡ Up now
      was = ⊎_elim (λ up. up) (λ starts. absurd (other starts)) (step_up result one n now (life_of old n) (sym (is.did.lives n) ∙ later.was))

  whole_steps : (steps : List StepMade) (old mid new : World D) → MakesSteps on steps old mid → ((one : StepMade) → Among one steps → one.step ≡ step.Start n → ⊥) → IsWhole on n now mid new → IsWhole on n now old new
  whole_steps [] old mid new same other later = subst (λ (w : World D). IsWhole on n now w new) same later
  whole_steps (first ∷ steps) old mid new (next, is, more) other later =
      whole_step first.result first.step old next new is (λ e. other first (inl refl) e) (whole_steps steps next mid new more (λ one among. other one (inr among)) later)

  whole_came : (outcome : Outcome) (awaited left : List Awaited) (old mid new : World D) → Came on outcome awaited old left mid → (StartsAgain n outcome → ⊥) → IsWhole on n now mid new → IsWhole on n now old new
  whole_came (Began k node asked ticket) awaited left old mid new came other later = whole_step _ _ old mid new came.3 (λ e. cc) later
  whole_came (Refused k node asked) awaited left old mid new came other later = whole_step _ _ old mid new came.4 (λ e. cc) later
  whole_came (Fell k node asked) awaited left old mid new came other later = whole_step _ _ old mid new came.2 (λ e. cc) later
  whole_came (Broke k node asked) awaited left old mid new came other later = whole_step _ _ old mid new came.3 (λ e. cc) later
  whole_came (Answers k asked ticket given) awaited left old mid new came other later = whole_step _ _ old mid new came.3 (λ e. cc) later
  whole_came (StillPending k ticket) awaited left old mid new came other later = whole_step _ _ old mid new came.4 (λ e. cc) later
  whole_came (Unanswered k asked ticket) awaited left old mid new came other later = whole_step _ _ old mid new came.3 (λ e. cc) later
  whole_came (GaveUp k asked ticket) awaited left old mid new came other later = whole_step _ _ old mid new came.1 (λ e. cc) later
  whole_came (Abandoned k asked ticket) awaited left old mid new came other later = whole_step _ _ old mid new came.1 (λ e. cc) later
  whole_came (KeptUp k ticket why) awaited left old mid new came other later = whole_step _ _ old mid new came.2 (λ e. cc) later
  whole_came (Left k node user) awaited left old mid new came other later = whole_step _ _ old mid new came.3 (λ e. cc) later
  whole_came (Moved asked steps sum up) awaited left old mid new came other later = whole_steps steps old mid new (order_makes on asked steps old mid came.0) (λ one among starts. other (order_starts asked steps sum up one n (order_are on asked steps old mid came.0) among starts)) later
  whole_came (Settling result steps) awaited left old mid new (makes, are, left_is) other later =
      whole_steps steps old mid new (subst (λ (l : List StepMade). MakesSteps on l old mid) are makes.made) (λ one among starts. settle_starts steps one n (subst AreOfSettle are makes.of) among starts) later
  whole_came (Mapped user told) awaited left old mid new came other later = subst (λ (w : World D). IsWhole on n now w new) came.2 later

  pub whole_makes : (outcomes : List Outcome) (awaited left : List Awaited) (old new : World D) → Makes on outcomes awaited old left new → ((outcome : Outcome) → Among outcome outcomes → StartsAgain n outcome → ⊥)
      → life_of new n ≡ Up now → IsWhole on n now old new
  whole_makes [] awaited left old new (same, is) other up = subst (λ (w : World D). IsWhole on n now old w) (sym is) (whole_none old (subst (λ (w : World D). life_of w n ≡ Up now) is up))
  whole_makes (outcome ∷ more) awaited left old new (between, mid, came, makes) other up =
      whole_came outcome awaited between old mid new came (λ starts. other outcome (inl refl) starts) (whole_makes more between left mid new makes (λ one among. other one (inr among)) up)

pub stays_whole : {D : Type 0} (on : View D) (outcomes : List Outcome) (left : List Awaited) (start last : World D) → StaysWhole on start outcomes left last
stays_whole on outcomes left start last front back between mid are first then_more n now disk disk' up none there at = (whole_makes on n now back between left mid last then_more none up).same disk disk' there at
