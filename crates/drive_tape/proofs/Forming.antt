-- What opening a group, concluding it and regrouping make of a world.
use Rattle.std.specs.Prelude.{IfOk}
use Rattle.std.proofs.Common.{◌≡◌, ◌⊎◌, ⊎_elim, inr, ℕ, true, false, List, [], ◌∷◌, ◌++◌, None, Result, Ok, Err, refl, sym, ap, ◌∙◌, subst}
use Rattle.mail_model.specs.Identity.{EpochId}
use Rattle.mail_model.specs.Tape.{ClusterOrder as order}
use Rattle.session_model.specs.Acts.{Act}
use Rattle.session_model.specs.Events.{NodeLife, MayFault}
use Rattle.session_model.specs.Lives.{life_after}
use Rattle.node_store.specs.Disks.{View}
use Rattle.cluster_world.specs.Worlds.{state_of, plan_of, life_of, life_in}
use Rattle.cluster_world.specs.Steps.{IsStep, SaysSo, FallsSo, WasToWork}
use Rattle.cluster_world.specs.Turns.{life_after_step}
use Rattle.cluster_world.specs.Regroups.{AllWentOn, FormsBy, EndsBy, LacksRoom, RegroupsSo, MakesRegroup, HasRegrouped}
use Rattle.cluster_world.specs.Made.{StepMade, MakesSteps, IsPost, IsOfRegroup, AreOfRegroup, has_failed}
use Rattle.cluster_world.specs.Outcomes.{Outcome, Awaited, moved_in, fallen_in, left_after_all}
use Rattle.cluster_world.specs.declared.world.World.{World}
use Rattle.cluster_world.specs.declared.step.Step.{Step}
use Rattle.cluster_world.specs.declared.step.Step.TheVariants as step
use Rattle.cluster_world.specs.declared.step.Said.{Said}
use Rattle.cluster_world.specs.declared.step.Said.TheVariants as said
use Rattle.cluster_world.specs.declared.fault.StepFault.{StepFault}
use Rattle.cluster_world.specs.declared.regrouping.Regroup.{Regroup}
use Rattle.cluster_world.specs.declared.regrouping.Regroup.TheVariants.{Formed, Fault}
use Rattle.drive_tape.specs.declared.drove.Stop.{Stop}
use Rattle.drive_tape.specs.declared.event.ClusterEvent.{ClusterEvent}
use Rattle.drive_tape.specs.declared.event.ClusterEvent.TheVariants.{HasGrouped, HasFormed, HasFaulted}
use Rattle.drive_tape.specs.Denials.{stop_by}
use Rattle.drive_tape.specs.Forms.{IsSaidOfForming, FormsTo, RegroupsTo}
use Rattle.drive_tape.specs.Led.DeniesMove.{DeniedSteps}
use Rattle.drive_tape.specs.Moved.{OrderIsFit, Happened, MovedSo}
use Rattle.drive_tape.proofs.Chains.{went_more}
use Rattle.drive_tape.proofs.Posting.{faults_after}
use Rattle.drive_tape.proofs.Stepping.{IsCalm, AreCalm, steps_last, plan_kept, calm_lives, may_fault, happens_calm, happens, denied_after, denied, one_among}

-- such a step leaves each node as it is
abbrev LeavesNodes : Step → Result Said StepFault → Type 0
LeavesNodes one result = (fallen_in one result ≡ None) × ((n : ℕ) (was : NodeLife) → life_after_step result one n was ≡ was)

calm_as : (one : StepMade) (s : Step) → one.step ≡ s → LeavesNodes s one.result → IsCalm one
calm_as one s is leaves = record {
  falls = ap (λ (x : Step). fallen_in x one.result) is ∙ leaves.0;
  lives = λ n was. ap (λ (x : Step). life_after_step one.result x n was) is ∙ leaves.1 n was;
}

-- each step of a regroup that did not fail is one
group_leaves : (node : ℕ) (result : Result Said StepFault) → has_failed result ≡ false → LeavesNodes (step.Group node) result
group_leaves node (Ok (said.Faulted n)) well = absurd (let never : true ≡ false = well in cc)
group_leaves node (Ok what) well = (refl, λ n was. refl)
group_leaves node (Err why) well = absurd (let never : true ≡ false = well in cc)

conclude_leaves : (node : ℕ) (result : Result Said StepFault) → has_failed result ≡ false → LeavesNodes (step.Conclude node) result
conclude_leaves node (Ok (said.Faulted n)) well = absurd (let never : true ≡ false = well in cc)
conclude_leaves node (Ok what) well = (refl, λ n was. refl)
conclude_leaves node (Err why) well = absurd (let never : true ≡ false = well in cc)

post_leaves : (letter : ℕ) (result : Result Said StepFault) → has_failed result ≡ false → LeavesNodes (step.Post letter false) result
post_leaves letter (Ok (said.Faulted n)) well = absurd (let never : true ≡ false = well in cc)
post_leaves letter (Ok what) well = (refl, λ n was. refl)
post_leaves letter (Err why) well = absurd (let never : true ≡ false = well in cc)

of_regroup_calm : (node : ℕ) (one : StepMade) → IsOfRegroup node one → has_failed one.result ≡ false → IsCalm one
of_regroup_calm node one of well = ⊎_elim
    (λ (opens : one.step ≡ step.Group node). calm_as one (step.Group node) opens (group_leaves node one.result well))
    (λ (rest : (one.step ≡ step.Conclude node) ⊎ IsPost one). ⊎_elim
    (λ (concludes : one.step ≡ step.Conclude node). calm_as one (step.Conclude node) concludes (conclude_leaves node one.result well))
    (λ (post : IsPost one). calm_as one (step.Post post.0 false) post.1 (post_leaves post.0 one.result well)) rest) of

regroup_calm : (node : ℕ) (steps : List StepMade) → AreOfRegroup node steps → AllWentOn steps → AreCalm steps
regroup_calm node [] of well = tt
regroup_calm node (one ∷ more) of well = (of_regroup_calm node one of.0 well.0, regroup_calm node more of.1 well.1)

regroup_front : (node : ℕ) (front more : List StepMade) → AreOfRegroup node (front ++ more) → AreOfRegroup node front
regroup_front node [] more of = tt
regroup_front node (one ∷ front) more of = (of.0, regroup_front node front more of.1)

regroup_last : (node : ℕ) (front : List StepMade) (one : StepMade) → AreOfRegroup node (front ++ one ∷ []) → IsOfRegroup node one
regroup_last node [] one of = of.0
regroup_last node (first ∷ front) one of = regroup_last node front one of.1

-- it starts no node
starts_none : (node : ℕ) (one : StepMade) (n : ℕ) → IsOfRegroup node one → one.step ≡ step.Start n → ⊥
starts_none node one n of starts = ⊎_elim
    (λ (opens : one.step ≡ step.Group node). let never : step.Group node ≡ step.Start n = sym opens ∙ starts in cc)
    (λ (rest : (one.step ≡ step.Conclude node) ⊎ IsPost one). ⊎_elim
    (λ (concludes : one.step ≡ step.Conclude node). let never : step.Conclude node ≡ step.Start n = sym concludes ∙ starts in cc)
    (λ (post : IsPost one). let never : step.Post post.0 false ≡ step.Start n = sym post.1 ∙ starts in cc) rest) of

module _ {D : Type 0} (on : View D) (start old : World D) (outcomes : List Outcome) (awaited : List Awaited) (been : List Act) (node : ℕ) (fit : OrderIsFit on start outcomes awaited been (order.Regroup node) old) where
  -- an epoch was formed
  pub formed : (new : World D) (result : Result Regroup StepFault) (epoch : EpochId) (members : ℕ) → HasRegrouped on node result old new → result ≡ Ok (Formed epoch members)
      → Happened on start outcomes awaited been old (order.Regroup node) (HasFormed epoch members) new
  formed new result epoch members (steps, made) is =
      let so : FormsBy node epoch members steps = subst (λ (r : Result Regroup StepFault). RegroupsSo node r steps old) is made.shape in
      happens_calm on start old outcomes awaited been (order.Regroup node) fit new steps (HasFormed epoch members) (result, made) (regroup_calm node steps made.of so.well) (members, so, made.begins, refl) refl tt
      (λ n was. refl) (λ n among. absurd among)

  -- a node failed in it
  pub regroup_faulted : (new : World D) (result : Result Regroup StepFault) (failed : ℕ) → HasRegrouped on node result old new → result ≡ Ok (Fault failed)
      → Happened on start outcomes awaited been old (order.Regroup node) (HasFaulted failed) new
  regroup_faulted new result failed (steps, all) is =
      let so : EndsBy (Ok (said.Faulted failed)) steps = subst (λ (r : Result Regroup StepFault). RegroupsSo node r steps old) is all.shape in
      let made : MakesRegroup on node result (so.front ++ so.one ∷ []) old new = subst (λ (s : List StepMade). MakesRegroup on node result s old new) so.split all in
      let ends = steps_last on so.front so.one old new made.made in
      let calm = regroup_calm node so.front (regroup_front node so.front (so.one ∷ []) made.of) so.well in
      let falls : WasToWork (plan_of ends.mid).nodes so.one.step (life_of ends.mid failed) failed =
      subst (λ (r : Result Said StepFault). FallsSo r (plan_of ends.mid).nodes so.one.step (life_in (state_of ends.mid))) so.failed ends.last.did.falls in
      let may : MayFault (plan_of old) (life_after been) failed =
      may_fault on start old outcomes awaited been (order.Regroup node) fit so.one.step failed ends.mid (plan_kept on so.front old ends.mid ends.before) (calm_lives on so.front old ends.mid ends.before calm) falls
      (starts_none node so.one failed (regroup_last node so.front so.one made.of)) in
      faults_after on start old outcomes awaited been (order.Regroup node) fit new ends.mid so.front so.one failed ends.before calm ends.last (result, made) so.failed may

  -- a step of it was refused
  denied_in : (new : World D) (result : Result Regroup StepFault) (steps : List StepMade) (why : StepFault) (stop : Stop) → MakesRegroup on node result steps old new → EndsBy (Err why) steps → stop ≡ stop_by why
      → MovedSo on start outcomes awaited been old (order.Regroup node) (Err stop) new
  denied_in new result steps why stop all so stops =
      let made : MakesRegroup on node result (so.front ++ so.one ∷ []) old new = subst (λ (s : List StepMade). MakesRegroup on node result s old new) so.split all in
      let ends = steps_last on so.front so.one old new made.made in
      denied_after on start old outcomes awaited been (order.Regroup node) fit new ends.mid so.front so.one why stop ends.before (regroup_calm node so.front (regroup_front node so.front (so.one ∷ []) made.of) so.well) ends.last
      (result, made) so.failed stops (λ always. always)

  -- or there was no room for it
  denied_first : (new : World D) (result : Result Regroup StepFault) (steps : List StepMade) (why : StepFault) (stop : Stop) → MakesRegroup on node result steps old new → LacksRoom node why steps old → stop ≡ stop_by why
      → MovedSo on start outcomes awaited been old (order.Regroup node) (Err stop) new
  denied_first new result steps why stop made lacks stops = (
    (λ always. always),
    moved_in old (order.Regroup node) steps,
    record { why = why; denied = DeniedSteps steps _ _ refl (inr (lacks.none, lacks.is)); stops = stops },
    (
      left_after_all steps awaited,
      went_more on start outcomes awaited old fit.at (moved_in old (order.Regroup node) steps) (left_after_all steps awaited) new ((result, made), refl, refl, refl) tt,
    ),
    λ f bad n. ap (λ (w : World D). life_of w n) (subst (λ (s : List StepMade). MakesSteps on s old new) lacks.none made.made),
  )

  pub regroup_denied : (new : World D) (result : Result Regroup StepFault) (why : StepFault) (stop : Stop) → HasRegrouped on node result old new → result ≡ Err why → stop ≡ stop_by why
      → MovedSo on start outcomes awaited been old (order.Regroup node) (Err stop) new
  regroup_denied new result why stop (steps, made) is stops = ⊎_elim
      (λ (ends : EndsBy (Err why) steps). denied_in new result steps why stop made ends stops)
      (λ (lacks : LacksRoom node why steps old). denied_first new result steps why stop made lacks stops)
      (subst (λ (r : Result Regroup StepFault). RegroupsSo node r steps old) is made.shape)

-- what may be said of a group
pub said_of_group : (node : ℕ) (result : Result Said StepFault) → IfOk result (SaysSo (step.Group node)) → IsSaidOfForming result
said_of_group node (Ok (said.Grouped epoch)) so = tt
said_of_group node (Ok (said.Faulted failed)) so = tt
said_of_group node (Err why) so = tt
said_of_group node (Ok what) so = absurd so

module _ {D : Type 0} (on : View D) (start old : World D) (outcomes : List Outcome) (awaited : List Awaited) (been : List Act) (node : ℕ) (fit : OrderIsFit on start outcomes awaited been (order.Group node) old) (new : World D) where
  pub group_done : (result : Result Said StepFault) (handed : Result ClusterEvent Stop) → FormsTo result handed → IsStep on result (step.Group node) old new → MovedSo on start outcomes awaited been old (order.Group node) handed new
  group_done (Ok (said.Grouped epoch)) (Ok happened) forms is =
      subst (λ (e : ClusterEvent). Happened on start outcomes awaited been old (order.Group node) e new) (sym forms)
      (happens on start old outcomes awaited been (order.Group node) fit new (step.Group node) (Ok (said.Grouped epoch)) (HasGrouped epoch) is (Ok (said.Grouped epoch), refl, is) (record { step = step.Group node; result = Ok (said.Grouped epoch) }, refl, refl) refl tt
      (λ n was. refl) (λ n among. absurd among))
  group_done (Ok (said.Grouped epoch)) (Err stop) forms is = absurd forms
  group_done (Ok (said.Faulted failed)) (Ok happened) forms is =
      let own : failed ≡ node = is.did.kind in
      let one : StepMade = record { step = step.Group node; result = Ok (said.Faulted failed) } in
      subst (λ (e : ClusterEvent). Happened on start outcomes awaited been old (order.Group node) e new) (sym forms)
      (happens on start old outcomes awaited been (order.Group node) fit new (step.Group node) (Ok (said.Faulted failed)) (HasFaulted failed) is (Ok (said.Faulted failed), refl, is) ([], one, refl, refl) refl own
      (λ n was. refl) (λ n among. ap (λ (m : ℕ). Ok (said.Faulted m)) (one_among n failed among)))
  group_done (Ok (said.Faulted failed)) (Err stop) forms is = absurd forms
  group_done (Ok (said.Begun ticket stirs)) handed forms is = absurd is.did.kind
  group_done (Ok said.Noted) handed forms is = absurd is.did.kind
  group_done (Ok (said.Asked ask)) handed forms is = absurd is.did.kind
  group_done (Ok said.Heard) handed forms is = absurd is.did.kind
  group_done (Ok (said.Thrown why)) handed forms is = absurd is.did.kind
  group_done (Ok (said.Sent letters)) handed forms is = absurd is.did.kind
  group_done (Ok (said.Widened did)) handed forms is = absurd is.did.kind
  group_done (Ok (said.Concluded epoch members)) handed forms is = absurd is.did.kind
  group_done (Ok (said.NodeUp boot)) handed forms is = absurd is.did.kind
  group_done (Ok said.Done) handed forms is = absurd is.did.kind
  group_done (Err why) (Err stop) forms is = denied on start old outcomes awaited been (order.Group node) fit new (step.Group node) why stop is (Err why, refl, is) forms (λ always. always)
  group_done (Err why) (Ok happened) forms is = absurd forms

-- what may be said of a conclude
pub said_of_conclude : (node : ℕ) (result : Result Said StepFault) → IfOk result (SaysSo (step.Conclude node)) → IsSaidOfForming result
said_of_conclude node (Ok (said.Concluded epoch members)) so = tt
said_of_conclude node (Ok (said.Faulted failed)) so = tt
said_of_conclude node (Err why) so = tt
said_of_conclude node (Ok what) so = absurd so

module _ {D : Type 0} (on : View D) (start old : World D) (outcomes : List Outcome) (awaited : List Awaited) (been : List Act) (node : ℕ) (fit : OrderIsFit on start outcomes awaited been (order.Conclude node) old) (new : World D) where
  pub conclude_done : (result : Result Said StepFault) (handed : Result ClusterEvent Stop) → FormsTo result handed → IsStep on result (step.Conclude node) old new → MovedSo on start outcomes awaited been old (order.Conclude node) handed new
  conclude_done (Ok (said.Concluded epoch members)) (Ok happened) forms is =
      subst (λ (e : ClusterEvent). Happened on start outcomes awaited been old (order.Conclude node) e new) (sym forms)
      (happens on start old outcomes awaited been (order.Conclude node) fit new (step.Conclude node) (Ok (said.Concluded epoch members)) (HasFormed epoch members) is (Ok (said.Concluded epoch members), refl, is) (record { step = step.Conclude node; result = Ok (said.Concluded epoch members) }, refl, refl) refl tt
      (λ n was. refl) (λ n among. absurd among))
  conclude_done (Ok (said.Concluded epoch members)) (Err stop) forms is = absurd forms
  conclude_done (Ok (said.Faulted failed)) (Ok happened) forms is =
      let own : failed ≡ node = is.did.kind in
      let one : StepMade = record { step = step.Conclude node; result = Ok (said.Faulted failed) } in
      subst (λ (e : ClusterEvent). Happened on start outcomes awaited been old (order.Conclude node) e new) (sym forms)
      (happens on start old outcomes awaited been (order.Conclude node) fit new (step.Conclude node) (Ok (said.Faulted failed)) (HasFaulted failed) is (Ok (said.Faulted failed), refl, is) ([], one, refl, refl) refl own
      (λ n was. refl) (λ n among. ap (λ (m : ℕ). Ok (said.Faulted m)) (one_among n failed among)))
  conclude_done (Ok (said.Faulted failed)) (Err stop) forms is = absurd forms
  conclude_done (Ok (said.Begun ticket stirs)) handed forms is = absurd is.did.kind
  conclude_done (Ok said.Noted) handed forms is = absurd is.did.kind
  conclude_done (Ok (said.Asked ask)) handed forms is = absurd is.did.kind
  conclude_done (Ok said.Heard) handed forms is = absurd is.did.kind
  conclude_done (Ok (said.Thrown why)) handed forms is = absurd is.did.kind
  conclude_done (Ok (said.Sent letters)) handed forms is = absurd is.did.kind
  conclude_done (Ok (said.Widened did)) handed forms is = absurd is.did.kind
  conclude_done (Ok (said.Grouped epoch)) handed forms is = absurd is.did.kind
  conclude_done (Ok (said.NodeUp boot)) handed forms is = absurd is.did.kind
  conclude_done (Ok said.Done) handed forms is = absurd is.did.kind
  conclude_done (Err why) (Err stop) forms is = denied on start old outcomes awaited been (order.Conclude node) fit new (step.Conclude node) why stop is (Err why, refl, is) forms (λ always. always)
  conclude_done (Err why) (Ok happened) forms is = absurd forms

module _ {D : Type 0} (on : View D) (start old : World D) (outcomes : List Outcome) (awaited : List Awaited) (been : List Act) (node : ℕ) (fit : OrderIsFit on start outcomes awaited been (order.Regroup node) old) (new : World D) where
  pub regroup_done : (result : Result Regroup StepFault) (handed : Result ClusterEvent Stop) → RegroupsTo result handed → HasRegrouped on node result old new → MovedSo on start outcomes awaited been old (order.Regroup node) handed new
  regroup_done (Ok (Formed epoch members)) (Ok happened) so has =
      subst (λ (e : ClusterEvent). Happened on start outcomes awaited been old (order.Regroup node) e new) (sym so) (formed on start old outcomes awaited been node fit new (Ok (Formed epoch members)) epoch members has refl)
  regroup_done (Ok (Formed epoch members)) (Err stop) so has = absurd so
  regroup_done (Ok (Fault failed)) (Ok happened) so has =
      subst (λ (e : ClusterEvent). Happened on start outcomes awaited been old (order.Regroup node) e new) (sym so) (regroup_faulted on start old outcomes awaited been node fit new (Ok (Fault failed)) failed has refl)
  regroup_done (Ok (Fault failed)) (Err stop) so has = absurd so
  regroup_done (Err why) (Ok happened) so has = absurd so
  regroup_done (Err why) (Err stop) so has = regroup_denied on start old outcomes awaited been node fit new (Err why) why stop has refl so
