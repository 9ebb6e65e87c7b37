-- What a settle, a report and a map make of a world.
use Rattle.std.proofs.Common.{◌≡◌, ⊎_elim, ℕ, true, false, List, [], ◌∷◌, ◌++◌, Option, None, Result, Ok, Err, refl, sym, ap, ◌∙◌, subst}
use Rattle.mail_model.specs.Tape.{ClusterOrder as order}
use Rattle.session_model.specs.Acts.{Act}
use Rattle.session_model.specs.Events.{NodeLife, MayFault}
use Rattle.session_model.specs.Lives.{life_after}
use Rattle.node_store.specs.Disks.{View}
use Rattle.cluster_world.specs.Flows.{AllDelivered}
use Rattle.cluster_world.specs.Made.{StepMade, MakesSteps, has_failed}
use Rattle.cluster_world.specs.Outcomes.{Outcome, Awaited, Came, fallen_in, left_after_all}
use Rattle.cluster_world.specs.Outcomes.Outcome.{Settling, Mapped}
use Rattle.cluster_world.specs.Regroups.{AllWentOn, EndsBy}
use Rattle.cluster_world.specs.Settling.{IsOfSettle, AreOfSettle, MakesSettle, Goes, Swept, IsRefusedBy, SweepsInVain, settle_refusal, pairs_in, maps_in}
use Rattle.cluster_world.specs.Settling.IsOfSettle.{Posts, Pushes, Reports}
use Rattle.cluster_world.specs.Settling.Swept.{NoMore, OneMore}
use Rattle.cluster_world.specs.Steps.{FallsSo, WasToWork}
use Rattle.cluster_world.specs.Turns.{life_after_step}
use Rattle.cluster_world.specs.Worlds.{state_of, plan_of, life_of, life_in}
use Rattle.cluster_world.proofs.Settles.{each_went}
use Rattle.cluster_world.specs.declared.fault.StepFault.{StepFault}
use Rattle.cluster_world.specs.declared.fault.StepFault.TheVariants as fault
use Rattle.cluster_world.specs.declared.settling.Settle.{Settle}
use Rattle.cluster_world.specs.declared.settling.Settle.TheVariants as settle
use Rattle.cluster_world.specs.declared.step.Said.{Said}
use Rattle.cluster_world.specs.declared.step.Said.TheVariants as said
use Rattle.cluster_world.specs.declared.step.Step.{Step}
use Rattle.cluster_world.specs.declared.step.Step.TheVariants as step
use Rattle.cluster_world.specs.declared.world.World.{World}
use Rattle.drive_tape.specs.declared.drove.Stop.{Stop}
use Rattle.drive_tape.specs.declared.drove.Stop.TheVariants.{Bad, NoMemory}
use Rattle.drive_tape.specs.declared.drove.TapeFault.{TapeFault}
use Rattle.drive_tape.specs.declared.event.ClusterEvent.{ClusterEvent}
use Rattle.drive_tape.specs.declared.event.ClusterEvent.TheVariants.{HasSettled, WasAbsent, HasMapped, HasFaulted}
use Rattle.drive_tape.specs.Denials.{stop_by}
use Rattle.drive_tape.specs.Forms.{SettlesTo}
use Rattle.drive_tape.specs.Led.TellsMove.{OfSettle, OfMap}
use Rattle.drive_tape.specs.Led.DeniesMove.{DeniedSettle}
use Rattle.drive_tape.specs.Moved.{OrderIsFit, Happened, MovedSo}
use Rattle.drive_tape.proofs.Posting.{all_well}
use Rattle.drive_tape.proofs.Stepping.{IsCalm, AreCalm, steps_last, plan_kept, calm_lives, may_fault, comes_calm, comes_after, denied_by, one_among}
use Rattle.drive_tape.proofs.Chains.{went_more}
use Rattle.drive_tape.proofs.WholeTexts.{settle_ended}

-- such a step leaves each node as it is
abbrev pub LeavesNodes : Step → Result Said StepFault → Type 0
LeavesNodes one result = (fallen_in one result ≡ None) × ((n : ℕ) (was : NodeLife) → life_after_step result one n was ≡ was)

pub calm_as : (one : StepMade) (s : Step) → one.step ≡ s → LeavesNodes s one.result → IsCalm one
calm_as one s is leaves = record {
  falls = ap (λ (x : Step). fallen_in x one.result) is ∙ leaves.0;
  lives = λ n was. ap (λ (x : Step). life_after_step one.result x n was) is ∙ leaves.1 n was;
}

post_leaves : (letter : ℕ) (result : Result Said StepFault) → has_failed result ≡ false → LeavesNodes (step.Post letter false) result
post_leaves letter (Ok (said.Faulted n)) well = absurd (let never : true ≡ false = well in cc)
post_leaves letter (Ok what) well = (refl, λ n was. refl)
post_leaves letter (Err why) well = absurd (let never : true ≡ false = well in cc)

push_leaves : (from to : ℕ) (result : Result Said StepFault) → has_failed result ≡ false → LeavesNodes (step.Push from to) result
push_leaves from to (Ok (said.Faulted n)) well = absurd (let never : true ≡ false = well in cc)
push_leaves from to (Ok what) well = (refl, λ n was. refl)
push_leaves from to (Err why) well = absurd (let never : true ≡ false = well in cc)

pub report_leaves : (from to : ℕ) (result : Result Said StepFault) → has_failed result ≡ false → LeavesNodes (step.Report from to) result
report_leaves from to (Ok (said.Faulted n)) well = absurd (let never : true ≡ false = well in cc)
report_leaves from to (Ok what) well = (refl, λ n was. refl)
report_leaves from to (Err why) well = absurd (let never : true ≡ false = well in cc)

-- each step of a settle that did not fail is one
of_settle_calm : (one : StepMade) → IsOfSettle one → has_failed one.result ≡ false → IsCalm one
of_settle_calm one (Posts post) well = calm_as one (step.Post post.0 false) post.1 (post_leaves post.0 one.result well)
of_settle_calm one (Pushes from to apart is) well = calm_as one (step.Push from to) is (push_leaves from to one.result well)
of_settle_calm one (Reports from to apart is) well = calm_as one (step.Report from to) is (report_leaves from to one.result well)

settle_calm : (steps : List StepMade) → AreOfSettle steps → AllWentOn steps → AreCalm steps
settle_calm [] of well = tt
settle_calm (one ∷ more) of well = (of_settle_calm one of.0 well.0, settle_calm more of.1 well.1)

settle_front : (front more : List StepMade) → AreOfSettle (front ++ more) → AreOfSettle front
settle_front [] more of = tt
settle_front (one ∷ front) more of = (of.0, settle_front front more of.1)

settle_last : (front : List StepMade) (one : StepMade) → AreOfSettle (front ++ one ∷ []) → IsOfSettle one
settle_last [] one of = of.0
settle_last (first ∷ front) one of = settle_last front one of.1

-- it starts no node
starts_none : (one : StepMade) (n : ℕ) → IsOfSettle one → one.step ≡ step.Start n → ⊥
starts_none one n (Posts post) starts = let never : step.Post post.0 false ≡ step.Start n = sym post.1 ∙ starts in cc
starts_none one n (Pushes from to apart is) starts = let never : step.Push from to ≡ step.Start n = sym is ∙ starts in cc
starts_none one n (Reports from to apart is) starts = let never : step.Report from to ≡ step.Start n = sym is ∙ starts in cc

-- none of its steps failed, where it did not end by one
went_both : (front more : List StepMade) → AllWentOn front → AllWentOn more → AllWentOn (front ++ more)
went_both [] more well rest = rest
went_both (one ∷ front) more well rest = (well.0, went_both front more well.1 rest)

delivered_went : (steps : List StepMade) → AllDelivered steps → AllWentOn steps
delivered_went [] all = tt
delivered_went (one ∷ more) all = let well = all_well (one ∷ more) all in (well.0, delivered_went more all.2)

-- a refusal that stops the tape is that of the step
pub stays_cause : (cause : StepFault) (f : TapeFault) → stop_by (settle_refusal cause) ≡ Bad f → stop_by cause ≡ Bad f
stays_cause fault.Worn f is = is
stays_cause (fault.NoMemory down) f is = is
stays_cause fault.NoSuchNode f is = absurd (let never : NoMemory ≡ Bad f = is in cc)
stays_cause fault.NodeLost f is = absurd (let never : NoMemory ≡ Bad f = is in cc)
stays_cause fault.NodeDown f is = absurd (let never : NoMemory ≡ Bad f = is in cc)
stays_cause fault.NodeUp f is = absurd (let never : NoMemory ≡ Bad f = is in cc)
stays_cause fault.NoSuchLetter f is = absurd (let never : NoMemory ≡ Bad f = is in cc)
stays_cause fault.NoSuchTicket f is = absurd (let never : NoMemory ≡ Bad f = is in cc)
stays_cause fault.NotAGroup f is = absurd (let never : NoMemory ≡ Bad f = is in cc)
stays_cause fault.NoRoom f is = absurd (let never : NoMemory ≡ Bad f = is in cc)

module _ {D : Type 0} (on : View D) where
  swept_went : (old new : World D) (steps : List StepMade) → Swept on old new steps → AllWentOn steps
  swept_went old new steps (NoMore _ _ same none) = subst AllWentOn (sym none) tt
  swept_went old new steps (OneMore mid _ front last _ swept sweeps sent split) =
      subst AllWentOn (sym split) (went_both front last (swept_went old mid front swept) (each_went on (pairs_in (state_of mid)) mid new last sweeps.tells))

  pub goes_went : (old new : World D) (steps : List StepMade) → Goes on old new steps → AllWentOn steps
  goes_went old new steps g = subst AllWentOn (sym g.split) (went_both g.first g.more (delivered_went g.first g.flows.well) (swept_went g.flown new g.more g.sweeps))

  module _ (start old : World D) (outcomes : List Outcome) (awaited : List Awaited) (been : List Act) (fit : OrderIsFit on start outcomes awaited been order.Settle old) (new : World D) where
    -- it came to an end
    settled : (makes : MakesSettle on (Ok settle.Settled) old new) → Happened on start outcomes awaited been old order.Settle HasSettled new
    settled makes =
        comes_calm on start old outcomes awaited been order.Settle fit new (Settling (Ok settle.Settled) makes.steps) makes.steps HasSettled (makes, refl, refl) tt makes.made
        (settle_calm makes.steps makes.of (goes_went old new makes.steps makes.shape.0)) (OfSettle (Ok settle.Settled) makes.steps refl refl refl) refl tt (λ n was. refl) (λ n among. absurd among)

    absent : (member : ℕ) (makes : MakesSettle on (Ok (settle.NotAllUp member)) old new) → Happened on start outcomes awaited been old order.Settle (WasAbsent member) new
    absent member makes =
        comes_calm on start old outcomes awaited been order.Settle fit new (Settling (Ok (settle.NotAllUp member)) makes.steps) makes.steps (WasAbsent member) (makes, refl, refl) tt makes.made
        (settle_calm makes.steps makes.of (⊎_elim (λ (none : (makes.steps ≡ []) × (new ≡ old)). subst AllWentOn (sym none.0) tt) (λ (goes : Goes on old new makes.steps). goes_went old new makes.steps goes) makes.shape.0))
        (OfSettle (Ok (settle.NotAllUp member)) makes.steps refl refl refl) refl tt (λ n was. refl) (λ n among. absurd among)

    -- a node failed in it
    faulted : (failed : ℕ) (makes : MakesSettle on (Ok (settle.Fault failed)) old new) → Happened on start outcomes awaited been old order.Settle (HasFaulted failed) new
    faulted failed makes =
        let so : EndsBy (Ok (said.Faulted failed)) makes.steps = makes.shape in
        let of : AreOfSettle (so.front ++ so.one ∷ []) = subst AreOfSettle so.split makes.of in
        let front_of = settle_front so.front (so.one ∷ []) of in
        let ends = steps_last on so.front so.one old new (subst (λ (l : List StepMade). MakesSteps on l old new) so.split makes.made) in
        let calm = settle_calm so.front front_of so.well in
        let falls : WasToWork (plan_of ends.mid).nodes so.one.step (life_of ends.mid failed) failed =
        subst (λ (r : Result Said StepFault). FallsSo r (plan_of ends.mid).nodes so.one.step (life_in (state_of ends.mid))) so.failed ends.last.did.falls in
        let may : MayFault (plan_of old) (life_after been) failed =
        may_fault on start old outcomes awaited been order.Settle fit so.one.step failed ends.mid (plan_kept on so.front old ends.mid ends.before) (calm_lives on so.front old ends.mid ends.before calm) falls
        (starts_none so.one failed (settle_last so.front so.one of)) in
        let came : Came on (Settling (Ok (settle.Fault failed)) makes.steps) awaited old (left_after_all (so.front ++ so.one ∷ []) awaited) new =
        (makes, refl, ap (λ (l : List StepMade). left_after_all l awaited) (sym so.split)) in
        comes_after on start old outcomes awaited been order.Settle fit new ends.mid (Settling (Ok (settle.Fault failed)) makes.steps) so.front so.one (HasFaulted failed) came tt
        ends.before calm (settle_ended so.front front_of) ends.last (OfSettle (Ok (settle.Fault failed)) makes.steps refl refl refl) (ap (λ (r : Result Said StepFault). fallen_in so.one.step r) so.failed) may
        (λ n was. ap (λ (r : Result Said StepFault). life_after_step r so.one.step n was) so.failed) (λ n among. so.failed ∙ ap (λ (m : ℕ). Ok (said.Faulted m)) (one_among n failed among))

    -- it was refused, for the sake of a step
    refused : (why : StepFault) (stop : Stop) (makes : MakesSettle on (Err why) old new) → stop ≡ stop_by why → IsRefusedBy why makes.steps → MovedSo on start outcomes awaited been old order.Settle (Err stop) new
    refused why stop makes stops by =
        let so = by.ends in
        let of : AreOfSettle (so.front ++ so.one ∷ []) = subst AreOfSettle so.split makes.of in
        let ends = steps_last on so.front so.one old new (subst (λ (l : List StepMade). MakesSteps on l old new) so.split makes.made) in
        denied_by on start old outcomes awaited been order.Settle fit new ends.mid (Settling (Err why) makes.steps) so.front so.one why by.cause stop
        (makes, refl, ap (λ (l : List StepMade). left_after_all l awaited) (sym so.split)) tt (DeniedSettle makes.steps refl refl) ends.before
        (settle_calm so.front (settle_front so.front (so.one ∷ []) of) so.well) ends.last so.failed (λ f bad. stays_cause by.cause f (sym (ap stop_by by.is) ∙ sym stops ∙ bad)) stops (λ always. always)

    -- or a sweep was in vain
    in_vain : (why : StepFault) (stop : Stop) (makes : MakesSettle on (Err why) old new) → stop ≡ stop_by why → SweepsInVain on why old new makes.steps → MovedSo on start outcomes awaited been old order.Settle (Err stop) new
    in_vain why stop makes stops vain = (
      (λ always. always),
      Settling (Err why) makes.steps,
      record { why = why; denied = DeniedSettle makes.steps refl refl; stops = stops },
      (left_after_all makes.steps awaited, went_more on start outcomes awaited old fit.at (Settling (Err why) makes.steps) (left_after_all makes.steps awaited) new (makes, refl, refl) tt),
      λ f bad n. absurd (let never : NoMemory ≡ Bad f = sym (stops ∙ ap stop_by vain.is) ∙ bad in cc),
    )

    pub settle_done : (result : Result Settle StepFault) (handed : Result ClusterEvent Stop) → SettlesTo result handed → MakesSettle on result old new → MovedSo on start outcomes awaited been old order.Settle handed new
    settle_done (Ok settle.Settled) (Ok happened) so makes = subst (λ (e : ClusterEvent). Happened on start outcomes awaited been old order.Settle e new) (sym so) (settled makes)
    settle_done (Ok settle.Settled) (Err stop) so makes = absurd so
    settle_done (Ok (settle.NotAllUp member)) (Ok happened) so makes = subst (λ (e : ClusterEvent). Happened on start outcomes awaited been old order.Settle e new) (sym so) (absent member makes)
    settle_done (Ok (settle.NotAllUp member)) (Err stop) so makes = absurd so
    settle_done (Ok (settle.Fault failed)) (Ok happened) so makes = subst (λ (e : ClusterEvent). Happened on start outcomes awaited been old order.Settle e new) (sym so) (faulted failed makes)
    settle_done (Ok (settle.Fault failed)) (Err stop) so makes = absurd so
    settle_done (Err why) (Ok happened) so makes = absurd so
    settle_done (Err why) (Err stop) so makes = ⊎_elim
        (λ (by : IsRefusedBy why makes.steps). refused why stop makes so by)
        (λ (vain : SweepsInVain on why old new makes.steps). in_vain why stop makes so vain) makes.shape

  -- a map was asked for
  pub map_done : (start old : World D) (outcomes : List Outcome) (awaited : List Awaited) (been : List Act) (user : List ℕ) (told : Option (ℕ × ℕ)) → OrderIsFit on start outcomes awaited been (order.Maps user) old
      → told ≡ maps_in (state_of old) user → Happened on start outcomes awaited been old (order.Maps user) (HasMapped user told) old
  map_done start old outcomes awaited been user told fit is =
      comes_calm on start old outcomes awaited been (order.Maps user) fit old (Mapped user told) [] (HasMapped user told) (is, refl, refl) tt refl tt (OfMap user told refl refl refl) refl refl (λ n was. refl) (λ n among. absurd among)
