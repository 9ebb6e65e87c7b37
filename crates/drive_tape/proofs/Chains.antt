-- What a chain of steps keeps of a world.
use Rattle.std.proofs.Common.{◌≡◌, ◌≤◌, ◌<◌, ◌⊎◌, inl, inr, ⊎_elim, ℕ, zero, suc, Bool, true, false, List, [], ◌∷◌, ◌++◌, length, Option, Some, None, Result, Ok, refl, sym, ap, ◌∙◌, subst, arith}
use Rattle.std.specs.Prelude.{is_some, slice_get, ◌&&◌}
use Rattle.std.specs.List.{list_all}
use Rattle.io_edge.specs.Causes.{Rose}
use Rattle.io_edge.specs.Octets.{IsToldAlike}
use Rattle.joint_world.specs.World.{mail_world_of}
use Rattle.node_store.specs.Disks.{View}
use Rattle.cluster_world.specs.Lives.{of_node}
use Rattle.cluster_world.specs.Sound.{IsWhole}
use Rattle.cluster_world.specs.Worlds.{WorldState, state_of, plan_of, disk_in, disk_of_node, disks_tell, tells_in}
use Rattle.cluster_world.specs.Steps.{IsStep, StepDid}
use Rattle.cluster_world.specs.Made.{StepMade, MakesSteps}
use Rattle.cluster_world.specs.Outcomes.{Outcome, Awaited, Came, Makes}
use Rattle.cluster_world.specs.Outcomes.Outcome.{Began, Refused, Fell, Broke, Answers, StillPending, Unanswered, GaveUp, Abandoned, KeptUp, Left, Moved, Settling, Mapped}
use Rattle.cluster_world.specs.declared.world.World.{World}
use Rattle.cluster_world.specs.declared.step.Step.{Step}
use Rattle.cluster_world.specs.declared.step.Said.{Said}
use Rattle.cluster_world.specs.declared.step.Said.TheVariants as said
use Rattle.cluster_world.specs.declared.fault.StepFault.{StepFault}
use Rattle.drive_tape.proofs.WholeTexts.{AreEnded, are_ended, settle_ended, whole_ended, leave_ended, whole_more}
use Rattle.cluster_world.specs.Settling.{AreOfSettle}
use Rattle.cluster_world.specs.Ended.{IsEnded}
use Rattle.cluster_world.proofs.Leading.{step_leads}
use Rattle.cluster_world.proofs.Ordered.{order_makes, order_are}
use Rattle.drive_tape.specs.Worlds.{IsWholeOutcome, AreWhole, WorldIsAt, WentTo, HasFailed, HasCauses}

-- as many disks, told alike, whose counts have not fallen
pub record Carries {D : Type 0} (on : View D) (old new : WorldState D) : Type 0 where
  pub handed : length new.disks ≡ length old.disks
  pub told : (n : ℕ) (disk disk' : D) → disk_in old n ≡ Some disk → disk_in new n ≡ Some disk' → IsToldAlike (on.seen disk) (on.seen disk')
  pub later : (n : ℕ) (disk disk' : D) → disk_in old n ≡ Some disk → disk_in new n ≡ Some disk' → on.faults disk ≤ on.faults disk'

some_same : {X : Type 0} (x y : X) → Some x ≡ Some y → x ≡ y
some_same x y is = cc

get_within : {X : Type 0} (xs : List X) (k : ℕ) (x : X) → slice_get xs k ≡ Some x → k < length xs
get_within [] k x is = absurd (let no : ◌≡◌ {A = Option _} None (Some x) = is in cc)
get_within (y ∷ xs) zero x is = omega arith
get_within (y ∷ xs) (suc k) x is = let more : k < length xs = get_within xs k x is in omega (arith, more)

get_there : {X : Type 0} (xs : List X) (k : ℕ) → k < length xs → (x : X) × (slice_get xs k ≡ Some x)
get_there [] k within = absurd (omega (arith, within))
get_there (y ∷ xs) zero within = (y, refl)
get_there (y ∷ xs) (suc k) within = get_there xs k (omega (arith, within))

-- where as many are, one is where one was
pub there_too : {X : Type 0} (xs ys : List X) (n : ℕ) (x : X) → length ys ≡ length xs → of_node xs n ≡ Some x → (y : X) × (of_node ys n ≡ Some y)
there_too xs ys zero x same is = absurd (let no : ◌≡◌ {A = Option _} None (Some x) = is in cc)
there_too xs ys (suc k) x same is = let within : k < length xs = get_within xs k x is in get_there ys k (omega (arith, within, same))

module _ {D : Type 0} (on : View D) where
  pub carries_none : (state : WorldState D) → Carries on state state
  carries_none state = record {
    handed = refl;
    told = λ n disk disk' was is. ap (λ (d : D). is_some (on.seen d)) (some_same disk' disk (sym is ∙ was));
    later = λ n disk disk' was is. subst (λ (d : D). on.faults disk ≤ on.faults d) (some_same disk disk' (sym was ∙ is)) (omega arith);
  }

  pub carries_more : (old mid new : WorldState D) → Carries on old mid → Carries on mid new → Carries on old new
  carries_more old mid new one two = record {
    handed = two.handed ∙ one.handed;
    told = λ n disk disk' was is.
        let between = there_too old.disks mid.disks n disk one.handed was in
        two.told n between.0 disk' between.1 is ∙ one.told n disk between.0 was between.1;
    later = λ n disk disk' was is.
        let between = there_too old.disks mid.disks n disk one.handed was in
        let first = one.later n disk between.0 was between.1 in
        let second = two.later n between.0 disk' between.1 is in omega (arith, first, second);
  }

  pub carries_step : (result : Result Said StepFault) (step : Step) (old new : WorldState D) → StepDid on result step old new → Carries on old new
  carries_step result step old new did = record { handed = did.handed; told = did.told.each; later = did.quiet.later }

  pub carries_steps : (steps : List StepMade) (old new : World D) → MakesSteps on steps old new → Carries on (state_of old) (state_of new)
  carries_steps [] old new is = subst (λ (w : World D). Carries on (state_of old) (state_of w)) (sym is) (carries_none (state_of old))
  carries_steps (one ∷ more) old new made = carries_more _ _ _ (carries_step _ _ _ _ made.1.did) (carries_steps more made.0 new made.2)

  pub carries_came : (outcome : Outcome) (awaited left : List Awaited) (old new : World D) → Came on outcome awaited old left new → Carries on (state_of old) (state_of new)
  carries_came (Began k node asked ticket) awaited left old new came = carries_step _ _ _ _ came.3.did
  carries_came (Refused k node asked) awaited left old new came = carries_step _ _ _ _ came.4.did
  carries_came (Fell k node asked) awaited left old new came = carries_step _ _ _ _ came.2.did
  carries_came (Broke k node asked) awaited left old new came = carries_step _ _ _ _ came.3.did
  carries_came (Answers k asked ticket given) awaited left old new came = carries_step _ _ _ _ came.3.did
  carries_came (StillPending k ticket) awaited left old new came = carries_step _ _ _ _ came.4.did
  carries_came (Unanswered k asked ticket) awaited left old new came = carries_step _ _ _ _ came.3.did
  carries_came (GaveUp k asked ticket) awaited left old new came = carries_step _ _ _ _ came.1.did
  carries_came (Abandoned k asked ticket) awaited left old new came = carries_step _ _ _ _ came.1.did
  carries_came (KeptUp k ticket why) awaited left old new came = carries_step _ _ _ _ came.2.did
  carries_came (Left k node user) awaited left old new came = carries_step _ _ _ _ came.3.did
  carries_came (Moved order steps sum up) awaited left old new came = carries_steps steps old new (order_makes on order steps old new came.0)
  carries_came (Settling result steps) awaited left old new (makes, are, left_is) = carries_steps steps old new (subst (λ (l : List StepMade). MakesSteps on l old new) are makes.made)
  carries_came (Mapped user told) awaited left old new came = subst (λ (w : World D). Carries on (state_of old) (state_of w)) (sym came.2) (carries_none (state_of old))

  pub carries_makes : (outcomes : List Outcome) (awaited left : List Awaited) (old new : World D) → Makes on outcomes awaited old left new → Carries on (state_of old) (state_of new)
  carries_makes [] awaited left old new made = subst (λ (w : World D). Carries on (state_of old) (state_of w)) (sym made.1) (carries_none (state_of old))
  carries_makes (outcome ∷ more) awaited left old new made = carries_more _ _ _ (carries_came outcome awaited made.0 old made.1 made.2) (carries_makes more made.0 left made.1 new made.3)

  -- steps and one more are steps
  pub makes_more : (outcomes : List Outcome) (outcome : Outcome) (awaited between left : List Awaited) (old mid new : World D) → Makes on outcomes awaited old between mid → Came on outcome between mid left new
      → Makes on (outcomes ++ outcome ∷ []) awaited old left new
  makes_more [] outcome awaited between left old mid new made came =
      (left, new, subst (λ (a : List Awaited). Came on outcome a old left new) made.0 (subst (λ (w : World D). Came on outcome between w left new) made.1 came), (refl, refl))
  makes_more (first ∷ more) outcome awaited between left old mid new made came =
      (made.0, made.1, made.2, makes_more more outcome made.0 between left made.1 mid new made.3 came)

  -- disks that tell what they hold go on to
  tells_lists : (xs ys : List D) → length ys ≡ length xs → ((n : ℕ) (x y : D) → slice_get xs n ≡ Some x → slice_get ys n ≡ Some y → IsToldAlike (on.seen x) (on.seen y))
      → list_all (λ (d : D). is_some (on.seen d)) ys ≡ list_all (λ (d : D). is_some (on.seen d)) xs
  tells_lists [] [] same told = refl
  tells_lists [] (y ∷ ys) same told = absurd (omega (arith, same))
  tells_lists (x ∷ xs) [] same told = absurd (omega (arith, same))
  tells_lists (x ∷ xs) (y ∷ ys) same told =
      let first : is_some (on.seen y) ≡ is_some (on.seen x) = told 0 x y refl refl in
      let more = tells_lists xs ys (omega (arith, same)) (λ n. told (suc n)) in
      ap (λ (b : Bool). b && list_all (λ (d : D). is_some (on.seen d)) ys) first ∙ ap (λ (b : Bool). is_some (on.seen x) && b) more

  pub tells_same : (old new : WorldState D) → Carries on old new → tells_in on.seen new ≡ tells_in on.seen old
  tells_same old new carries = tells_lists old.disks new.disks carries.handed (λ n. carries.told (suc n))

  stands_step : (result : Result Said StepFault) (step : Step) (old new : World D) → IsStep on result step old new → IsEnded step → disks_tell on.seen old ≡ true → IsWhole on (plan_of old) old → IsWhole on (plan_of new) new
  stands_step result step old new is ended told stands = (step_leads on result step old new (inl told) ended is stands).whole

  pub stands_steps : (steps : List StepMade) (old new : World D) → MakesSteps on steps old new → AreEnded steps → disks_tell on.seen old ≡ true → IsWhole on (plan_of old) old → IsWhole on (plan_of new) new
  stands_steps [] old new is ended told stands = subst (λ (world : World D). IsWhole on (plan_of world) world) (sym is) stands
  stands_steps (one ∷ more) old new made ended told stands =
      stands_steps more made.0 new made.2 ended.1 (tells_same _ _ (carries_step _ _ _ _ made.1.did) ∙ told) (stands_step _ _ _ _ made.1 ended.0 told stands)

  stands_came : (outcome : Outcome) (awaited left : List Awaited) (old new : World D) → Came on outcome awaited old left new → IsWholeOutcome outcome → disks_tell on.seen old ≡ true → IsWhole on (plan_of old) old → IsWhole on (plan_of new) new
  stands_came (Began k node asked ticket) awaited left old new came whole = stands_step _ _ _ _ came.3 (whole_ended came.0 asked came.2 whole)
  stands_came (Refused k node asked) awaited left old new came whole = stands_step _ _ _ _ came.4 (whole_ended came.0 asked came.2 whole)
  stands_came (Fell k node asked) awaited left old new came whole = stands_step _ _ _ _ came.2 (whole_ended came.0 asked came.1 whole)
  stands_came (Broke k node asked) awaited left old new came whole = stands_step _ _ _ _ came.3 (whole_ended came.0 asked came.2 whole)
  stands_came (Answers k asked ticket given) awaited left old new came whole = stands_step _ _ _ _ came.3 tt
  stands_came (StillPending k ticket) awaited left old new came whole = stands_step _ _ _ _ came.4 tt
  stands_came (Unanswered k asked ticket) awaited left old new came whole = stands_step _ _ _ _ came.3 tt
  stands_came (GaveUp k asked ticket) awaited left old new came whole = stands_step _ _ _ _ came.1 tt
  stands_came (Abandoned k asked ticket) awaited left old new came whole = stands_step _ _ _ _ came.1 tt
  stands_came (KeptUp k ticket why) awaited left old new came whole = stands_step _ _ _ _ came.2 tt
  stands_came (Left k node user) awaited left old new came whole = stands_step _ _ _ _ came.3 (leave_ended user came.0 came.2)
  stands_came (Moved order steps sum up) awaited left old new came whole = stands_steps steps old new (order_makes on order steps old new came.0) (are_ended order steps (order_are on order steps old new came.0))
  stands_came (Settling result steps) awaited left old new (makes, are, left_is) whole =
      stands_steps steps old new (subst (λ (l : List StepMade). MakesSteps on l old new) are makes.made) (settle_ended steps (subst AreOfSettle are makes.of))
  stands_came (Mapped user told) awaited left old new came whole = λ tells stands. subst (λ (world : World D). IsWhole on (plan_of world) world) (sym came.2) stands

  stands_makes : (outcomes : List Outcome) (awaited left : List Awaited) (old new : World D) → Makes on outcomes awaited old left new → AreWhole outcomes → disks_tell on.seen old ≡ true → IsWhole on (plan_of old) old
      → IsWhole on (plan_of new) new
  stands_makes [] awaited left old new made whole told stands = subst (λ (world : World D). IsWhole on (plan_of world) world) (sym made.1) stands
  stands_makes (outcome ∷ more) awaited left old new made whole told stands =
      stands_makes more made.0 left made.1 new made.3 whole.1 (tells_same _ _ (carries_came outcome awaited made.0 old made.1 made.2) ∙ told) (stands_came outcome awaited made.0 old made.1 made.2 whole.0 told stands)

  module _ (start : World D) (outcomes : List Outcome) (awaited : List Awaited) (old : World D) (at : WorldIsAt on start outcomes awaited old) where
    pub carried : Carries on (state_of start) (state_of old)
    carried = carries_makes outcomes [] awaited start old at.made

    -- it stands for a sound world of the whole machine, where its disks tell what they hold
    pub stands_at : disks_tell on.seen start ≡ true → (disks_tell on.seen old ≡ true) × IsWhole on (plan_of old) old
    stands_at told = (tells_same _ _ carried ∙ told, stands_makes outcomes [] awaited start old at.made at.whole told at.stands)

    -- one step more
    pub world_more : (outcome : Outcome) (left : List Awaited) (new : World D) → Came on outcome awaited old left new → IsWholeOutcome outcome → WorldIsAt on start (outcomes ++ outcome ∷ []) left new
    world_more outcome left new came whole = record { stands = at.stands; made = makes_more outcomes outcome [] awaited left start old new at.made came; whole = whole_more outcomes outcome at.whole whole }

    -- a node that failed in a step has its cause
    pub has_failed : (step : Step) (n : ℕ) (new : WorldState D) → (old' : World D) → Carries on (state_of start) (state_of old') → (disks_tell on.seen start ≡ true → IsWhole on (plan_of old') old')
        → StepDid on (Ok (said.Faulted n)) step (state_of old') new → (disk disk' : D) → disk_of_node start n ≡ Some disk → disk_in new n ≡ Some disk'
        → Rose (on.faults disk) (on.faults disk') ⊎ (on.seen disk ≡ None) ⊎ (disks_tell on.seen start ≡ false)
    has_failed step n new old' before stands did disk disk' was is = by (disks_tell on.seen start) refl
      where
        between : (d : D) × (disk_in (state_of old') n ≡ Some d)
        between = there_too (state_of start).disks (state_of old').disks n disk before.handed was

        none_before : on.seen between.0 ≡ None → on.seen disk ≡ None
        none_before none = by_told (on.seen disk) (sym (before.told n disk between.0 was between.1) ∙ ap (λ (o : Option (List ℕ)). is_some o) none)
          where
            by_told : (o : Option (List ℕ)) → is_some o ≡ false → o ≡ None
            by_told None so = refl
            by_told (Some held) so = absurd (let never : true ≡ false = so in cc)

        by : (b : Bool) → disks_tell on.seen start ≡ b → Rose (on.faults disk) (on.faults disk') ⊎ (on.seen disk ≡ None) ⊎ (disks_tell on.seen start ≡ false)
        by false told = inr (inr told)
        by true told =
            let whole = stands told in
            ⊎_elim (λ (rose : Rose (on.faults between.0) (on.faults disk')). let later = before.later n disk between.0 was between.1 in inl (omega (arith, rose, later)))
            (λ (none : (on.seen between.0 ≡ None) × _). inr (inl (none_before none.0)))
            (did.cause (mail_world_of whole.v) whole.stands.mail between.0 disk' between.1 is)

  -- what failed has failed
  pub failed_later : (start old new : World D) (n : ℕ) → Carries on (state_of start) (state_of old) → Carries on (state_of old) (state_of new) → HasFailed on start old n → HasFailed on start new n
  failed_later start old new n before carries failed disk disk' was is =
      let between = there_too (state_of start).disks (state_of old).disks n disk before.handed was in
      let later = carries.later n between.0 disk' between.1 is in
      ⊎_elim (λ (rose : Rose (on.faults disk) (on.faults between.0)). inl (omega (arith, rose, later))) (λ other. inr other) (failed disk between.0 was between.1)

  pub causes_later : (start old new : World D) (failed : List ℕ) → Carries on (state_of start) (state_of old) → Carries on (state_of old) (state_of new) → HasCauses on start failed old → HasCauses on start failed new
  causes_later start old new failed before carries causes n among = failed_later start old new n before carries (causes n among)

  -- one step more, and what failed before has failed
  pub went_more : (start : World D) (outcomes : List Outcome) (awaited : List Awaited) (old : World D) (at : WorldIsAt on start outcomes awaited old) (outcome : Outcome) (left : List Awaited) (new : World D)
      → Came on outcome awaited old left new → IsWholeOutcome outcome → WentTo on start old (outcomes ++ outcome ∷ []) left new
  went_more start outcomes awaited old at outcome left new came whole = record {
    at = world_more start outcomes awaited old at outcome left new came whole;
    causes = λ failed causes. causes_later start old new failed (carried start outcomes awaited old at) (carries_came outcome awaited left old new came) causes;
  }
