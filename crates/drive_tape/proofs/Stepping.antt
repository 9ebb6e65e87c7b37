-- What the steps of a run line make of a world.
use Rattle.std.proofs.Common.{◌≡◌, ◌≢◌, ◌≤◌, ◌<◌, ⊎_elim, inl, ℕ, nat_eq, nat_lt, Bool, true, false, List, [], ◌∷◌, ◌++◌, Option, None, Result, Ok, Err, refl, sym, ap, ◌∙◌, subst, arith}
use Rattle.std.proofs.lemmas.Bool.Decides.{nat_tests}
use Rattle.std.specs.Prelude.{◌||◌, ⊤}
use Rattle.object_model.specs.Lists.{Among}
use Rattle.mail_model.specs.Plan.{Plan}
use Rattle.session_model.specs.Sums.{sum_of}
use Rattle.mail_model.specs.Tape.{ClusterOrder}
use Rattle.mail_model.specs.Tape.{ClusterOrder as order}
use Rattle.session_model.specs.Acts.{Act}
use Rattle.session_model.specs.Acts.Act.{Makes as MakesAct}
use Rattle.session_model.specs.Events.{NodeLife, IsEventOf, IsUp, MayFault, life_by_event, failed_by_event}
use Rattle.session_model.specs.Events.NodeLife.{Up}
use Rattle.session_model.specs.Lives.{life_by, life_from, life_after}
use Rattle.session_model.specs.Run.{IsAlwaysDone, is_no_node}
use Rattle.node_store.specs.Disks.{View}
use Rattle.cluster_world.specs.Worlds.{state_of, plan_of, life_of, book_of}
use Rattle.cluster_world.specs.Steps.{StepDid, IsStep, WasToWork}
use Rattle.cluster_world.specs.Turns.{life_after_step}
use Rattle.cluster_world.specs.Made.{StepMade, MakesSteps}
use Rattle.cluster_world.specs.Outcomes.{Outcome, Awaited, MakesOrder, Came, moved_in, fallen_in, left_after, left_after_all}
use Rattle.cluster_world.specs.Lives.{nodes_up}
use Rattle.cluster_world.proofs.Ordered.{order_makes, order_are}
use Rattle.cluster_world.specs.declared.world.World.{World}
use Rattle.cluster_world.specs.declared.step.Step.{Step}
use Rattle.cluster_world.specs.declared.step.Step.TheVariants as step
use Rattle.cluster_world.specs.declared.step.Said.{Said}
use Rattle.cluster_world.specs.declared.step.Said.TheVariants as said
use Rattle.cluster_world.specs.declared.fault.StepFault.{StepFault}
use Rattle.drive_tape.specs.declared.drove.Stop.{Stop}
use Rattle.drive_tape.specs.declared.drove.Stop.TheVariants.{Bad}
use Rattle.drive_tape.specs.declared.drove.TapeFault.{TapeFault}
use Rattle.drive_tape.specs.declared.event.ClusterEvent.{ClusterEvent}
use Rattle.drive_tape.specs.Denials.{stop_by}
use Rattle.drive_tape.specs.Happenings.{event_seen, fallen_by}
use Rattle.drive_tape.specs.Led.{Tells, TellsMove, AreDenied, DeniesMove, EndsIn as LastIs}
use Rattle.drive_tape.specs.Led.TellsMove.{OfSteps}
use Rattle.drive_tape.specs.Led.DeniesMove.{DeniedSteps}
use Rattle.drive_tape.specs.Moved.{OrderIsFit, Happened, MovedSo}
use Rattle.drive_tape.specs.Worlds.{WentTo, IsWholeOutcome}
use Rattle.drive_tape.proofs.WholeTexts.{AreEnded, are_ended, front_ended}
use Rattle.drive_tape.proofs.Done.{refused_life}
use Rattle.drive_tape.proofs.Chains.{carried, carries_steps, carries_more, stands_at, stands_steps, has_failed, went_more}

-- a step in which no node changes
pub record IsCalm (one : StepMade) : Type 0 where
  pub falls : fallen_in one.step one.result ≡ None
  pub lives : (n : ℕ) (was : NodeLife) → life_after_step one.result one.step n was ≡ was

abbrev pub AreCalm : List StepMade → Type 0
AreCalm [] = ⊤
AreCalm (one ∷ more) = IsCalm one × AreCalm more

-- the life of a node after one act more
pub life_more : (acts : List Act) (act : Act) (n : ℕ) (life : NodeLife) → life_from life (acts ++ act ∷ []) n ≡ life_by act n (life_from life acts n)
life_more [] act n life = refl
life_more (first ∷ more) act n life = life_more more act n (life_by first n life)

-- the only one there is
pub one_among : (n node : ℕ) → Among n (node ∷ []) → node ≡ n
one_among n node among = ⊎_elim (λ (same : node ≡ n). same) (λ none. absurd none) among

-- a node of the plan
pub is_a_node : (plan : Plan) (n : ℕ) → 1 ≤ n → n ≤ plan.nodes → is_no_node plan n ≡ false
is_a_node plan n above within = by (nat_eq n 0) (nat_lt plan.nodes n) refl refl
  where
    by : (a b : Bool) → nat_eq n 0 ≡ a → nat_lt plan.nodes n ≡ b → (a || b) ≡ false
    by true b is some = absurd (let zero : n ≡ 0 = grind (arith, nat_tests, is) in omega (arith, zero, above))
    by false true is some = absurd (let more : plan.nodes < n = grind (arith, nat_tests, some) in omega (arith, more, within))
    by false false is some = refl

-- what is awaited after calm steps and more
pub calm_left : (front more : List StepMade) (awaited : List Awaited) → AreCalm front → left_after_all (front ++ more) awaited ≡ left_after_all more awaited
calm_left [] more awaited calm = refl
calm_left (one ∷ front) more awaited calm =
    calm_left front more (left_after (fallen_in one.step one.result) awaited) calm.1 ∙ ap (λ (f : Option ℕ). left_after_all more (left_after f awaited)) calm.0.falls

-- a line whose last step was refused
denied_ends : (asked : ClusterOrder) (why : StepFault) (steps : List StepMade) → LastIs (Err why) steps → AreDenied asked why steps
denied_ends (order.Regroup node) why steps ends = inl ends
denied_ends asked why steps ends = ends

module _ {D : Type 0} (on : View D) where
  pub steps_more : (front : List StepMade) (one : StepMade) (old mid new : World D) → MakesSteps on front old mid → IsStep on one.result one.step mid new → MakesSteps on (front ++ one ∷ []) old new
  steps_more [] one old mid new made is = (new, subst (λ (w : World D). IsStep on one.result one.step w new) made is, refl)
  steps_more (first ∷ more) one old mid new made is = (made.0, made.1, steps_more more one made.0 mid new made.2 is)

  -- all but the last of some steps, and the last
  pub record EndsIn (front : List StepMade) (one : StepMade) (old new : World D) : Type 0 where
    pub mid : World D
    pub before : MakesSteps on front old mid
    pub last : IsStep on one.result one.step mid new

  pub steps_last : (front : List StepMade) (one : StepMade) (old new : World D) → MakesSteps on (front ++ one ∷ []) old new → EndsIn front one old new
  steps_last [] one old new made = record { mid = old; before = refl; last = subst (λ (w : World D). IsStep on one.result one.step old w) (sym made.2) made.1 }
  steps_last (first ∷ more) one old new made =
      let rest = steps_last more one made.0 new made.2 in record { mid = rest.mid; before = (made.0, made.1, rest.before); last = rest.last }

  pub plan_kept : (steps : List StepMade) (old new : World D) → MakesSteps on steps old new → plan_of new ≡ plan_of old
  plan_kept [] old new made = ap (λ (w : World D). plan_of w) made
  plan_kept (one ∷ more) old new made = plan_kept more made.0 new made.2 ∙ made.1.did.plan

  pub calm_lives : (steps : List StepMade) (old new : World D) → MakesSteps on steps old new → AreCalm steps → (n : ℕ) → life_of new n ≡ life_of old n
  calm_lives [] old new made calm n = ap (λ (w : World D). life_of w n) made
  calm_lives (one ∷ more) old new made calm n = calm_lives more made.0 new made.2 calm.1 n ∙ made.1.did.lives n ∙ calm.0.lives n (life_of old n)

  module _ (start old : World D) (outcomes : List Outcome) (awaited : List Awaited) (been : List Act) (order : ClusterOrder) (fit : OrderIsFit on start outcomes awaited been order old) where
    -- a node that failed as it worked may fail
    pub may_fault : (one : Step) (n : ℕ) (mid : World D) → plan_of mid ≡ plan_of old → ((i : ℕ) → life_of mid i ≡ life_of old i) → WasToWork (plan_of mid).nodes one (life_of mid n) n → one ≢ step.Start n
        → MayFault (plan_of old) (life_after been) n
    may_fault one n mid plan lives worked other =
        let within : n ≤ (plan_of old).nodes = subst (λ (p : Plan). n ≤ p.nodes) plan worked.within in
        record {
          above = worked.above;
          within = within;
          up = ⊎_elim (λ (up : (boot : ℕ) × (life_of mid n ≡ Up boot)).
              subst IsUp (sym up.1 ∙ lives n ∙ fit.lives n (is_a_node (plan_of old) n worked.above within)) tt) (λ starts. absurd (other starts)) worked.worked;
        }

    -- steps in which no node changed, and nothing else was to come of them
    pub comes_calm : (new : World D) (outcome : Outcome) (steps : List StepMade) (event : ClusterEvent) → Came on outcome awaited old (left_after_all steps awaited) new → IsWholeOutcome outcome → MakesSteps on steps old new → AreCalm steps
        → TellsMove (nodes_up (life_of old) (plan_of old).nodes) order (event_seen event) outcome → fallen_by (event_seen event) ≡ None
        → IsEventOf (plan_of old) (life_after been) order (event_seen event) → ((n : ℕ) (was : NodeLife) → life_by_event (event_seen event) n was ≡ was) → ((n : ℕ) → Among n (failed_by_event (event_seen event)) → ⊥)
        → Happened on start outcomes awaited been old order event new
    comes_calm new outcome steps event came whole made calm tells falls is lives none = record {
      outcome = outcome;
      at = subst (λ (a : List Awaited). WentTo on start old (outcomes ++ outcome ∷ []) a new) left (went_more on start outcomes awaited old fit.at outcome (left_after_all steps awaited) new came whole);
      is = is;
      tells = tells;
      lives = λ n there. calm_lives steps old new made calm n ∙ fit.lives n there ∙ sym (life_more been (MakesAct order (event_seen event)) n (Up 1) ∙ lives n (life_after been n));
      cause = λ n among. absurd (none n among);
    }
      where
        left : left_after_all steps awaited ≡ left_after (fallen_by (event_seen event)) awaited
        left = ap (λ (s : List StepMade). left_after_all s awaited) (sym (append_none steps)) ∙ calm_left steps [] awaited calm ∙ ap (λ (f : Option ℕ). left_after f awaited) (sym falls)
          where
            append_none : (xs : List StepMade) → xs ++ [] ≡ xs
            append_none [] = refl
            append_none (x ∷ xs) = ap (λ (l : List StepMade). x ∷ l) (append_none xs)

    pub happens_calm : (new : World D) (steps : List StepMade) (event : ClusterEvent) → MakesOrder on order steps old new → AreCalm steps → Tells order steps (sum_of (book_of old)) (event_seen event) → fallen_by (event_seen event) ≡ None
        → IsEventOf (plan_of old) (life_after been) order (event_seen event) → ((n : ℕ) (was : NodeLife) → life_by_event (event_seen event) n was ≡ was) → ((n : ℕ) → Among n (failed_by_event (event_seen event)) → ⊥)
        → Happened on start outcomes awaited been old order event new
    happens_calm new steps event makes calm tells falls is lives none =
        comes_calm new (moved_in old order steps) steps event (makes, refl, refl, refl) tt (order_makes on order steps old new makes) calm (OfSteps steps (sum_of (book_of old)) refl tells) falls is lives none

    -- such steps, and one more of which something came
    pub comes_after : (new mid : World D) (outcome : Outcome) (front : List StepMade) (one : StepMade) (event : ClusterEvent) → Came on outcome awaited old (left_after_all (front ++ one ∷ []) awaited) new → IsWholeOutcome outcome
        → MakesSteps on front old mid → AreCalm front → AreEnded front → IsStep on one.result one.step mid new
        → TellsMove (nodes_up (life_of old) (plan_of old).nodes) order (event_seen event) outcome → fallen_in one.step one.result ≡ fallen_by (event_seen event) → IsEventOf (plan_of old) (life_after been) order (event_seen event)
        → ((n : ℕ) (was : NodeLife) → life_after_step one.result one.step n was ≡ life_by_event (event_seen event) n was)
        → ((n : ℕ) → Among n (failed_by_event (event_seen event)) → one.result ≡ Ok (said.Faulted n)) → Happened on start outcomes awaited been old order event new
    comes_after new mid outcome front one event came whole before calm ended last tells falls is lives failed = record {
      outcome = outcome;
      at = subst (λ (a : List Awaited). WentTo on start old (outcomes ++ outcome ∷ []) a new)
          (calm_left front (one ∷ []) awaited calm ∙ ap (λ (f : Option ℕ). left_after f awaited) falls)
          (went_more on start outcomes awaited old fit.at outcome (left_after_all (front ++ one ∷ []) awaited) new came whole);
      is = is;
      tells = tells;
      lives = λ n there.
          last.did.lives n ∙ lives n (life_of mid n) ∙ ap (λ (life : NodeLife). life_by_event (event_seen event) n life) (calm_lives front old mid before calm n ∙ fit.lives n there)
          ∙ sym (life_more been (MakesAct order (event_seen event)) n (Up 1));
      cause = λ n among.
          has_failed on start outcomes awaited old fit.at one.step n (state_of new) mid (carries_more on (state_of start) (state_of old) (state_of mid) (carried on start outcomes awaited old fit.at) (carries_steps on front old mid before))
          (λ told. let was = stands_at on start outcomes awaited old fit.at told in stands_steps on front old mid before ended was.0 was.1)
          (subst (λ (r : Result Said StepFault). StepDid on r one.step (state_of mid) (state_of new)) (failed n among) last.did);
    }

    pub happens_after : (new mid : World D) (front : List StepMade) (one : StepMade) (event : ClusterEvent) → MakesSteps on front old mid → AreCalm front → IsStep on one.result one.step mid new
        → MakesOrder on order (front ++ one ∷ []) old new → Tells order (front ++ one ∷ []) (sum_of (book_of old)) (event_seen event) → fallen_in one.step one.result ≡ fallen_by (event_seen event) → IsEventOf (plan_of old) (life_after been) order (event_seen event)
        → ((n : ℕ) (was : NodeLife) → life_after_step one.result one.step n was ≡ life_by_event (event_seen event) n was)
        → ((n : ℕ) → Among n (failed_by_event (event_seen event)) → one.result ≡ Ok (said.Faulted n)) → Happened on start outcomes awaited been old order event new
    happens_after new mid front one event before calm last makes tells falls is lives failed =
        comes_after new mid (moved_in old order (front ++ one ∷ [])) front one event (makes, refl, refl, refl) tt before calm
        (front_ended front (one ∷ []) (are_ended order (front ++ one ∷ []) (order_are on order (front ++ one ∷ []) old new makes))) last
        (OfSteps (front ++ one ∷ []) (sum_of (book_of old)) refl tells) falls is lives failed

    -- and one that was refused
    pub denied_by : (new mid : World D) (outcome : Outcome) (front : List StepMade) (one : StepMade) (why cause : StepFault) (stop : Stop) → Came on outcome awaited old (left_after_all (front ++ one ∷ []) awaited) new → IsWholeOutcome outcome
        → DeniesMove order why outcome → MakesSteps on front old mid → AreCalm front → IsStep on one.result one.step mid new → one.result ≡ Err cause → ((f : TapeFault) → stop ≡ Bad f → stop_by cause ≡ Bad f) → stop ≡ stop_by why
        → (IsAlwaysDone order → ⊥) → MovedSo on start outcomes awaited been old order (Err stop) new
    denied_by new mid outcome front one why cause stop came whole denies before calm last refused same stops never = (
      never,
      outcome,
      record { why = why; denied = denies; stops = stops },
      (left_after_all (front ++ one ∷ []) awaited, went_more on start outcomes awaited old fit.at outcome (left_after_all (front ++ one ∷ []) awaited) new came whole),
      λ f bad n. last.did.lives n ∙ ap (λ (r : Result Said StepFault). life_after_step r one.step n (life_of mid n)) refused ∙ refused_life cause one.step n (life_of mid n) f (same f bad)
          ∙ calm_lives front old mid before calm n,
    )

    pub denied_after : (new mid : World D) (front : List StepMade) (one : StepMade) (why : StepFault) (stop : Stop) → MakesSteps on front old mid → AreCalm front → IsStep on one.result one.step mid new
        → MakesOrder on order (front ++ one ∷ []) old new → one.result ≡ Err why → stop ≡ stop_by why → (IsAlwaysDone order → ⊥) → MovedSo on start outcomes awaited been old order (Err stop) new
    denied_after new mid front one why stop before calm last makes refused stops never =
        denied_by new mid (moved_in old order (front ++ one ∷ [])) front one why why stop (makes, refl, refl, refl) tt (DeniedSteps (front ++ one ∷ []) _ _ refl (denied_ends order why (front ++ one ∷ []) (front, one, refl, refused)))
        before calm last refused (λ f bad. sym stops ∙ bad) stops never

    -- a line of one step
    pub happens : (new : World D) (s : Step) (r : Result Said StepFault) (event : ClusterEvent) → IsStep on r s old new → MakesOrder on order (record { step = s; result = r } ∷ []) old new → Tells order (record { step = s; result = r } ∷ []) (sum_of (book_of old)) (event_seen event) → fallen_in s r ≡ fallen_by (event_seen event)
        → IsEventOf (plan_of old) (life_after been) order (event_seen event) → ((n : ℕ) (was : NodeLife) → life_after_step r s n was ≡ life_by_event (event_seen event) n was)
        → ((n : ℕ) → Among n (failed_by_event (event_seen event)) → r ≡ Ok (said.Faulted n)) → Happened on start outcomes awaited been old order event new
    happens new s r event last makes tells falls is lives failed = happens_after new old [] (record { step = s; result = r }) event refl tt last makes tells falls is lives failed

    pub denied : (new : World D) (s : Step) (why : StepFault) (stop : Stop) → IsStep on (Err why) s old new → MakesOrder on order (record { step = s; result = Err why } ∷ []) old new → stop ≡ stop_by why
        → (IsAlwaysDone order → ⊥) → MovedSo on start outcomes awaited been old order (Err stop) new
    denied new s why stop last makes stops never = denied_after new old [] (record { step = s; result = Err why }) why stop refl tt last makes refl stops never
