-- The clock of a world shows the seconds of the last `tick` line.
use Rattle.std.proofs.Common.{◌≡◌, inl, inr, ⊎_elim, ℕ, List, [], ◌∷◌, ◌++◌, flat_map, Option, Some, None, Result, Ok, Err, refl, sym, ap, ◌∙◌, subst}
use Rattle.std.specs.Prelude.{All}
use Rattle.std.proofs.lemmas.List.Elements.{All-head, All-tail}
use Rattle.mail_model.specs.Plan.{Plan}
use Rattle.mail_model.specs.Stored.{IsTicked}
use Rattle.mail_model.specs.Tape.{ClusterOrder, tape_order}
use Rattle.mail_model.specs.Tape.{ClusterOrder as order}
use Rattle.mail_model.specs.Tape.Order.{Moves}
use Rattle.session_model.specs.Sums.{BookSum}
use Rattle.object_model.specs.Lists.{Among}
use Rattle.session_model.specs.Calls.{Call}
use Rattle.session_model.specs.Talk.{Exchange}
use Rattle.session_model.specs.Events.{ClusterEvent}
use Rattle.session_model.specs.Events.{ClusterEvent as event}
use Rattle.session_model.specs.Acts.{Act}
use Rattle.session_model.specs.Acts.Act.{Opens, Does, Faults, StillWaits, Leaves, Makes, Abandons}
use Rattle.session_model.specs.Acts.Deed.{IsFed, Hears, IsAnswered, IsGivenUp, Falls, Closes}
use Rattle.session_model.specs.Lives.{life_after}
use Rattle.session_model.specs.Clocks.{seconds_by_order, seconds_by, seconds_from, seconds_after}
use Rattle.node_store.specs.Disks.{View}
use Rattle.cluster_world.specs.Lives.{nodes_up}
use Rattle.cluster_world.specs.Turns.{seconds_after_step}
use Rattle.cluster_world.specs.Worlds.{state_of, plan_of}
use Rattle.cluster_world.specs.Steps.{IsStep}
use Rattle.cluster_world.specs.Opens.{IsAtBeginning}
use Rattle.cluster_world.specs.Made.{StepMade, MakesSteps, IsPost, IsOfRegroup, AreOfRegroup}
use Rattle.cluster_world.specs.Outcomes.{Outcome, Awaited, MakesOrder, Came, Makes as MakesAll}
use Rattle.cluster_world.specs.Outcomes.Outcome.{Began, Fell, Answers, StillPending, GaveUp, Abandoned, Left, Moved, Settling, Mapped}
use Rattle.cluster_world.specs.declared.world.World.{World}
use Rattle.cluster_world.specs.declared.step.Step.{Step}
use Rattle.cluster_world.specs.declared.step.Step.TheVariants as step
use Rattle.cluster_world.specs.Settling.{IsOfSettle, AreOfSettle}
use Rattle.cluster_world.specs.Settling.IsOfSettle.{Posts, Pushes, Reports}
use Rattle.cluster_world.specs.declared.settling.Settle.{Settle}
use Rattle.cluster_world.specs.declared.step.Said.{Said}
use Rattle.cluster_world.specs.declared.step.Said.TheVariants as said
use Rattle.cluster_world.specs.declared.fault.StepFault.{StepFault}
use Rattle.cluster_world.proofs.Ordered.{IsPushOf, IsReportOf, order_makes, order_are}
use Rattle.drive_tape.specs.declared.cluster.Cluster.{Cluster}
use Rattle.drive_tape.specs.Led.{Tells, Begins, Led, AreLed, told_of}
use Rattle.drive_tape.specs.Led.TellsMove.{OfSteps, OfSettle, OfMap}
use Rattle.drive_tape.specs.Points.{IsOnTime}
use Rattle.drive_tape.specs.Runs.{Progress}

-- a line of these sets the clock so
pub ticked_by : (lines : List (List ℕ)) (line : List ℕ) (seconds : ℕ) → Among line lines → tape_order line ≡ Some (Moves (order.Tick seconds)) → IsTicked lines seconds
ticked_by [] line seconds among spelled = absurd among
ticked_by (first ∷ lines) line seconds among spelled = ⊎_elim
    (λ (same : first ≡ line). inl (ap tape_order same ∙ spelled))
    (λ (rest : Among line lines). inr (ticked_by lines line seconds rest spelled)) among

abbrev shown : {D : Type 0} → World D → ℕ
shown world = (state_of world).seconds

module _ {D : Type 0} (on : View D) where
  -- steps that set no clock
  posts_still : (steps : List StepMade) (old new : World D) → All IsPost steps → MakesSteps on steps old new → shown new ≡ shown old
  posts_still [] old new all is = ap (λ (w : World D). shown w) is
  posts_still (one ∷ more) old new all (mid, is, rest) =
      posts_still more mid new (All-tail IsPost one more all) rest
      ∙ is.did.clock ∙ ap (λ (s : Step). seconds_after_step s one.result (shown old)) (All-head IsPost one more all).1

  pushes_still : (node : ℕ) (steps : List StepMade) (old new : World D) → All (IsPushOf node) steps → MakesSteps on steps old new → shown new ≡ shown old
  pushes_still node [] old new all is = ap (λ (w : World D). shown w) is
  pushes_still node (one ∷ more) old new all (mid, is, rest) =
      pushes_still node more mid new (All-tail (IsPushOf node) one more all) rest
      ∙ is.did.clock ∙ ap (λ (s : Step). seconds_after_step s one.result (shown old)) (All-head (IsPushOf node) one more all).1

  reports_still : (node : ℕ) (steps : List StepMade) (old new : World D) → All (IsReportOf node) steps → MakesSteps on steps old new → shown new ≡ shown old
  reports_still node [] old new all is = ap (λ (w : World D). shown w) is
  reports_still node (one ∷ more) old new all (mid, is, rest) =
      reports_still node more mid new (All-tail (IsReportOf node) one more all) rest
      ∙ is.did.clock ∙ ap (λ (s : Step). seconds_after_step s one.result (shown old)) (All-head (IsReportOf node) one more all).1

  of_settle_still : (one : StepMade) (was : ℕ) → IsOfSettle one → seconds_after_step one.step one.result was ≡ was
  of_settle_still one was (Posts post) = ap (λ (s : Step). seconds_after_step s one.result was) post.1
  of_settle_still one was (Pushes from to apart is) = ap (λ (s : Step). seconds_after_step s one.result was) is
  of_settle_still one was (Reports from to apart is) = ap (λ (s : Step). seconds_after_step s one.result was) is

  settle_still : (steps : List StepMade) (old new : World D) → AreOfSettle steps → MakesSteps on steps old new → shown new ≡ shown old
  settle_still [] old new all is = ap (λ (w : World D). shown w) is
  settle_still (one ∷ more) old new all (mid, is, rest) = settle_still more mid new all.1 rest ∙ is.did.clock ∙ of_settle_still one (shown old) all.0

  settling_still : (result : Result Settle StepFault) (steps : List StepMade) (awaited left : List Awaited) (old new : World D) → Came on (Settling result steps) awaited old left new → shown new ≡ shown old
  settling_still result steps awaited left old new (makes, are, left_is) =
      settle_still steps old new (subst AreOfSettle are makes.of) (subst (λ (l : List StepMade). MakesSteps on l old new) are makes.made)

  of_regroup_still : (node : ℕ) (one : StepMade) (was : ℕ) → IsOfRegroup node one → seconds_after_step one.step one.result was ≡ was
  of_regroup_still node one was of = ⊎_elim
      (λ (opens : one.step ≡ step.Group node). ap (λ (s : Step). seconds_after_step s one.result was) opens)
      (λ rest. ⊎_elim
      (λ (concludes : one.step ≡ step.Conclude node). ap (λ (s : Step). seconds_after_step s one.result was) concludes)
      (λ (post : IsPost one). ap (λ (s : Step). seconds_after_step s one.result was) post.1) rest) of

  regroup_still : (node : ℕ) (steps : List StepMade) (old new : World D) → AreOfRegroup node steps → MakesSteps on steps old new → shown new ≡ shown old
  regroup_still node [] old new all is = ap (λ (w : World D). shown w) is
  regroup_still node (one ∷ more) old new all (mid, is, rest) = regroup_still node more mid new all.1 rest ∙ is.did.clock ∙ of_regroup_still node one (shown old) all.0

  -- the steps of a run line
  ticks : (seconds : ℕ) (result : Result Said StepFault) (steps : List StepMade) (sum : BookSum) (happened : ClusterEvent) (old new : World D) → steps ≡ record { step = step.Tick seconds; result = result } ∷ []
      → IsStep on result (step.Tick seconds) old new → Tells (order.Tick seconds) steps sum happened → shown new ≡ seconds
  ticks seconds (Ok what) steps sum happened old new are is tells = is.did.clock
  ticks seconds (Err why) steps sum happened old new are is tells = absurd (by happened tells)
    where
      by : (happened : ClusterEvent) → Tells (order.Tick seconds) steps sum happened → ⊥
      by happened tells = never happened (subst (λ (l : List StepMade). Tells (order.Tick seconds) l sum happened) are tells)
        where
          only : (a b : StepMade) → a ∷ [] ≡ b ∷ [] → a ≡ b
          only a b e = cc

          untold : (happened : ClusterEvent) → told_of (step.Tick seconds) (Err why) ≡ Some happened → ⊥
          untold happened e = absurd (let never : None ≡ Some happened = e in cc)

          one_told : (happened : ClusterEvent) → (one : StepMade) × (record { step = step.Tick seconds; result = Err why } ∷ [] ≡ one ∷ []) × (told_of one.step one.result ≡ Some happened) → ⊥
          one_told happened (one, same, told) = untold happened (ap (λ (m : StepMade). told_of m.step m.result) (only _ one same) ∙ told)

          ends : (node : ℕ) (before : List StepMade) (one : StepMade) → record { step = step.Tick seconds; result = Err why } ∷ [] ≡ before ++ one ∷ [] → one.result ≡ Ok (said.Faulted node) → ⊥
          ends node [] one same failed = let r : Err why ≡ Ok (said.Faulted node) = ap (λ (m : StepMade). m.result) (only _ one same) ∙ failed in cc
          ends node (first ∷ []) one same failed = cc
          ends node (first ∷ other ∷ before) one same failed = cc

          never : (happened : ClusterEvent) → Tells (order.Tick seconds) (record { step = step.Tick seconds; result = Err why } ∷ []) sum happened → ⊥
          never (event.HasFaulted node) (before, one, same, failed) = ends node before one same failed
          never (event.WentDown node) told = one_told (event.WentDown node) told
          never (event.CameUp node boot) told = one_told (event.CameUp node boot) told
          never (event.WasLost node) told = one_told (event.WasLost node) told
          never (event.WasHeard letter) told = one_told (event.WasHeard letter) told
          never (event.WasThrown letter thrown) told = one_told (event.WasThrown letter thrown) told
          never (event.WasDropped letter) told = one_told (event.WasDropped letter) told
          never event.HasFlowed told = one_told event.HasFlowed told
          never (event.HasSent count) told = one_told (event.HasSent count) told
          never (event.HasWidened did) told = one_told (event.HasWidened did) told
          never (event.HasGrouped epoch) told = one_told (event.HasGrouped epoch) told
          never (event.HasFormed epoch members) told = one_told (event.HasFormed epoch members) told
          never event.HasSettled told = one_told event.HasSettled told
          never (event.WasAbsent member) told = one_told (event.WasAbsent member) told
          never (event.HasMapped user map) told = one_told (event.HasMapped user map) told
          never event.HasTicked told = one_told event.HasTicked told
          never (event.HasSummed counts) told = one_told (event.HasSummed counts) told

  order_clock : (asked : ClusterOrder) (steps : List StepMade) (sum : BookSum) (happened : ClusterEvent) (old new : World D) → MakesOrder on asked steps old new → Tells asked steps sum happened
      → shown new ≡ seconds_by_order asked (shown old)
  order_clock (order.Crash node) steps sum happened old new (result, are, is) tells = is.did.clock
  order_clock (order.Start node) steps sum happened old new (result, are, is) tells = is.did.clock
  order_clock (order.Lose node) steps sum happened old new (result, are, is) tells = is.did.clock
  order_clock (order.Post letter) steps sum happened old new (result, are, is) tells = is.did.clock
  order_clock (order.Again letter) steps sum happened old new (result, are, is) tells = is.did.clock
  order_clock (order.Drop letter) steps sum happened old new (result, are, is) tells = is.did.clock
  order_clock order.Flow steps sum happened old new made tells = posts_still steps old new (order_are on order.Flow steps old new made) (order_makes on order.Flow steps old new made)
  order_clock (order.Push node) steps sum happened old new made tells =
      pushes_still node steps old new (order_are on (order.Push node) steps old new made) (order_makes on (order.Push node) steps old new made)
  order_clock (order.Widen at user id to) steps sum happened old new (result, are, is) tells = is.did.clock
  order_clock (order.Group node) steps sum happened old new (result, are, is) tells = is.did.clock
  order_clock (order.Conclude node) steps sum happened old new (result, are, is) tells = is.did.clock
  order_clock (order.Regroup node) steps sum happened old new made tells =
      regroup_still node steps old new (order_are on (order.Regroup node) steps old new made) (order_makes on (order.Regroup node) steps old new made)
  order_clock (order.Tick seconds) steps sum happened old new (result, are, is) tells = ticks seconds result steps sum happened old new are is tells
  order_clock (order.Report node) steps sum happened old new made tells =
      reports_still node steps old new (order_are on (order.Report node) steps old new made) (order_makes on (order.Report node) steps old new made)
  order_clock order.Settle steps sum happened old new made tells = absurd made
  order_clock (order.Maps user) steps sum happened old new made tells = absurd made
  order_clock order.Sum steps sum happened old new made tells = ap (λ (w : World D). shown w) made.1

  -- what the outcomes of one act leave to be made
  record GoesOn (act : Act) (others : List Outcome) (old : World D) (left : List Awaited) (new : World D) : Type 0 where
    between : List Awaited
    mid : World D
    clock : shown mid ≡ seconds_by act (shown old)
    rest : MakesAll on others between mid left new

  none_goes : (act : Act) (own others : List Outcome) (awaited left : List Awaited) (old new : World D) → shown old ≡ seconds_by act (shown old) → own ≡ []
      → MakesAll on (own ++ others) awaited old left new → GoesOn act others old left new
  none_goes act own others awaited left old new still none makes =
      record { between = awaited; mid = old; clock = still; rest = subst (λ (o : List Outcome). MakesAll on (o ++ others) awaited old left new) none makes }

  one_goes : (act : Act) (own others : List Outcome) (one : Outcome) (awaited left : List Awaited) (old new : World D)
      → ((between : List Awaited) (mid : World D) → Came on one awaited old between mid → shown mid ≡ seconds_by act (shown old)) → own ≡ one ∷ []
      → MakesAll on (own ++ others) awaited old left new → GoesOn act others old left new
  one_goes act own others one awaited left old new clock is makes =
      let m = subst (λ (o : List Outcome). MakesAll on (o ++ others) awaited old left new) is makes in
      record { between = m.0; mid = m.1; clock = clock m.0 m.1 m.2; rest = m.3 }

  hears : (k : ℕ) (one : Exchange) (plan : Plan) (been : List Act) (before : List Outcome) (own others : List Outcome) (awaited left : List Awaited) (old new : World D) (call : Option Call) → one.call ≡ call
      → Led plan been before (Does k (Hears one)) own → MakesAll on (own ++ others) awaited old left new → GoesOn (Does k (Hears one)) others old left new
  hears k one plan been before own others awaited left old new None is led makes =
      none_goes (Does k (Hears one)) own others awaited left old new refl (subst (λ (c : Option Call). Begins k c own) is led) makes
  hears k one plan been before own others awaited left old new (Some call) is led makes =
      let l : Begins k (Some call) own = subst (λ (c : Option Call). Begins k c own) is led in ⊎_elim
      (λ (begun : (ticket : _) × (own ≡ Began k l.0 call ticket ∷ [])).
      one_goes (Does k (Hears one)) own others (Began k l.0 call begun.0) awaited left old new (λ between mid came. came.3.did.clock) begun.1 makes)
      (λ (fell : own ≡ Fell k l.0 call ∷ []). one_goes (Does k (Hears one)) own others (Fell k l.0 call) awaited left old new (λ between mid came. came.2.did.clock) fell makes)
      l.1

  act_goes : (act : Act) (plan : Plan) (been : List Act) (before own others : List Outcome) (awaited left : List Awaited) (old new : World D) → Led plan been before act own → MakesAll on (own ++ others) awaited old left new → GoesOn act others old left new
  act_goes (Opens protocol node greeting) plan been before own others awaited left old new led makes = none_goes _ own others awaited left old new refl led makes
  act_goes (Does k (Hears one)) plan been before own others awaited left old new led makes = hears k one plan been before own others awaited left old new one.call refl led makes
  act_goes (Does k (IsAnswered call answer reply)) plan been before own others awaited left old new (ticket, is) makes =
      one_goes _ own others (Answers k call ticket answer) awaited left old new (λ between mid came. came.3.did.clock) is makes
  act_goes (Does k (IsGivenUp call reply)) plan been before own others awaited left old new (ticket, is) makes =
      one_goes _ own others (GaveUp k call ticket) awaited left old new (λ between mid came. came.1.did.clock) is makes
  act_goes (Does k (IsFed octets)) plan been before own others awaited left old new led makes = none_goes _ own others awaited left old new refl led makes
  act_goes (Does k Falls) plan been before own others awaited left old new led makes = none_goes _ own others awaited left old new refl led makes
  act_goes (Does k Closes) plan been before own others awaited left old new led makes = none_goes _ own others awaited left old new refl led makes
  act_goes (Faults node) plan been before own others awaited left old new led makes = none_goes _ own others awaited left old new refl led.0 makes
  act_goes (StillWaits k) plan been before own others awaited left old new (ticket, is) makes =
      one_goes _ own others (StillPending k ticket) awaited left old new (λ between mid came. came.4.did.clock) is makes
  act_goes (Leaves k user) plan been before own others awaited left old new (node, is) makes =
      one_goes _ own others (Left k node user) awaited left old new (λ between mid came. came.3.did.clock) is makes
  act_goes (Makes asked happened) plan been before own others awaited left old new (outcome, is, OfSteps steps sum moved tells) makes =
      one_goes _ own others (Moved asked steps sum (nodes_up (life_after been) plan.nodes)) awaited left old new (λ between mid came. order_clock asked steps sum happened old mid came.0 tells) (is ∙ ap (λ (o : Outcome). o ∷ []) moved) makes
  act_goes (Makes asked happened) plan been before own others awaited left old new (outcome, is, OfSettle result steps settles moved tells) makes =
      one_goes _ own others (Settling result steps) awaited left old new
      (λ between mid came. settling_still result steps awaited between old mid came ∙ ap (λ (o : ClusterOrder). seconds_by_order o (shown old)) (sym settles)) (is ∙ ap (λ (o : Outcome). o ∷ []) moved) makes
  act_goes (Makes asked happened) plan been before own others awaited left old new (outcome, is, OfMap user told maps moved tells) makes =
      one_goes _ own others (Mapped user told) awaited left old new
      (λ between mid came. ap (λ (w : World D). shown w) came.2 ∙ ap (λ (o : ClusterOrder). seconds_by_order o (shown old)) (sym maps)) (is ∙ ap (λ (o : Outcome). o ∷ []) moved) makes
  act_goes (Abandons k) plan been before own others awaited left old new (call, ticket, is) makes =
      one_goes _ own others (Abandoned k call ticket) awaited left old new (λ between mid came. came.1.did.clock) is makes

  goes : (acts : List Act) (plan : Plan) (been : List Act) (before outcomes : List Outcome) (awaited left : List Awaited) (old new : World D) → AreLed plan been before acts outcomes → MakesAll on outcomes awaited old left new
      → shown new ≡ seconds_from (shown old) acts
  goes [] plan been before outcomes awaited left old new none makes =
      let m = subst (λ (o : List Outcome). MakesAll on o awaited old left new) none makes in ap (λ (w : World D). shown w) m.1
  goes (act ∷ acts) plan been before outcomes awaited left old new (own, others, are, led, more) makes =
      let first = act_goes act plan been before own others awaited left old new led (subst (λ (o : List Outcome). MakesAll on o awaited old left new) are makes) in
      goes acts plan (been ++ act ∷ []) (before ++ own) others first.between left first.mid new more first.rest ∙ ap (λ (s : ℕ). seconds_from s acts) first.clock

-- the clock of the world that was driven so far
pub on_time : {D : Type 0} (on : View D) (start : World D) (left0 left1 held0 held1 : Option (List ℕ)) (cluster : Cluster D) (count room : ℕ) → IsAtBeginning on (plan_of start) start
    → (p : Progress on start left0 left1 held0 held1 cluster count room) → IsOnTime cluster.world p.point
on_time on start left0 left1 held0 held1 cluster count room begins p =
    goes on (flat_map (λ a. a) p.acts) (plan_of start) [] [] p.point.outcomes [] p.point.awaited start cluster.world p.linked p.shows.at.made
    ∙ ap (λ (s : ℕ). seconds_from s (flat_map (λ a. a) p.acts)) begins.stands.mail.seconds ∙ ap seconds_after (sym p.been)
