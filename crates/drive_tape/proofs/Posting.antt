-- What posting, flowing and pushing make of a world.
use Rattle.std.proofs.Common.{◌≡◌, ⊎_elim, ◌+◌, ◌-◌, ◌<◌, ◌≤◌, ℕ, suc, nat_eq, Bool, true, false, List, [], ◌∷◌, ◌++◌, Option, Some, None, Result, Ok, Err, refl, sym, ap, ◌∙◌, subst, if◌then◌else◌, arith, append_assoc}
use Rattle.std.specs.Prelude.{min, MatchBool, IfOk}
use Rattle.std.proofs.lemmas.Bool.Decides.{nat_tests}
use Rattle.std.proofs.lemmas.List.{append-nil}
use Rattle.std.proofs.lemmas.Bool.{cases_lt}
use Rattle.std.proofs.Math.Nat.{min-eq_left, min-eq_right, min-le_right}
use Rattle.object_model.specs.Lists.{Among}
use Rattle.mail_model.specs.Plan.{Plan}
use Rattle.session_model.specs.Sums.{BookSum, sum_of}
use Rattle.mail_model.specs.Tape.{ClusterOrder}
use Rattle.mail_model.specs.Tape.{ClusterOrder as order}
use Rattle.mail_model.specs.Transcript as transcript
use Rattle.session_model.specs.Acts.{Act}
use Rattle.session_model.specs.Events.{NodeLife, IsEventOf, MayFault, IsUp}
use Rattle.session_model.specs.Events as plain
use Rattle.session_model.specs.Lives.{life_after}
use Rattle.node_store.specs.Disks.{View}
use Rattle.mail_model.specs.Site.TapeFault.{NoSuchNode}
use Rattle.session_model.specs.Run.{IsAlwaysDone, is_no_node, fault_if}
use Rattle.cluster_world.specs.Lives.{is_up_life}
use Rattle.drive_tape.specs.Happenings.{event_seen, why_seen, fallen_by}
use Rattle.cluster_world.specs.Worlds.{state_of, plan_of, life_of, life_in, book_of}
use Rattle.cluster_world.specs.Steps.{IsStep, SaysSo, FallsSo, WasToWork}
use Rattle.cluster_world.specs.Turns.{life_after_step}
use Rattle.cluster_world.specs.Flows.{IsDelivered, AllDelivered, FlowsSo, HasFlowed}
use Rattle.cluster_world.specs.Made.{StepMade, MakesSteps, PostsAll, PushesTo, PushesAll, IsPost, has_failed, nodes_but}
use Rattle.cluster_world.specs.Outcomes.{Outcome, Awaited, MakesOrder, fallen_in}
use Rattle.cluster_world.proofs.Ordered.{posts_make}
use Rattle.node_core.specs.declared.outbox.Why.{Why}
use Rattle.cluster_world.specs.declared.world.World.{World}
use Rattle.cluster_world.specs.declared.step.Step.{Step}
use Rattle.cluster_world.specs.declared.step.Step.TheVariants as step
use Rattle.cluster_world.specs.declared.step.Said.{Said}
use Rattle.cluster_world.specs.declared.step.Said.TheVariants as said
use Rattle.cluster_world.specs.declared.fault.StepFault.{StepFault}
use Rattle.drive_tape.specs.declared.drove.Stop.{Stop}
use Rattle.drive_tape.specs.declared.event.ClusterEvent.{ClusterEvent}
use Rattle.drive_tape.specs.declared.event.ClusterEvent.TheVariants.{WasHeard, WasThrown, HasFlowed as FlowedEvent, HasSent, HasFaulted}
use Rattle.drive_tape.specs.declared.orders.Admitted.{Admitted}
use Rattle.drive_tape.specs.declared.orders.Admitted.TheVariants.{Post}
use Rattle.drive_tape.specs.Orders.{admitted_seen}
use Rattle.drive_tape.specs.Denials.{stop_by}
use Rattle.drive_tape.specs.Led.{Tells, EndsIn, WentWell, sent_of, sent_in}
use Rattle.drive_tape.specs.Moved.{OrderIsFit, Happened, MovedSo, PushedSo, PostsTo, IsSaidOfPost}
use Rattle.drive_tape.proofs.Stepping.{IsCalm, AreCalm, steps_last, steps_more, plan_kept, calm_lives, may_fault, happens_calm, happens_after, happens, denied_after, denied, one_among}

-- that the disk of a node failed is told of any line
tells_fault : (asked : ClusterOrder) (steps : List StepMade) (sum : BookSum) (node : ℕ) → EndsIn (Ok (said.Faulted node)) steps → Tells asked steps sum (plain.ClusterEvent.HasFaulted node)
tells_fault asked steps sum node ends = ends

-- the order of a line that posts
abbrev pub post_order : Bool → ℕ → ClusterOrder
post_order keep letter = if keep then order.Again letter else order.Post letter

pub are_post : {D : Type 0} (on : View D) (old new : World D) (keep : Bool) (letter : ℕ) (r : Result Said StepFault) → IsStep on r (step.Post letter keep) old new
    → MakesOrder on (post_order keep letter) (record { step = step.Post letter keep; result = r } ∷ []) old new
are_post on old new true letter r is = (r, refl, is)
are_post on old new false letter r is = (r, refl, is)

-- what it tells
tells_heard : (keep : Bool) (letter : ℕ) (sum : BookSum) → Tells (post_order keep letter) (record { step = step.Post letter keep; result = Ok said.Heard } ∷ []) sum (plain.ClusterEvent.WasHeard letter)
tells_heard true letter sum = (record { step = step.Post letter true; result = Ok said.Heard }, refl, refl)
tells_heard false letter sum = (record { step = step.Post letter false; result = Ok said.Heard }, refl, refl)

tells_thrown : (keep : Bool) (letter : ℕ) (sum : BookSum) (why : Why)
    → Tells (post_order keep letter) (record { step = step.Post letter keep; result = Ok (said.Thrown why) } ∷ []) sum (plain.ClusterEvent.WasThrown letter (why_seen why))
tells_thrown true letter sum why = (record { step = step.Post letter true; result = Ok (said.Thrown why) }, refl, refl)
tells_thrown false letter sum why = (record { step = step.Post letter false; result = Ok (said.Thrown why) }, refl, refl)

never_post : (keep : Bool) (letter : ℕ) → IsAlwaysDone (post_order keep letter) → ⊥
never_post true letter always = always
never_post false letter always = always

pub is_heard : (plan : Plan) (lives : ℕ → NodeLife) (keep : Bool) (letter : ℕ) → IsEventOf plan lives (post_order keep letter) (plain.ClusterEvent.WasHeard letter)
is_heard plan lives true letter = refl
is_heard plan lives false letter = refl

pub is_thrown : (plan : Plan) (lives : ℕ → NodeLife) (keep : Bool) (letter : ℕ) (why : transcript.Why) → IsEventOf plan lives (post_order keep letter) (plain.ClusterEvent.WasThrown letter why)
is_thrown plan lives true letter why = refl
is_thrown plan lives false letter why = refl

pub is_fault_of_post : (plan : Plan) (lives : ℕ → NodeLife) (keep : Bool) (letter node : ℕ) → MayFault plan lives node → IsEventOf plan lives (post_order keep letter) (plain.ClusterEvent.HasFaulted node)
is_fault_of_post plan lives true letter node may = may
is_fault_of_post plan lives false letter node may = may

-- a letter that was delivered changes no node
delivered_calm : (one : StepMade) → IsPost one → IsDelivered one.result → IsCalm one
delivered_calm one post delivered = by one.step one.result post.1 delivered refl refl
  where
    calm_so : (s : Step) (r : Result Said StepFault) → fallen_in s r ≡ None → ((n : ℕ) (was : NodeLife) → life_after_step r s n was ≡ was) → one.step ≡ s → one.result ≡ r → IsCalm one
    calm_so s r falls lives ss rr = record {
      falls = ap (λ (s' : Step). fallen_in s' one.result) ss ∙ ap (λ (r' : Result Said StepFault). fallen_in s r') rr ∙ falls;
      lives = λ n was. ap (λ (s' : Step). life_after_step one.result s' n was) ss ∙ ap (λ (r' : Result Said StepFault). life_after_step r' s n was) rr ∙ lives n was;
    }

    by : (s : Step) (r : Result Said StepFault) → s ≡ step.Post post.0 false → IsDelivered r → one.step ≡ s → one.result ≡ r → IsCalm one
    by s (Ok said.Heard) is delivered ss rr = calm_so (step.Post post.0 false) (Ok said.Heard) refl (λ n was. refl) (ss ∙ is) rr
    by s (Ok (said.Thrown why)) is delivered ss rr = calm_so (step.Post post.0 false) (Ok (said.Thrown why)) refl (λ n was. refl) (ss ∙ is) rr
    by s (Ok (said.Begun ticket stirs)) is delivered ss rr = absurd delivered
    by s (Ok said.Noted) is delivered ss rr = absurd delivered
    by s (Ok (said.Asked ask)) is delivered ss rr = absurd delivered
    by s (Ok (said.Sent letters)) is delivered ss rr = absurd delivered
    by s (Ok (said.Widened did)) is delivered ss rr = absurd delivered
    by s (Ok (said.Grouped epoch)) is delivered ss rr = absurd delivered
    by s (Ok (said.Concluded epoch members)) is delivered ss rr = absurd delivered
    by s (Ok (said.NodeUp boot)) is delivered ss rr = absurd delivered
    by s (Ok said.Done) is delivered ss rr = absurd delivered
    by s (Ok (said.Faulted node)) is delivered ss rr = absurd delivered
    by s (Err why) is delivered ss rr = absurd delivered

pub all_calm : (steps : List StepMade) → AllDelivered steps → AreCalm steps
all_calm [] all = tt
all_calm (one ∷ more) all = (delivered_calm one all.0 all.1, all_calm more all.2)

-- and did not fail
delivered_well : (r : Result Said StepFault) → IsDelivered r → has_failed r ≡ false
delivered_well (Ok said.Heard) is = refl
delivered_well (Ok (said.Thrown why)) is = refl
delivered_well (Ok (said.Begun ticket stirs)) is = absurd is
delivered_well (Ok said.Noted) is = absurd is
delivered_well (Ok (said.Asked ask)) is = absurd is
delivered_well (Ok (said.Sent letters)) is = absurd is
delivered_well (Ok (said.Widened did)) is = absurd is
delivered_well (Ok (said.Grouped epoch)) is = absurd is
delivered_well (Ok (said.Concluded epoch members)) is = absurd is
delivered_well (Ok (said.NodeUp boot)) is = absurd is
delivered_well (Ok said.Done) is = absurd is
delivered_well (Ok (said.Faulted node)) is = absurd is
delivered_well (Err why) is = absurd is

pub all_well : (steps : List StepMade) → AllDelivered steps → WentWell steps
all_well [] all = tt
all_well (one ∷ more) all = (delivered_well one.result all.1, all_well more all.2)

-- letters that were sent change no node
pub sent_calm : (from to letters : ℕ) → IsCalm (record { step = step.Push from to; result = Ok (said.Sent letters) })
sent_calm from to letters = record { falls = refl; lives = λ n was. refl }

pub calm_and_one : (front : List StepMade) (one : StepMade) → AreCalm front → IsCalm one → AreCalm (front ++ one ∷ [])
calm_and_one [] one calm last = (last, tt)
calm_and_one (first ∷ more) one calm last = (calm.0, calm_and_one more one calm.1 last)

pub well_and_one : (front : List StepMade) (one : StepMade) → WentWell front → has_failed one.result ≡ false → WentWell (front ++ one ∷ [])
well_and_one [] one well last = (last, tt)
well_and_one (first ∷ more) one well last = (well.0, well_and_one more one well.1 last)

pub sent_and_one : (front : List StepMade) (one : StepMade) → sent_in (front ++ one ∷ []) ≡ sent_in front + sent_of one.result
sent_and_one [] one = omega arith
sent_and_one (first ∷ more) one = let rest : sent_in (more ++ one ∷ []) ≡ sent_in more + sent_of one.result = sent_and_one more one in omega (arith, rest)

pub capped : (a b m : ℕ) → min (min a m + b) m ≡ min (a + b) m
capped a b m = ⊎_elim
    (λ (below : a < m). ap (λ (n : ℕ). min (n + b) m) (min-eq_left (let e : a ≤ m = omega (arith, below) in e)))
    (λ (over : m ≤ a). ap (λ (n : ℕ). min (n + b) m) (min-eq_right over) ∙ min-eq_right (let e : m ≤ m + b = omega arith in e) ∙ sym (min-eq_right (let e : m ≤ a + b = omega (arith, over) in e)))
    (cases_lt a m)

same_is : (a b : ℕ) → a ≡ b → nat_eq a b ≡ true
same_is a b same = grind (arith, nat_tests, same)

other_is : (a b : ℕ) → (a ≡ b → ⊥) → nat_eq a b ≡ false
other_is a b other = by (nat_eq a b) refl
  where
    by : (x : Bool) → nat_eq a b ≡ x → x ≡ false
    by false is = refl
    by true is = absurd (other (grind (arith, nat_tests, is)))

module _ {D : Type 0} (on : View D) (old : World D) where
  abbrev nodes : ℕ
  nodes = (plan_of old).nodes

  -- So many nodes were pushed to from this one, and so many letters sent, and no step failed; with those that follow, each node is pushed to.
  pub record HasPushed (from done sent : ℕ) (now : World D) : Type 0 where
    pub steps : List StepMade
    pub made : MakesSteps on steps old now
    pub calm : AreCalm steps
    pub well : WentWell steps
    pub count : sent ≡ min (sent_in steps) 18446744073709551615
    pub goes_on : (left : ℕ) → done + left ≡ nodes → (rest : List StepMade) → PushesTo from (nodes_but from left (done + 1)) rest → PushesTo from (nodes_but from nodes 1) (steps ++ rest)

  pub pushed_none : (from : ℕ) → HasPushed from 0 0 old
  pushed_none from = record {
    steps = [];
    made = refl;
    calm = tt;
    well = tt;
    count = refl;
    goes_on = λ left is rest pushes. subst (λ (n : ℕ). PushesTo from (nodes_but from n 1) rest) (let e : left ≡ nodes = omega (arith, is) in e) pushes;
  }

  -- the node itself is passed over
  pub pushed_past : (from done sent : ℕ) (now : World D) → done + 1 ≡ from → HasPushed from done sent now → HasPushed from (done + 1) sent now
  pushed_past from done sent now own has = record {
    steps = has.steps;
    made = has.made;
    calm = has.calm;
    well = has.well;
    count = has.count;
    goes_on = λ left is rest pushes. has.goes_on (suc left) (omega (arith, is)) rest
        (subst (λ (b : Bool). PushesTo from (if b then nodes_but from left (done + 1 + 1) else (done + 1) ∷ nodes_but from left (done + 1 + 1)) rest) (sym (same_is (done + 1) from own)) pushes);
  }

  -- it pushed to the next
  pub pushed_more : (from done sent letters more : ℕ) (now new : World D) → (done + 1 ≡ from → ⊥) → more ≡ min (sent + letters) 18446744073709551615 → HasPushed from done sent now
      → IsStep on (Ok (said.Sent letters)) (step.Push from (done + 1)) now new → HasPushed from (done + 1) more new
  pushed_more from done sent letters more now new other sum has is =
      let one : StepMade = record { step = step.Push from (done + 1); result = Ok (said.Sent letters) } in
      record {
        steps = has.steps ++ one ∷ [];
        made = steps_more on has.steps one old now new has.made is;
        calm = calm_and_one has.steps one has.calm (sent_calm from (done + 1) letters);
        well = well_and_one has.steps one has.well refl;
        count = sum ∙ ap (λ (n : ℕ). min (n + letters) 18446744073709551615) has.count ∙ capped (sent_in has.steps) letters 18446744073709551615
            ∙ ap (λ (n : ℕ). min n 18446744073709551615) (sym (sent_and_one has.steps one));
        goes_on = λ left is rest pushes. subst (λ (l : List StepMade). PushesTo from (nodes_but from nodes 1) l) (sym (append_assoc has.steps (one ∷ []) rest))
            (has.goes_on (suc left) (omega (arith, is)) (one ∷ rest)
            (subst (λ (b : Bool). PushesTo from (if b then nodes_but from left (done + 1 + 1) else (done + 1) ∷ nodes_but from left (done + 1 + 1)) (one ∷ rest)) (sym (other_is (done + 1) from other)) (refl, pushes)));
      }

  -- it pushed to the next in vain
  pub pushed_last : (from done sent : ℕ) (now : World D) (has : HasPushed from done sent now) (one : StepMade) → done < nodes → (done + 1 ≡ from → ⊥) → one.step ≡ step.Push from (done + 1) → has_failed one.result ≡ true
      → PushesTo from (nodes_but from nodes 1) (has.steps ++ one ∷ [])
  pushed_last from done sent now has one within other is failed =
      let left = nodes - (done + 1) in
      has.goes_on (suc left) (omega (arith, within)) (one ∷ [])
      (subst (λ (b : Bool). PushesTo from (if b then nodes_but from left (done + 1 + 1) else (done + 1) ∷ nodes_but from left (done + 1 + 1)) (one ∷ [])) (sym (other_is (done + 1) from other))
      (is, subst (λ (b : Bool). MatchBool b (◌≡◌ {A = List StepMade} [] []) (PushesTo from (nodes_but from left (done + 1 + 1)) [])) (sym failed) refl))

  -- it pushed to each
  pub pushed_all : (from done sent : ℕ) (now : World D) (has : HasPushed from done sent now) → done ≡ nodes → PushesTo from (nodes_but from nodes 1) has.steps
  pushed_all from done sent now has all =
      subst (λ (l : List StepMade). PushesTo from (nodes_but from nodes 1) l) (append-nil has.steps) (has.goes_on 0 (omega (arith, all)) [] refl)

  -- the next node was pushed to, or is this one
  pub pushed_on : (from done sent letters more : ℕ) (now new : World D) → more ≡ min (sent + letters) 18446744073709551615 → HasPushed from done sent now
      → (done + 1 ≡ from → (new ≡ now) × (◌≡◌ {A = Result (Option ℕ) Stop} (Ok (Some letters)) (Ok (Some 0)))) → ((done + 1 ≡ from → ⊥) → PushedSo on from (done + 1) (Ok (Some letters)) now new) → HasPushed from (done + 1) more new
  pushed_on from done sent letters more now new sum has own other = by (nat_eq (done + 1) from) refl
    where
      none_more : letters ≡ 0 → more ≡ sent
      none_more none = sum ∙ ap (λ (n : ℕ). min n 18446744073709551615) (let e : sent + letters ≡ sent = omega (arith, none) in e) ∙ ap (λ (n : ℕ). min n 18446744073709551615) has.count
          ∙ min-eq_left (min-le_right (sent_in has.steps) 18446744073709551615) ∙ sym has.count

      by : (x : Bool) → nat_eq (done + 1) from ≡ x → HasPushed from (done + 1) more new
      by true is =
          let same : done + 1 ≡ from = grind (arith, nat_tests, is) in
          let so = own same in
          let none : letters ≡ 0 = let e = so.1 in cc in
          subst (λ (n : ℕ). HasPushed from (done + 1) n new) (sym (none_more none)) (subst (λ (w : World D). HasPushed from (done + 1) sent w) (sym so.0) (pushed_past from done sent now same has))
      by false is =
          let apart : done + 1 ≡ from → ⊥ = λ same. absurd (let never : true ≡ false = sym (same_is (done + 1) from same) ∙ is in cc) in
          pushed_more from done sent letters more now new apart sum has (other apart)

module _ {D : Type 0} (on : View D) (start old : World D) (outcomes : List Outcome) (awaited : List Awaited) (been : List Act) where
  module _ (order : ClusterOrder) (fit : OrderIsFit on start outcomes awaited been order old) where
    -- a node failed in the last of the steps
    pub faults_after : (new mid : World D) (front : List StepMade) (one : StepMade) (node : ℕ) → MakesSteps on front old mid → AreCalm front → IsStep on one.result one.step mid new → MakesOrder on order (front ++ one ∷ []) old new
        → one.result ≡ Ok (said.Faulted node) → IsEventOf (plan_of old) (life_after been) order (plain.ClusterEvent.HasFaulted node) → Happened on start outcomes awaited been old order (HasFaulted node) new
    faults_after new mid front one node before calm last are failed is =
        happens_after on start old outcomes awaited been order fit new mid front one (HasFaulted node) before calm last are (tells_fault order (front ++ one ∷ []) (sum_of (book_of old)) node (front, one, refl, failed)) (ap (λ (r : Result Said StepFault). fallen_in one.step r) failed) is
        (λ n was. ap (λ (r : Result Said StepFault). life_after_step r one.step n was) failed) (λ n among. failed ∙ ap (λ (m : ℕ). Ok (said.Faulted m)) (one_among n node among))

    -- which was one that may fail
    pub may_fault_after : (new mid : World D) (front : List StepMade) (one : StepMade) (node letter : ℕ) (keep : Bool) → MakesSteps on front old mid → AreCalm front → IsStep on one.result one.step mid new
        → one.step ≡ step.Post letter keep → one.result ≡ Ok (said.Faulted node) → MayFault (plan_of old) (life_after been) node
    may_fault_after new mid front one node letter keep before calm last post failed =
        let falls : WasToWork (plan_of mid).nodes one.step (life_of mid node) node = subst (λ (r : Result Said StepFault). FallsSo r (plan_of mid).nodes one.step (life_in (state_of mid))) failed last.did.falls in
        may_fault on start old outcomes awaited been order fit one.step node mid (plan_kept on front old mid before) (calm_lives on front old mid before calm) falls
        (λ starts. absurd (let never : step.Post letter keep ≡ step.Start node = sym post ∙ starts in cc))

  module _ (fit : OrderIsFit on start outcomes awaited been order.Flow old) where
    -- all letters were posted
    pub flowed : (new : World D) (result : Result (Option ℕ) StepFault) → HasFlowed on result old new → result ≡ Ok None → Happened on start outcomes awaited been old order.Flow FlowedEvent new
    flowed new result has is =
        let all : AllDelivered has.steps = subst (λ (r : Result (Option ℕ) StepFault). FlowsSo r has.steps) is has.flows in
        happens_calm on start old outcomes awaited been order.Flow fit new has.steps FlowedEvent has.made (all_calm has.steps all) (all_well has.steps all) refl tt (λ n was. refl) (λ n among. absurd among)

    -- a node failed in that
    pub flow_faulted : (new : World D) (result : Result (Option ℕ) StepFault) (node : ℕ) → HasFlowed on result old new → result ≡ Ok (Some node) → Happened on start outcomes awaited been old order.Flow (HasFaulted node) new
    flow_faulted new result node has is =
        let so : FlowsSo (Ok (Some node)) has.steps = subst (λ (r : Result (Option ℕ) StepFault). FlowsSo r has.steps) is has.flows in
        let makes : PostsAll on (so.0 ++ so.1 ∷ []) old new = subst (λ (s : List StepMade). PostsAll on s old new) so.2 has.made in
        let ends = steps_last on so.0 so.1 old new (posts_make on (so.0 ++ so.1 ∷ []) old new makes) in
        faults_after order.Flow fit new ends.mid so.0 so.1 node ends.before (all_calm so.0 so.3) ends.last makes so.5
        (may_fault_after order.Flow fit new ends.mid so.0 so.1 node so.4.0 false ends.before (all_calm so.0 so.3) ends.last so.4.1 so.5)

    pub flow_denied : (new : World D) (result : Result (Option ℕ) StepFault) (why : StepFault) (stop : Stop) → HasFlowed on result old new → result ≡ Err why → stop ≡ stop_by why
        → MovedSo on start outcomes awaited been old order.Flow (Err stop) new
    flow_denied new result why stop has is stops =
        let so : FlowsSo (Err why) has.steps = subst (λ (r : Result (Option ℕ) StepFault). FlowsSo r has.steps) is has.flows in
        let makes : PostsAll on (so.0 ++ so.1 ∷ []) old new = subst (λ (s : List StepMade). PostsAll on s old new) so.2 has.made in
        let ends = steps_last on so.0 so.1 old new (posts_make on (so.0 ++ so.1 ∷ []) old new makes) in
        denied_after on start old outcomes awaited been order.Flow fit new ends.mid so.0 so.1 why stop ends.before (all_calm so.0 so.3) ends.last makes so.5 stops (λ always. always)

  module _ (from : ℕ) (fit : OrderIsFit on start outcomes awaited been (order.Push from) old) (up : IsUp (life_after been from)) (works : IsUp (life_of old from)) where
    pushes_so : (steps : List StepMade) → PushesTo from (nodes_but from (plan_of old).nodes 1) steps → PushesAll (plan_of old).nodes (life_of old from) from steps
    pushes_so steps pushes = record { up = λ is. pushes; else_none = λ not. absurd (not works) }

    pub pushed : (done count : ℕ) (new : World D) → HasPushed on old from done count new → done ≡ (plan_of old).nodes → Happened on start outcomes awaited been old (order.Push from) (HasSent count) new
    pushed done count new has all =
        happens_calm on start old outcomes awaited been (order.Push from) fit new has.steps (HasSent count) (pushes_so has.steps (pushed_all on old from done count new has all), has.made) has.calm (has.well, has.count) refl
        (λ none. absurd (none up)) (λ n was. refl) (λ n among. absurd among)

    pub push_faulted : (done count : ℕ) (mid new : World D) → HasPushed on old from done count mid → done < (plan_of old).nodes → (done + 1 ≡ from → ⊥) → IsStep on (Ok (said.Faulted from)) (step.Push from (done + 1)) mid new
        → Happened on start outcomes awaited been old (order.Push from) (HasFaulted from) new
    push_faulted done count mid new has within other is =
        let one : StepMade = record { step = step.Push from (done + 1); result = Ok (said.Faulted from) } in
        faults_after (order.Push from) fit new mid has.steps one from has.made has.calm is
        (pushes_so (has.steps ++ one ∷ []) (pushed_last on old from done count mid has one within other refl refl), steps_more on has.steps one old mid new has.made is) refl (refl, up)

    pub push_denied : (done count : ℕ) (why : StepFault) (stop : Stop) (mid new : World D) → stop ≡ stop_by why → HasPushed on old from done count mid → done < (plan_of old).nodes → (done + 1 ≡ from → ⊥)
        → IsStep on (Err why) (step.Push from (done + 1)) mid new → MovedSo on start outcomes awaited been old (order.Push from) (Err stop) new
    push_denied done count why stop mid new stops has within other is =
        let one : StepMade = record { step = step.Push from (done + 1); result = Err why } in
        denied_after on start old outcomes awaited been (order.Push from) fit new mid has.steps one why stop has.made has.calm is
        (pushes_so (has.steps ++ one ∷ []) (pushed_last on old from done count mid has one within other refl refl), steps_more on has.steps one old mid new has.made is) refl stops (λ always. always)

  -- a node that is not up sends nothing
  pub pushed_nothing : (from : ℕ) (fit : OrderIsFit on start outcomes awaited been (order.Push from) old) → is_up_life (life_of old from) ≡ false → Happened on start outcomes awaited been old (order.Push from) (HasSent 0) old
  pushed_nothing from fit down =
      happens_calm on start old outcomes awaited been (order.Push from) fit old [] (HasSent 0) (record { up = λ is. absurd (never (life_of old from) is down); else_none = λ not. refl }, refl) tt (tt, refl) refl (λ none. refl) (λ n was. refl)
      (λ n among. absurd among)
    where
      never : (life : NodeLife) → IsUp life → is_up_life life ≡ false → ⊥
      never (plain.NodeLife.Up boot) is so = let no : true ≡ false = so in cc
      never plain.NodeLife.Down is so = is
      never plain.NodeLife.Lost is so = is

  pub works_now : (from : ℕ) → is_up_life (life_of old from) ≡ true → IsUp (life_of old from)
  works_now from is = up (life_of old from) is
    where
      up : (life : NodeLife) → is_up_life life ≡ true → IsUp life
      up (plain.NodeLife.Up boot) so = tt
      up plain.NodeLife.Down so = absurd (let never : false ≡ true = so in cc)
      up plain.NodeLife.Lost so = absurd (let never : false ≡ true = so in cc)

  -- a node that may push is up
  pub push_up : (from : ℕ) (fit : OrderIsFit on start outcomes awaited been (order.Push from) old) → is_up_life (life_of old from) ≡ true → IsUp (life_after been from)
  push_up from fit is = subst IsUp (fit.lives from (there (is_no_node (plan_of old) from) fit.accepted)) (up (life_of old from) is)
    where
      there : (b : Bool) → fault_if b NoSuchNode ≡ None → b ≡ false
      there false so = refl
      there true so = absurd (let never : Some NoSuchNode ≡ None = so in cc)

      up : (life : NodeLife) → is_up_life life ≡ true → IsUp life
      up (plain.NodeLife.Up boot) so = tt
      up plain.NodeLife.Down so = absurd (let never : false ≡ true = so in cc)
      up plain.NodeLife.Lost so = absurd (let never : false ≡ true = so in cc)

  -- what came of posting a letter
  module _ (keep : Bool) (letter : ℕ) (fit : OrderIsFit on start outcomes awaited been (post_order keep letter) old) (new : World D) where
    posted_so : (r : Result Said StepFault) (happened event : ClusterEvent) → IsStep on r (step.Post letter keep) old new → happened ≡ event → Tells (post_order keep letter) (record { step = step.Post letter keep; result = r } ∷ []) (sum_of (book_of old)) (event_seen event) → fallen_in (step.Post letter keep) r ≡ fallen_by (event_seen event)
        → IsEventOf (plan_of old) (life_after been) (post_order keep letter) (event_seen event) → ((n : ℕ) (was : NodeLife) → life_after_step r (step.Post letter keep) n was ≡ plain.life_by_event (event_seen event) n was)
        → ((n : ℕ) → Among n (plain.failed_by_event (event_seen event)) → r ≡ Ok (said.Faulted n)) → MovedSo on start outcomes awaited been old (post_order keep letter) (Ok happened) new
    posted_so r happened event is same tells falls may lives failed =
        subst (λ (e : ClusterEvent). Happened on start outcomes awaited been old (post_order keep letter) e new) (sym same)
        (happens on start old outcomes awaited been (post_order keep letter) fit new (step.Post letter keep) r event is (are_post on old new keep letter r is) tells falls may lives failed)

    pub post_done : (r : Result Said StepFault) (handed : Result ClusterEvent Stop) → PostsTo letter r handed → IsStep on r (step.Post letter keep) old new
        → MovedSo on start outcomes awaited been old (post_order keep letter) handed new
    post_done (Ok said.Heard) (Ok happened) posts is =
        posted_so (Ok said.Heard) happened (WasHeard letter) is posts (tells_heard keep letter (sum_of (book_of old))) refl (is_heard (plan_of old) (life_after been) keep letter) (λ n was. refl) (λ n among. absurd among)
    post_done (Ok said.Heard) (Err stop) posts is = absurd posts
    post_done (Ok (said.Thrown why)) (Ok happened) posts is =
        posted_so (Ok (said.Thrown why)) happened (WasThrown letter why) is posts (tells_thrown keep letter (sum_of (book_of old)) why) refl (is_thrown (plan_of old) (life_after been) keep letter (why_seen why)) (λ n was. refl) (λ n among. absurd among)
    post_done (Ok (said.Thrown why)) (Err stop) posts is = absurd posts
    post_done (Ok (said.Faulted node)) (Ok happened) posts is =
        let one : StepMade = record { step = step.Post letter keep; result = Ok (said.Faulted node) } in
        let may = may_fault_after (post_order keep letter) fit new old [] one node letter keep refl tt is refl refl in
        posted_so (Ok (said.Faulted node)) happened (HasFaulted node) is posts (tells_fault (post_order keep letter) (one ∷ []) (sum_of (book_of old)) node ([], one, refl, refl)) refl (is_fault_of_post (plan_of old) (life_after been) keep letter node may) (λ n was. refl)
        (λ n among. ap (λ (m : ℕ). Ok (said.Faulted m)) (one_among n node among))
    post_done (Ok (said.Faulted node)) (Err stop) posts is = absurd posts
    post_done (Ok (said.Begun ticket stirs)) handed posts is = absurd is.did.kind
    post_done (Ok said.Noted) handed posts is = absurd is.did.kind
    post_done (Ok (said.Asked ask)) handed posts is = absurd is.did.kind
    post_done (Ok (said.Sent letters)) handed posts is = absurd is.did.kind
    post_done (Ok (said.Widened did)) handed posts is = absurd is.did.kind
    post_done (Ok (said.Grouped epoch)) handed posts is = absurd is.did.kind
    post_done (Ok (said.Concluded epoch members)) handed posts is = absurd is.did.kind
    post_done (Ok (said.NodeUp boot)) handed posts is = absurd is.did.kind
    post_done (Ok said.Done) handed posts is = absurd is.did.kind
    post_done (Err why) (Err stop) posts is = denied on start old outcomes awaited been (post_order keep letter) fit new (step.Post letter keep) why stop is (are_post on old new keep letter (Err why) is) posts (never_post keep letter)
    post_done (Err why) (Ok happened) posts is = absurd posts

  -- the order of a line that posts, as it was admitted
  pub post_same : (admitted : Admitted) (letter : ℕ) (keep : Bool) → admitted ≡ Post letter keep → (handed : Result ClusterEvent Stop) (new : World D)
      → (OrderIsFit on start outcomes awaited been (post_order keep letter) old → MovedSo on start outcomes awaited been old (post_order keep letter) handed new)
      → OrderIsFit on start outcomes awaited been (admitted_seen admitted) old → MovedSo on start outcomes awaited been old (admitted_seen admitted) handed new
  post_same admitted letter keep is handed new moved fit =
      let same : admitted_seen admitted ≡ post_order keep letter = ap admitted_seen is ∙ by keep in
      subst (λ (o : ClusterOrder). MovedSo on start outcomes awaited been old o handed new) (sym same) (moved (subst (λ (o : ClusterOrder). OrderIsFit on start outcomes awaited been o old) same fit))
    where
      by : (k : Bool) → admitted_seen (Post letter k) ≡ post_order k letter
      by true = refl
      by false = refl

-- what may be said of it
pub said_of_post : (letter : ℕ) (keep : Bool) (result : Result Said StepFault) → IfOk result (SaysSo (step.Post letter keep)) → IsSaidOfPost result
said_of_post letter keep (Ok said.Heard) so = tt
said_of_post letter keep (Ok (said.Thrown why)) so = tt
said_of_post letter keep (Ok (said.Faulted node)) so = tt
said_of_post letter keep (Err why) so = tt
said_of_post letter keep (Ok what) so = absurd so
