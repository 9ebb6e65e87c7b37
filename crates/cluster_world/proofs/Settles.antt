-- The steps of a settle, joined to one list.
use Rattle.std.proofs.Common.{◌≡◌, ◌≢◌, ◌⊎◌, inl, inr, ⊎_elim, ℕ, zero, suc, ◌+◌, ◌-◌, ◌^◌, ◌≤◌, ◌<◌, Bool, true, false, not, ◌&&◌, nat_eq, List, [], ◌∷◌, ◌++◌, Option, Some, None, Result, Ok, Err, refl, sym, ap, ◌∙◌, subst, arith, append_assoc, append-nil, true≢false, if◌then◌else◌}
use Rattle.std.specs.Prelude.{MatchBool, IfOk}
use Rattle.std.proofs.lemmas.Bool.{and_parts, eq-eqb}
use Rattle.object_model.specs.Sets.{has}
use Rattle.node_store.specs.Disks.{View}
use Rattle.cluster_world.specs.Flows.{IsDelivered, AllDelivered, FlowsSo, HasFlowed}
use Rattle.cluster_world.specs.Made.{StepMade, MakesSteps, PostsAll, IsPost, has_failed}
use Rattle.cluster_world.specs.Regroups.{AllPost, AllWentOn, EndsBy, Halts, StepsOn, sent_in, halted}
use Rattle.cluster_world.specs.Settling.{rest_in, absent_by, is_owing, settle_by, pairs_from, pairs_up_to, pairs_in, IsOfSettle, AreOfSettle, BeginsWith, settle_refusal, settle_ended, IsRefusedBy, AllFlowed, TellsOne, TellsEach, Sweeps, Swept, Goes, SweepsInVain, SettlesSo, MakesSettle, FlowsOn, StepFlows, StepFlowsOn, SweptOnce, SweptIdly, HasLeft, SweepsOnce, SweepsOut, SweepsTo, SweepsAll, GoesOn, TellsOn, IsAtRest}
use Rattle.cluster_world.specs.Settling.IsOfSettle.{Posts, Pushes, Reports}
use Rattle.cluster_world.specs.Settling.Swept.{NoMore, OneMore}
use Rattle.cluster_world.specs.Steps.{IsStep}
use Rattle.cluster_world.specs.Worlds.{state_of}
use Rattle.cluster_world.specs.declared.fault.StepFault.{StepFault}
use Rattle.cluster_world.specs.declared.fault.StepFault.TheVariants as fault
use Rattle.cluster_world.specs.declared.regrouping.Halt.{Halt}
use Rattle.cluster_world.specs.declared.regrouping.Halt.TheVariants as halts
use Rattle.cluster_world.specs.declared.settling.Rest.{Rest}
use Rattle.cluster_world.specs.declared.settling.Rest.TheVariants.{Absent, Calm, Owing}
use Rattle.cluster_world.specs.declared.settling.Settle.{Settle}
use Rattle.cluster_world.specs.declared.settling.Settle.TheVariants.{Settled, NotAllUp, Fault}
use Rattle.cluster_world.specs.declared.step.Said.{Said}
use Rattle.cluster_world.specs.declared.step.Said.TheVariants as said
use Rattle.cluster_world.specs.declared.step.Step.{Step}
use Rattle.cluster_world.specs.declared.step.Step.TheVariants as step
use Rattle.cluster_world.specs.declared.world.World.{World}
use Rattle.cluster_world.proofs.Ordered.{posts_make}
use Rattle.cluster_world.proofs.Still.{some_same}
use Rattle.cluster_world.proofs.Rounds.{went_on_more, post_more, makes_more, makes_one, halts_after, one_halts}

-- a letter that was posted, and whose receiver goes on, went on
pub delivered_goes : (r : Result Said StepFault) → IsDelivered r → has_failed r ≡ false
delivered_goes (Ok said.Heard) is = refl
delivered_goes (Ok (said.Thrown why)) is = refl
delivered_goes (Ok (said.Begun ticket stirs)) is = absurd is
delivered_goes (Ok said.Noted) is = absurd is
delivered_goes (Ok (said.Asked ask)) is = absurd is
delivered_goes (Ok (said.Sent letters)) is = absurd is
delivered_goes (Ok (said.Widened did)) is = absurd is
delivered_goes (Ok (said.Grouped epoch)) is = absurd is
delivered_goes (Ok (said.Concluded epoch members)) is = absurd is
delivered_goes (Ok (said.NodeUp boot)) is = absurd is
delivered_goes (Ok said.Done) is = absurd is
delivered_goes (Ok (said.Faulted n)) is = absurd is
delivered_goes (Err why) is = absurd is

all_went : (steps : List StepMade) → AllDelivered steps → AllWentOn steps
all_went [] all = tt
all_went (one ∷ more) (post, is, all) = (delivered_goes one.result is, all_went more all)

all_post : (steps : List StepMade) → AllDelivered steps → AllPost steps
all_post [] all = tt
all_post (one ∷ more) (post, is, all) = (post, all_post more all)

-- lists of steps of a settle
pub settle_more : (xs ys : List StepMade) → AreOfSettle xs → AreOfSettle ys → AreOfSettle (xs ++ ys)
settle_more [] ys a b = b
settle_more (x ∷ xs) ys (one, more) b = (one, settle_more xs ys more b)

pub posts_settle : (steps : List StepMade) → AllPost steps → AreOfSettle steps
posts_settle [] all = tt
posts_settle (one ∷ more) (post, all) = (Posts post, posts_settle more all)

same_result : (a b : StepMade) → a ≡ b → a.result ≡ b.result
same_result a b e = ap (λ (s : StepMade). s.result) e

module _ {D : Type 0} (on : View D) where
  -- where all letters were posted and each receiver goes on, none is left
  flow_clears : (steps : List StepMade) (old new : World D) → PostsAll on steps old new → AllDelivered steps → (state_of new).flying.flights ≡ []
  flow_clears [] old new (none, same) all = ap (λ (w : World D). (state_of w).flying.flights) same ∙ none
  flow_clears (one ∷ more) old new (letter, mid, first, is, did, ends) (post, goes, all) = flow_clears more mid new (subst (λ (b : Bool). MatchBool b ((more ≡ []) × (new ≡ mid)) (PostsAll on more mid new)) (delivered_goes one.result goes) ends) all

  -- what a flow comes to
  pub flowed_well : (old new : World D) → HasFlowed on (Ok None) old new → FlowsOn on (Ok tt) old new
  flowed_well old new f = (f.steps, record { made = f.made; lowest = f.lowest; well = f.flows; clear = flow_clears f.steps old new f.made f.flows })

  stops_by : (halt : Halt) (steps front : List StepMade) (one : StepMade) (old new : World D) → PostsAll on steps old new → steps ≡ front ++ one ∷ [] → AllDelivered front → IsPost one → one.result ≡ halted on halt → Halts on AllPost halt old new
  stops_by halt steps front one old new made split all post failed = record {
    steps = steps;
    made = posts_make on steps old new made;
    are = subst AllPost (sym split) (post_more front (one ∷ []) (all_post front all) (post, tt));
    ends = record { front = front; one = one; split = split; well = all_went front all; failed = failed };
  }

  pub flowed_fault : (node : ℕ) (old new : World D) → HasFlowed on (Ok (Some node)) old new → FlowsOn on (Err (halts.Fault node)) old new
  flowed_fault node old new f = let (front, one, split, all, post, failed) = f.flows in stops_by (halts.Fault node) f.steps front one old new f.made split all post failed

  pub flowed_refused : (why : StepFault) (old new : World D) → HasFlowed on (Err why) old new → FlowsOn on (Err (halts.Refused why)) old new
  flowed_refused why old new f = let (front, one, split, all, post, failed) = f.flows in stops_by (halts.Refused why) f.steps front one old new f.made split all post failed

  flowed_made : (old new : World D) (steps : List StepMade) → AllFlowed on old new steps → MakesSteps on steps old new
  flowed_made old new steps f = posts_make on steps old new f.made

  flowed_went : (old new : World D) (steps : List StepMade) → AllFlowed on old new steps → AllWentOn steps
  flowed_went old new steps f = all_went steps f.well

  flowed_of : (old new : World D) (steps : List StepMade) → AllFlowed on old new steps → AllPost steps
  flowed_of old new steps f = all_post steps f.well

  -- a step and all letters
  pub step_halts : (s : Step) (halt : Halt) (a b : World D) → StepsOn on s (Err halt) a b → StepFlowsOn on s (Err halt) a b
  step_halts s halt a b is = one_halts on {Are = BeginsWith s} s halt a b (record { result = halted on halt; more = []; split = refl; posts = tt }) is

  pub step_flows : (s : Step) (what : Said) (r : Result (Unit {0}) Halt) (a b c : World D) → StepsOn on s (Ok what) a b → FlowsOn on r b c → StepFlowsOn on s r a c
  step_flows s what (Ok _) a b c (is, goes) (posts, flows) = record { mid = b; what = what; posts = posts; is = is; goes = goes; flows = flows }
  step_flows s what (Err halt) a b c (is, goes) stops =
      halts_after on {Are = AllPost} {All = BeginsWith s} (record { step = s; result = Ok what } ∷ []) halt a b c (makes_one on s (Ok what) a b is) (goes, tt)
      (λ more posts. record { result = Ok what; more = more; split = refl; posts = posts }) stops

  flows_made : (s : Step) (a b : World D) → (f : StepFlows on s a b) → MakesSteps on (record { step = s; result = Ok f.what } ∷ f.posts) a b
  flows_made s a b f = (f.mid, f.is, flowed_made f.mid b f.posts f.flows)

  flows_went : (s : Step) (a b : World D) (f : StepFlows on s a b) → AllWentOn (record { step = s; result = Ok f.what } ∷ f.posts)
  flows_went s a b f = (f.goes, flowed_went f.mid b f.posts f.flows)

  flows_of : (s : Step) (a b : World D) (f : StepFlows on s a b) → ((r : Result Said StepFault) → IsOfSettle (record { step = s; result = r })) → AreOfSettle (record { step = s; result = Ok f.what } ∷ f.posts)
  flows_of s a b f of = (of (Ok f.what), posts_settle f.posts (flowed_of f.mid b f.posts f.flows))

  begun_of : (s : Step) → ((r : Result Said StepFault) → IsOfSettle (record { step = s; result = r })) → (steps : List StepMade) → BeginsWith s steps → AreOfSettle steps
  begun_of s of steps b = subst AreOfSettle (sym b.split) (of b.result, posts_settle b.more b.posts)

  -- steps before those that halt
  pub stops_after : (front : List StepMade) (halt : Halt) (a b c : World D) → MakesSteps on front a b → AllWentOn front → AreOfSettle front → Halts on AreOfSettle halt b c → Halts on AreOfSettle halt a c
  stops_after front halt a b c made well of stops = halts_after on {Are = AreOfSettle} {All = AreOfSettle} front halt a b c made well (λ more are. settle_more front more of are) stops

  begun_stops : (s : Step) → ((r : Result Said StepFault) → IsOfSettle (record { step = s; result = r })) → (halt : Halt) (a b : World D) → Halts on (BeginsWith s) halt a b → Halts on AreOfSettle halt a b
  begun_stops s of halt a b h = record { steps = h.steps; made = h.made; are = begun_of s of h.steps h.are; ends = h.ends }

  module _ (from to : ℕ) (other : from ≢ to) where
    push_of : (r : Result Said StepFault) → IsOfSettle (record { step = step.Push from to; result = r })
    push_of r = Pushes from to other refl

    report_of : (r : Result Said StepFault) → IsOfSettle (record { step = step.Report from to; result = r })
    report_of r = Reports from to other refl

    -- one node tells another
    pub push_halts : (halt : Halt) (a b : World D) → StepFlowsOn on (step.Push from to) (Err halt) a b → TellsOn on ((from, to) ∷ []) (Err halt) a b
    push_halts halt a b stops = begun_stops (step.Push from to) push_of halt a b stops

    pub told_one : (r : Result (Unit {0}) Halt) (a b c : World D) → StepFlowsOn on (step.Push from to) (Ok tt) a b → StepFlowsOn on (step.Report from to) r b c → TellsOn on ((from, to) ∷ []) r a c
    told_one (Ok _) a b c p q =
        let steps : List StepMade = record { step = step.Push from to; result = Ok p.what } ∷ p.posts ++ record { step = step.Report from to; result = Ok q.what } ∷ q.posts in (
          steps,
          (
            c,
            steps,
            [],
            sym (append-nil steps),
            record {
              other = other;
              pushed = p.mid;
              heard = b;
              reported = q.mid;
              push = p.what;
              report = q.what;
              first = p.posts;
              second = q.posts;
              split = refl;
              pushes = p.is;
              push_goes = p.goes;
              flows = p.flows;
              reports = q.is;
              report_goes = q.goes;
              flows_again = q.flows;
            },
            (refl, refl),
          ),
        )
    told_one (Err halt) a b c p stops =
        stops_after (record { step = step.Push from to; result = Ok p.what } ∷ p.posts) halt a b c (flows_made (step.Push from to) a b p) (flows_went (step.Push from to) a b p) (flows_of (step.Push from to) a b p push_of)
        (begun_stops (step.Report from to) report_of halt b c stops)

  -- what is known of pairs that were told
  module _ (from to : ℕ) (old new : World D) (steps : List StepMade) (t : TellsOne on from to old new steps) where
    one_made : MakesSteps on steps old new
    one_made = subst (λ (l : List StepMade). MakesSteps on l old new) (sym t.split) (
      t.pushed,
      t.pushes,
      makes_more on t.first (record { step = step.Report from to; result = Ok t.report } ∷ t.second) t.pushed t.heard new (flowed_made t.pushed t.heard t.first t.flows)
          (t.reported, t.reports, flowed_made t.reported new t.second t.flows_again),
    )

    one_went : AllWentOn steps
    one_went = subst AllWentOn (sym t.split)
        (t.push_goes, went_on_more t.first (record { step = step.Report from to; result = Ok t.report } ∷ t.second) (flowed_went t.pushed t.heard t.first t.flows) (t.report_goes, flowed_went t.reported new t.second t.flows_again))

    one_of : AreOfSettle steps
    one_of = subst AreOfSettle (sym t.split) (
      Pushes from to t.other refl,
      settle_more t.first (record { step = step.Report from to; result = Ok t.report } ∷ t.second) (posts_settle t.first (flowed_of t.pushed t.heard t.first t.flows))
          (Reports from to t.other refl, posts_settle t.second (flowed_of t.reported new t.second t.flows_again)),
    )

  pub each_made : (pairs : List (ℕ × ℕ)) (old new : World D) (steps : List StepMade) → TellsEach on pairs old new steps → MakesSteps on steps old new
  each_made [] old new steps (none, same) = subst (λ (l : List StepMade). MakesSteps on l old new) (sym none) same
  each_made (pair ∷ pairs) old new steps (mid, one, more, split, t, rest) =
      subst (λ (l : List StepMade). MakesSteps on l old new) (sym split) (makes_more on one more old mid new (one_made pair.0 pair.1 old mid one t) (each_made pairs mid new more rest))

  pub each_went : (pairs : List (ℕ × ℕ)) (old new : World D) (steps : List StepMade) → TellsEach on pairs old new steps → AllWentOn steps
  each_went [] old new steps (none, same) = subst AllWentOn (sym none) tt
  each_went (pair ∷ pairs) old new steps (mid, one, more, split, t, rest) = subst AllWentOn (sym split) (went_on_more one more (one_went pair.0 pair.1 old mid one t) (each_went pairs mid new more rest))

  pub each_of : (pairs : List (ℕ × ℕ)) (old new : World D) (steps : List StepMade) → TellsEach on pairs old new steps → AreOfSettle steps
  each_of [] old new steps (none, same) = subst AreOfSettle (sym none) tt
  each_of (pair ∷ pairs) old new steps (mid, one, more, split, t, rest) = subst AreOfSettle (sym split) (settle_more one more (one_of pair.0 pair.1 old mid one t) (each_of pairs mid new more rest))

  each_more : (xs ys : List (ℕ × ℕ)) (a b c : World D) (s t : List StepMade) → TellsEach on xs a b s → TellsEach on ys b c t → TellsEach on (xs ++ ys) a c (s ++ t)
  each_more [] ys a b c s t (none, same) more =
      subst (λ (l : List StepMade). TellsEach on ys a c (l ++ t)) (sym none) (subst (λ (w : World D). TellsEach on ys w c t) same more)
  each_more (pair ∷ xs) ys a b c s t (mid, one, rest, split, told, others) more =
      (mid, one, rest ++ t, ap (λ (l : List StepMade). l ++ t) split ∙ append_assoc one rest t, told, each_more xs ys mid b c rest t others more)

  -- nothing is told at first
  pub told_none : (w : World D) → TellsOn on [] (Ok tt) w w
  told_none w = ([], (refl, refl))

  -- pairs and more pairs
  pub told_more : (xs ys : List (ℕ × ℕ)) (r : Result (Unit {0}) Halt) (a b c : World D) → TellsOn on xs (Ok tt) a b → TellsOn on ys r b c → TellsOn on (xs ++ ys) r a c
  told_more xs ys (Ok _) a b c (s, first) (t, second) = (s ++ t, each_more xs ys a b c s t first second)
  told_more xs ys (Err halt) a b c (s, first) stops = stops_after s halt a b c (each_made xs a b s first) (each_went xs a b s first) (each_of xs a b s first) stops

  -- the first of a list halts
  pub told_less : (xs ys : List (ℕ × ℕ)) (halt : Halt) (a b : World D) → TellsOn on xs (Err halt) a b → TellsOn on (xs ++ ys) (Err halt) a b
  told_less xs ys halt a b stops = stops

  -- a node tells one more, or not
  before : (n : ℕ) → 1 ≤ n → n ≡ suc (n - 1)
  before n one = omega (arith, one)

  pub tells_next : (from members n : ℕ) (r : Result (Unit {0}) Halt) (x y z : World D) → 1 ≤ n → (has members n && not (nat_eq from n)) ≡ true → TellsOn on (pairs_from from members (n - 1)) (Ok tt) x y
      → TellsOn on ((from, n) ∷ []) r y z → TellsOn on (pairs_from from members n) r x z
  tells_next from members n r x y z one is first second =
      let e = before n one in
      subst (λ (m : ℕ). TellsOn on (pairs_from from members m) r x z) (sym e)
      (subst (λ (t : Bool). TellsOn on (pairs_from from members (n - 1) ++ (if t then (from, suc (n - 1)) ∷ [] else [])) r x z) (sym (subst (λ (m : ℕ). (has members m && not (nat_eq from m)) ≡ true) e is))
      (told_more (pairs_from from members (n - 1)) ((from, suc (n - 1)) ∷ []) r x y z first (subst (λ (m : ℕ). TellsOn on ((from, m) ∷ []) r y z) e second)))

  pub tells_no_next : (from members n : ℕ) (x y : World D) → 1 ≤ n → (has members n && not (nat_eq from n)) ≡ false → TellsOn on (pairs_from from members (n - 1)) (Ok tt) x y → TellsOn on (pairs_from from members n) (Ok tt) x y
  tells_no_next from members n x y one is (s, first) =
      let e = before n one in
      subst (λ (m : ℕ). TellsOn on (pairs_from from members m) (Ok tt) x y) (sym e)
      (subst (λ (t : Bool). TellsOn on (pairs_from from members (n - 1) ++ (if t then (from, suc (n - 1)) ∷ [] else [])) (Ok tt) x y) (sym (subst (λ (m : ℕ). (has members m && not (nat_eq from m)) ≡ false) e is))
      (s, subst (λ (l : List (ℕ × ℕ)). TellsEach on l x y s) (sym (append-nil (pairs_from from members (n - 1)))) first))

  -- one more node tells all others, or not
  pub tells_all_next : (members nodes n : ℕ) (r : Result (Unit {0}) Halt) (x y z : World D) → 1 ≤ n → has members n ≡ true → TellsOn on (pairs_up_to members nodes (n - 1)) (Ok tt) x y → TellsOn on (pairs_from n members nodes) r y z
      → TellsOn on (pairs_up_to members nodes n) r x z
  tells_all_next members nodes n r x y z one is first second =
      let e = before n one in
      subst (λ (m : ℕ). TellsOn on (pairs_up_to members nodes m) r x z) (sym e)
      (subst (λ (t : Bool). TellsOn on (pairs_up_to members nodes (n - 1) ++ (if t then pairs_from (suc (n - 1)) members nodes else [])) r x z) (sym (subst (λ (m : ℕ). has members m ≡ true) e is))
      (told_more (pairs_up_to members nodes (n - 1)) (pairs_from (suc (n - 1)) members nodes) r x y z first (subst (λ (m : ℕ). TellsOn on (pairs_from m members nodes) r y z) e second)))

  pub tells_all_no_next : (members nodes n : ℕ) (x y : World D) → 1 ≤ n → has members n ≡ false → TellsOn on (pairs_up_to members nodes (n - 1)) (Ok tt) x y → TellsOn on (pairs_up_to members nodes n) (Ok tt) x y
  tells_all_no_next members nodes n x y one is (s, first) =
      let e = before n one in
      subst (λ (m : ℕ). TellsOn on (pairs_up_to members nodes m) (Ok tt) x y) (sym e)
      (subst (λ (t : Bool). TellsOn on (pairs_up_to members nodes (n - 1) ++ (if t then pairs_from (suc (n - 1)) members nodes else [])) (Ok tt) x y) (sym (subst (λ (m : ℕ). has members m ≡ false) e is))
      (s, subst (λ (l : List (ℕ × ℕ)). TellsEach on l x y s) (sym (append-nil (pairs_up_to members nodes (n - 1)))) first))

  -- a sweep that halts, sends nothing, or sends something
  pub sweep_halts : (left : ℕ) (halt : Halt) (a b : World D) → TellsOn on (pairs_in (state_of a)) (Err halt) a b → SweepsOnce on left (Err halt) a b
  sweep_halts left halt a b stops = inl stops

  pub sweep_idly : (a b : World D) (left now : ℕ) → rest_in (state_of a) ≡ Owing → TellsOn on (pairs_in (state_of a)) (Ok tt) a b → HasLeft left a → HasLeft now b → left ≤ now → SweepsOnce on left (Err (halts.Refused (fault.NoMemory None))) a b
  sweep_idly a b left now due (steps, tells) e f none = inr (record { is = refl; steps = steps; sweeps = record { due = due; tells = tells }; none = not_more left now (sent_in a) (sent_in b) e f none })
    where
      not_more : (left now x y : ℕ) → left + x ≡ 2 ^ 64 - 1 → now + y ≡ 2 ^ 64 - 1 → left ≤ now → y ≤ x
      not_more left now x y e f none = omega (arith, e, f, none)

  pub sweep_well : (a b : World D) (left now : ℕ) → rest_in (state_of a) ≡ Owing → TellsOn on (pairs_in (state_of a)) (Ok tt) a b → HasLeft left a → HasLeft now b → now < left → SweepsOnce on left (Ok now) a b
  sweep_well a b left now due (steps, tells) e f less = (record { steps = steps; sweeps = record { due = due; tells = tells }; sent = more left now (sent_in a) (sent_in b) e f less }, less, f)
    where
      more : (left now x y : ℕ) → left + x ≡ 2 ^ 64 - 1 → now + y ≡ 2 ^ 64 - 1 → now < left → x + 1 ≤ y
      more left now x y e f less = omega (arith, e, f, less)

  -- sweeps
  pub none_swept : (w : World D) → (steps : List StepMade) × Swept on w w steps
  none_swept w = ([], NoMore w [] refl refl)

  pub once_more : (left now : ℕ) (a b c : World D) → (front : List StepMade) × Swept on a b front → SweepsOnce on left (Ok now) b c → (steps : List StepMade) × Swept on a c steps
  once_more left now a b c (front, swept) (o, less, has) = (front ++ o.steps, OneMore b c front o.steps (front ++ o.steps) swept o.sweeps o.sent refl)

  pub swept_out : (left : ℕ) (halt : Halt) (a b c : World D) → (front : List StepMade) × Swept on a b front → SweepsOnce on left (Err halt) b c → SweepsAll on (Err halt) a c
  swept_out left halt a b c (front, swept) ends = record { mid = b; front = front; swept = swept; ends = ends }

  -- nothing is in flight after sweeps
  each_clears : (pairs : List (ℕ × ℕ)) (old new : World D) (steps : List StepMade) → TellsEach on pairs old new steps → (state_of old).flying.flights ≡ [] → (state_of new).flying.flights ≡ []
  each_clears [] old new steps (none, same) clear = ap (λ (w : World D). (state_of w).flying.flights) same ∙ clear
  each_clears (pair ∷ pairs) old new steps (mid, one, more, split, t, rest) clear = each_clears pairs mid new more rest t.flows_again.clear

  swept_clears : (old new : World D) (steps : List StepMade) → Swept on old new steps → (state_of old).flying.flights ≡ [] → (state_of new).flying.flights ≡ []
  swept_clears old new steps (NoMore _ _ same none) clear = ap (λ (w : World D). (state_of w).flying.flights) same ∙ clear
  swept_clears old new steps (OneMore mid _ front last _ swept sweeps sent split) clear = each_clears (pairs_in (state_of mid)) mid new last sweeps.tells (swept_clears old mid front swept clear)

  -- so they end
  pub swept_to : (a b : World D) (x : Rest) → (front : List StepMade) × Swept on a b front → (state_of a).flying.flights ≡ [] → x ≡ rest_in (state_of b) → is_owing x ≡ false → SweepsAll on (Ok (settle_by x)) a b
  swept_to a b (Absent n) (front, swept) clear is calm = (front, (swept, sym is))
  swept_to a b Calm (front, swept) clear is calm = (front, (swept, record { calm = sym is; clear = swept_clears a b front swept clear }))
  swept_to a b Owing (front, swept) clear is calm = absurd (true≢false calm)

  -- what is known of them
  record SweptSo (old new : World D) (steps : List StepMade) : Type 0 where
    made : MakesSteps on steps old new
    well : AllWentOn steps
    of : AreOfSettle steps

  swept_so : (old new : World D) (steps : List StepMade) → Swept on old new steps → SweptSo old new steps
  swept_so old new steps (NoMore _ _ same none) = record {
    made = subst (λ (l : List StepMade). MakesSteps on l old new) (sym none) same;
    well = subst AllWentOn (sym none) tt;
    of = subst AreOfSettle (sym none) tt;
  }
  swept_so old new steps (OneMore mid _ front last _ swept sweeps sent split) =
      let f = swept_so old mid front swept in
      let pairs = pairs_in (state_of mid) in
      record {
        made = subst (λ (l : List StepMade). MakesSteps on l old new) (sym split) (makes_more on front last old mid new f.made (each_made pairs mid new last sweeps.tells));
        well = subst AllWentOn (sym split) (went_on_more front last f.well (each_went pairs mid new last sweeps.tells));
        of = subst AreOfSettle (sym split) (settle_more front last f.of (each_of pairs mid new last sweeps.tells));
      }

  -- the whole: all letters, and then sweeps
  module _ (old flown : World D) (first : List StepMade) (flows : AllFlowed on old flown first) (present : (n : ℕ) → rest_in (state_of old) ≡ Absent n → ⊥) where
    goes_so : (new : World D) (more : List StepMade) → Swept on flown new more → Goes on old new (first ++ more)
    goes_so new more swept = record { present = present; flown = flown; first = first; more = more; split = refl; flows = flows; sweeps = swept }

    gone_so : (new : World D) (more : List StepMade) → Swept on flown new more → SweptSo old new (first ++ more)
    gone_so new more swept =
        let s = swept_so flown new more swept in
        record {
          made = makes_more on first more old flown new (flowed_made old flown first flows) s.made;
          well = went_on_more first more (flowed_went old flown first flows) s.well;
          of = settle_more first more (posts_settle first (flowed_of old flown first flows)) s.of;
        }

    settled_to : (settle : Settle) (new : World D) (more : List StepMade) → SweepsTo on settle flown new more → GoesOn on (Ok settle) old new
    settled_to Settled new more (swept, rest) =
        let s = gone_so new more swept in record { steps = first ++ more; made = s.made; of = s.of; shape = (goes_so new more swept, rest) }
    settled_to (NotAllUp n) new more (swept, absent) =
        let s = gone_so new more swept in record { steps = first ++ more; made = s.made; of = s.of; shape = (inr (goes_so new more swept), absent) }
    settled_to (Fault n) new more never = absurd never

    halted_to : (halt : Halt) (new : World D) → SweepsAll on (Err halt) flown new → GoesOn on (Err halt) old new
    halted_to halt new out = ⊎_elim
        (λ (stops : Halts on AreOfSettle halt out.mid new).
        let s = gone_so out.mid out.front out.swept in
        ended_by halt old new (stops_after (first ++ out.front) halt old out.mid new s.made s.well s.of stops))
        (λ (idly : SweptIdly on halt out.mid new). vain idly halt idly.is)
        out.ends
      where
        ended_by : (halt : Halt) (old new : World D) → Halts on AreOfSettle halt old new → MakesSettle on (settle_ended halt) old new
        ended_by (halts.Fault n) old new h = record { steps = h.steps; made = h.made; of = h.are; shape = h.ends }
        ended_by (halts.Refused why) old new h = record { steps = h.steps; made = h.made; of = h.are; shape = inl (record { cause = why; is = refl; ends = h.ends }) }

        vain : SweptIdly on halt out.mid new → (h : Halt) → h ≡ halts.Refused (fault.NoMemory None) → MakesSettle on (settle_ended h) old new
        vain idly h is =
            let s = gone_so out.mid out.front out.swept in
            let pairs = pairs_in (state_of out.mid) in
            subst (λ (x : Halt). MakesSettle on (settle_ended x) old new) (sym is) (record {
              steps = (first ++ out.front) ++ idly.steps;
              made = makes_more on (first ++ out.front) idly.steps old out.mid new s.made (each_made pairs out.mid new idly.steps idly.sweeps.tells);
              of = settle_more (first ++ out.front) idly.steps s.of (each_of pairs out.mid new idly.steps idly.sweeps.tells);
              shape = inr (record { is = refl; mid = out.mid; front = first ++ out.front; last = idly.steps; split = refl; goes = goes_so out.mid out.front out.swept; sweeps = idly.sweeps; none = idly.none });
            })

  pub goes_on : (r : Result Settle Halt) (old flown new : World D) → FlowsOn on (Ok tt) old flown → ((n : ℕ) → rest_in (state_of old) ≡ Absent n → ⊥) → SweepsAll on r flown new → GoesOn on r old new
  goes_on (Ok settle) old flown new (first, flows) present (more, to) = settled_to old flown first flows present settle new more to
  goes_on (Err halt) old flown new (first, flows) present out = halted_to old flown first flows present halt new out

  pub flow_halts : (halt : Halt) (old new : World D) → FlowsOn on (Err halt) old new → GoesOn on (Err halt) old new
  flow_halts (halts.Fault n) old new h = record { steps = h.steps; made = h.made; of = posts_settle h.steps h.are; shape = h.ends }
  flow_halts (halts.Refused why) old new h = record { steps = h.steps; made = h.made; of = posts_settle h.steps h.are; shape = inl (record { cause = why; is = refl; ends = h.ends }) }

  pub none_absent : (x y : Rest) → x ≡ y → absent_by x ≡ None → (n : ℕ) → y ≡ Absent n → ⊥
  none_absent x y same none n is = let never : None ≡ Some n = sym none ∙ ap absent_by (same ∙ is) in cc never

  -- nothing was done
  pub nothing_done : (n : ℕ) (w : World D) → rest_in (state_of w) ≡ Absent n → MakesSettle on (Ok (NotAllUp n)) w w
  nothing_done n w absent = record { steps = []; made = refl; of = tt; shape = (inl (refl, refl), absent) }

-- a node that is not the other
pub is_other : (a b : ℕ) → not (nat_eq a b) ≡ true → a ≢ b
is_other a b e same = true≢false (sym e ∙ ap not (eq-eqb a b same))

-- what is told of who is absent
pub absent_is : (x y : Rest) (n : ℕ) → x ≡ y → absent_by x ≡ Some n → y ≡ Absent n
absent_is (Absent m) y n same is = sym same ∙ ap Absent (some_same m n is)
absent_is Calm y n same is = absurd (let never : None ≡ Some n = is in cc)
absent_is Owing y n same is = absurd (let never : None ≡ Some n = is in cc)

pub differs : (members a b : ℕ) → (has members b && not (nat_eq a b)) ≡ true → a ≢ b
differs members a b both = is_other a b (and_parts (has members b) (not (nat_eq a b)) both).1

-- whether something is due, or not
pub due_now : (x : Rest) → is_owing x ≡ true → x ≡ Owing
due_now (Absent n) is = absurd (true≢false (sym is))
due_now Calm is = absurd (true≢false (sym is))
due_now Owing is = refl

pub calm_now : (x y : Rest) → x ≡ y → is_owing y ≡ false → is_owing x ≡ false
calm_now x y same is = ap is_owing same ∙ is
