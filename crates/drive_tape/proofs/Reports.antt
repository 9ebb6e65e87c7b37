-- A node reports to members of its epoch, one after another.
use Rattle.std.specs.Prelude.{min, MatchBool, IfOk, if◌then◌else◌}
use Rattle.std.proofs.Common.{◌≡◌, ℕ, zero, suc, ◌+◌, ◌-◌, ◌≤◌, Bool, true, false, not, ◌&&◌, nat_eq, List, [], ◌∷◌, ◌++◌, Some, None, Result, Ok, Err, refl, sym, ap, ◌∙◌, subst, arith, append-nil}
use Rattle.object_model.specs.Sets.{has}
use Rattle.mail_model.specs.Tape.{ClusterOrder as order}
use Rattle.session_model.specs.Acts.{Act}
use Rattle.session_model.specs.Events.{IsUp}
use Rattle.session_model.specs.Lives.{life_after}
use Rattle.session_model.specs.Run.{is_no_node, fault_if}
use Rattle.mail_model.specs.Site.TapeFault.{NoSuchNode}
use Rattle.node_store.specs.Disks.{View}
use Rattle.cluster_world.specs.Made.{StepMade, StepsTo, others_in, has_failed}
use Rattle.cluster_world.specs.Outcomes.{Outcome, Awaited}
use Rattle.cluster_world.specs.Steps.{IsStep, SaysSo}
use Rattle.cluster_world.specs.Telling.{members_seen}
use Rattle.cluster_world.specs.Worlds.{state_of, plan_of, node_in}
use Rattle.cluster_world.proofs.Ordered.{reports_none}
use Rattle.cluster_world.specs.declared.fault.StepFault.{StepFault}
use Rattle.cluster_world.specs.declared.step.Said.{Said}
use Rattle.cluster_world.specs.declared.step.Said.TheVariants as said
use Rattle.cluster_world.specs.declared.step.Step.{Step}
use Rattle.cluster_world.specs.declared.step.Step.TheVariants as step
use Rattle.cluster_world.specs.declared.world.World.{World}
use Rattle.drive_tape.specs.declared.drove.Stop.{Stop}
use Rattle.drive_tape.specs.declared.event.ClusterEvent.TheVariants.{HasSent}
use Rattle.drive_tape.specs.Led.{WentWell, sent_in}
use Rattle.drive_tape.specs.Moved.{OrderIsFit, Happened, MovedSo, IsSaidOfReport, SendsTo, ReportedSo, HasReported, IsRefusedReport}
use Rattle.drive_tape.proofs.Posting.{well_and_one, sent_and_one, capped}
use Rattle.drive_tape.proofs.Stepping.{IsCalm, AreCalm, steps_more, happens_calm, denied_after}
use Rattle.drive_tape.proofs.Settles.{calm_as, report_leaves}

-- such steps for more nodes
to_more : (of : ℕ → Step) (others more : List ℕ) (steps rest : List StepMade) → StepsTo of others steps → WentWell steps → StepsTo of more rest → StepsTo of (others ++ more) (steps ++ rest)
to_more of [] more steps rest none well later = subst (λ (l : List StepMade). StepsTo of more (l ++ rest)) (sym none) later
to_more of (to ∷ others) more [] rest never well later = absurd never
to_more of (to ∷ others) more (one ∷ steps) rest (is, ends) well later =
    let goes : StepsTo of others steps = subst (λ (b : Bool). MatchBool b (steps ≡ []) (StepsTo of others steps)) well.0 ends in
    (is, subst (λ (b : Bool). MatchBool b (steps ++ rest ≡ []) (StepsTo of (others ++ more) (steps ++ rest))) (sym well.0) (to_more of others more steps rest goes well.1 later))

-- where the last failed, no more were made
to_failed : (of : ℕ → Step) (others more : List ℕ) (front : List StepMade) (one : StepMade) → WentWell front → has_failed one.result ≡ true → StepsTo of others (front ++ one ∷ []) → StepsTo of (others ++ more) (front ++ one ∷ [])
to_failed of [] more front one well failed none = absurd (never front none)
  where
    never : (l : List StepMade) → l ++ one ∷ [] ≡ [] → ⊥
    never [] is = cc
    never (x ∷ xs) is = cc
to_failed of (to ∷ others) more [] one well failed (is, ends) = (is, subst (λ (b : Bool). MatchBool b (◌≡◌ {A = List StepMade} [] []) (StepsTo of (others ++ more) [])) (sym failed) refl)
to_failed of (to ∷ others) more (first ∷ front) one well failed (is, ends) =
    let goes : StepsTo of others (front ++ one ∷ []) = subst (λ (b : Bool). MatchBool b (front ++ one ∷ [] ≡ []) (StepsTo of others (front ++ one ∷ []))) well.0 ends in
    (is, subst (λ (b : Bool). MatchBool b (front ++ one ∷ [] ≡ []) (StepsTo of (others ++ more) (front ++ one ∷ []))) (sym well.0) (to_failed of others more front one well.1 failed goes))

-- the next of the others
next_of : (from members k : ℕ) (is : Bool) → (has members (suc k) && not (nat_eq from (suc k))) ≡ is → others_in from members (suc k) ≡ others_in from members k ++ (if is then suc k ∷ [] else [])
next_of from members k is same = ap (λ (b : Bool). others_in from members k ++ (if b then suc k ∷ [] else [])) same

-- what may be said of a report
pub said_of_report : (from to : ℕ) (result : Result Said StepFault) → IfOk result (SaysSo (step.Report from to)) → IsSaidOfReport result
said_of_report from to (Ok (said.Sent letters)) so = tt
said_of_report from to (Err why) so = tt
said_of_report from to (Ok what) so = absurd so

module _ {D : Type 0} (on : View D) (from : ℕ) where
  pub reported_so : (to : ℕ) (result : Result Said StepFault) (handed : Result ℕ Stop) (old new : World D) → SendsTo result handed → IsStep on result (step.Report from to) old new → ReportedSo on from to handed old new
  reported_so to (Ok (said.Sent letters)) (Ok sent) old new so is = subst (λ (n : ℕ). IsStep on (Ok (said.Sent n)) (step.Report from to) old new) (sym so) is
  reported_so to (Ok (said.Sent letters)) (Err stop) old new so is = absurd so
  reported_so to (Ok what) handed old new so is = absurd so
  reported_so to (Err why) (Ok sent) old new so is = absurd so
  reported_so to (Err why) (Err stop) old new so is = (why, so, is)

  pub reported_none : (members nodes : ℕ) (old : World D) → nodes ≡ 0 → HasReported on from (others_in from members nodes) 0 old old
  reported_none members nodes old none =
      subst (λ (n : ℕ). HasReported on from (others_in from members n) 0 old old) (sym none) (record { steps = []; made = refl; to = refl; well = tt; count = refl })

  -- the node itself, or one that is no member, is passed over
  pub reported_past : (members nodes sent : ℕ) (old new : World D) → 1 ≤ nodes → (has members nodes && not (nat_eq from nodes)) ≡ false → HasReported on from (others_in from members (nodes - 1)) sent old new
      → HasReported on from (others_in from members nodes) sent old new
  reported_past members zero sent old new some other has_so = absurd (omega (arith, some))
  reported_past members (suc k) sent old new some other has_so =
      let was : HasReported on from (others_in from members k) sent old new = subst (λ (n : ℕ). HasReported on from (others_in from members n) sent old new) (let e : suc k - 1 ≡ k = omega arith in e) has_so in
      subst (λ (l : List ℕ). HasReported on from l sent old new) (sym (append-nil (others_in from members k)) ∙ sym (next_of from members k false other)) was

  -- the next was reported to
  pub reported_more : (members nodes sent letters : ℕ) (old mid new : World D) → 1 ≤ nodes → (has members nodes && not (nat_eq from nodes)) ≡ true → HasReported on from (others_in from members (nodes - 1)) sent old mid
      → ReportedSo on from nodes (Ok letters) mid new → HasReported on from (others_in from members nodes) (min (sent + letters) 18446744073709551615) old new
  reported_more members zero sent letters old mid new some next has_so is = absurd (omega (arith, some))
  reported_more members (suc k) sent letters old mid new some next has_so is =
      let was : HasReported on from (others_in from members k) sent old mid = subst (λ (n : ℕ). HasReported on from (others_in from members n) sent old mid) (let e : suc k - 1 ≡ k = omega arith in e) has_so in
      let one : StepMade = record { step = step.Report from (suc k); result = Ok (said.Sent letters) } in
      record {
        steps = was.steps ++ one ∷ [];
        made = steps_more on was.steps one old mid new was.made is;
        to = subst (λ (l : List ℕ). StepsTo (step.Report from) l (was.steps ++ one ∷ [])) (sym (next_of from members k true next))
            (to_more (step.Report from) (others_in from members k) (suc k ∷ []) was.steps (one ∷ []) was.to was.well (refl, refl));
        well = well_and_one was.steps one was.well refl;
        count = ap (λ (n : ℕ). min (n + letters) 18446744073709551615) was.count ∙ capped (sent_in was.steps) letters 18446744073709551615
            ∙ ap (λ (n : ℕ). min n 18446744073709551615) (sym (sent_and_one was.steps one));
      }

  -- a step before was refused
  pub refused_before : (members nodes : ℕ) (stop : Stop) (old new : World D) → 1 ≤ nodes → IsRefusedReport on from (others_in from members (nodes - 1)) stop old new → IsRefusedReport on from (others_in from members nodes) stop old new
  refused_before members zero stop old new some r = absurd (omega (arith, some))
  refused_before members (suc k) stop old new some r =
      let was : IsRefusedReport on from (others_in from members k) stop old new = subst (λ (n : ℕ). IsRefusedReport on from (others_in from members n) stop old new) (let e : suc k - 1 ≡ k = omega arith in e) r in
      record {
        front = was.front;
        to = was.to;
        why = was.why;
        mid = was.mid;
        before = was.before;
        well = was.well;
        last = was.last;
        each = to_failed (step.Report from) (others_in from members k) (if has members (suc k) && not (nat_eq from (suc k)) then suc k ∷ [] else []) was.front (record { step = step.Report from was.to; result = Err was.why }) was.well refl was.each;
        stops = was.stops;
      }

  -- this one was
  pub refused_now : (members nodes sent : ℕ) (stop : Stop) (old mid new : World D) → 1 ≤ nodes → (has members nodes && not (nat_eq from nodes)) ≡ true → HasReported on from (others_in from members (nodes - 1)) sent old mid
      → ReportedSo on from nodes (Err stop) mid new → IsRefusedReport on from (others_in from members nodes) stop old new
  refused_now members zero sent stop old mid new some next has_so r = absurd (omega (arith, some))
  refused_now members (suc k) sent stop old mid new some next has_so (why, stops, is) =
      let was : HasReported on from (others_in from members k) sent old mid = subst (λ (n : ℕ). HasReported on from (others_in from members n) sent old mid) (let e : suc k - 1 ≡ k = omega arith in e) has_so in
      let one : StepMade = record { step = step.Report from (suc k); result = Err why } in
      record {
        front = was.steps;
        to = suc k;
        why = why;
        mid = mid;
        before = was.made;
        well = was.well;
        last = is;
        each = subst (λ (l : List ℕ). StepsTo (step.Report from) l (was.steps ++ one ∷ [])) (sym (next_of from members k true next))
            (to_more (step.Report from) (others_in from members k) (suc k ∷ []) was.steps (one ∷ []) was.to was.well (refl, refl));
        stops = stops;
      }

  -- steps that are reports change no node where none failed
  calm_one : (to : ℕ) (one : StepMade) → one.step ≡ step.Report from to → has_failed one.result ≡ false → IsCalm one
  calm_one to one is well = calm_as one (step.Report from to) is (report_leaves from to one.result well)

  front_calm : (others : List ℕ) (front more : List StepMade) → StepsTo (step.Report from) others (front ++ more) → WentWell front → AreCalm front
  front_calm others [] more each well = tt
  front_calm [] (one ∷ front) more none well = absurd (let never : ◌≡◌ {A = List StepMade} (one ∷ front ++ more) [] = none in cc)
  front_calm (to ∷ others) (one ∷ front) more (is, ends) well =
      (calm_one to one is well.0, front_calm others front more (subst (λ (b : Bool). MatchBool b (front ++ more ≡ []) (StepsTo (step.Report from) others (front ++ more))) well.0 ends) well.1)

  module _ (start old : World D) (outcomes : List Outcome) (awaited : List Awaited) (been : List Act) (fit : OrderIsFit on start outcomes awaited been (order.Report from) old) (new : World D) where
    abbrev others : List ℕ
    others = others_in from (members_seen (node_in (state_of old) from)) 16

    there : (b : Bool) → fault_if b NoSuchNode ≡ None → b ≡ false
    there false so = refl
    there true so = absurd (let never : Some NoSuchNode ≡ None = so in cc)

    -- a node that is not up has no members to report to
    none_sent : (sent : ℕ) → HasReported on from others sent old new → (IsUp (life_after been from) → ⊥) → sent ≡ 0
    none_sent sent r not_up =
        let same = fit.lives from (there (is_no_node (plan_of old) from) fit.accepted) in
        let steps : r.steps ≡ [] = reports_none on from r.steps old (λ up. not_up (subst IsUp same up)) r.to in
        r.count ∙ ap (λ (l : List StepMade). min (sent_in l) 18446744073709551615) steps

    pub report_done : (sent : ℕ) → HasReported on from others sent old new → Happened on start outcomes awaited been old (order.Report from) (HasSent sent) new
    report_done sent r =
        happens_calm on start old outcomes awaited been (order.Report from) fit new r.steps (HasSent sent) (r.to, r.made)
        (front_calm others r.steps [] (subst (StepsTo (step.Report from) others) (sym (append-nil r.steps)) r.to) r.well) (r.well, r.count) refl (none_sent sent r) (λ n was. refl) (λ n among. absurd among)

    pub report_denied : (stop : Stop) → IsRefusedReport on from others stop old new → MovedSo on start outcomes awaited been old (order.Report from) (Err stop) new
    report_denied stop r =
        let one : StepMade = record { step = step.Report from r.to; result = Err r.why } in
        denied_after on start old outcomes awaited been (order.Report from) fit new r.mid r.front one r.why stop r.before (front_calm others r.front (one ∷ []) r.each r.well) r.last
        (r.each, steps_more on r.front one old r.mid new r.before r.last) refl r.stops (λ always. always)
