-- A sweep that sends nothing found nothing due; and in an empty flight it is refused as worn, or not at all.
use Rattle.std.proofs.Common.{◌≡◌, ◌⊎◌, inl, inr, ⊎_elim, ℕ, suc, ◌+◌, ◌≤◌, Bool, true, false, List, [], ◌∷◌, length, Option, Some, None, refl, sym, ap, ◌∙◌, subst, nat_eq, true≢false, if◌then◌else◌}
use Rattle.mail_model.specs.Plan.{Plan}
use Rattle.mail_model.specs.Record.{Record}
use Rattle.object_model.specs.Lists.{Among}
use Rattle.object_model.specs.Letters.{Membership}
use Rattle.cluster_model.specs.Cluster as mail_cluster
use Rattle.cluster_model.specs.Room.{Flight}
use Rattle.cluster_model.specs.Steps as mail_steps
use Rattle.cluster_model.specs.Steps.Step.{Post}
use Rattle.whole_model.specs.Whole.{Node, mail_slot}
use Rattle.whole_world.specs.World.{World, mail_world_of, slot_up, IsUp}
use Rattle.whole_world.specs.Steps.{HasNoneDue}
use Rattle.whole_world.specs.Steps.StepOutcome.{Says}
use Rattle.whole_world.specs.Makes.{MakesStep}
use Rattle.whole_world.specs.Makes.Reports.{Sends, HasNone}
use Rattle.whole_world.specs.Makes.DoesStep.{ForMessages, PostsMaps, Starts, OpensGroup, ConcludesGroup, SendsReports}
use Rattle.whole_world.specs.Laws.{Stands}
use Rattle.whole_world.specs.Sweeps.{IsCharted}
use Rattle.whole_world.proofs.Along.{mail_here}
use Rattle.whole_world.proofs.Stepping.{makes_stand}
use Rattle.object_model.specs.Letters.{Member}
use Rattle.cluster_model.specs.Rules as mail_rules
use Rattle.cluster_model.specs.Steps.Step.{PushTo}
use Rattle.whole_world.specs.Steps.Step.{OfMessages, ReportTo}
use Rattle.whole_world.specs.Settled.{IsLive}
use Rattle.whole_world.specs.Sweeps.{Flows, TellsMember, Sweeps}
use Rattle.whole_world.specs.Sweeps.Flows.{Flowed, FlowsOn}
use Rattle.std.proofs.Common.{arith, ◌&&◌, ◌||◌, nat_lt, nat_le}
use Rattle.std.proofs.lemmas.Bool.{le-leb, ne_eqb}
use Rattle.std.specs.FinMap as fin
use Rattle.mail_model.specs.Identity.{Key}
use Rattle.object_model.specs.UpdateLog.{Logged}
use Rattle.cluster_model.specs.Room.{octets_of_all, fits, fitting, due_to, keys_pushed}
use Rattle.cluster_model.specs.Steps.StepFault.{Worn}
use Rattle.whole_world.specs.Steps.{room_left, StepFault, step_fault}
use Rattle.whole_world.specs.Makes.{FindsNoRoom}
use Rattle.std.specs.Option.{option_map}
use Rattle.whole_world.specs.Steps.StepFault.{Fault}
use Rattle.whole_world.specs.Settled.{IsSettled}
use Rattle.whole_world.specs.Sweeps.{PushesFit, IsRefusedAsWorn}
use Rattle.whole_world.proofs.Quieting.{settles}
use Rattle.whole_world.proofs.Staying.{tells_stay, none_calm}
use Rattle.whole_world.proofs.Sending.{whole_sent, first_due, due_of, IsSame, same_on, le_same, push_sent, report_sent, post_sent}

flows_sent : (plan : Plan) (tells : Bool) (w new : World) → Flows plan tells w new → Stands plan w → w.sent ≤ new.sent
flows_sent plan tells w new (Flowed _ _ none e) stands = le_same w.sent new.sent (ap (λ (v : World). v.sent) e)
flows_sent plan tells w new (FlowsOn _ _ flight m low said mid made fine rest) stands =
    let first = post_sent plan tells w mid stands flight.number said made fine in
    let more = flows_sent plan tells mid new rest (makes_stand plan w stands tells (OfMessages (Post flight.number false)) (Says said) mid made) in
    omega (arith, first, more)

flows_stand : (plan : Plan) (tells : Bool) (w new : World) → Flows plan tells w new → Stands plan w → Stands plan new
flows_stand plan tells w new (Flowed _ _ none e) stands = subst (Stands plan) (sym e) stands
flows_stand plan tells w new (FlowsOn _ _ flight m low said mid made fine rest) stands =
    flows_stand plan tells mid new rest (makes_stand plan w stands tells (OfMessages (Post flight.number false)) (Says said) mid made)

flows_none : (plan : Plan) (tells : Bool) (w new : World) → Flows plan tells w new → w.flying ≡ [] → new ≡ w
flows_none plan tells w new (Flowed _ _ none e) still = e
flows_none plan tells w new (FlowsOn _ _ flight m low said mid made fine rest) still = absurd (subst (Among flight) still m)

abbrev IsQuietPair : World → ℕ × ℕ → Type 0
IsQuietPair w pair = (node : Node) (disk : List Record) → IsUp w pair.0 node disk → (due_to pair.0 pair.1 node.mail ≡ []) × HasNoneDue pair.0 pair.1 node.maps

tells_sent : (plan : Plan) (tells : Bool) (from to : ℕ) (w new : World) → TellsMember plan tells from to w new → Stands plan w → w.flying ≡ []
    → (w.sent ≤ new.sent) × (new.sent ≡ w.sent → IsSame w new × IsQuietPair w (from, to))
tells_sent plan tells from to w new t stands still = (omega (arith, first.0, flown, second, third), quiet)
  where
    first : (w.sent ≤ t.pushed.sent) × (t.pushed.sent ≡ w.sent → IsSame w t.pushed × ((node : Node) (disk : List Record) → IsUp w from node disk → due_to from to node.mail ≡ []))
    first = push_sent plan tells w t.pushed stands from to t.push_said t.pushes t.push_fine still

    stands_two : Stands plan t.pushed
    stands_two = makes_stand plan w stands tells (OfMessages (PushTo from to)) (Says t.push_said) t.pushed t.pushes

    flown : t.pushed.sent ≤ t.between.sent
    flown = flows_sent plan tells t.pushed t.between t.flows_first stands_two

    stands_between : Stands plan t.between
    stands_between = flows_stand plan tells t.pushed t.between t.flows_first stands_two

    stands_three : Stands plan t.reported
    stands_three = makes_stand plan t.between stands_between tells (ReportTo from to) (Says t.report_said) t.reported t.reports

    second : t.between.sent ≤ t.reported.sent
    second = report_rises t.reports
      where
        report_rises : MakesStep plan tells t.between (ReportTo from to) (Says t.report_said) t.reported → t.between.sent ≤ t.reported.sent
        report_rises (fits, SendsReports a b step (Sends node disk up users first_due some did r says is)) = subst (λ k. t.between.sent ≤ k) (sym (ap (λ (v : World). v.sent) is)) (whole_sent did.out _)
        report_rises (fits, SendsReports a b step (HasNone node disk up none says is)) = le_same t.between.sent t.reported.sent (ap (λ (v : World). v.sent) is)
        report_rises (fits, ForMessages one step answer says for_mail does follow) = absurd (cc step)
        report_rises (fits, PostsMaps number keep step h) = absurd (cc step)
        report_rises (fits, Starts n step h) = absurd (cc step)
        report_rises (fits, OpensGroup n step h) = absurd (cc step)
        report_rises (fits, ConcludesGroup n step h) = absurd (cc step)

    third : t.reported.sent ≤ new.sent
    third = flows_sent plan tells t.reported new t.flows stands_three

    chain : (a b c d e : ℕ) → a ≤ b → b ≤ c → c ≤ d → d ≤ e → e ≡ a → (b ≡ a) × (d ≡ c)
    chain a b c d e p q r s h = (omega (arith, p, q, r, s, h), omega (arith, p, q, r, s, h))

    quiet : new.sent ≡ w.sent → IsSame w new × IsQuietPair w (from, to)
    quiet e =
        let c = chain w.sent t.pushed.sent t.between.sent t.reported.sent new.sent first.0 flown second third e in
        let one = first.1 c.0 in
        let mid_is : t.between ≡ t.pushed = flows_none plan tells t.pushed t.between t.flows_first one.0.still in
        let mid : IsSame w t.between = record { still = ap (λ (v : World). v.flying) mid_is ∙ one.0.still; ups = λ n x d u. subst (λ (v : World). IsUp v n x d) (sym mid_is) (one.0.ups n x d u) } in
        let two = (report_sent plan tells t.between t.reported stands_between from to t.report_said t.reports t.report_fine mid.still).1 c.1 in
        let end_is : new ≡ t.reported = flows_none plan tells t.reported new t.flows two.0.still in
        let last : IsSame t.reported new = record { still = ap (λ (v : World). v.flying) end_is ∙ two.0.still; ups = λ n x d u. subst (λ (v : World). IsUp v n x d) (sym end_is) u } in (
          same_on w t.between new mid (same_on t.between t.reported new two.0 last),
          λ node disk up. (one.1 node disk up, two.1 node disk (mid.ups from node disk up)),
        )

sweeps_sent : (plan : Plan) (tells : Bool) (pairs : List (ℕ × ℕ)) (w new : World) → Sweeps plan tells pairs w new → Stands plan w → w.flying ≡ []
    → (w.sent ≤ new.sent) × (new.sent ≡ w.sent → (pair : ℕ × ℕ) → Among pair pairs → IsQuietPair w pair)
sweeps_sent plan tells [] w new e stands still = (le_same w.sent new.sent (ap (λ (v : World). v.sent) e), λ q pair m. absurd m)
sweeps_sent plan tells (pair ∷ pairs) w new (mid, first, rest) stands still =
    let s = tells_stay plan tells pair.0 pair.1 w mid first stands (none_calm w still) in
    let one = tells_sent plan tells pair.0 pair.1 w mid first stands still in
    let more = sweeps_sent plan tells pairs mid new rest s.0 s.2 in (
      omega (arith, one.0, more.0),
      λ e.
          let c = chain w.sent mid.sent new.sent one.0 more.0 e in
          let here = one.1 c.0 in
          λ other m. ⊎_elim
          (λ is. subst (IsQuietPair w) is here.1)
          (λ later. λ node disk up. more.1 c.1 other later node disk (here.0.ups other.0 node disk up))
          m,
    )
  where
    chain : (a b c : ℕ) → a ≤ b → b ≤ c → c ≡ a → (b ≡ a) × (c ≡ b)
    chain a b c p q e = (omega (arith, p, q, e), omega (arith, p, q, e))

pub sweeps_send : (plan : Plan) (tells : Bool) (w new : World) (pairs : List (ℕ × ℕ)) → Stands plan w → IsCharted plan w → w.flying ≡ [] → (g : Membership)
    → ((member : Member) → Among member g.members → IsLive w g member)
    → ((a b : Member) → Among a g.members → Among b g.members → (b.node ≡ a.node → ⊥) → Among (a.node, b.node) pairs)
    → Sweeps plan tells pairs w new → (w.sent ≤ new.sent) × (new.sent ≡ w.sent → IsSettled w g)
sweeps_send plan tells w new pairs stands charted still g live all sweeps =
    let s = sweeps_sent plan tells pairs w new sweeps stands still in (
      s.0,
      λ e. settles plan w stands charted g live (λ member other m k apart_ node disk up.
          let q = s.1 e (member.node, other.node) (all member other m k apart_) node disk up in record { pushes = q.0; reports = q.1 apart_ }),
    )

-- what is refused of a sweep
if_true : {X : Type 0} (b : Bool) (x y : X) → b ≡ true → (if b then x else y) ≡ x
if_true true x y e = refl
if_true false x y e = absurd (true≢false (sym e))

if_false : {X : Type 0} (b : Bool) (x y : X) → b ≡ false → (if b then x else y) ≡ y
if_false true x y e = absurd (true≢false e)
if_false false x y e = refl

and_false : (b : Bool) → (b && false) ≡ false
and_false true = refl
and_false false = refl

no_zero : (k : ℕ) → nat_eq (suc k) 0 ≡ false
no_zero k = ne_eqb (suc k) 0 (λ e. omega (arith, e))

-- a push that is due finds room in an empty flight
not_crowded : (own to : ℕ) (node : mail_cluster.Node) (disk : List Record)
    → ((key : Key) (entry : Logged) → fin.get node.log key ≡ Some entry → octets_of_all (mail_rules.push_of own to (mail_cluster.epoch_of node) disk key (Some entry)) ≤ Rattle.cluster_model.specs.Room.most_octets)
    → (nat_lt 0 (length (due_to own to node)) && nat_eq (length (keys_pushed [] own to node disk)) 0) ≡ false
not_crowded own to node disk light = by (due_to own to node) refl
  where
    by : (keys : List Key) → due_to own to node ≡ keys
        → (nat_lt 0 (length keys) && nat_eq (length (fitting (λ key. mail_rules.push_of own to (mail_cluster.epoch_of node) disk key (fin.get node.log key)) 0 0 keys)) 0) ≡ false
    by [] e = refl
    by (key ∷ keys) e =
        let d = first_due to node.log key keys (due_of own to node disk key keys e) in
        let le : octets_of_all (mail_rules.push_of own to (mail_cluster.epoch_of node) disk key (fin.get node.log key)) ≤ Rattle.cluster_model.specs.Room.most_octets =
        subst (λ o. octets_of_all (mail_rules.push_of own to (mail_cluster.epoch_of node) disk key o) ≤ Rattle.cluster_model.specs.Room.most_octets) (sym d.1) (light key d.0 d.1) in
        pick (fits 0 0 (octets_of_all (mail_rules.push_of own to (mail_cluster.epoch_of node) disk key (fin.get node.log key)))) (le-leb (0 + octets_of_all (mail_rules.push_of own to (mail_cluster.epoch_of node) disk key (fin.get node.log key))) Rattle.cluster_model.specs.Room.most_octets (omega (arith, le)))
      where
        pick : (b : Bool) → b ≡ true → (nat_lt 0 (suc (length keys)) && nat_eq (length (if b then key ∷ fitting (λ key. mail_rules.push_of own to (mail_cluster.epoch_of node) disk key (fin.get node.log key)) (0 + 1) (0 + octets_of_all (mail_rules.push_of own to (mail_cluster.epoch_of node) disk key (fin.get node.log key))) keys else [])) 0) ≡ false
        pick true h = ap (λ b. nat_lt 0 (suc (length keys)) && b) (no_zero _) ∙ and_false (nat_lt 0 (suc (length keys)))
        pick false h = absurd (true≢false (sym h))

mail_fault_is : (a b d : Option mail_steps.StepFault) (x : Bool) → a ≡ None → b ≡ None → d ≡ None
    → (option_map Fault (mail_steps.first_fault (a ∷ b ∷ None ∷ (if x then Some Worn else None) ∷ d ∷ [])) ≡ None)
    ⊎ (option_map Fault (mail_steps.first_fault (a ∷ b ∷ None ∷ (if x then Some Worn else None) ∷ d ∷ [])) ≡ Some (Fault Worn))
mail_fault_is None None None true p q r = inr refl
mail_fault_is None None None false p q r = inl refl
mail_fault_is (Some f) b d x p q r = absurd (cc p)
mail_fault_is None (Some f) d x p q r = absurd (cc q)
mail_fault_is None None (Some f) x p q r = absurd (cc r)

whole_fault_is : (a : Option StepFault) (b : Option mail_steps.StepFault) (x : Bool) → a ≡ None → b ≡ None
    → (Rattle.whole_world.specs.Steps.first_refusal (a ∷ option_map Fault b ∷ option_map Fault (if x then Some Worn else None) ∷ []) ≡ None)
    ⊎ (Rattle.whole_world.specs.Steps.first_refusal (a ∷ option_map Fault b ∷ option_map Fault (if x then Some Worn else None) ∷ []) ≡ Some (Fault Worn))
whole_fault_is None None true p q = inr refl
whole_fault_is None None false p q = inl refl
whole_fault_is (Some f) b x p q = absurd (cc p)
whole_fault_is None (Some f) x p q = absurd (cc q)

-- so whatever it is refused for is that
worn_alone : (o : Option StepFault) (fault : StepFault) → (o ≡ None) ⊎ (o ≡ Some (Fault Worn)) → o ≡ Some fault → fault ≡ Fault Worn
worn_alone o fault (inl none) e = absurd (clash fault (sym none ∙ e))
  where
    clash : (fault : StepFault) → None ≡ Some fault → ⊥
    clash fault e = cc
worn_alone o fault (inr worn) e = same fault (Fault Worn) (sym e ∙ worn)
  where
    same : (a b : StepFault) → Some a ≡ Some b → a ≡ b
    same a b e = cc

module _ (plan : Plan) (w : World) (still : w.flying ≡ []) (from to : ℕ) (f : mail_steps.is_node plan from ≡ true) (t : mail_steps.is_node plan to ≡ true) (node : Node) (disk : List Record) (up : IsUp w from node disk) where
  seen : mail_cluster.slot_at (mail_world_of w).slots from ≡ Some (mail_slot (slot_up node disk))
  seen = mail_here w.slots from (slot_up node disk) up

  both : (a b : Bool) → a ≡ true → b ≡ true → (a && (b && true)) ≡ true
  both true true p q = refl
  both true false p q = absurd (true≢false (sym q))
  both false b p q = absurd (true≢false (sym p))

  pub push_worn : PushesFit from to node disk → IsRefusedAsWorn plan w (OfMessages (PushTo from to))
  push_worn light tells fault new (why, same) = ⊎_elim
      (λ faults. worn_alone (step_fault plan (OfMessages (PushTo from to)) w) fault worn faults)
      (λ more. ⊎_elim (λ (none, is, start). is) (λ others. ⊎_elim (λ (none, is, crowded). absurd crowded) (λ unseen. absurd unseen) others) more)
      why
    where
      worn : (step_fault plan (OfMessages (PushTo from to)) w ≡ None) ⊎ (step_fault plan (OfMessages (PushTo from to)) w ≡ Some (Fault Worn))
      worn = mail_fault_is (mail_steps.node_name_fault plan (PushTo from to)) (mail_steps.actor_fault (PushTo from to) (mail_world_of w).slots (Some from)) (mail_steps.room_fault (PushTo from to) (mail_world_of w))
          ((mail_steps.may_send (PushTo from to) w.flying && nat_le mail_steps.letters_end w.sent) || mail_steps.is_worn_by plan (mail_world_of w) (PushTo from to) (Some from))
          (if_true (Rattle.std.specs.List.list_all (mail_steps.is_node plan) (from ∷ to ∷ [])) None (Some Rattle.cluster_model.specs.Steps.StepFault.NoSuchNode) (both (mail_steps.is_node plan from) (mail_steps.is_node plan to) f t))
          (ap (mail_steps.slot_fault (PushTo from to)) seen)
          (if_false (mail_steps.is_crowded_at w.flying from to (mail_cluster.slot_at (mail_world_of w).slots from)) (Some Rattle.cluster_model.specs.Steps.StepFault.NoRoom) None
          (ap (mail_steps.is_crowded_at w.flying from to) seen ∙ ap (λ (k : List Flight). mail_steps.is_crowded_slot k from to (mail_slot (slot_up node disk)) (mail_cluster.Life.Up node.mail)) still ∙ not_crowded from to node.mail disk light))

  pub report_worn : IsRefusedAsWorn plan w (ReportTo from to)
  report_worn tells fault new (why, same) = ⊎_elim
      (λ faults. worn_alone (step_fault plan (ReportTo from to) w) fault worn faults)
      (λ more. ⊎_elim (λ (none, is, start). is) (λ others. ⊎_elim (λ (none, is, crowded). absurd (roomy (sym (ap room_left still) ∙ full_of crowded))) (λ unseen. absurd unseen) others) more)
      why
    where
      worn : (step_fault plan (ReportTo from to) w ≡ None) ⊎ (step_fault plan (ReportTo from to) w ≡ Some (Fault Worn))
      worn = whole_fault_is (Rattle.whole_world.specs.Steps.node_fault plan (from ∷ to ∷ [])) (Rattle.whole_world.specs.Steps.actor_fault from w) (nat_le mail_steps.letters_end w.sent)
          (if_true (mail_steps.is_node plan from) _ (Some (Fault Rattle.cluster_model.specs.Steps.StepFault.NoSuchNode)) f ∙ if_true (mail_steps.is_node plan to) None (Some (Fault Rattle.cluster_model.specs.Steps.StepFault.NoSuchNode)) t)
          (ap (mail_steps.slot_fault (PushTo from from)) seen)

      full_of : FindsNoRoom w from to → room_left w.flying ≡ 0
      full_of c = c.full

      roomy : room_left [] ≡ 0 → ⊥
      roomy e = omega (arith, e)
