-- The steps that a world makes for a run line are those that the machine makes for it.
use Rattle.std.proofs.Common.{◌≡◌, ⊎_elim, inl, inr, ℕ, zero, suc, ◌+◌, nat_eq, Bool, true, false, List, [], ◌∷◌, ◌++◌, map, Option, Some, None, Result, Ok, Err, refl, sym, ap, ◌∙◌, subst, if◌then◌else◌}
use Rattle.std.specs.Prelude.{◌⊎◌, MatchBool}
use Rattle.std.proofs.lemmas.Option.{none-some}
use Rattle.mail_model.specs.Plan.{Plan}
use Rattle.mail_model.specs.Record.{Record}
use Rattle.mail_model.specs.Tape.{ClusterOrder}
use Rattle.mail_model.specs.Tape.{ClusterOrder as order}
use Rattle.session_model.specs.Events.{NodeLife, NodeLife as life, IsUp}
use Rattle.cluster_model.specs.Cluster as plain
use Rattle.cluster_model.specs.Room.{Flight}
use Rattle.cluster_model.specs.World as machine
use Rattle.whole_model.specs.Whole as parts
use Rattle.whole_world.specs.Steps as whole_steps
use Rattle.whole_world.specs.Makes.{MadeStep}
use Rattle.joint_model.specs.Joint as joint
use Rattle.joint_world.specs.World.{World as Machine, mail_world_of}
use Rattle.joint_world.specs.Makes.{MakesAll}
use Rattle.joint_world.proofs.Views.{mail_at, mail_back}
use Rattle.accepted_tapes.specs.Orders as asks
use Rattle.node_store.specs.Disks.{View}
use Rattle.cluster_world.specs.Flights.{first_number}
use Rattle.cluster_world.specs.Lives.{of_node, life_seen}
use Rattle.cluster_world.specs.Worlds.{state_of, life_of, seen_life, node_in, StandsFor}
use Rattle.cluster_world.specs.Telling.{members_seen}
use Rattle.cluster_world.specs.Settling.{IsOfSettle, AreOfSettle}
use Rattle.cluster_world.specs.Settling.IsOfSettle.{Posts, Pushes, Reports}
use Rattle.cluster_world.proofs.Ordered.{reports_none}
use Rattle.cluster_world.specs.Seen.{whole_step, whole_outcome}
use Rattle.cluster_world.specs.Sound.{IsWhole}
use Rattle.cluster_world.specs.Ended.{IsEnded}
use Rattle.cluster_world.specs.Steps.{IsStep}
use Rattle.cluster_world.specs.Made.{StepMade, MakesSteps, IsPost, IsOfRegroup, AreOfRegroup, PostsAll, StepsTo, PushesTo, PushesAll, ReportsAll, MakesOne, has_failed, nodes_but, others_in}
use Rattle.cluster_world.specs.Outcomes.{MakesOrder}
use Rattle.cluster_world.specs.declared.life.Life.{Life}
use Rattle.cluster_world.specs.declared.world.World.{World}
use Rattle.cluster_world.specs.declared.step.Step.{Step}
use Rattle.cluster_world.specs.declared.step.Step.TheVariants as step
use Rattle.cluster_world.specs.declared.step.Said.{Said}
use Rattle.cluster_world.specs.declared.step.Said.TheVariants as said
use Rattle.cluster_world.specs.declared.fault.StepFault.{StepFault}
use Rattle.cluster_world.specs.declared.fault.StepFault.TheVariants as fault
use Rattle.cluster_world.proofs.Chained.{step_stays}
use Rattle.cluster_world.proofs.Leading.{LedWhole, led_whole, same_whole}
use Rattle.cluster_world.proofs.Mirrors.{IsOf}
use Rattle.cluster_world.proofs.Refusals.{IsLifeOf, HasSlot, has_slot, slot_alike}
use Rattle.cluster_world.proofs.Still.{both_at}

-- a step as the machine sees it
abbrev pub made_seen : StepMade → MadeStep
made_seen one = record { step = whole_step one.step; outcome = whole_outcome one.result }

-- it failed there where it failed here
pub failed_alike : (result : Result Said StepFault) → asks.has_failed (whole_outcome result) ≡ has_failed result
failed_alike (Ok (said.Begun ticket stirs)) = refl
failed_alike (Ok said.Noted) = refl
failed_alike (Ok (said.Asked ask)) = refl
failed_alike (Ok said.Heard) = refl
failed_alike (Ok (said.Thrown why)) = refl
failed_alike (Ok (said.Sent letters)) = refl
failed_alike (Ok (said.Widened did)) = refl
failed_alike (Ok (said.Grouped epoch)) = refl
failed_alike (Ok (said.Concluded epoch members)) = refl
failed_alike (Ok (said.NodeUp boot)) = refl
failed_alike (Ok said.Done) = refl
failed_alike (Ok (said.Faulted node)) = refl
failed_alike (Err fault.NoSuchNode) = refl
failed_alike (Err fault.NodeLost) = refl
failed_alike (Err fault.NodeDown) = refl
failed_alike (Err fault.NodeUp) = refl
failed_alike (Err fault.NoSuchLetter) = refl
failed_alike (Err fault.NoSuchTicket) = refl
failed_alike (Err fault.NotAGroup) = refl
failed_alike (Err fault.Worn) = refl
failed_alike (Err fault.NoRoom) = refl
failed_alike (Err (fault.NoMemory down)) = refl

lowest_alike : (flying : List Flight) → asks.lowest flying ≡ first_number flying
lowest_alike [] = refl
lowest_alike (flight ∷ flying) = refl

-- the nodes are counted alike
but_alike : (node left from : ℕ) → asks.nodes_but node left from ≡ nodes_but node left from
but_alike node zero from = refl
but_alike node (suc left) from = ap (λ (l : List ℕ). if nat_eq from node then l else from ∷ l) (but_alike node left (from + 1))

module _ {D : Type 0} (on : View D) (plan : Plan) where
  abbrev pub Known : World D → Type 0
  Known world = IsOf on plan true world

  pub known_on : (result : Result Said StepFault) (made : Step) (old new : World D) → Known old → IsStep on result made old new → Known new
  known_on result made old new of is = let s = step_stays on result made old new is in record { plan_is = s.plan ∙ of.plan_is; told_is = s.told ∙ of.told_is }

  -- a step over disks that tell
  pub led : (result : Result Said StepFault) (made : Step) (old new : World D) → Known old → IsEnded made → IsStep on result made old new → (h : IsWhole on plan old) → LedWhole on plan true result made old new h
  led result made old new of ended is h = led_whole on plan true result made old new of.plan_is of.told_is (inl refl) ended is h

  -- where the steps of a run line lead the machine
  pub record Ordered (asked : ClusterOrder) (steps : List StepMade) (w : Machine) (new : World D) : Type 0 where
    pub whole : IsWhole on plan new
    pub known : IsOf on plan true new
    pub makes : asks.MakesOrder plan asked (map made_seen steps) w whole.v

  -- and where other steps lead it
  record Stepped (Makes : List MadeStep → Machine → Machine → Type 0) (steps : List StepMade) (w : Machine) (new : World D) : Type 0 where
    whole : IsWhole on plan new
    known : IsOf on plan true new
    makes : Makes (map made_seen steps) w whole.v

  one_step : (made : Step) → IsEnded made → (steps : List StepMade) (old new : World D) → Known old → (h : IsWhole on plan old) → MakesOne on made steps old new
      → Stepped (λ ms u v. asks.StepsOnce plan (whole_step made) ms u v) steps h.v new
  one_step made ended steps old new of h (result, are, is) =
      let l = led result made old new of ended is h in
      record { whole = l.whole; known = known_on result made old new of is; makes = (whole_outcome result, ap (map made_seen) are, l.made) }

  posts : (steps : List StepMade) (old new : World D) → Known old → (h : IsWhole on plan old) → PostsAll on steps old new → Stepped (λ ms u v. asks.PostsAll plan ms u v) steps h.v new
  posts [] old new of h (none, same) = record {
    whole = same_whole on plan old new same h;
    known = subst Known (sym same) of;
    makes = (sym h.stands.mail.flying ∙ none, refl);
  }
  posts (one ∷ more) old new of h (letter, mid, first, is, did, ends) = by (has_failed one.result) refl ends (λ p. posts more mid new here l.whole p)
    where
      here : Known mid
      here = known_on one.result one.step old mid of did

      l : LedWhole on plan true one.result one.step old mid h
      l = led one.result one.step old mid of (subst IsEnded (sym is) tt) did h

      lowest : asks.lowest h.v.flying ≡ Some letter
      lowest = lowest_alike h.v.flying ∙ ap first_number (sym h.stands.mail.flying) ∙ first

      by : (b : Bool) → has_failed one.result ≡ b → MatchBool b ((more ≡ []) × (new ≡ mid)) (PostsAll on more mid new)
          → (PostsAll on more mid new → Stepped (λ ms u v. asks.PostsAll plan ms u v) more l.whole.v new) → Stepped (λ ms u v. asks.PostsAll plan ms u v) (one ∷ more) h.v new
      by true failed so rest = record {
        whole = same_whole on plan mid new so.1 l.whole;
        known = subst Known (sym so.1) here;
        makes = (
          letter,
          l.whole.v,
          lowest,
          ap whole_step is,
          l.made,
          subst (λ b. MatchBool b ((map made_seen more ≡ []) × (l.whole.v ≡ l.whole.v)) (asks.PostsAll plan (map made_seen more) l.whole.v l.whole.v)) (sym (failed_alike one.result ∙ failed)) (ap (map made_seen) so.0, refl),
        );
      }
      by false well so rest =
          let r = rest so in
          record {
            whole = r.whole;
            known = r.known;
            makes = (
              letter,
              l.whole.v,
              lowest,
              ap whole_step is,
              l.made,
              subst (λ b. MatchBool b ((map made_seen more ≡ []) × (r.whole.v ≡ l.whole.v)) (asks.PostsAll plan (map made_seen more) l.whole.v r.whole.v)) (sym (failed_alike one.result ∙ well)) r.makes,
            );
          }

  -- any steps but beginnings
  abbrev AllEnded : List StepMade → Type 0
  AllEnded [] = Unit {0}
  AllEnded (one ∷ more) = IsEnded one.step × AllEnded more

  several : (steps : List StepMade) → AllEnded steps → (old new : World D) → Known old → (h : IsWhole on plan old) → MakesSteps on steps old new → Stepped (λ ms u v. MakesAll plan true u ms v) steps h.v new
  several [] ended old new of h same = record { whole = same_whole on plan old new same h; known = subst Known (sym same) of; makes = refl }
  several (one ∷ more) ended old new of h (mid, did, rest) =
      let l = led one.result one.step old mid of ended.0 did h in
      let r = several more ended.1 mid new (known_on one.result one.step old mid of did) l.whole rest in
      record { whole = r.whole; known = r.known; makes = (l.whole.v, l.made, r.makes) }

  pushes_to : (node : ℕ) (others : List ℕ) (steps : List StepMade) → PushesTo node others steps → asks.PushesTo node others (map made_seen steps) × AllEnded steps
  pushes_to node [] steps none = (ap (map made_seen) none, subst AllEnded (sym none) tt)
  pushes_to node (to ∷ others) [] pushes = absurd pushes
  pushes_to node (to ∷ others) (one ∷ more) (is, ends) = by (has_failed one.result) refl ends (λ p. pushes_to node others more p)
    where
      by : (b : Bool) → has_failed one.result ≡ b → MatchBool b (more ≡ []) (PushesTo node others more) → (PushesTo node others more → asks.PushesTo node others (map made_seen more) × AllEnded more)
          → asks.PushesTo node (to ∷ others) (map made_seen (one ∷ more)) × AllEnded (one ∷ more)
      by true failed none rest = (
        (ap whole_step is, subst (λ b. MatchBool b (map made_seen more ≡ []) (asks.PushesTo node others (map made_seen more))) (sym (failed_alike one.result ∙ failed)) (ap (map made_seen) none)),
        (subst IsEnded (sym is) tt, subst AllEnded (sym none) tt),
      )
      by false well so rest =
          let r = rest so in (
            (ap whole_step is, subst (λ b. MatchBool b (map made_seen more ≡ []) (asks.PushesTo node others (map made_seen more))) (sym (failed_alike one.result ∙ well)) r.0),
            (subst IsEnded (sym is) tt, r.1),
          )

  -- a step of a regroup
  regroups_one : (node : ℕ) (one : StepMade) → IsOfRegroup node one → asks.IsOfRegroup node (made_seen one) × IsEnded one.step
  regroups_one node one of = ⊎_elim
      (λ (opens : one.step ≡ step.Group node). (inl (ap whole_step opens), subst IsEnded (sym opens) tt))
      (λ (rest : (one.step ≡ step.Conclude node) ⊎ IsPost one). ⊎_elim
      (λ (concludes : one.step ≡ step.Conclude node). (inr (inl (ap whole_step concludes)), subst IsEnded (sym concludes) tt))
      (λ (post : IsPost one). (inr (inr (post.0, ap whole_step post.1)), subst IsEnded (sym post.1) tt)) rest) of

  regroups : (node : ℕ) (steps : List StepMade) → AreOfRegroup node steps → asks.AreOfRegroup node (map made_seen steps) × AllEnded steps
  regroups node [] of = (tt, tt)
  regroups node (one ∷ more) of = let first = regroups_one node one of.0 in let rest = regroups node more of.1 in ((first.0, rest.0), (first.1, rest.1))

  -- a step of a settle
  settles_one : (one : StepMade) → IsOfSettle one → asks.IsOfSettle (made_seen one) × IsEnded one.step
  settles_one one (Posts post) = (inl (post.0, ap whole_step post.1), subst IsEnded (sym post.1) tt)
  settles_one one (Pushes from to apart is) = (inr (inl (from, to, ap whole_step is)), subst IsEnded (sym is) tt)
  settles_one one (Reports from to apart is) = (inr (inr (from, to, ap whole_step is)), subst IsEnded (sym is) tt)

  settles : (steps : List StepMade) → AreOfSettle steps → asks.AreOf asks.IsOfSettle (map made_seen steps) × AllEnded steps
  settles [] of = (tt, tt)
  settles (one ∷ more) of = let first = settles_one one of.0 in let rest = settles more of.1 in ((first.0, rest.0), (first.1, rest.1))

  pub settle_follows : (steps : List StepMade) (old new : World D) → Known old → (h : IsWhole on plan old) → AreOfSettle steps → MakesSteps on steps old new → Ordered order.Settle steps h.v new
  settle_follows steps old new of h are makes =
      let r = settles steps are in
      let s = several steps r.1 old new of h makes in
      record { whole = s.whole; known = s.known; makes = (r.0, s.makes) }

  -- to tell a map makes no step
  pub map_follows : (user : List ℕ) (old new : World D) → Known old → (h : IsWhole on plan old) → new ≡ old → Ordered (order.Maps user) [] h.v new
  map_follows user old new of h same = record { whole = same_whole on plan old new same h; known = subst Known (sym same) of; makes = (refl, refl) }

  -- the steps of a report
  abbrev AreReports : ℕ → List MadeStep → Type 0
  AreReports node made = asks.AreOf (λ (one : MadeStep). (to : ℕ) × (one.step ≡ whole_steps.Step.ReportTo node to)) made

  reports_to : (node : ℕ) (others : List ℕ) (steps : List StepMade) → StepsTo (step.Report node) others steps → AreReports node (map made_seen steps) × AllEnded steps
  reports_to node [] steps none = (subst (λ (l : List StepMade). AreReports node (map made_seen l)) (sym none) tt, subst AllEnded (sym none) tt)
  reports_to node (to ∷ others) [] reports = absurd reports
  reports_to node (to ∷ others) (one ∷ more) (is, ends) = by (has_failed one.result) ends (λ p. reports_to node others more p)
    where
      by : (b : Bool) → MatchBool b (more ≡ []) (StepsTo (step.Report node) others more) → (StepsTo (step.Report node) others more → AreReports node (map made_seen more) × AllEnded more)
          → AreReports node (map made_seen (one ∷ more)) × AllEnded (one ∷ more)
      by true none rest = (((to, ap whole_step is), subst (λ (l : List StepMade). AreReports node (map made_seen l)) (sym none) tt), (subst IsEnded (sym is) tt, subst AllEnded (sym none) tt))
      by false so rest = let r = rest so in (((to, ap whole_step is), r.0), (subst IsEnded (sym is) tt, r.1))

  -- a node is up for messages
  abbrev WorksMail : machine.World → ℕ → Type 0
  WorksMail w n = (node : plain.Node) × (disk : List Record) × (plain.slot_at w.slots n ≡ Some (record { life = plain.Life.Up node; disk = disk }))

  seen_works : (v : Machine) (n : ℕ) → asks.Works v n → WorksMail (mail_world_of v) n
  seen_works v n (node, disk, up) = (node.whole.mail, disk, mail_at v n (joint.slot_up node disk) up)

  works_seen : (v : Machine) (n : ℕ) → WorksMail (mail_world_of v) n → asks.Works v n
  works_seen v n (node, disk, up) =
      let (slot, at, seen) = mail_back v n (record { life = plain.Life.Up node; disk = disk }) up in
      by slot.life slot refl at seen
    where
      by : (life : joint.Life) (slot : joint.Slot) → slot.life ≡ life → joint.slot_at v.slots n ≡ Some slot → parts.mail_slot (joint.whole_slot slot) ≡ record { life = plain.Life.Up node; disk = disk } → asks.Works v n
      by (joint.Life.Up one) slot is at seen = (one, slot.disk, at ∙ ap (λ (l : joint.Life). Some (record slot { life = l })) is)
      by (joint.Life.Down pending) slot is at seen = absurd (let never : plain.Life.Down pending ≡ plain.Life.Up node = sym (ap (λ (l : joint.Life). (parts.mail_slot (joint.whole_slot (record slot { life = l }))).life) is) ∙ ap (λ (s : plain.Slot). s.life) seen in cc)
      by joint.Life.Lost slot is at seen = absurd (let never : plain.Life.Lost ≡ plain.Life.Up node = sym (ap (λ (l : joint.Life). (parts.mail_slot (joint.whole_slot (record slot { life = l }))).life) is) ∙ ap (λ (s : plain.Slot). s.life) seen in cc)

  -- a node that there is not is not there
  none_there : (old : World D) (w : machine.World) → StandsFor on old w → (node : ℕ) (slot : plain.Slot) → of_node (state_of old).lives node ≡ None → plain.slot_at w.slots node ≡ Some slot → ⊥
  none_there old w stands zero slot none here = none-some slot here
  none_there old w stands (suc k) slot none here = let (one, f) = both_at (state_of old).lives w.slots k slot stands.slots.count here in none-some one (sym none ∙ f)

  -- a node that is up there is up here
  up_here_mail : (old : World D) (w : machine.World) → StandsFor on old w → (node : ℕ) → WorksMail w node → IsUp (life_of old node)
  up_here_mail old w stands node works = by (of_node (state_of old).lives node) refl
    where
      by : (o : Option Life) → of_node (state_of old).lives node ≡ o → IsUp (life_of old node)
      by None none = absurd (none_there old w stands node _ none works.2)
      by (Some one) here =
          let has = has_slot on (state_of old) w (old.nodes.disk_each ∙ sym old.nodes.all) stands node one here in
          let up : has.slot.life ≡ plain.Life.Up works.0 = ap (λ (o : Option plain.Slot). life_in o) (sym has.slot_here ∙ works.2) in
          subst (λ o. IsUp (seen_life o)) (sym here) (alike (life_seen one) has.slot.life up (slot_alike on node one has.disk has.slot has.stands))
        where
          life_in : Option plain.Slot → plain.Life
          life_in None = plain.Life.Lost
          life_in (Some slot) = slot.life

          alike : (l : NodeLife) (there : plain.Life) → there ≡ plain.Life.Up works.0 → IsLifeOf l there → IsUp l
          alike (life.Up boot) there is same = tt
          alike life.Down there is same = absurd (subst (λ (t : plain.Life). IsLifeOf life.Down t) is same)
          alike life.Lost there is same = absurd (subst (λ (t : plain.Life). IsLifeOf life.Lost t) is same)

  -- and one that is up here is up there
  up_there_mail : (old : World D) (w : machine.World) → StandsFor on old w → (node : ℕ) → IsUp (life_of old node) → WorksMail w node
  up_there_mail old w stands node up = by (of_node (state_of old).lives node) refl
    where
      by : (o : Option Life) → of_node (state_of old).lives node ≡ o → WorksMail w node
      by None none = absurd (subst (λ o. IsUp (seen_life o)) none up)
      by (Some one) here =
          let has = has_slot on (state_of old) w (old.nodes.disk_each ∙ sym old.nodes.all) stands node one here in
          alike has.slot has.slot.life refl has.slot_here (life_seen one) (subst (λ o. IsUp (seen_life o)) here up) (slot_alike on node one has.disk has.slot has.stands)
        where
          alike : (slot : plain.Slot) (there : plain.Life) → slot.life ≡ there → plain.slot_at w.slots node ≡ Some slot → (l : NodeLife) → IsUp l → IsLifeOf l there → WorksMail w node
          alike slot (plain.Life.Up state) lives at (life.Up boot) is same = (state, slot.disk, at ∙ ap (λ (t : plain.Life). Some (record slot { life = t })) lives)
          alike slot (plain.Life.Down pending) lives at (life.Up boot) is same = absurd same
          alike slot plain.Life.Lost lives at (life.Up boot) is same = absurd same
          alike slot there lives at life.Down is same = absurd is
          alike slot there lives at life.Lost is same = absurd is

  up_here : (old : World D) (h : IsWhole on plan old) (node : ℕ) → asks.Works h.v node → IsUp (life_of old node)
  up_here old h node works = up_here_mail old (mail_world_of h.v) h.stands.mail node (seen_works h.v node works)

  up_there : (old : World D) (h : IsWhole on plan old) (node : ℕ) → IsUp (life_of old node) → asks.Works h.v node
  up_there old h node up = works_seen h.v node (up_there_mail old (mail_world_of h.v) h.stands.mail node up)

  pub order_follows : (asked : ClusterOrder) (steps : List StepMade) (old new : World D) → Known old → (h : IsWhole on plan old) → MakesOrder on asked steps old new → Ordered asked steps h.v new
  order_follows (order.Crash node) steps old new of h makes = let s = one_step (step.Crash node) tt steps old new of h makes in record { whole = s.whole; known = s.known; makes = s.makes }
  order_follows (order.Start node) steps old new of h makes = let s = one_step (step.Start node) tt steps old new of h makes in record { whole = s.whole; known = s.known; makes = s.makes }
  order_follows (order.Lose node) steps old new of h makes = let s = one_step (step.Lose node) tt steps old new of h makes in record { whole = s.whole; known = s.known; makes = s.makes }
  order_follows (order.Post letter) steps old new of h makes = let s = one_step (step.Post letter false) tt steps old new of h makes in record { whole = s.whole; known = s.known; makes = s.makes }
  order_follows (order.Again letter) steps old new of h makes = let s = one_step (step.Post letter true) tt steps old new of h makes in record { whole = s.whole; known = s.known; makes = s.makes }
  order_follows (order.Drop letter) steps old new of h makes = let s = one_step (step.Drop letter) tt steps old new of h makes in record { whole = s.whole; known = s.known; makes = s.makes }
  order_follows order.Flow steps old new of h makes = let s = posts steps old new of h makes in record { whole = s.whole; known = s.known; makes = s.makes }
  order_follows (order.Widen at user id to) steps old new of h makes = let s = one_step (step.Widen at user id to) tt steps old new of h makes in record { whole = s.whole; known = s.known; makes = s.makes }
  order_follows (order.Group node) steps old new of h makes = let s = one_step (step.Group node) tt steps old new of h makes in record { whole = s.whole; known = s.known; makes = s.makes }
  order_follows (order.Conclude node) steps old new of h makes = let s = one_step (step.Conclude node) tt steps old new of h makes in record { whole = s.whole; known = s.known; makes = s.makes }
  order_follows (order.Regroup node) steps old new of h makes =
      let r = regroups node steps makes.1.of in
      let s = several steps r.1 old new of h makes.1.made in
      record { whole = s.whole; known = s.known; makes = (r.0, s.makes) }
  order_follows (order.Report node) steps old new of h makes =
      let r = reports_to node (others_in node (members_seen (node_in (state_of old) node)) 16) steps makes.0 in
      let s = several steps r.1 old new of h makes.1 in
      record {
        whole = s.whole;
        known = s.known;
        makes = (record { are = r.0; else_none = λ down. ap (map made_seen) (reports_none on node steps old (λ up. down (up_there old h node up)) makes.0) }, s.makes);
      }
  order_follows order.Settle steps old new of h makes = absurd makes
  order_follows (order.Maps user) steps old new of h makes = absurd makes
  order_follows (order.Tick seconds) steps old new of h makes = let s = one_step (step.Tick seconds) tt steps old new of h makes in record { whole = s.whole; known = s.known; makes = s.makes }
  order_follows order.Sum steps old new of h (none, same) = record {
    whole = same_whole on plan old new same h;
    known = subst Known (sym same) of;
    makes = (ap (map made_seen) none, refl);
  }
  order_follows (order.Push node) steps old new of h makes =
      let s = several steps ended old new of h makes.1 in
      record { whole = s.whole; known = s.known; makes = (record { up = λ works. (pushed works).0; else_none = λ down. ap (map made_seen) (makes.0.else_none (λ up. down (up_there old h node up))) }, s.makes) }
    where
      nodes_are : nodes_but node plan.nodes 1 ≡ asks.nodes_but node plan.nodes 1
      nodes_are = sym (but_alike node plan.nodes 1)

      pushed : asks.Works h.v node → asks.PushesTo node (asks.nodes_but node plan.nodes 1) (map made_seen steps) × AllEnded steps
      pushed works =
          let to = pushes_to node (nodes_but node plan.nodes 1) steps (subst (λ (p : Plan). PushesTo node (nodes_but node p.nodes 1) steps) of.plan_is (makes.0.up (up_here old h node works))) in
          (subst (λ (l : List ℕ). asks.PushesTo node l (map made_seen steps)) nodes_are to.0, to.1)

      ended : AllEnded steps
      ended = by (life_of old node) refl
        where
          by : (l : NodeLife) → life_of old node ≡ l → AllEnded steps
          by (life.Up boot) is = (pushed (up_there old h node (subst IsUp (sym is) tt))).1
          by life.Down is = subst AllEnded (sym (makes.0.else_none (subst IsUp is))) tt
          by life.Lost is = subst AllEnded (sym (makes.0.else_none (subst IsUp is))) tt
