-- What a Report comes to: rows go out, none is due, or there is no room for what is due; and it is one of these alone.
use Rattle.std.proofs.Common.{◌≡◌, ◌≢◌, ◌⊎◌, inl, inr, ⊎_elim, ℕ, zero, suc, ◌≤◌, Bool, true, false, List, [], ◌∷◌, length, map, min, take, Option, Some, None, refl, sym, ap, ◌∙◌, subst, true≢false, arith}
use Rattle.std.proofs.lemmas.Bool.{and_parts}
use Rattle.std.specs.List.{filter}
use Rattle.std.specs.Option.{option_map}
use Rattle.mail_model.specs.Plan.{Plan}
use Rattle.mail_model.specs.Record.{Record}
use Rattle.object_model.specs.Lists.{Among}
use Rattle.object_model.specs.Letters.{Membership}
use Rattle.object_model.specs.Letters.Body.{Report}
use Rattle.cluster_model.specs.Cluster as mail_cluster
use Rattle.cluster_model.specs.Steps as mail_steps
use Rattle.cluster_model.specs.Steps.Said.{Sent}
use Rattle.cluster_model.specs.Steps.Step.{PushTo}
use Rattle.cluster_model.specs.Steps.StepFault.{NoRoom}
use Rattle.maps_model.specs.Cluster as maps
use Rattle.maps_model.specs.Rules as maps_rules
use Rattle.maps_model.proofs.Lists.{same_or_apart, node_is}
use Rattle.whole_model.specs.Whole.{Node, Slot, slot_at, maps_disk_of}
use Rattle.whole_model.specs.Whole.Life.{Up}
use Rattle.whole_world.specs.World.{World, mail_world_of, slot_up, IsUp, after}
use Rattle.whole_world.specs.Steps.{Said, StepFault, StepOutcome, is_due, room_left, most_reports, most_at_once, AreFirstDue, HasDue, HasNoneDue, actor_fault, letters_worn, first_refusal, node_fault, step_fault}
use Rattle.whole_world.specs.Steps.Said.{Told}
use Rattle.whole_world.specs.Steps.Step.{ReportTo}
use Rattle.whole_world.specs.Steps.StepFault.{Fault}
use Rattle.whole_world.specs.Steps.StepOutcome.{Says, Refused, NoMemory}
use Rattle.whole_world.specs.Makes.{done_for_maps, Reports, FindsNoRoom, MakesStep}
use Rattle.whole_world.specs.Makes.Reports.{Sends, HasNone}
use Rattle.whole_world.specs.Makes.DoesStep.{ForMessages, PostsMaps, Starts, OpensGroup, ConcludesGroup, SendsReports}
use Rattle.whole_world.specs.Reporting.{AreMarked, MemoryLasted}
use Rattle.whole_world.proofs.Along.{up_slot}
use Rattle.whole_world.proofs.FirstDue.{found_due, due_are_one}

slots_are : (o : Option Slot) (a b : Slot) → o ≡ Some a → o ≡ Some b → a ≡ b
slots_are o a b p q = cc

up_is : (a b : Node) → Up a ≡ Up b → a ≡ b
up_is a b e = cc

inside : (a b : StepFault) → Some a ≡ Some b → a ≡ b
inside a b e = cc

none_some : (f : StepFault) (o : Option StepFault) → o ≡ None → o ≡ Some f → ⊥
none_some f o p q = cc

-- a Report of a node that is known
module _ (w : World) (from to : ℕ) (node : Node) (disk : List Record) where
  pub data Comes (said : Said) (new : World) : Type 0 where
    GoOut : (users : List (List ℕ)) → AreFirstDue to (most_at_once w.flying) node.maps users → users ≢ [] → (did : maps_rules.Reaction)
        → maps_rules.Reports from to users node.maps (maps_disk_of disk) did → said ≡ Told (Sent (length users)) → new ≡ after w from (done_for_maps node disk did None did.out) → Comes said new
    NoneDue : HasNoneDue from to node.maps → said ≡ Told (Sent 0) → new ≡ w → Comes said new

comes_to : (w : World) (from to : ℕ) (node : Node) (disk : List Record) → IsUp w from node disk → (said : Said) (new : World) → Reports w from to said new → Comes w from to node disk said new
comes_to w from to node disk up said new (Sends other its there users first some did r says is) = by there
    (λ e d. subst (λ (n : Node). Comes w from to n disk said new) e (subst (λ (k : List Record). Comes w from to other k said new) d (Comes.GoOut users first some did r says is)))
  where
    by : IsUp w from other its → (other ≡ node → its ≡ disk → Comes w from to node disk said new) → Comes w from to node disk said new
    by there go = let slot = slots_are (slot_at w.slots from) (slot_up other its) (slot_up node disk) there up in go (up_is other node (ap (λ (s : Slot). s.life) slot)) (ap (λ (s : Slot). s.disk) slot)
comes_to w from to node disk up said new (HasNone other its there none says is) = by there
    (λ e d. subst (λ (n : Node). Comes w from to n disk said new) e (subst (λ (k : List Record). Comes w from to other k said new) d (Comes.NoneDue none says is)))
  where
    by : IsUp w from other its → (other ≡ node → its ≡ disk → Comes w from to node disk said new) → Comes w from to node disk said new
    by there go = let slot = slots_are (slot_at w.slots from) (slot_up other its) (slot_up node disk) there up in go (up_is other node (ap (λ (s : Slot). s.life) slot)) (ap (λ (s : Slot). s.disk) slot)

module _ (w : World) (from to : ℕ) (node : Node) (disk : List Record) where
  abbrev At : Said → World → Type 0
  At = Comes w from to node disk

  -- rows that go out are due to another node
  some_due : (users : List (List ℕ)) → AreFirstDue to (most_at_once w.flying) node.maps users → users ≢ [] → to ≢ from → HasDue from to node.maps
  some_due [] first some other = absurd (some refl)
  some_due (user ∷ users) first some other = (other, user, first.due user (inl refl))

  not_none : HasDue from to node.maps → HasNoneDue from to node.maps → ⊥
  not_none (other, user, due) none = true≢false (sym due ∙ none other user)

  one_epoch : (a b : Membership) → node.maps.installed ≡ Some a → node.maps.installed ≡ Some b → a ≡ b
  one_epoch a b p q = cc

  both_ways : (said : Said) (new : World) (other : Said) (also : World) → At said new → At other also → (said ≡ other) × (new ≡ also)
  both_ways said new other also (Comes.NoneDue none says is) (Comes.NoneDue none_ says_ is_) = (says ∙ sym says_, is ∙ sym is_)
  both_ways said new other also (Comes.NoneDue none says is) (Comes.GoOut users first some did r says_ is_) = absurd (not_none (some_due users first some r.other) none)
  both_ways said new other also (Comes.GoOut users first some did r says is) (Comes.NoneDue none says_ is_) = absurd (not_none (some_due users first some r.other) none)
  both_ways said new other also (Comes.GoOut users first some did r says is) (Comes.GoOut users_ first_ some_ did_ r_ says_ is_) =
      let same : users ≡ users_ = due_are_one to (most_at_once w.flying) node.maps users users_ first first_ in
      let epochs : r.membership ≡ r_.membership = one_epoch r.membership r_.membership r.within r_.within in
      let done : did ≡ did_ = r.is ∙ (λ i. reaction (epochs i) (same i)) ∙ sym r_.is in (
        says ∙ ap (λ (u : List (List ℕ)). Told (Sent (length u))) same ∙ sym says_,
        is ∙ ap (λ (d : maps_rules.Reaction). after w from (done_for_maps node disk d None d.out)) done ∙ sym is_,
      )
    where
      reaction : Membership → List (List ℕ) → maps_rules.Reaction
      reaction g users = record {
        node = node.maps;
        disk = maps_disk_of disk;
        out = map (λ user. record { from = from; to = to; epoch = g.epoch; ticket = None; body = Report (maps_rules.own_row from node.maps (maps_disk_of disk) user) }) users;
      }

  -- without room nothing goes out
  no_room : (said : Said) (new : World) → At said new → HasDue from to node.maps → room_left w.flying ≡ 0 → ⊥
  no_room said new (Comes.NoneDue none says is) due full = not_none due none
  no_room said new (Comes.GoOut users first some did r says is) due full = by users some (subst (λ k. length users ≤ min k most_reports) full first.few)
    where
      by : (us : List (List ℕ)) → us ≢ [] → length us ≤ 0 → ⊥
      by [] some few = some refl
      by (u ∷ us) some few = omega (arith, few)

module _ (plan : Plan) (tells : Bool) (w : World) (from to : ℕ) where
  abbrev Makes : StepOutcome → World → Type 0
  Makes outcome new = MakesStep plan tells w (ReportTo from to) outcome new

  reported : (said : Said) (new : World) → Makes (Says said) new → Reports w from to said new
  reported said new (fits, SendsReports a b step h) = subst (λ k. Reports w k to said new) (same a b step).0 (subst (λ k. Reports w a k said new) (same a b step).1 h)
    where
      same : (a b : ℕ) → ReportTo from to ≡ ReportTo a b → (a ≡ from) × (b ≡ to)
      same a b e = (cc, cc)
  reported said new (fits, ForMessages one step answer says for_mail does follow) = absurd (cc step)
  reported said new (fits, PostsMaps number keep step h) = absurd (cc step)
  reported said new (fits, Starts n step h) = absurd (cc step)
  reported said new (fits, OpensGroup n step h) = absurd (cc step)
  reported said new (fits, ConcludesGroup n step h) = absurd (cc step)

  up_of : (said : Said) (new : World) → Reports w from to said new → (node : Node) × (disk : List Record) × IsUp w from node disk
  up_of said new (Sends node disk up users first some did r says is) = (node, disk, up)
  up_of said new (HasNone node disk up none says is) = (node, disk, up)

  -- it is refused for a fault, or since there is no room
  causes : (fault : StepFault) (new : World) → Makes (Refused fault) new
      → (step_fault plan (ReportTo from to) w ≡ Some fault) ⊎ ((step_fault plan (ReportTo from to) w ≡ None) × (fault ≡ Fault NoRoom) × FindsNoRoom w from to)
  causes fault new (why, same) = ⊎_elim
      (λ faults. inl faults)
      (λ more. ⊎_elim (λ (none, is, start). absurd start) (λ others. ⊎_elim (λ crowded. inr crowded) (λ unseen. absurd unseen) others) more)
      why

  -- what is made is not refused
  not_refused : (said : Said) (new : World) (fault : StepFault) (other : World) → Makes (Says said) new → Makes (Refused fault) other → ⊥
  not_refused said new fault other made refused = ⊎_elim
      (λ faults. none_some fault (step_fault plan (ReportTo from to) w) made.0 faults)
      (λ (none, is, crowded). crowds crowded)
      (causes fault other refused)
    where
      crowds : FindsNoRoom w from to → ⊥
      crowds c = no_room w from to c.node c.disk said new (comes_to w from to c.node c.disk c.up said new (reported said new made)) c.due c.full

  -- and it is refused for one cause
  one_fault : (a b : StepFault) (one two : World) → Makes (Refused a) one → Makes (Refused b) two → a ≡ b
  one_fault a b one two first second = ⊎_elim
      (λ faults. ⊎_elim
      (λ faults_. inside a b (sym faults ∙ faults_))
      (λ (none, is, crowded). absurd (none_some a (step_fault plan (ReportTo from to) w) none faults))
      (causes b two second))
      (λ (none, is, crowded). ⊎_elim
      (λ faults_. absurd (none_some b (step_fault plan (ReportTo from to) w) none faults_))
      (λ (none_, is_, crowded_). is ∙ sym is_)
      (causes b two second))
      (causes a one first)

  pub one_outcome : (a b : StepOutcome) (one two : World) → MemoryLasted a → MemoryLasted b → Makes a one → Makes b two → (a ≡ b) × (one ≡ two)
  one_outcome (Says said) (Says other) one two _ _ p q =
      let r = reported said one p in
      let u = up_of said one r in
      let same = both_ways w from to u.0 u.1 said one other two (comes_to w from to u.0 u.1 u.2 said one r) (comes_to w from to u.0 u.1 u.2 other two (reported other two q)) in
      (ap Says same.0, same.1)
  one_outcome (Says said) (Refused fault) one two _ _ p q = absurd (not_refused said one fault two p q)
  one_outcome (Refused fault) (Says said) one two _ _ p q = absurd (not_refused said two fault one q p)
  one_outcome (Refused fault) (Refused other) one two _ _ p q = (ap Refused (one_fault fault other one two p q), p.1 ∙ sym q.1)
  one_outcome (NoMemory down) b one two t _ p q = absurd t
  one_outcome a (NoMemory down) one two _ t p q = absurd t

  -- it comes to something
  abbrev ComesTo : Type 0
  ComesTo = (outcome : StepOutcome) × (new : World) × MemoryLasted outcome × Makes outcome new

  module _ (goes : step_fault plan (ReportTo from to) w ≡ None) (node : Node) (disk : List Record) (up : IsUp w from node disk) where
    none_sent : HasNoneDue from to node.maps → ComesTo
    none_sent none = (Says (Told (Sent 0)), w, tt, (goes, SendsReports from to refl (HasNone node disk up none refl refl)))

    module _ (other : to ≢ from) (users : List (List ℕ)) (marked : AreMarked node.maps users) where
      abbrev due : List (List ℕ)
      due = filter (maps.manages_in node.maps.installed to) users

      -- as many go out as there is room for
      send : (g : Membership) → node.maps.installed ≡ Some g → (most : ℕ) → most_at_once w.flying ≡ most → take most due ≢ [] → ComesTo
      send g installed most is some = (
        Says (Told (Sent (length (take most due)))),
        after w from (done_for_maps node disk did None did.out),
        tt,
        (goes, SendsReports from to refl (Sends node disk up (take most due) first some did (record { membership = g; within = installed; other = other; due = sends; is = refl }) refl refl)),
      )
        where
          first : AreFirstDue to (most_at_once w.flying) node.maps (take most due)
          first = subst (λ k. AreFirstDue to k node.maps (take most due)) (sym is) (found_due to most node.maps users marked)

          did : maps_rules.Reaction
          did = record {
            node = node.maps;
            disk = maps_disk_of disk;
            out = map (λ user. record { from = from; to = to; epoch = g.epoch; ticket = None; body = Report (maps_rules.own_row from node.maps (maps_disk_of disk) user) }) (take most due);
          }

          sends : (user : List ℕ) → Among user (take most due) → (node.maps.marked user ≡ true) × (maps.manager_of g user ≡ Some to)
          sends user m =
              let parts = and_parts (node.maps.marked user) (maps.manages_in node.maps.installed to user) (first.due user m) in
              (parts.0, node_is (maps.manager_of g user) to (sym (ap (λ o. maps.manages_in o to user) installed) ∙ parts.1))

      some_in : (user : List ℕ) (more : List (List ℕ)) → due ≡ user ∷ more → is_due to node.maps user ≡ true
      some_in user more e = (found_due to 1 node.maps users marked).due user (subst (λ l. Among user (take 1 l)) (sym e) (inl refl))

      in_epoch : (user : List ℕ) (more : List (List ℕ)) → due ≡ user ∷ more → (o : Option Membership) → node.maps.installed ≡ o → ComesTo
      in_epoch user more e None is = absurd (true≢false (sym (and_parts (node.maps.marked user) (maps.manages_in node.maps.installed to user) (some_in user more e)).1 ∙ ap (λ o. maps.manages_in o to user) is))
      in_epoch user more e (Some g) is = by (room_left w.flying) refl
        where
          by : (room : ℕ) → room_left w.flying ≡ room → ComesTo
          by zero full = (
            Refused (Fault NoRoom),
            w,
            tt,
            (inr (inr (inl (goes, refl, record { node = node; disk = disk; up = up; due = (other, user, some_in user more e); full = full }))), refl),
          )
          by (suc room) left = at (most_at_once w.flying) refl (subst (λ k. 1 ≤ min k most_reports) (sym left) (one_at_least room))
            where
              one_at_least : (room : ℕ) → 1 ≤ min (suc room) most_reports
              one_at_least room = omega arith

              at : (most : ℕ) → most_at_once w.flying ≡ most → 1 ≤ most → ComesTo
              at zero is_most some = absurd (omega (arith, some))
              at (suc most) is_most some = send g is (suc most) is_most (λ none. clash user (take most more) (sym (ap (take (suc most)) e) ∙ none))
                where
                  clash : (user : List ℕ) (rest : List (List ℕ)) → user ∷ rest ≡ [] → ⊥
                  clash user rest e = cc

      none_in : due ≡ [] → HasNoneDue from to node.maps
      none_in e apart user = by (is_due to node.maps user) refl
        where
          nobody : (most : ℕ) → Among user (take most []) → ⊥
          nobody zero m = m
          nobody (suc most) m = m

          by : (b : Bool) → is_due to node.maps user ≡ b → is_due to node.maps user ≡ false
          by false h = h
          by true h = ⊎_elim
              (λ m. absurd (nobody 1 (subst (λ l. Among user (take 1 l)) e m)))
              (λ past. absurd (short (length (take 1 due)) past.0 (ap (λ (l : List (List ℕ)). length (take 1 l)) e)))
              ((found_due to 1 node.maps users marked).others user h)
            where
              short : (a : ℕ) → a ≡ 1 → a ≡ 0 → ⊥
              short a p q = omega (arith, p, q)

      by_due : (l : List (List ℕ)) → due ≡ l → ComesTo
      by_due [] e = none_sent (none_in e)
      by_due (user ∷ more) e = in_epoch user more e node.maps.installed refl

  -- who acts is up
  refusal_rest : (a : Option StepFault) (rest : List (Option StepFault)) → first_refusal (a ∷ rest) ≡ None → (a ≡ None) × (first_refusal rest ≡ None)
  refusal_rest None rest e = (refl, e)
  refusal_rest (Some f) rest e = absurd (cc e)

  no_fault : (o : Option mail_steps.StepFault) → option_map Fault o ≡ None → o ≡ None
  no_fault None e = refl
  no_fault (Some f) e = absurd (cc e)

  acts : step_fault plan (ReportTo from to) w ≡ None → actor_fault from w ≡ None
  acts goes = no_fault (actor_fault from w)
      (refusal_rest (option_map Fault (actor_fault from w)) (option_map Fault (letters_worn w) ∷ []) (refusal_rest (node_fault plan (from ∷ to ∷ [])) (option_map Fault (actor_fault from w) ∷ option_map Fault (letters_worn w) ∷ []) goes).1).0

  is_up : actor_fault from w ≡ None → (node : Node) × (disk : List Record) × IsUp w from node disk
  is_up e = by (mail_cluster.slot_at (mail_world_of w).slots from) refl (e)
    where
      at_life : (slot : mail_cluster.Slot) (life : mail_cluster.Life) → slot.life ≡ life → mail_cluster.slot_at (mail_world_of w).slots from ≡ Some slot → mail_steps.life_fault (PushTo from from) life ≡ None
          → (node : Node) × (disk : List Record) × IsUp w from node disk
      at_life slot (mail_cluster.Life.Up a) is here none = let u = up_slot w.slots from a slot.disk (here ∙ ap (λ (l : mail_cluster.Life). Some (record { life = l; disk = slot.disk })) is) in (u.0, slot.disk, u.1)
      at_life slot (mail_cluster.Life.Down pending) is here none = absurd (cc none)
      at_life slot mail_cluster.Life.Lost is here none = absurd (cc none)

      by : (o : Option mail_cluster.Slot) → mail_cluster.slot_at (mail_world_of w).slots from ≡ o → mail_steps.slot_fault (PushTo from from) o ≡ None → (node : Node) × (disk : List Record) × IsUp w from node disk
      by None is none = absurd (cc none)
      by (Some slot) is none = at_life slot slot.life refl is none

  pub comes : ((node : Node) (disk : List Record) → IsUp w from node disk → (users : List (List ℕ)) × AreMarked node.maps users) → ComesTo
  comes listed = by (step_fault plan (ReportTo from to) w) refl
    where
      by : (o : Option StepFault) → step_fault plan (ReportTo from to) w ≡ o → ComesTo
      by (Some fault) faults = (Refused fault, w, tt, (inl faults, refl))
      by None goes =
          let u = is_up (acts goes) in
          let l = listed u.0 u.1 u.2 in
          ⊎_elim
          (λ same. none_sent goes u.0 u.1 u.2 (λ apart user. absurd (apart same.1)))
          (λ apart. by_due goes u.0 u.1 u.2 apart.1 l.0 l.1 (filter (maps.manages_in u.0.maps.installed to) l.0) refl)
          (same_or_apart to from)
