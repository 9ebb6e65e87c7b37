-- A node that regroups forms an epoch of just the nodes that are up.
use Rattle.std.proofs.Common.{◌≡◌, ◌≢◌, inl, inr, ⊎_elim, ℕ, suc, ◌+◌, ◌≤◌, ◌<◌, Bool, List, [], ◌++◌, append-nil, length, flat_map, Option, Some, None, refl, sym, ap, ◌∙◌, subst, arith}
use Rattle.mail_model.specs.Identity.{EpochId}
use Rattle.mail_model.specs.Plan.{Plan}
use Rattle.mail_model.specs.Record.{Record}
use Rattle.object_model.specs.Lists.{Among}
use Rattle.object_model.specs.Letters.{Member, Membership, Letter}
use Rattle.object_model.specs.Letters.Body.{Install}
use Rattle.cluster_model.specs.Room.{Flight}
use Rattle.maps_model.specs.Cluster as maps
use Rattle.maps_model.specs.Words as words
use Rattle.maps_model.specs.Epochs.{IsBefore, IsAtMost}
use Rattle.maps_model.specs.Rules as maps_rules
use Rattle.maps_model.specs.RoundLaws.{HasJoinOf}
use Rattle.maps_model.proofs.Installing.{found_joined}
use Rattle.maps_model.proofs.Lists.{same_or_apart}
use Rattle.maps_model.proofs.Making.{epoch_promised}
use Rattle.maps_model.proofs.Grouping.{next_later}
use Rattle.maps_model.proofs.Order.{before_not_most, before_not_same, most_most}
use Rattle.whole_model.specs.Whole.{Node, maps_slot, maps_disk_of}
use Rattle.whole_world.specs.World.{World, maps_world_of, slot_up, IsUp, put}
use Rattle.whole_world.specs.Steps.{Said}
use Rattle.whole_world.specs.Steps.Step.{ConcludeGroup}
use Rattle.whole_world.specs.Steps.Said.{Concluded}
use Rattle.whole_world.specs.Steps.StepOutcome.{Says}
use Rattle.whole_world.specs.Makes.{MakesStep}
use Rattle.whole_world.specs.Laws.{Stands}
use Rattle.whole_world.specs.Regroup.{PostsEach, ThrownOld, Round, ConcludesAll, Regroups, maps_at, AreNumbered, HasRoomFor, HasFormed}
use Rattle.whole_world.specs.Regroup.Regroups.{AtOnce, Again}
use Rattle.whole_world.proofs.Along.{maps_here}
use Rattle.whole_world.proofs.Turning.{ordered}
use Rattle.whole_world.proofs.Viewing.{numbered, AreLight, AllPut, put_all}
use Rattle.whole_world.proofs.Rounding.{some_same, none_some, view_up, RoundDone, round_done}
use Rattle.whole_world.proofs.Entering.{round_stands, member_found, IsReadyAt, AllEntered, Formed, concludes_group, concluded_tells, install_to, installs_few, installs_light, installs_of, installs_to, installs_all}

module _ (plan : Plan) (tells : Bool) (old : World) (stands : Stands plan old) (low : AreNumbered old) (room : HasRoomFor (suc plan.nodes) old.flying) (n : ℕ) (epoch : EpochId) (saids : List Said) (mid : World)
    (r : RoundDone old mid n epoch saids plan.nodes) (newest : (q : ℕ) (z : maps.Node) → maps_at mid q ≡ Some z → IsBefore epoch z.promise → Among ThrownOld saids → ⊥) where
  -- what a node that was up has installed is of an earlier epoch
  earlier : (q : ℕ) (u : maps.Node) → maps_at old q ≡ Some u → IsAtMost u.promise epoch → IsBefore (maps.epoch_of u) epoch
  earlier q u h most = by u.installed refl
    where
      up : (node : Node) × (disk : List Record) × IsUp old q node disk × (node.maps ≡ u)
      up = view_up old q u h

      promised : IsAtMost (maps.epoch_of u) u.promise
      promised = subst (λ (k : maps.Node). IsAtMost (maps.epoch_of k) k.promise) up.3 (epoch_promised q up.0.maps (maps_disk_of up.1) (ordered plan old stands q up.0 up.1 up.2))

      own_up : (node : Node) × (disk : List Record) × IsUp old n node disk × (node.maps ≡ r.x)
      own_up = view_up old n r.x r.before

      -- its own node has promised less
      not_over : words.IsOver (maps_world_of old).slots epoch → ⊥
      not_over over =
          let order = ordered plan old stands n own_up.0 own_up.1 own_up.2 in
          let at : maps.slot_at (maps_world_of old).slots n ≡ Some over.slot = subst (λ k. maps.slot_at (maps_world_of old).slots k ≡ Some over.slot) (ap (λ (e : EpochId). e.node) r.epoch_is) over.here in
          let slots : over.slot ≡ maps_slot (slot_up own_up.0 own_up.1) = some_same (maps.slot_at (maps_world_of old).slots n) over.slot (maps_slot (slot_up own_up.0 own_up.1)) at (maps_here old.slots n (slot_up own_up.0 own_up.1) own_up.2) in
          before_not_most own_up.0.maps.promise epoch
          (subst (IsBefore own_up.0.maps.promise) (ap (maps_rules.next_epoch n) own_up.3 ∙ sym r.epoch_is) (next_later n own_up.0.maps (maps_disk_of own_up.1) order))
          (subst (IsAtMost epoch) (ap (λ (s : maps.Slot). s.disk.promise) slots ∙ sym order.promised) over.promised)

      by : (o : Option Membership) → u.installed ≡ o → IsBefore (maps.epoch_in u.installed) epoch
      by None e = subst (λ (k : Option Membership). IsBefore (maps.epoch_in k) epoch) (sym e) (inl (subst (λ (k : EpochId). 0 < k.count) (sym r.epoch_is) (positive r.x.heard)))
        where
          positive : (k : ℕ) → 0 < k + 1
          positive k = omega arith
      by (Some g) e = ⊎_elim
          (λ (b : IsBefore (maps.epoch_of u) epoch). b)
          (λ (same : maps.epoch_of u ≡ epoch). absurd (not_over (subst (words.IsOver (maps_world_of old).slots) (sym (ap maps.epoch_in e) ∙ same)
          (stands.sound.maps.one.over g (inl (record { n = q; node = up.0.maps; disk = maps_disk_of up.1; here = maps_here old.slots q (slot_up up.0 up.1) up.2; is = ap (λ (k : maps.Node). k.installed) up.3 ∙ e }))))))
          (most_most (maps.epoch_of u) u.promise epoch promised most)

  module _ (members : ℕ) (formed : World) (concludes : MakesStep plan tells mid (ConcludeGroup n) (Says (Concluded epoch members)) formed)
      (installs : List Said) (new : World) (posts : PostsEach plan tells formed mid.sent installs new) (all : formed.sent ≡ mid.sent + length installs) where
    f : Formed plan tells mid n r.y r.here r.group r.opened epoch formed
    f = concludes_group plan tells mid n r.y r.here r.group r.opened epoch members formed concludes

    abbrev g : Membership
    g = maps_rules.membership_of r.group f.rows

    base_is : mid.flying ≡ old.flying
    base_is = r.flying

    out_few : length f.out ≤ suc plan.nodes
    out_few = subst (λ (l : List Letter). length l ≤ suc plan.nodes) (sym f.out_is) (le (length (flat_map (install_to n g) r.group.joins)) (length r.group.joins) (suc plan.nodes) (installs_few n g r.group.joins) r.size)
      where
        le : (a b c : ℕ) → a ≤ b → b ≤ c → a ≤ c
        le a b c p q = omega (arith, p, q)

    put_is : AllPut f.out mid (put f.out mid)
    put_is = put_all (suc plan.nodes) old.flying f.out [] mid (base_is ∙ sym (append-nil old.flying)) room (λ h m. absurd m) (subst AreLight (sym f.out_is) (installs_light n g r.group.joins)) (omega (arith, out_few))

    -- the boot in which a member is named is that in which it is up
    named_boot : (q : ℕ) (member : Member) → maps.member_of g.members q ≡ Some member → (u : maps.Node) → maps_at old q ≡ Some u → member.boot ≡ u.boot
    named_boot q member h u v =
        let j = found_joined r.group.joins q member h in
        let k = r.from j.0 j.1 in
        ap (λ (m : Member). m.boot) (sym j.3) ∙ sym k.2 ∙ ap (λ (x : maps.Node). x.boot) (some_same (maps_at old q) k.0 u (ap (maps_at old) (sym j.2) ∙ k.1) v)

    names_of : (q b : ℕ) → HasJoinOf r.group.joins q b → (u : maps.Node) → maps_at old q ≡ Some u → maps.NamesNode g q u.boot
    names_of q b has u v = let m = member_found r.group.joins q has.join has.inside has.same in record { member = m.0; is = m.1; same = named_boot q m.0 m.1 u v }

    -- each other member is up, is named, and is to enter
    ready : (letter : Letter) → Among letter f.out → (q : ℕ) × (letter ≡ maps_rules.letter_to n (Install g) q) × IsReadyAt g formed q
    ready letter m =
        let i = installs_of n g r.group.joins letter (subst (Among letter) f.out_is m) in
        let k = r.from i.0 i.1 in
        let s = r.stays i.0.member.node k.0 i.3 k.1 in
        let promised : s.0.promise ≡ epoch = ⊎_elim (λ a. a.0) (λ b. absurd (newest i.0.member.node s.0 s.1 b.0 b.1)) s.4 in
        let most : IsAtMost k.0.promise epoch = ⊎_elim (λ same. inr (sym same ∙ promised)) (λ rose. rose.1) s.2.promise in (
          i.0.member.node,
          i.2,
          record {
            x = s.0;
            here = f.others i.0.member.node i.3 ∙ s.1;
            names = subst (maps.NamesNode g i.0.member.node) (sym s.2.boot) (names_of i.0.member.node i.0.member.boot (record { join = i.0; inside = i.1; same = refl; not_below = omega arith }) k.0 k.1);
            to = inr (r.same ∙ sym promised, subst (IsBefore (maps.epoch_of s.0)) (sym r.same) (subst (λ (o : Option Membership). IsBefore (maps.epoch_in o) epoch) (sym s.2.installed) (earlier i.0.member.node k.0 k.1 most)));
          },
        )

    entered : AllEntered g n f.out formed new
    entered = installs_all g plan tells n old.flying mid.sent f.out installs formed new (λ h m. low_enough h.number old.sent mid.sent (low.each h m) r.sent)
        (f.flying ∙ put_is.flying ∙ ap (λ (l : List Flight). l ++ numbered mid.sent f.out) base_is) ready
        (lengths formed.sent mid.sent (length installs) (length f.out) all (f.sent ∙ put_is.sent)) posts
      where
        low_enough : (a b c : ℕ) → a ≤ b → b ≤ c → a ≤ c
        low_enough a b c p q = omega (arith, p, q)

        lengths : (a b c d : ℕ) → a ≡ b + c → a ≡ b + d → c ≡ d
        lengths a b c d p q = omega (arith, p, q)

    pub forms : HasFormed epoch members old new
    forms = record {
      membership = g;
      epoch_is = r.same;
      members_are = (concluded_tells plan tells mid n r.y r.here r.group r.opened epoch members formed concludes).1;
      all_up = all_up;
      only_up = λ q boot names. let j = found_joined r.group.joins q names.member names.is in let k = r.from j.0 j.1 in
          (k.0, ap (maps_at old) (sym j.2) ∙ k.1, k.2 ∙ ap (λ (m : Member). m.boot) j.3 ∙ names.same);
    }
      where
        all_up : (q : ℕ) (u : maps.Node) → maps_at old q ≡ Some u → (now : maps.Node) × (maps_at new q ≡ Some now) × (now.installed ≡ Some g) × maps.NamesNode g q now.boot
        all_up q u h = ⊎_elim
            (λ same.
            let its : u ≡ r.x = some_same (maps_at old n) u r.x (ap (maps_at old) (sym same.1) ∙ h) r.before in
            let kept = entered.keeps n f.now f.at in
            let boots : kept.y.boot ≡ u.boot = kept.boot ∙ f.boot ∙ r.boot ∙ ap (λ (k : maps.Node). k.boot) (sym its) in (
              kept.y,
              ap (maps_at new) same.1 ∙ kept.here,
              ⊎_elim (λ stood. stood ∙ f.installed) (λ one. one) kept.installed,
              subst (maps.NamesNode g q) (sym boots) (subst (λ k. maps.NamesNode g k u.boot) (sym same.1) (names_of n r.y.boot r.own u (ap (maps_at old) (sym same.1) ∙ h))),
            ))
            (λ apart. other apart.1)
            (same_or_apart q n)
          where
            other : q ≢ n → (now : maps.Node) × (maps_at new q ≡ Some now) × (now.installed ≡ Some g) × maps.NamesNode g q now.boot
            other apart =
                let s = r.stays q u apart h in
                let joined : HasJoinOf r.group.joins q s.0.boot = ⊎_elim (λ a. a.1) (λ b. absurd (newest q s.0 s.1 b.0 b.1)) s.4 in
                let kept = entered.keeps q s.0 (f.others q apart ∙ s.1) in
                let e = entered.enters q (subst (Among (maps_rules.letter_to n (Install g) q)) (sym f.out_is) (subst (λ k. Among (maps_rules.letter_to n (Install g) k) (flat_map (install_to n g) r.group.joins)) joined.same
                (installs_to n g r.group.joins joined.join joined.inside (λ e. apart (sym joined.same ∙ e))))) in
                let same : kept.y ≡ e.0 = some_same (maps_at new q) kept.y e.0 kept.here e.1 in (
                  kept.y,
                  kept.here,
                  ap (λ (k : maps.Node). k.installed) same ∙ e.2,
                  subst (maps.NamesNode g q) (sym (kept.boot ∙ s.2.boot)) (names_of q s.0.boot joined u h),
                )

-- what was concluded is the epoch of the round before it
same_epoch : (plan : Plan) (tells : Bool) (old mid new : World) (n : ℕ) (opened epoch : EpochId) (members : ℕ) (saids : List Said) (r : RoundDone old mid n opened saids plan.nodes)
    → ConcludesAll plan tells mid n epoch members new → epoch ≡ opened
same_epoch plan tells old mid new n opened epoch members saids r c = (concluded_tells plan tells mid n r.y r.here r.group r.opened epoch members c.formed c.concludes).0 ∙ r.same

formed_at_once : (plan : Plan) (tells : Bool) (old new : World) (n : ℕ) (epoch : EpochId) (members : ℕ) → Stands plan old → AreNumbered old → HasRoomFor (suc plan.nodes) old.flying
    → (saids : List Said) (mid : World) → Round plan tells old n epoch saids mid → (Among ThrownOld saids → ⊥) → ConcludesAll plan tells mid n epoch members new → HasFormed epoch members old new
formed_at_once plan tells old new n epoch members stands low room saids mid round none c =
    forms plan tells old stands low room n epoch saids mid (round_done plan tells old stands low room n epoch saids mid round) (λ q z h b m. none m) members c.formed c.concludes c.installs new c.posts c.all_posted

-- A second round follows the first.
module _ (plan : Plan) (tells : Bool) (old new : World) (n : ℕ) (epoch : EpochId) (members : ℕ) (stands : Stands plan old) (low : AreNumbered old) (room : HasRoomFor (suc plan.nodes) old.flying)
    (first : EpochId) (saids : List Said) (mid : World) (round : Round plan tells old n first saids mid) (others : List Said) (last : World) (again : Round plan tells mid n epoch others last) where
  one : RoundDone old mid n first saids plan.nodes
  one = round_done plan tells old stands low room n first saids mid round

  mid_low : AreNumbered mid
  mid_low = record { each = λ f m. le f.number old.sent mid.sent (low.each f (subst (Among f) one.flying m)) one.sent }
    where
      le : (a b c : ℕ) → a ≤ b → b ≤ c → a ≤ c
      le a b c p q = omega (arith, p, q)

  mid_stands : Stands plan mid
  mid_stands = round_stands plan tells old n first saids mid round stands

  mid_room : HasRoomFor (suc plan.nodes) mid.flying
  mid_room = subst (HasRoomFor (suc plan.nodes)) (sym one.flying) room

  pub two : RoundDone mid last n epoch others plan.nodes
  two = round_done plan tells mid mid_stands mid_low mid_room n epoch others last again

  -- the second epoch is later than all that was promised
  newest : (q : ℕ) (z : maps.Node) → maps_at last q ≡ Some z → IsBefore epoch z.promise → Among ThrownOld others → ⊥
  newest q z h below m = ⊎_elim
      (λ same. let its : z ≡ two.y = some_same (maps_at last n) z two.y (ap (maps_at last) (sym same.1) ∙ h) two.here in
      before_not_same epoch z.promise below (sym two.promise ∙ ap (λ (k : maps.Node). k.promise) (sym its)))
      (λ apart. other apart.1 (maps_at mid q) refl)
      (same_or_apart q n)
    where
      counts : (a b c : EpochId) → a.count ≡ c.count + 1 → b.count ≤ c.count → IsBefore a b → ⊥
      counts a b c e l (inl lt) = omega (arith, e, l, lt)
      counts a b c e l (inr s) = omega (arith, e, l, s.0)

      other : q ≢ n → (o : Option maps.Node) → maps_at mid q ≡ o → ⊥
      other apart None k = none_some z (sym (two.downs q k) ∙ h)
      other apart (Some v) k =
          let s = two.stays q v apart k in
          let its : s.0 ≡ z = some_same (maps_at last q) s.0 z s.1 h in
          let above : IsBefore epoch s.0.promise = subst (λ (t : maps.Node). IsBefore epoch t.promise) (sym its) below in
          ⊎_elim
          (λ same. of_first (maps_at old q) refl v k (subst (IsBefore epoch) same above))
          (λ rose. before_not_same epoch s.0.promise above (sym rose.0))
          s.2.promise
        where
          of_first : (o : Option maps.Node) → maps_at old q ≡ o → (v : maps.Node) → maps_at mid q ≡ Some v → IsBefore epoch v.promise → ⊥
          of_first None e v k b = none_some v (sym (one.downs q e) ∙ k)
          of_first (Some u) e v k b =
              let t = one.stays q u apart e in
              let same : t.0 ≡ v = some_same (maps_at mid q) t.0 v t.1 k in
              let heard : v.promise.count ≤ two.x.heard = subst (λ (w : maps.Node). v.promise.count ≤ w.heard) (some_same (maps_at mid n) one.y two.x one.here two.before) (subst (λ (w : maps.Node). w.promise.count ≤ one.y.heard) same t.3) in
              counts epoch v.promise (record { count = two.x.heard; node = 0 }) (ap (λ (a : EpochId). a.count) two.epoch_is) heard b

  back : (q : ℕ) (v : maps.Node) → maps_at mid q ≡ Some v → (boot : ℕ) → v.boot ≡ boot → (o : Option maps.Node) → maps_at old q ≡ o → (u : maps.Node) × (maps_at old q ≡ Some u) × (u.boot ≡ boot)
  back q v h boot e None k = absurd (none_some v (sym (one.downs q k) ∙ h))
  back q v h boot e (Some u) k = ⊎_elim
      (λ same. (u, k, ap (λ (t : maps.Node). t.boot) (some_same (maps_at old n) u one.x (ap (maps_at old) (sym same.1) ∙ k) one.before) ∙ sym one.boot ∙ ap (λ (t : maps.Node). t.boot) (some_same (maps_at mid n) one.y v one.here (ap (maps_at mid) (sym same.1) ∙ h)) ∙ e))
      (λ apart. let s = one.stays q u apart.1 k in (u, k, sym s.2.boot ∙ ap (λ (t : maps.Node). t.boot) (some_same (maps_at mid q) s.0 v s.1 h) ∙ e))
      (same_or_apart q n)

  -- so it forms an epoch
  pub formed_again : ConcludesAll plan tells last n epoch members new → HasFormed epoch members old new
  formed_again c = record {
    membership = done.membership;
    epoch_is = done.epoch_is;
    members_are = done.members_are;
    all_up = λ q u h. ⊎_elim
        (λ same. done.all_up q one.y (ap (maps_at mid) same.1 ∙ one.here))
        (λ apart. let s = one.stays q u apart.1 h in done.all_up q s.0 s.1)
        (same_or_apart q n);
    only_up = λ q boot names. let k = done.only_up q boot names in back q k.0 k.1 boot k.2 (maps_at old q) refl;
  }
    where
      done : HasFormed epoch members mid new
      done = forms plan tells mid mid_stands mid_low mid_room n epoch others last two newest members c.formed c.concludes c.installs new c.posts c.all_posted

-- a node regroups
pub regroups_form : (plan : Plan) (tells : Bool) (old new : World) (n : ℕ) (epoch : EpochId) (members : ℕ) → Stands plan old → AreNumbered old → HasRoomFor (suc plan.nodes) old.flying
    → Regroups plan tells old n epoch members new → HasFormed epoch members old new
regroups_form plan tells old new n epoch members stands low room (AtOnce opened saids mid round none c) =
    let same : epoch ≡ opened = same_epoch plan tells old mid new n opened epoch members saids (round_done plan tells old stands low room n opened saids mid round) c in
    subst (λ e. HasFormed e members old new) (sym same)
    (formed_at_once plan tells old new n opened members stands low room saids mid round none (subst (λ e. ConcludesAll plan tells mid n e members new) same c))
regroups_form plan tells old new n epoch members stands low room (Again first saids mid round some opened others last again c) =
    let same : epoch ≡ opened = same_epoch plan tells mid last new n opened epoch members others (two plan tells old new n opened members stands low room first saids mid round others last again) c in
    subst (λ e. HasFormed e members old new) (sym same)
    (formed_again plan tells old new n opened members stands low room first saids mid round others last again (subst (λ e. ConcludesAll plan tells last n e members new) same c))
