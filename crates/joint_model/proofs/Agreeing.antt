-- In a settled epoch a member that is a target of what a member says says the same.
use Rattle.std.proofs.Common.{◌≡◌, ◌≢◌, inl, inr, ⊎_elim, ℕ, Bool, true, false, List, [], ◌∷◌, ◌++◌, map, Option, Some, None, refl, sym, ap, ◌∙◌, subst, true≢false, if◌then◌else◌}
use Rattle.std.specs.Ordering.{is_lt, ordering_reverse}
use Rattle.std.specs.declared.cmp.Ordering.{Ordering}
use Rattle.std.specs.declared.cmp.Ordering.TheVariants.{Less, Equal, Greater}
use Rattle.std.proofs.lemmas.Bool.{cases_eq}
use Rattle.mail_model.specs.Identity.{Key, State}
use Rattle.mail_model.specs.Record.{Record}
use Rattle.mail_model.specs.Record.Record.{Boot, Promise, Octets, Stated, Retired}
use Rattle.object_model.specs.Sets.{has}
use Rattle.object_model.specs.Lists.{Among}
use Rattle.object_model.specs.Keys.{is_same_key}
use Rattle.object_model.specs.States.{state_cmp, is_below, join_with}
use Rattle.object_model.specs.Merge.{IsMerge}
use Rattle.object_model.specs.Said.{said, held_after, states_in, CoversAtLeast}
use Rattle.object_model.specs.Letters.{Membership}
use Rattle.object_model.proofs.StateLaws.{state_total, key_self}
use Rattle.object_model.proofs.Merges.{tied, join_is_merge, says_join}
use Rattle.object_model.proofs.SaidLaws.{said_backed, said_has}
use Rattle.object_model.proofs.Lists.{among_front, among_behind, same_some}
use Rattle.cluster_model.specs.Cluster as mail
use Rattle.cluster_model.specs.Cluster.{set_of_members}
use Rattle.cluster_model.specs.Claims.{SaysFact, FactStands}
use Rattle.cluster_model.specs.Claims.Fact.{IsAtLeast}
use Rattle.whole_model.specs.Whole as whole
use Rattle.joint_model.specs.Joint.{Node, Slot, Cluster, slot_at, slot_up, whole_slot}
use Rattle.joint_model.specs.Moves.{Sound}
use Rattle.joint_model.specs.Fresh.{IsSettled, SaysSameState}
use Rattle.joint_model.proofs.Kept.{whole_here}
use Rattle.maps_model.specs.Cluster as maps
use Rattle.joint_model.proofs.Settled.{whole_back, maps_back, members_have}
use Rattle.joint_model.proofs.Fresh.{mail_there, up_as}

-- orders of states
less_is : (o : Ordering) → is_lt o ≡ true → o ≡ Less
less_is Less e = refl
less_is Equal e = absurd (true≢false (sym e))
less_is Greater e = absurd (true≢false (sym e))

like : (a b c : State) → b.value ≡ c.value → b.stamp ≡ c.stamp → state_cmp a b ≡ state_cmp a c
like a b c v s = λ i. state_cmp a (record { value = v i; stamp = s i; targets = b.targets })

-- neither is below the other: they are of one value and stamp
one_state : (a b : State) → is_below a b ≡ false → is_below b a ≡ false → (a.value ≡ b.value) × (a.stamp ≡ b.stamp)
one_state a b p q = by (state_cmp a b) refl
  where
    by : (o : Ordering) → state_cmp a b ≡ o → (a.value ≡ b.value) × (a.stamp ≡ b.stamp)
    by Less e = absurd (true≢false (sym (ap is_lt e) ∙ p))
    by Equal e = tied a b e
    by Greater e = absurd (true≢false (sym (ap is_lt (state_total.antisymm b a ∙ ap ordering_reverse e)) ∙ q))

-- not below what is not below
not_below : (a b c : State) → is_below a b ≡ false → is_below b c ≡ false → is_below a c ≡ false
not_below a b c p q = test (is_below a c) refl
  where
    clash : state_cmp a c ≡ Less → (o : Ordering) → state_cmp c b ≡ o → ⊥
    clash l Less e = true≢false (sym (ap is_lt (state_total.trans a c b l e)) ∙ p)
    clash l Equal e = let t = tied c b e in true≢false (sym (ap is_lt (sym (like a c b t.0 t.1) ∙ l)) ∙ p)
    clash l Greater e = true≢false (sym (ap is_lt (state_total.antisymm b c ∙ ap ordering_reverse e)) ∙ q)

    test : (t : Bool) → is_below a c ≡ t → is_below a c ≡ false
    test false e = e
    test true e = absurd (clash (less_is (state_cmp a c) e) (state_cmp c b) refl)

-- what a record states is said
module _ (key : Key) where
  stays : (held : State) (records : List Record) → (x : State) × (held_after key (Some held) records ≡ Some x)
  stays held [] = (held, refl)
  stays held (Boot boot ∷ records) = stays held records
  stays held (Promise epoch ∷ records) = stays held records
  stays held (Octets id octets ∷ records) = stays held records
  stays held (Retired other state ∷ records) = stays held records
  stays held (Stated other state ∷ records) = by (λ h. stays h records) (is_same_key other key)
    where
      by : ((h : State) → (x : State) × (held_after key (Some h) records ≡ Some x)) → (b : Bool) → (x : State) × (held_after key (if b then Some (join_with (Some held) state) else Some held) records ≡ Some x)
      by rest true = rest (join_with (Some held) state)
      by rest false = rest held

  some_said : (held : Option State) (records : List Record) (one : State) → Among (Stated key one) records → (x : State) × (held_after key held records ≡ Some x)
  some_said held [] one m = absurd m
  some_said held (Boot boot ∷ records) one m = some_said held records one (⊎_elim (λ is. absurd (cc is)) (λ b. b) m)
  some_said held (Promise epoch ∷ records) one m = some_said held records one (⊎_elim (λ is. absurd (cc is)) (λ b. b) m)
  some_said held (Octets id octets ∷ records) one m = some_said held records one (⊎_elim (λ is. absurd (cc is)) (λ b. b) m)
  some_said held (Retired other state ∷ records) one m = some_said held records one (⊎_elim (λ is. absurd (cc is)) (λ b. b) m)
  some_said held (Stated other state ∷ records) one m = ⊎_elim (λ is. first (key_is other state is)) (λ more. some_said (if is_same_key other key then Some (join_with held state) else held) records one more) m
    where
      key_is : (k : Key) (s : State) → Stated k s ≡ Stated key one → k ≡ key
      key_is k s e = cc

      first : other ≡ key → (x : State) × (held_after key (if is_same_key other key then Some (join_with held state) else held) records ≡ Some x)
      first e = subst (λ b. (x : State) × (held_after key (if b then Some (join_with held state) else held) records ≡ Some x))
          (sym (subst (λ k. is_same_key k key ≡ true) (sym e) (key_self key))) (stays (join_with held state) records)

  -- a state that a record has is one of its key
  member_in : (records : List Record) (one : State) → Among (Stated key one) records → Among one (states_in key records)
  member_in [] one m = absurd m
  member_in (Boot boot ∷ records) one m = member_in records one (⊎_elim (λ is. absurd (cc is)) (λ b. b) m)
  member_in (Promise epoch ∷ records) one m = member_in records one (⊎_elim (λ is. absurd (cc is)) (λ b. b) m)
  member_in (Octets id octets ∷ records) one m = member_in records one (⊎_elim (λ is. absurd (cc is)) (λ b. b) m)
  member_in (Retired other state ∷ records) one m = member_in records one (⊎_elim (λ is. absurd (cc is)) (λ b. b) m)
  member_in (Stated other state ∷ records) one m = ⊎_elim
      (λ is. let p = parts other state is in
      subst (λ b. Among one ((if b then state ∷ [] else []) ++ states_in key records)) (sym (subst (λ k. is_same_key k key ≡ true) (sym p.0) (key_self key))) (inl p.1))
      (λ more. among_behind one (if is_same_key other key then state ∷ [] else []) (states_in key records) (member_in records one more))
      m
    where
      parts : (k : Key) (s : State) → Stated k s ≡ Stated key one → (k ≡ key) × (s ≡ one)
      parts k s e = (cc, cc)

  -- whoever covers a state says at least that
  covered_said : (records : List Record) (state : State) → CoversAtLeast key state records → (x : State) × (said key records ≡ Some x) × (is_below x state ≡ false) × ((m : ℕ) → has state.targets m ≡ true → has x.targets m ≡ true)
  covered_said records state c =
      let s = some_said None records c.top c.inside in
      let merge : IsMerge (states_in key records) s.0 = join_is_merge (states_in key records) s.0 (sym (says_join key records) ∙ s.1) in (
        s.0,
        s.1,
        not_below s.0 c.top state (merge.greatest c.top (member_in records c.top c.inside)) c.not_below,
        λ m h. let t = c.targets m h in said_has key None records t.0 s.0 m s.1 t.1 t.2,
      )

module _ (confirm : ℕ) (w : Cluster) (s : Sound confirm w) (g : Membership) (settled : IsSettled w g) where
  abbrev members : ℕ
  members = set_of_members g.members

  abbrev wholes : List whole.Slot
  wholes = map whole_slot w.slots

  -- a member is up
  record IsUp (m : ℕ) : Type 0 where
    node : Node
    disk : List Record
    here : slot_at w.slots m ≡ Some (slot_up node disk)

  member_up : (m : ℕ) → has members m ≡ true → IsUp m
  member_up m h =
      let member = members_have g.members m h in
      let q = settled.quiet member.0 member.1 in
      let seen = maps_back wholes member.0.node (maps.slot_up q.node q.disk) q.here in
      let one = whole_back w.slots member.0.node seen.0 seen.1 in
      let up = up_as one.0 q.node q.disk (ap whole.maps_slot one.2 ∙ seen.2) in
      record { node = up.node; disk = one.0.disk; here = subst (λ k. slot_at w.slots k ≡ Some (slot_up up.node one.0.disk)) member.2 (one.1 ∙ ap Some up.is) }

  -- what one member says another that is a target covers
  covers : (a b : ℕ) → has members a ≡ true → has members b ≡ true → a ≢ b → (one other : Node) (its others : List Record) → slot_at w.slots a ≡ Some (slot_up one its) → slot_at w.slots b ≡ Some (slot_up other others)
      → (key : Key) (state : State) → said key its ≡ Some state → has state.targets b ≡ true → CoversAtLeast key state others
  covers a b ha hb apart one other its others at_a at_b key state says target =
      let stands : FactStands (map whole.mail_slot wholes) b (IsAtLeast key state) = s.whole.mail.claims.nodes b (IsAtLeast key state) (record {
        node = a;
        slot = whole.mail_slot (whole_slot (slot_up one its));
        here = mail_there wholes a (whole_slot (slot_up one its)) (whole_here w.slots a (slot_up one its) at_a);
        claims = inr (inl (record {
          node = one.whole.mail;
          up = refl;
          key = key;
          state = state;
          says = says;
          target = target;
          other = λ e. apart (sym e);
          told = λ entry h. settled.logs a b ha hb apart one its at_a key entry h;
          is = refl;
        }));
      }) in
      let there = mail_there wholes b (whole_slot (slot_up other others)) (whole_here w.slots b (slot_up other others) at_b) in
      let is : stands.slot ≡ whole.mail_slot (whole_slot (slot_up other others)) = same_some (mail.slot_at (map whole.mail_slot wholes) b) stands.slot (whole.mail_slot (whole_slot (slot_up other others))) stands.here there in
      subst (λ (x : mail.Slot). SaysFact x.disk (IsAtLeast key state)) is stands.stands

  -- a holder of a state is among its targets
  holder : (a : ℕ) (one : Node) (its : List Record) → slot_at w.slots a ≡ Some (slot_up one its) → (key : Key) (state : State) → said key its ≡ Some state → has state.targets a ≡ true
  holder a one its at key state says =
      let b = said_backed key its state says in
      let fits = s.whole.mail.fit.slots_fit a (whole.mail_slot (whole_slot (slot_up one its))) (mail_there wholes a (whole_slot (slot_up one its)) (whole_here w.slots a (slot_up one its) at)) in
      said_has key None its b.top state a says b.inside (fits.target key b.top (among_front (Stated key b.top) its [] b.inside))

  pub agree : (a b : ℕ) (one other : Slot) → has members a ≡ true → has members b ≡ true → slot_at w.slots a ≡ Some one → slot_at w.slots b ≡ Some other
      → (key : Key) (state : State) → said key one.disk ≡ Some state → has state.targets b ≡ true → SaysSameState key state other.disk
  agree a b one other ha hb at_a at_b key state says target = ⊎_elim
      (λ same. let is = same_some (slot_at w.slots b) one other (subst (λ k. slot_at w.slots k ≡ Some one) same at_a) at_b in
      subst (λ (x : Slot). SaysSameState key state x.disk) is (record { other = state; says = says; same_value = refl; same_stamp = refl; targets = λ m. (λ h. h, λ h. h) }))
      (λ apart. far apart)
      (cases_eq a b)
    where
      far : a ≢ b → SaysSameState key state other.disk
      far apart =
          let x = member_up a ha in
          let y = member_up b hb in
          let is_a : one ≡ slot_up x.node x.disk = same_some (slot_at w.slots a) one (slot_up x.node x.disk) at_a x.here in
          let is_b : other ≡ slot_up y.node y.disk = same_some (slot_at w.slots b) other (slot_up y.node y.disk) at_b y.here in
          let says_a : said key x.disk ≡ Some state = subst (λ (z : Slot). said key z.disk ≡ Some state) is_a says in
          let there = covered_said key y.disk state (covers a b ha hb apart x.node y.node x.disk y.disk x.here y.here key state says_a target) in
          let back = covered_said key x.disk there.0 (covers b a hb ha (λ e. apart (sym e)) y.node x.node y.disk x.disk y.here x.here key there.0 there.1
          (there.3 a (holder a x.node x.disk x.here key state says_a))) in
          let mine : back.0 ≡ state = same_some (said key x.disk) back.0 state back.1 says_a in
          let equal = one_state there.0 state there.2 (subst (λ (z : State). is_below z there.0 ≡ false) mine back.2) in
          subst (λ (z : Slot). SaysSameState key state z.disk) (sym is_b) (record {
            other = there.0;
            says = there.1;
            same_value = equal.0;
            same_stamp = equal.1;
            targets = λ m. (there.3 m, λ h. subst (λ (z : State). has z.targets m ≡ true) mine (back.3 m h));
          })
