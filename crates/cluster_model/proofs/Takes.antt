-- A node that takes states makes such steps, and its disk then says at least each of them.
use Rattle.std.proofs.Common.{◌≡◌, ◌≢◌, ◌⊎◌, inl, inr, ⊎_elim, ℕ, Bool, true, false, not, List, [], ◌∷◌, ◌++◌, Option, Some, None, refl, sym, ap, ◌∙◌, subst, nat_eq, true≢false, eqb-true, if◌then◌else◌}
use Rattle.std.specs.FinMap as fin
use Rattle.mail_model.specs.Identity.{Id, Key, Value, State}
use Rattle.mail_model.specs.Identity.Key.{Message}
use Rattle.mail_model.specs.Identity.Value.{Gone}
use Rattle.mail_model.specs.Record.{Record}
use Rattle.mail_model.specs.Record.Record.{Boot, Octets, Stated, Retired}
use Rattle.object_model.specs.Sets.{has, without_node}
use Rattle.object_model.specs.Lists.{Among}
use Rattle.object_model.specs.Keys.{is_same_key}
use Rattle.mail_model.specs.Grammar.{IsOfKind}
use Rattle.object_model.specs.States.{joined, join_with, is_news, is_same_state, is_below}
use Rattle.object_model.specs.Said.{said, CoversAtLeast}
use Rattle.object_model.specs.UpdateLog.{Logged}
use Rattle.cluster_model.specs.Store.{Store, Update, recorded, take_one, take_all}
use Rattle.cluster_model.specs.Claims.{DiskSpeaks, boot_of}
use Rattle.cluster_model.specs.Claims.Fact.{IsAtLeast}
use Rattle.object_model.proofs.Lists.{among_behind, among_either}
use Rattle.object_model.proofs.SetLaws.{has_right, left_in, still_in, only_one}
use Rattle.object_model.proofs.StateLaws.{key_is, key_self, state_is, joined_above, later_is, later_from, not_below_self}
use Rattle.object_model.proofs.MapLaws.{found, written, kept_other, left_found, left_other, key_total, key_exact}
use Rattle.object_model.proofs.SaidLaws.{join_again, said_same, said_other, said_backed, said_covers, held_both}
use Rattle.cluster_model.proofs.Drawing.{says_more}
use Rattle.cluster_model.proofs.StoreSteps.{InLog, Settled, DiskFits, UpdatesFit, UpdatesSpeak, StoreStep, stays, followed, boot_both}

abbrev entry_of : ℕ → State → Logged
entry_of own state = record { state = state; remaining = without_node state.targets own }

-- a state that is recorded and noted: a record, and its retirement where it is for nobody else
record Notes (own : ℕ) (key : Key) (state : State) (old new : Store) : Type 0 where
  behind : List Record
  disk : new.disk ≡ old.disk ++ Stated key state ∷ behind
  says : (q : Key) → said q new.disk ≡ said q (old.disk ++ Stated key state ∷ [])
  boots : boot_of new.disk ≡ boot_of old.disk
  only : (one : Record) → Among one behind → (one ≡ Retired key state) × ((m : ℕ) → has state.targets m ≡ true → m ≢ own → ⊥)
  log : (q : Key) (entry : Logged) → fin.get new.log q ≡ Some entry → ((q ≡ key) × (entry ≡ entry_of own state)) ⊎ ((q ≢ key) × (fin.get old.log q ≡ Some entry))
  owes : (m : ℕ) → has state.targets m ≡ true → m ≢ own → fin.get new.log key ≡ Some (entry_of own state)
  other : (q : Key) → q ≢ key → fin.get new.log q ≡ fin.get old.log q

noted_is : (own : ℕ) (key : Key) (state : State) (store : Store) → Notes own key state store (recorded own key state store)
noted_is own key state store = by (nat_eq (without_node state.targets own) 0) refl
  where
    chosen : Bool → Store
    chosen b = if b
        then record { log = fin.remove store.log key; disk = store.disk ++ Stated key state ∷ Retired key state ∷ [] }
        else record { log = fin.insert store.log key (entry_of own state); disk = store.disk ++ Stated key state ∷ [] }

    by : (b : Bool) → nat_eq (without_node state.targets own) 0 ≡ b → Notes own key state store (chosen b)
    by true e =
        let alone = only_one state.targets own (eqb-true (without_node state.targets own) 0 e) in
        record {
          behind = Retired key state ∷ [];
          disk = refl;
          says = λ q. held_both q None store.disk (Stated key state ∷ Retired key state ∷ []) ∙ sym (held_both q None store.disk (Stated key state ∷ []));
          boots = boot_both 0 store.disk (Stated key state ∷ Retired key state ∷ []);
          only = λ one m. ⊎_elim (λ is. (sym is, alone)) (λ none. absurd none) m;
          log = λ q entry h. inr (left_found key_total key_exact store.log key q entry h);
          owes = λ m target apart. absurd (alone m target apart);
          other = λ q apart. left_other key_total key_exact store.log key q apart;
        }
    by false e = record {
      behind = [];
      disk = refl;
      says = λ q. refl;
      boots = boot_both 0 store.disk (Stated key state ∷ []);
      only = λ one m. absurd m;
      log = λ q entry h. found key_total key_exact store.log key (entry_of own state) q entry h;
      owes = λ m target apart. written key_total key_exact store.log key (entry_of own state);
      other = λ q apart. kept_other key_total key_exact store.log key (entry_of own state) q apart;
    }

-- a join's value is that of what was held or of the state
join_from : (P : Value → Type 0) (held : Option State) (state : State) → P (join_with held state).value → ((h : State) × (held ≡ Some h) × P h.value) ⊎ P state.value
join_from P None state p = inr p
join_from P (Some h) state p = ⊎_elim (λ a. inl (h, refl, a)) (λ b. inr b) (later_from P h state p)

join_target : (held : Option State) (state : State) (m : ℕ) → has state.targets m ≡ true → has (join_with held state).targets m ≡ true
join_target None state m h = h
join_target (Some one) state m h = has_right one.targets state.targets m h

join_above : (held : Option State) (state : State) → is_below (join_with held state) state ≡ false
join_above None state = not_below_self state
join_above (Some h) state = joined_above h state

join_kind : (key : Key) (held : Option State) (state : State) → ((h : State) → held ≡ Some h → IsOfKind key h.value) → IsOfKind key state.value → IsOfKind key (join_with held state).value
join_kind key None state p q = q
join_kind key (Some h) state p q = later_is (IsOfKind key) h state (p h refl) q

pub same_key : (a b : Key) → (a ≡ b) ⊎ (a ≢ b)
same_key a b = by (is_same_key a b) refl
  where
    by : (t : Bool) → is_same_key a b ≡ t → (a ≡ b) ⊎ (a ≢ b)
    by true e = inl (key_is a b e)
    by false e = inr (λ same. true≢false (sym (key_self b) ∙ ap (λ k. is_same_key k b) (sym same) ∙ e))

stated_state : (q key : Key) (s j : State) → Stated key j ≡ Stated q s → (key ≡ q) × (j ≡ s)
stated_state q key s j e = (cc, cc)

retired_state : (q key : Key) (s j : State) → Retired q s ≡ Retired key j → (q ≡ key) × (s ≡ j)
retired_state q key s j e = (cc, cc)

module _ (own : ℕ) (updates : List Update) (Brought : Id → List ℕ → Type 0) (Acks : Key → State → ℕ → Type 0) where
  module _ (key : Key) (state : State) (inside : Among (record { key = key; state = state }) updates) (old new : Store)
      (n : Notes own key (join_with (said key old.disk) state) old new) where
    abbrev j : State
    j = join_with (said key old.disk) state

    -- where a record of the new disk stands
    place : (one : Record) → Among one new.disk → Among one old.disk ⊎ (one ≡ Stated key j) ⊎ ((one ≡ Retired key j) × ((m : ℕ) → has j.targets m ≡ true → m ≢ own → ⊥))
    place one m = ⊎_elim
        (λ front. inl front)
        (λ behind. ⊎_elim (λ is. inr (inl (sym is))) (λ more. inr (inr (n.only one more))) behind)
        (among_either one old.disk (Stated key j ∷ n.behind) (subst (Among one) n.disk m))

    says_new : said key new.disk ≡ Some j
    says_new = n.says key ∙ said_same key old.disk j ∙ ap Some (join_again (said key old.disk) state)

    says_old : (q : Key) → q ≢ key → said q new.disk ≡ said q old.disk
    says_old q apart = n.says q ∙ said_other q key old.disk j (λ e. apart (sym e))

    order : InLog old → InLog new
    order o = record {
      logged = λ q entry h. ⊎_elim
          (λ (e, is). subst (λ k. said k new.disk ≡ Some entry.state) (sym e) (says_new ∙ ap (λ (l : Logged). Some l.state) (sym is)))
          (λ (apart, f). says_old q apart ∙ o.logged q entry f)
          (n.log q entry h);
      owed = λ q entry h m r. ⊎_elim
          (λ (e, is). subst (λ (l : Logged). has l.state.targets m ≡ true) (sym is) (left_in j.targets own m (subst (λ (l : Logged). has l.remaining m ≡ true) is r)).0)
          (λ (apart, f). o.owed q entry f m r)
          (n.log q entry h);
    }

    settled : (q : Key) (s : State) (m : ℕ) → Settled own new q s m → Settled own old q s m
    settled q s m t = ⊎_elim
        (λ same.
        let is : j ≡ s = some_state j s (sym says_new ∙ subst (λ k. said k new.disk ≡ Some s) same t.says) in
        let target : has j.targets m ≡ true = subst (λ (x : State). has x.targets m ≡ true) (sym is) t.target in
        absurd (true≢false (sym (still_in j.targets own m target t.other) ∙ t.told (entry_of own j) (subst (λ k. fin.get new.log k ≡ Some (entry_of own j)) (sym same) (n.owes m target t.other)))))
        (λ apart. record { says = sym (says_old q apart) ∙ t.says; target = t.target; other = t.other; told = λ entry h. t.told entry (n.other q apart ∙ h) })
        (same_key q key)
      where
        some_state : (a b : State) → Some a ≡ Some b → a ≡ b
        some_state a b e = cc

    fits : UpdatesFit own updates → DiskFits own old.disk → DiskFits own new.disk
    fits u d =
        let fit = u (record { key = key; state = state }) inside in
        record {
          target = λ q s m. ⊎_elim
              (λ front. d.target q s front)
              (λ here. ⊎_elim
              (λ is. subst (λ (x : State). has x.targets own ≡ true) (stated_state q key s j (sym is)).1 (join_target (said key old.disk) state own fit.0))
              (λ r. absurd (cc r.0)) here)
              (place (Stated q s) m);
          kind = λ q s m. ⊎_elim
              (λ front. d.kind q s front)
              (λ here. ⊎_elim
              (λ is. let e = stated_state q key s j (sym is) in subst (λ (x : State). IsOfKind q x.value) e.1 (subst (λ k. IsOfKind k j.value) e.0
              (join_kind key (said key old.disk) state
              (λ h eh. let b = said_backed key old.disk h eh in subst (IsOfKind key) b.same_value (d.kind key b.top b.inside))
              fit.1)))
              (λ r. absurd (cc r.0)) here)
              (place (Stated q s) m);
        }

    gone_by : (user : List ℕ) (id : Id) → key ≡ Message user id → j.value ≡ Gone → DiskSpeaks old.disk user id ⊎ UpdatesSpeak updates user id
    gone_by user id same g = ⊎_elim
        (λ (h, eh, gh). let b = said_backed key old.disk h eh in inl (record {
          one = Stated key b.top;
          inside = b.inside;
          speaks = record { state = b.top; is = inl (ap (λ k. Stated k b.top) same); gone = b.same_value ∙ gh };
        }))
        (λ gs. inr (record { update = record { key = key; state = state }; inside = inside; key = same; gone = gs }))
        (join_from (λ v. v ≡ Gone) (said key old.disk) state g)

    gone : (user : List ℕ) (id : Id) → DiskSpeaks new.disk user id → DiskSpeaks old.disk user id ⊎ UpdatesSpeak updates user id
    gone user id s = ⊎_elim
        (λ front. inl (record { one = s.one; inside = front; speaks = s.speaks }))
        (λ here. ⊎_elim
        (λ is. ⊎_elim
        (λ st. let e = stated_state (Message user id) key s.speaks.state j (sym is ∙ st) in gone_by user id e.0 (ap (λ (x : State). x.value) e.1 ∙ s.speaks.gone))
        (λ rt. absurd (clash is rt)) s.speaks.is)
        (λ r. ⊎_elim
        (λ st. absurd (clash st r.0))
        (λ rt. let e = retired_state (Message user id) key s.speaks.state j (sym rt ∙ r.0) in gone_by user id (sym e.0) (ap (λ (x : State). x.value) (sym e.1) ∙ s.speaks.gone)) s.speaks.is) here)
        (place s.one s.inside)
      where
        clash : {one : Record} {a b : Key} {x y : State} → one ≡ Stated a x → one ≡ Retired b y → ⊥
        clash p q = cc

    noted_step : StoreStep own updates Brought Acks old new
    noted_step = record {
      grows = (Stated key j ∷ n.behind, n.disk);
      bootless = λ boot m. ⊎_elim (λ is. cc is) (λ behind. cc (n.only (Boot boot) behind).0) m;
      boots = n.boots;
      order = order;
      octets = λ id octets m. ⊎_elim (λ front. inl front) (λ here. ⊎_elim (λ is. absurd (cc is)) (λ r. absurd (cc r.0)) here) (place (Octets id octets) m);
      settled = λ q s m t. inl (settled q s m t);
      retired = λ q s m. ⊎_elim
          (λ front. inl front)
          (λ here. ⊎_elim
          (λ is. absurd (cc is))
          (λ r. inr (λ k target other. absurd (r.1 k (subst (λ (x : State). has x.targets k ≡ true) (retired_state q key s j r.0).1 target) other))) here)
          (place (Retired q s) m);
      fits = fits;
      gone = gone;
    }

    noted_covers : CoversAtLeast key state new.disk
    noted_covers = record {
      top = j;
      inside = subst (Among (Stated key j)) (sym n.disk) (among_behind (Stated key j) old.disk (Stated key j ∷ n.behind) (inl refl));
      not_below = join_above (said key old.disk) state;
      targets = λ m h. (j, subst (Among (Stated key j)) (sym n.disk) (among_behind (Stated key j) old.disk (Stated key j ∷ n.behind) (inl refl)), join_target (said key old.disk) state m h);
    }

  -- one state is taken
  pub took : (update : Update) → Among update updates → (store : Store) → StoreStep own updates Brought Acks store (take_one own update store)
  took update inside store = by (is_news (said update.key store.disk) update.state)
    where
      by : (b : Bool) → StoreStep own updates Brought Acks store (if b then recorded own update.key (join_with (said update.key store.disk) update.state) store else store)
      by true = noted_step update.key update.state inside store (recorded own update.key (join_with (said update.key store.disk) update.state) store)
          (noted_is own update.key (join_with (said update.key store.disk) update.state) store)
      by false = stays own updates Brought Acks store

  pub took_covers : (update : Update) → Among update updates → (store : Store) → CoversAtLeast update.key update.state (take_one own update store).disk
  took_covers update inside store = by (is_news (said update.key store.disk) update.state) refl
    where
      held_covers : (held : Option State) → said update.key store.disk ≡ held → is_news held update.state ≡ false → CoversAtLeast update.key update.state store.disk
      held_covers None e old = absurd (true≢false old)
      held_covers (Some h) e old =
          let is : joined h update.state ≡ h = state_is (joined h update.state) h (not_false (is_same_state (joined h update.state) h) old) in
          said_covers update.key store.disk h update.state e (subst (λ (x : State). is_below x update.state ≡ false) is (joined_above h update.state))
          (λ m t. subst (λ (x : State). has x.targets m ≡ true) is (has_right h.targets update.state.targets m t))
        where
          not_false : (b : Bool) → not b ≡ false → b ≡ true
          not_false true e = refl
          not_false false e = absurd (true≢false e)

      by : (b : Bool) → is_news (said update.key store.disk) update.state ≡ b
          → CoversAtLeast update.key update.state (if b then recorded own update.key (join_with (said update.key store.disk) update.state) store else store).disk
      by true e = noted_covers update.key update.state inside store (recorded own update.key (join_with (said update.key store.disk) update.state) store)
          (noted_is own update.key (join_with (said update.key store.disk) update.state) store)
      by false e = held_covers (said update.key store.disk) refl e

  -- these, one after another
  pub took_all : (some : List Update) → ((u : Update) → Among u some → Among u updates) → (store : Store) → StoreStep own updates Brought Acks store (take_all own some store)
  took_all [] inside store = stays own updates Brought Acks store
  took_all (update ∷ some) inside store = followed own updates Brought Acks store (take_one own update store) (take_all own some (take_one own update store))
      (took update (inside update (inl refl)) store) (took_all some (λ u m. inside u (inr m)) (take_one own update store))

  pub all_cover : (some : List Update) → ((u : Update) → Among u some → Among u updates) → (store : Store) → (u : Update) → Among u some → CoversAtLeast u.key u.state (take_all own some store).disk
  all_cover [] inside store u m = absurd m
  all_cover (update ∷ some) inside store u m = ⊎_elim
      (λ is. let g = (took_all some (λ v k. inside v (inr k)) (take_one own update store)).grows in
      subst (CoversAtLeast u.key u.state) (sym g.1) (says_more (take_one own update store).disk g.0 (IsAtLeast u.key u.state)
      (subst (λ (v : Update). CoversAtLeast v.key v.state (take_one own update store).disk) is (took_covers update (inside update (inl refl)) store))))
      (λ behind. all_cover some (λ v k. inside v (inr k)) (take_one own update store) u behind)
      m

-- The disk says the join of what it said and of what is taken, and of other keys what it said.
pub took_join : (own : ℕ) (update : Update) (store : Store) → (said update.key (take_one own update store).disk ≡ Some (join_with (said update.key store.disk) update.state))
    × ((key : Key) → key ≢ update.key → said key (take_one own update store).disk ≡ said key store.disk)
took_join own update store = by (is_news (said update.key store.disk) update.state) refl
  where
    n : Notes own update.key (join_with (said update.key store.disk) update.state) store (recorded own update.key (join_with (said update.key store.disk) update.state) store)
    n = noted_is own update.key (join_with (said update.key store.disk) update.state) store

    held_is : (held : Option State) → said update.key store.disk ≡ held → is_news held update.state ≡ false → said update.key store.disk ≡ Some (join_with held update.state)
    held_is None e old = absurd (true≢false old)
    held_is (Some h) e old = e ∙ ap Some (sym (state_is (joined h update.state) h (not_false (is_same_state (joined h update.state) h) old)))
      where
        not_false : (b : Bool) → not b ≡ false → b ≡ true
        not_false true e = refl
        not_false false e = absurd (true≢false e)

    by : (b : Bool) → is_news (said update.key store.disk) update.state ≡ b
        → (said update.key (if b then recorded own update.key (join_with (said update.key store.disk) update.state) store else store).disk ≡ Some (join_with (said update.key store.disk) update.state))
        × ((key : Key) → key ≢ update.key → said key (if b then recorded own update.key (join_with (said update.key store.disk) update.state) store else store).disk ≡ said key store.disk)
    by true e = (
      n.says update.key ∙ said_same update.key store.disk (join_with (said update.key store.disk) update.state) ∙ ap Some (join_again (said update.key store.disk) update.state),
      λ key apart. n.says key ∙ said_other key update.key store.disk (join_with (said update.key store.disk) update.state) (λ same. apart (sym same)),
    )
    by false e = (held_is (said update.key store.disk) refl e, λ key apart. refl)

-- of a key that is not taken it says what it said
pub took_only : (own : ℕ) (updates : List Update) (store : Store) (key : Key) → ((u : Update) → Among u updates → key ≢ u.key) → said key (take_all own updates store).disk ≡ said key store.disk
took_only own [] store key apart = refl
took_only own (update ∷ updates) store key apart =
    took_only own updates (take_one own update store) key (λ u m. apart u (inr m)) ∙ (took_join own update store).1 key (apart update (inl refl))
