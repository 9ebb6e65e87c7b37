-- A node that hears PushAck or Retire, pushes or widens acts as the invariant asks.
use Rattle.std.proofs.Common.{◌≡◌, ◌≢◌, ◌⊎◌, inl, inr, ⊎_elim, ℕ, zero, suc, Bool, true, false, not, ◌&&◌, List, [], ◌∷◌, ◌++◌, Option, Some, refl, sym, ap, ◌∙◌, subst, nat_eq, eq-eqb, if◌then◌else◌}
use Rattle.std.specs.FinMap as fin
use Rattle.std.proofs.lemmas.Bool.{and_parts}
use Rattle.mail_model.specs.Identity.{Id, Key, State, EpochId}
use Rattle.mail_model.specs.Identity.Key.{Message}
use Rattle.mail_model.specs.Identity.Value.{Gone}
use Rattle.mail_model.specs.Record.{Record}
use Rattle.mail_model.specs.Record.Record.{Octets, Stated, Retired}
use Rattle.object_model.specs.Sets.{has}
use Rattle.object_model.specs.Lists.{Among}
use Rattle.object_model.specs.Said.{said}
use Rattle.object_model.specs.Letters.{Number, Body, Letter}
use Rattle.object_model.specs.UpdateLog.{Logged}
use Rattle.cluster_model.specs.Store.{Store, Update}
use Rattle.cluster_model.specs.Claims.{DiskSpeaks}
use Rattle.cluster_model.specs.Rules.{receivers, letters_to}
use Rattle.object_model.proofs.Lists.{among_either}
use Rattle.object_model.proofs.MapLaws.{found, written, kept_other, left_found, left_other, key_total, key_exact}
use Rattle.object_model.proofs.SaidLaws.{said_retired, said_backed}
use Rattle.cluster_model.proofs.StoreSteps.{InLog, Settled, StoreStep, stays, boot_both}
use Rattle.cluster_model.proofs.Takes.{same_key}
use Rattle.cluster_model.proofs.Filing.{among_map}

-- Who is a receiver.
pub receiver_is : (own mask nodes m : ℕ) → Among m (receivers own mask nodes) → (has mask m ≡ true) × (m ≢ own)
receiver_is own mask zero m inside = absurd inside
receiver_is own mask (suc k) m inside = ⊎_elim
    (λ front. receiver_is own mask k m front)
    (λ last. by (has mask (suc k) && not (nat_eq (suc k) own)) refl last)
    (among_either m (receivers own mask k) _ inside)
  where
    by : (b : Bool) → (has mask (suc k) && not (nat_eq (suc k) own)) ≡ b → Among m (if b then suc k ∷ [] else []) → (has mask m ≡ true) × (m ≢ own)
    by true e last = ⊎_elim
        (λ is. let parts = and_parts (has mask (suc k)) (not (nat_eq (suc k) own)) e in (subst (λ j. has mask j ≡ true) is parts.0, λ same. apart parts.1 (is ∙ same)))
        (λ none. absurd none) last
      where
        apart : not (nat_eq (suc k) own) ≡ true → suc k ≡ own → ⊥
        apart other same = clash (nat_eq (suc k) own) other (eq_is same)
          where
            clash : (b : Bool) → not b ≡ true → b ≡ true → ⊥
            clash b p q = cc

            eq_is : suc k ≡ own → nat_eq (suc k) own ≡ true
            eq_is same = eq-eqb (suc k) own same
    by false e last = absurd last

-- a letter to each receiver
pub sent_to : (own : ℕ) (epoch : EpochId) (ticket : Option Number) (to : List ℕ) (body : Body) (letter : Letter) → Among letter (letters_to own epoch ticket to body)
    → (m : ℕ) × Among m to × ((record { from = own; to = m; epoch = epoch; ticket = ticket; body = body }) ≡ letter)
sent_to own epoch ticket to body letter inside = among_map (λ m. record { from = own; to = m; epoch = epoch; ticket = ticket; body = body }) letter to inside

-- an entry that is taken out of the log, or has fewer remaining
module _ (own : ℕ) (updates : List Update) (Brought : Id → List ℕ → Type 0) (Acks : Key → State → ℕ → Type 0) (store : Store) (key : Key) (entry : Logged)
    (here : fin.get store.log key ≡ Some entry) (ok : InLog store) where
  abbrev Old : Key → State → ℕ → Type 0
  Old q s m = Settled own store q s m ⊎ Acks q s m

  entry_state : (state : State) → said key store.disk ≡ Some state → entry.state ≡ state
  entry_state state says = some_state entry.state state (sym (ok.logged key entry here) ∙ says)
    where
      some_state : (a b : State) → Some a ≡ Some b → a ≡ b
      some_state a b e = cc

  pub trim_step : (left : ℕ) → ((m : ℕ) → has left m ≡ true → has entry.remaining m ≡ true)
      → ((m : ℕ) → has entry.state.targets m ≡ true → m ≢ own → has left m ≡ false → Old key entry.state m)
      → StoreStep own updates Brought Acks store (record store { log = fin.insert store.log key (record { state = entry.state; remaining = left }) })
  trim_step left fewer done = record {
    grows = (stays own updates Brought Acks store).grows;
    bootless = (stays own updates Brought Acks store).bootless;
    boots = refl;
    order = λ o. record {
      logged = λ q e h. ⊎_elim
          (λ (same, is). subst (λ k. said k store.disk ≡ Some e.state) (sym same) (o.logged key entry here ∙ ap (λ (x : Logged). Some x.state) (sym is)))
          (λ (apart, old). o.logged q e old)
          (found key_total key_exact store.log key trimmed q e h);
      owed = λ q e h m r. ⊎_elim
          (λ (same, is). subst (λ (x : Logged). has x.state.targets m ≡ true) (sym is) (o.owed key entry here m (fewer m (subst (λ (x : Logged). has x.remaining m ≡ true) is r))))
          (λ (apart, old). o.owed q e old m r)
          (found key_total key_exact store.log key trimmed q e h);
    };
    octets = λ id octets m. inl m;
    settled = λ q s m t. ⊎_elim
        (λ same.
        let is : entry.state ≡ s = entry_state s (subst (λ k. said k store.disk ≡ Some s) same t.says) in
        subst (λ k. Old k s m) (sym same) (subst (λ x. Old key x m) is
        (done m (subst (λ (x : State). has x.targets m ≡ true) (sym is) t.target) t.other (t.told trimmed (subst (λ k. fin.get (fin.insert store.log key trimmed) k ≡ Some trimmed) (sym same) (written key_total key_exact store.log key trimmed))))))
        (λ apart. inl (record { says = t.says; target = t.target; other = t.other; told = λ e h. t.told e (kept_other key_total key_exact store.log key trimmed q apart ∙ h) }))
        (same_key q key);
    retired = λ q s m. inl m;
    fits = λ u d. d;
    gone = λ user id s. inl s;
  }
    where
      trimmed : Logged
      trimmed = record { state = entry.state; remaining = left }

  pub retire_step : ((m : ℕ) → has entry.state.targets m ≡ true → m ≢ own → Old key entry.state m)
      → StoreStep own updates Brought Acks store (record { log = fin.remove store.log key; disk = store.disk ++ Retired key entry.state ∷ [] })
  retire_step done = record {
    grows = (Retired key entry.state ∷ [], refl);
    bootless = λ boot m. ⊎_elim (λ is. cc is) (λ none. none) m;
    boots = boot_both 0 store.disk (Retired key entry.state ∷ []);
    order = λ o. record {
      logged = λ q e h. said_retired q key store.disk entry.state ∙ o.logged q e (left_found key_total key_exact store.log key q e h).1;
      owed = λ q e h m r. o.owed q e (left_found key_total key_exact store.log key q e h).1 m r;
    };
    octets = λ id octets m. ⊎_elim (λ front. inl front) (λ is. absurd (cc is)) (place (Octets id octets) m);
    settled = λ q s m t.
        let says : said q store.disk ≡ Some s = sym (said_retired q key store.disk entry.state) ∙ t.says in
        ⊎_elim
        (λ same.
        let is : entry.state ≡ s = entry_state s (subst (λ k. said k store.disk ≡ Some s) same says) in
        subst (λ k. Old k s m) (sym same) (subst (λ x. Old key x m) is (done m (subst (λ (x : State). has x.targets m ≡ true) (sym is) t.target) t.other)))
        (λ apart. inl (record { says = says; target = t.target; other = t.other; told = λ e h. t.told e (left_other key_total key_exact store.log key q apart ∙ h) }))
        (same_key q key);
    retired = λ q s m. ⊎_elim
        (λ front. inl front)
        (λ is. let e = retired_same q s is in inr (λ k target other. subst (λ x. Old q x k) e.1 (subst (λ x. Old x entry.state k) e.0 (done k (subst (λ (x : State). has x.targets k ≡ true) (sym e.1) target) other))))
        (place (Retired q s) m);
    fits = λ u d. record {
      target = λ q s m. ⊎_elim (λ front. d.target q s front) (λ is. absurd (cc is)) (place (Stated q s) m);
      kind = λ q s m. ⊎_elim (λ front. d.kind q s front) (λ is. absurd (cc is)) (place (Stated q s) m);
    };
    gone = λ user id s. inl (⊎_elim
        (λ front. record { one = s.one; inside = front; speaks = s.speaks })
        (λ is. ⊎_elim
        (λ st. absurd (clash is st))
        (λ rt. let e = retired_same (Message user id) s.speaks.state (is ∙ rt) in gone_said user id e.0 (ap (λ (x : State). x.value) e.1 ∙ s.speaks.gone))
        s.speaks.is)
        (place s.one s.inside));
  }
    where
      place : (one : Record) → Among one (store.disk ++ Retired key entry.state ∷ []) → Among one store.disk ⊎ (Retired key entry.state ≡ one)
      place one m = ⊎_elim (λ front. inl front) (λ b. ⊎_elim (λ e. inr e) (λ none. absurd none) b) (among_either one store.disk (Retired key entry.state ∷ []) m)

      retired_same : (q : Key) (s : State) → Retired key entry.state ≡ Retired q s → (key ≡ q) × (entry.state ≡ s)
      retired_same q s e = (cc, cc)

      clash : {one : Record} {a : Key} {x : State} → Retired key entry.state ≡ one → one ≡ Stated a x → ⊥
      clash p q = cc

      gone_said : (user : List ℕ) (id : Id) → key ≡ Message user id → entry.state.value ≡ Gone → DiskSpeaks store.disk user id
      gone_said user id same gone = let b = said_backed key store.disk entry.state (ok.logged key entry here) in record {
        one = Stated key b.top;
        inside = b.inside;
        speaks = record { state = b.top; is = inl (ap (λ k. Stated k b.top) same); gone = b.same_value ∙ gone };
      }
