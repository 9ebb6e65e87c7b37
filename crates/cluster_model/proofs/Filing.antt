-- Octets that are stored before the states of a message: so each user's copy is here with octets, or gone.
use Rattle.std.proofs.Common.{◌≡◌, ◌⊎◌, inl, inr, ⊎_elim, ℕ, Bool, true, false, cond, not, List, [], ◌∷◌, ◌++◌, map, Option, Some, None, is_some, refl, sym, ap, ◌∙◌, subst, true≢false, if◌then◌else◌}
use Rattle.std.specs.List.{list_any}
use Rattle.std.proofs.lemmas.Bool.{and_from, or_left, or_right}
use Rattle.mail_model.specs.Identity.{Id, Stamp, Key, Value, State}
use Rattle.mail_model.specs.Identity.Key.{Message}
use Rattle.mail_model.specs.Identity.Value.{Here, Gone, Secret}
use Rattle.mail_model.specs.Record.{Record}
use Rattle.mail_model.specs.Record.Record.{Boot, Octets, Stated, Promise, Retired}
use Rattle.mail_model.specs.Listing.{is_same_id, is_gone, octets_in}
use Rattle.object_model.specs.Lists.{Among}
use Rattle.object_model.specs.Said.{said, is_gone_held}
use Rattle.cluster_model.specs.Store.{Store, Update, take_all, here_updates, is_wanted, with_octets}
use Rattle.cluster_model.specs.Claims.{StoresMessage, SaysFact, ShowsGone}
use Rattle.cluster_model.specs.Claims.Fact.{HasCopies, IsGone}
use Rattle.object_model.proofs.Lists.{among_front, among_behind, among_either}
use Rattle.object_model.proofs.StateLaws.{id_is}
use Rattle.object_model.proofs.SaidLaws.{said_backed, said_octets}
use Rattle.cluster_model.proofs.Drawing.{says_more}
use Rattle.cluster_model.proofs.StoreSteps.{StoreStep, stays, boot_both}
use Rattle.cluster_model.proofs.Takes.{took_all, all_cover}

-- where some element passes, the test of any does
pub any_among : {X : Type 0} (test : X → Bool) (x : X) (xs : List X) → Among x xs → test x ≡ true → list_any test xs ≡ true
any_among test x [] m h = absurd m
any_among test x (y ∷ ys) m h = ⊎_elim
    (λ e. or_left (test y) (list_any test ys) (ap test e ∙ h))
    (λ behind. or_right (test y) (list_any test ys) (any_among test x ys behind h)) m

-- an element of a list that was mapped
pub among_map : {X Y : Type 0} (f : X → Y) (y : Y) (xs : List X) → Among y (map f xs) → (x : X) × Among x xs × (f x ≡ y)
among_map f y [] m = absurd m
among_map f y (x ∷ xs) m = ⊎_elim (λ e. (x, inl refl, e)) (λ behind. let r = among_map f y xs behind in (r.0, inr r.1, r.2)) m

pub map_among : {X Y : Type 0} (f : X → Y) (x : X) (xs : List X) → Among x xs → Among (f x) (map f xs)
map_among f x [] m = absurd m
map_among f x (y ∷ ys) m = ⊎_elim (λ e. inl (ap f e)) (λ behind. inr (map_among f x ys behind)) m

-- what a read of octets finds stands
pub octets_stand : (id : Id) (octets : List ℕ) (disk : List Record) → octets_in id disk ≡ Some octets → Among (Octets id octets) disk
octets_stand id octets [] e = cc
octets_stand id octets (Boot boot ∷ disk) e = inr (octets_stand id octets disk e)
octets_stand id octets (Promise epoch ∷ disk) e = inr (octets_stand id octets disk e)
octets_stand id octets (Retired key state ∷ disk) e = inr (octets_stand id octets disk e)
octets_stand id octets (Stated key state ∷ disk) e = inr (octets_stand id octets disk e)
octets_stand id octets (Octets other held ∷ disk) e = by (λ f. octets_stand id octets disk f) (is_same_id other id) refl e
  where
    by : ((octets_in id disk ≡ Some octets) → Among (Octets id octets) disk) → (t : Bool) → is_same_id other id ≡ t → cond t (Some held) (octets_in id disk) ≡ Some octets
        → (Octets other held ≡ Octets id octets) ⊎ Among (Octets id octets) disk
    by rest true same f = inl (same_octets (id_is other id same) f)
      where
        same_octets : other ≡ id → Some held ≡ Some octets → Octets other held ≡ Octets id octets
        same_octets p q = cc
    by rest false same f = inr (rest f)

gone_is : (value : Value) → is_gone value ≡ true → value ≡ Gone
gone_is Here e = absurd (true≢false (sym e))
gone_is Gone e = refl
gone_is (Secret octets) e = absurd (true≢false (sym e))

-- a disk that says that a key is gone has a record of it
pub gone_held : (user : List ℕ) (id : Id) (disk : List Record) → is_gone_held (said (Message user id) disk) ≡ true → ShowsGone user id disk
gone_held user id disk h = by (said (Message user id) disk) refl h
  where
    by : (held : Option State) → said (Message user id) disk ≡ held → is_gone_held held ≡ true → ShowsGone user id disk
    by None e g = absurd (true≢false (sym g))
    by (Some one) e g = let b = said_backed (Message user id) disk one e in record { state = b.top; inside = b.inside; gone = b.same_value ∙ gone_is one.value g }

pub stored_or_gone : (id : Id) (users : List (List ℕ)) (octets : List ℕ) (disk : List Record) (user : List ℕ) → Among user users
    → ShowsGone user id (with_octets id users octets disk) ⊎ StoresMessage id (with_octets id users octets disk)
stored_or_gone id users octets disk user m = by (is_gone_held (said (Message user id) disk)) refl
  where
    more : List Record
    more = if is_wanted id users disk then Octets id octets ∷ [] else []

    stores : is_gone_held (said (Message user id) disk) ≡ false → (held : Option (List ℕ)) → octets_in id disk ≡ held → StoresMessage id (with_octets id users octets disk)
    stores h (Some o) e = record { octets = o; inside = among_front (Octets id o) disk more (octets_stand id o disk e) }
    stores h None e = record {
      octets = octets;
      inside = subst (λ b. Among (Octets id octets) (disk ++ (if b then Octets id octets ∷ [] else [])))
          (sym (and_from (list_any (λ u. not (is_gone_held (said (Message u id) disk))) users) (not (is_some (octets_in id disk)))
          (any_among (λ u. not (is_gone_held (said (Message u id) disk))) user users m (ap not h)) (ap (λ (o : Option (List ℕ)). not (is_some o)) e)))
          (among_behind (Octets id octets) disk (Octets id octets ∷ []) (inl refl));
    }

    by : (b : Bool) → is_gone_held (said (Message user id) disk) ≡ b → ShowsGone user id (with_octets id users octets disk) ⊎ StoresMessage id (with_octets id users octets disk)
    by true h = inl (says_more disk more (IsGone user id) (gone_held user id disk h))
    by false h = inr (stores h (octets_in id disk) refl)

-- octets that are stored are a step
pub octets_step : (own : ℕ) (updates : List Update) (Brought : Id → List ℕ → Type 0) (Acks : Key → State → ℕ → Type 0) (store : Store)
    (id : Id) (users : List (List ℕ)) (octets : List ℕ) → Brought id octets
    → StoreStep own updates Brought Acks store (record store { disk = with_octets id users octets store.disk })
octets_step own updates Brought Acks store id users octets brought = by (is_wanted id users store.disk)
  where
    nothing : (xs : List Record) → xs ++ [] ≡ xs
    nothing [] = refl
    nothing (x ∷ xs) = ap (λ (l : List Record). x ∷ l) (nothing xs)

    place : (one : Record) → Among one (store.disk ++ Octets id octets ∷ []) → Among one store.disk ⊎ (Octets id octets ≡ one)
    place one m = ⊎_elim (λ front. inl front) (λ b. ⊎_elim (λ e. inr e) (λ none. absurd none) b) (among_either one store.disk (Octets id octets ∷ []) m)

    by : (b : Bool) → StoreStep own updates Brought Acks store (record store { disk = store.disk ++ (if b then Octets id octets ∷ [] else []) })
    by false = subst (λ d. StoreStep own updates Brought Acks store (record store { disk = d })) (sym (nothing store.disk)) (stays own updates Brought Acks store)
    by true = record {
      grows = (Octets id octets ∷ [], refl);
      bootless = λ boot m. ⊎_elim (λ is. cc is) (λ none. none) m;
      boots = boot_both 0 store.disk (Octets id octets ∷ []);
      order = λ o. record {
        logged = λ key entry h. said_octets key store.disk id octets ∙ o.logged key entry h;
        owed = o.owed;
      };
      octets = λ other held m. ⊎_elim (λ front. inl front) (λ is. inr (moved other held is)) (place (Octets other held) m);
      settled = λ key state m s. inl (record { says = sym (said_octets key store.disk id octets) ∙ s.says; target = s.target; other = s.other; told = s.told });
      retired = λ key state m. ⊎_elim (λ front. inl front) (λ is. absurd (cc is)) (place (Retired key state) m);
      fits = λ u d. record {
        target = λ key state m. ⊎_elim (λ front. d.target key state front) (λ is. absurd (cc is)) (place (Stated key state) m);
        kind = λ key state m. ⊎_elim (λ front. d.kind key state front) (λ is. absurd (cc is)) (place (Stated key state) m);
      };
      gone = λ user other s. ⊎_elim
          (λ front. inl (record { one = s.one; inside = front; speaks = s.speaks }))
          (λ is. absurd (⊎_elim (λ e. clash is e) (λ e. clash_retired is e) s.speaks.is))
          (place s.one s.inside);
    }
      where
        moved : (other : Id) (held : List ℕ) → Octets id octets ≡ Octets other held → Brought other held
        moved other held is = let i : id ≡ other = cc in let o : octets ≡ held = cc in subst (λ x. Brought x held) i (subst (λ x. Brought id x) o brought)

        clash : {one : Record} {a : Key} {x : State} → Octets id octets ≡ one → one ≡ Stated a x → ⊥
        clash p q = cc

        clash_retired : {one : Record} {a : Key} {x : State} → Octets id octets ≡ one → one ≡ Retired a x → ⊥
        clash_retired p q = cc

-- once all copies are taken, each user's copy is here with octets, or gone
pub all_copied : (own : ℕ) (id : Id) (stamp : Stamp) (targets : ℕ) (users : List (List ℕ)) (octets : List ℕ) (store : Store)
    → SaysFact (take_all own (here_updates id stamp targets users) (record store { disk = with_octets id users octets store.disk })).disk (HasCopies users id)
all_copied own id stamp targets users octets store = λ user m.
    let u : Update = record { key = Message user id; state = record { value = Here; stamp = stamp; targets = targets } } in
    let inside = map_among (λ (user : List ℕ). record { key = Message user id; state = record { value = Here; stamp = stamp; targets = targets } }) user users m in
    let c = all_cover own updates (λ i o. ⊥) (λ k s n. ⊥) updates (λ v k. k) first u inside in
    let g = (took_all own updates (λ i o. ⊥) (λ k s n. ⊥) updates (λ v k. k) first).grows in
    ⊎_elim
    (λ (s : ShowsGone user id first.disk). let t = subst (λ d. SaysFact d (IsGone user id)) (sym g.1) (says_more first.disk g.0 (IsGone user id) s) in record { state = t.state; inside = t.inside; stored = inl t.gone })
    (λ (s : StoresMessage id first.disk). record {
      state = c.top;
      inside = c.inside;
      stored = inr (record {
        octets = s.octets;
        inside = subst (Among (Octets id s.octets)) (sym g.1) (among_front (Octets id s.octets) first.disk g.0 s.inside);
      });
    })
    (stored_or_gone id users octets store.disk user m)
  where
    updates : List Update
    updates = here_updates id stamp targets users

    first : Store
    first = record store { disk = with_octets id users octets store.disk }
