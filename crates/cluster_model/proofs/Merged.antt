-- What a disk says once states were taken, however often they are.
use Rattle.std.proofs.Common.{◌≡◌, inl, inr, ⊎_elim, ℕ, Bool, true, false, cond, not, ◌&&◌, List, [], ◌∷◌, ◌++◌, Option, Some, None, refl, sym, ap, ◌∙◌, subst, true≢false, nat_eq, eq-eqb}
use Rattle.std.specs.Cmp.Lexicographic.{bytes_decides}
use Rattle.std.proofs.lemmas.Bool.{and_from}
use Rattle.mail_model.specs.Identity.{Stamp, Key, Value, State}
use Rattle.mail_model.specs.Identity.Value.{Here, Gone, Secret}
use Rattle.object_model.specs.Lists.{Among}
use Rattle.object_model.specs.Keys.{is_same_key}
use Rattle.object_model.specs.States.{is_same_value, is_same_stamp, is_same_state, is_news, joined, join_with, join_after, join_all}
use Rattle.object_model.specs.Said.{said, states_in}
use Rattle.object_model.proofs.Lists.{among_front, among_behind, among_either}
use Rattle.object_model.proofs.StateLaws.{key_is, key_self}
use Rattle.object_model.proofs.Merges.{one_join, says_join}
use Rattle.cluster_model.specs.Store.{Store, Update, recorded, take_one, take_all, updates_of}
use Rattle.cluster_model.proofs.Takes.{took_join}

-- the disk says the join of what it said and of what is taken
pub says_merge : (own : ℕ) (updates : List Update) (store : Store) (key : Key) → said key (take_all own updates store).disk ≡ join_after (said key store.disk) (updates_of key updates)
says_merge own [] store key = refl
says_merge own (update ∷ updates) store key = says_merge own updates (take_one own update store) key ∙ by (is_same_key update.key key) refl
  where
    by : (b : Bool) → is_same_key update.key key ≡ b
        → join_after (said key (take_one own update store).disk) (updates_of key updates) ≡ join_after (said key store.disk) ((cond b (update.state ∷ []) []) ++ updates_of key updates)
    by true e = ap (λ held. join_after held (updates_of key updates)) (subst (λ k. said k (take_one own update store).disk ≡ Some (join_with (said k store.disk) update.state)) (key_is update.key key e) (took_join own update store).0)
    by false e = ap (λ held. join_after held (updates_of key updates)) ((took_join own update store).1 key (λ same. true≢false (sym (ap (is_same_key update.key) same ∙ key_self update.key) ∙ e)))

join_both : (held : Option State) (xs ys : List State) → join_after held (xs ++ ys) ≡ join_after (join_after held xs) ys
join_both held [] ys = refl
join_both held (x ∷ xs) ys = join_both (Some (join_with held x)) xs ys

value_self : (v : Value) → is_same_value v v ≡ true
value_self Here = refl
value_self Gone = refl
value_self (Secret octets) = (bytes_decides octets octets).1 refl

stamp_self : (s : Stamp) → is_same_stamp s s ≡ true
stamp_self s = and_from (nat_eq s.count s.count && nat_eq s.boot s.boot) (nat_eq s.node s.node)
    (and_from (nat_eq s.count s.count) (nat_eq s.boot s.boot) (eq-eqb s.count s.count refl) (eq-eqb s.boot s.boot refl)) (eq-eqb s.node s.node refl)

state_self : (s : State) → is_same_state s s ≡ true
state_self s = and_from (is_same_value s.value s.value && is_same_stamp s.stamp s.stamp) (nat_eq s.targets s.targets)
    (and_from (is_same_value s.value s.value) (is_same_stamp s.stamp s.stamp) (value_self s.value) (stamp_self s.stamp)) (eq-eqb s.targets s.targets refl)

-- a state that is among those joined is no news
known : (states : List State) (state : State) → Among state states → is_news (join_all states) state ≡ false
known states state inside = by (join_all states) refl
  where
    same : join_all (states ++ state ∷ []) ≡ join_all states
    same = one_join (states ++ state ∷ []) states (λ s. (λ m. ⊎_elim (λ a. a) (λ b. ⊎_elim (λ e. subst (λ (x : State). Among x states) e inside) (λ none. absurd none) b) (among_either s states (state ∷ []) m), λ m. among_front s states (state ∷ []) m))

    by : (held : Option State) → join_all states ≡ held → is_news held state ≡ false
    by None e = absurd (none_some (sym e ∙ sym same ∙ join_both None states (state ∷ [])))
      where
        none_some : None ≡ Some (join_with (join_all states) state) → ⊥
        none_some f = cc
    by (Some m) e = ap not (ap (λ x. is_same_state x m) (some_same (joined m state) m (ap (λ held. join_after held (state ∷ [])) (sym e) ∙ sym (join_both None states (state ∷ [])) ∙ same ∙ e)) ∙ state_self m)
      where
        some_same : (a b : State) → Some a ≡ Some b → a ≡ b
        some_same a b f = cc

among_updates : (updates : List Update) (u : Update) → Among u updates → Among u.state (updates_of u.key updates)
among_updates [] u m = absurd m
among_updates (update ∷ updates) u m = ⊎_elim
    (λ is. among_front u.state _ (updates_of u.key updates) (subst (λ b. Among u.state (cond b (update.state ∷ []) []))
    (sym (ap (λ (x : Update). is_same_key x.key u.key) is ∙ key_self u.key)) (inl (ap (λ (x : Update). x.state) is))))
    (λ behind. among_behind u.state (cond (is_same_key update.key u.key) (update.state ∷ []) []) (updates_of u.key updates) (among_updates updates u behind))
    m

-- what was taken is no news
no_news : (own : ℕ) (updates : List Update) (store : Store) (u : Update) → Among u updates → is_news (said u.key (take_all own updates store).disk) u.state ≡ false
no_news own updates store u m = ap (λ held. is_news held u.state) (says_merge own updates store u.key
    ∙ ap (λ held. join_after held (updates_of u.key updates)) (says_join u.key store.disk)
    ∙ sym (join_both None (states_in u.key store.disk) (updates_of u.key updates)))
    ∙ known (states_in u.key store.disk ++ updates_of u.key updates) u.state (among_behind u.state (states_in u.key store.disk) (updates_of u.key updates) (among_updates updates u m))

old_stays : (own : ℕ) (updates : List Update) (store : Store) → ((u : Update) → Among u updates → is_news (said u.key store.disk) u.state ≡ false) → take_all own updates store ≡ store
old_stays own [] store old = refl
old_stays own (update ∷ updates) store old =
    ap (take_all own updates) (ap (λ b. cond b (recorded own update.key (join_with (said update.key store.disk) update.state) store) store) (old update (inl refl)))
    ∙ old_stays own updates store (λ u m. old u (inr m))

pub twice : (own : ℕ) (updates : List Update) (store : Store) → take_all own updates (take_all own updates store) ≡ take_all own updates store
twice own updates store = old_stays own updates (take_all own updates store) (λ u m. no_news own updates store u m)
