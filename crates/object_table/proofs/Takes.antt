-- A table holds the joins of what was taken, whatever the order.
use Rattle.std.proofs.Common.{◌≡◌, inl, inr, Bool, true, false, cond, List, [], ◌∷◌, ◌++◌, Option, Some, refl, sym, ap, subst, ◌∙◌, true≢false}
use Rattle.std.specs.Prelude.{◌↔◌}
use Rattle.std.specs.FinMap as fin
use Rattle.std.specs.FinMap.{get-empty, same_map}
use Rattle.mail_model.specs.Identity.{Key, State}
use Rattle.object_model.specs.Lists.{Among}
use Rattle.object_model.specs.Keys.{key_cmp, is_same_key}
use Rattle.object_model.specs.States.{join_with, join_after, join_all}
use Rattle.object_model.specs.Merge.{IsMerge}
use Rattle.object_model.proofs.MapLaws.{key_total, key_exact, written, kept_other}
use Rattle.object_model.proofs.StateLaws.{key_is, key_self}
use Rattle.object_model.proofs.Merges.{join_is_merge, one_join}
use Rattle.object_model.proofs.Lists.{among_front, among_behind}
use Rattle.object_table.specs.Tables.{Table, Update, taken, table_after, states_of}

after_one : (key : Key) (update : Update) (table : Table) → fin.get (taken update.key update.state table) key
    ≡ join_after (fin.get table key) (cond (is_same_key update.key key) (update.state ∷ []) [])
after_one key update table = by (is_same_key update.key key) refl
  where
    by : (b : Bool) → is_same_key update.key key ≡ b → fin.get (taken update.key update.state table) key ≡ join_after (fin.get table key) (cond b (update.state ∷ []) [])
    by true e = subst (λ (k : Key). fin.get (taken update.key update.state table) k ≡ join_after (fin.get table k) (update.state ∷ [])) (key_is update.key key e)
        (written key_total key_exact table update.key (join_with (fin.get table update.key) update.state))
    by false e = kept_other key_total key_exact table update.key (join_with (fin.get table update.key) update.state) key
        (λ same. true≢false (sym (subst (λ (k : Key). is_same_key update.key k ≡ true) (sym same) (key_self update.key)) ∙ e))

join_both : (held : Option State) (some more : List State) → join_after held (some ++ more) ≡ join_after (join_after held some) more
join_both held [] more = refl
join_both held (state ∷ some) more = join_both (Some (join_with held state)) some more

holds_after : (updates : List Update) (key : Key) (table : Table) → fin.get (table_after updates table) key ≡ join_after (fin.get table key) (states_of key updates)
holds_after [] key table = refl
holds_after (update ∷ updates) key table =
    holds_after updates key (taken update.key update.state table)
    ∙ ap (λ held. join_after held (states_of key updates)) (after_one key update table)
    ∙ sym (join_both (fin.get table key) (cond (is_same_key update.key key) (update.state ∷ []) []) (states_of key updates))

pub holds_joins : (updates : List Update) (key : Key) → fin.get (table_after updates fin.empty) key ≡ join_all (states_of key updates)
holds_joins updates key = holds_after updates key fin.empty ∙ ap (λ held. join_after held (states_of key updates)) (get-empty key_cmp key)

pub holds_merges : (updates : List Update) (key : Key) (held : State) → fin.get (table_after updates fin.empty) key ≡ Some held → IsMerge (states_of key updates) held
holds_merges updates key held is = join_is_merge (states_of key updates) held (sym (holds_joins updates key) ∙ is)

-- a state is among those of its object exactly where it was taken for it
first_or : (key : Key) (state : State) (update : Update) (updates : List Update)
    → (Among state (states_of key updates) → Among (record { key = key; state = state }) updates)
    → (b : Bool) → is_same_key update.key key ≡ b → Among state (cond b (update.state ∷ []) [] ++ states_of key updates) → Among (record { key = key; state = state }) (update ∷ updates)
first_or key state update updates rest true e (inl is) = let keys : update.key ≡ key = key_is update.key key e in inl (λ i. record { key = keys i; state = is i })
first_or key state update updates rest true e (inr more) = inr (rest more)
first_or key state update updates rest false e more = inr (rest more)

among_states : (key : Key) (state : State) (updates : List Update) → Among state (states_of key updates) → Among (record { key = key; state = state }) updates
among_states key state [] h = h
among_states key state (update ∷ updates) h = first_or key state update updates (among_states key state updates) (is_same_key update.key key) refl h

states_among : (key : Key) (state : State) (updates : List Update) → Among (record { key = key; state = state }) updates → Among state (states_of key updates)
states_among key state [] h = h
states_among key state (update ∷ updates) (inl is) =
    among_front state (cond (is_same_key update.key key) (update.state ∷ []) []) (states_of key updates) (subst (λ b. Among state (cond b (update.state ∷ []) [])) (sym same) (inl (ap (λ (u : Update). u.state) is)))
  where
    same : is_same_key update.key key ≡ true
    same = ap (λ (u : Update). is_same_key u.key key) is ∙ key_self key
states_among key state (update ∷ updates) (inr more) =
    among_behind state (cond (is_same_key update.key key) (update.state ∷ []) []) (states_of key updates) (states_among key state updates more)

pub same_tables : (some others : List Update) → ((update : Update) → Among update some ↔ Among update others) → table_after some fin.empty ≡ table_after others fin.empty
same_tables some others same = same_map key_total key_exact _ _ (λ key.
    holds_joins some key ∙ one_join (states_of key some) (states_of key others) (both key) ∙ sym (holds_joins others key))
  where
    both : (key : Key) (state : State) → Among state (states_of key some) ↔ Among state (states_of key others)
    both key state = (
      λ h. states_among key state others ((same (record { key = key; state = state })).0 (among_states key state some h)),
      λ h. states_among key state some ((same (record { key = key; state = state })).1 (among_states key state others h)),
    )
