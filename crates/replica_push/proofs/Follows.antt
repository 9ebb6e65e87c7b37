-- What a replica does, beside the rules of the cluster.
use Rattle.std.proofs.Common.{◌≡◌, ◌≢◌, ⊎_elim, ℕ, zero, suc, ◌<◌, ◌&&◌, not, nat_eq, Bool, true, false, cond, List, [], ◌∷◌, ◌++◌, Option, Some, None, refl, sym, ap, subst, ◌∙◌, true≢false, arith, append-nil, bit_or, if◌then◌else◌}
use Rattle.std.specs.FinMap as fin
use Rattle.std.proofs.lemmas.Bool.{and_parts}
use Rattle.mail_model.specs.Identity.{Key, State}
use Rattle.mail_model.specs.Record.Record.{Stated, Retired}
use Rattle.mail_model.specs.Listing.{is_here}
use Rattle.object_model.specs.Said.{said}
use Rattle.object_model.specs.Sets.{has, one_node, with_node, without_node}
use Rattle.object_model.specs.States.{is_below, joined, join_with, is_news, is_same_state}
use Rattle.object_model.specs.UpdateLog.{Logged, Log, new_entry, noted, is_of, cleared, cleared_at, retired}
use Rattle.object_model.proofs.MapLaws.{key_total, key_exact, written, kept_other}
use Rattle.object_model.proofs.SaidLaws.{or_again}
use Rattle.object_model.proofs.SetLaws.{has_right, one_has}
use Rattle.object_model.proofs.StateLaws.{state_is}
use Rattle.mail_base.proofs.KeyWrites.{same_or}
use Rattle.object_table.specs.Tables.{taken}
use Rattle.update_log.specs.declared.logged.Acked.TheVariants.{Cleared, Emptied, Other}
use Rattle.update_log.specs.Answers.{answer_at}
use Rattle.object_model.specs.Letters.{Letter}
use Rattle.object_model.specs.Letters.Body.{Retire}
use Rattle.cluster_model.specs.Cluster.{epoch_of}
use Rattle.cluster_model.specs.Store.{Store, recorded, take_one}
use Rattle.cluster_model.specs.Rules as rule
use Rattle.cluster_model.proofs.Takes.{took_join}
use Rattle.replica_push.specs.Acks.{after_ack}
use Rattle.replica_push.specs.Pushes.{news_of, note_news}
use Rattle.replica_push.specs.Rules.{records_of, settled, PushesFollow, WideningFollows, retired_by, IsLeft, AcksFollow, RetiringFollows}
use Rattle.replica_push.proofs.Logs.{state_self, retired_entry}

-- the log and the disk of a store that takes a state, by what is held
took_log : (own : ℕ) (key : Key) (state : State) (held : Option State) (store : Store) (b : Bool) → is_news held state ≡ b
    → (if b then recorded own key (join_with held state) store else store).log
    ≡ settled own key (if b then Some (join_with held state) else None) (note_news own key (if b then Some (join_with held state) else None) store.log)
took_log own key state held store false e = refl
took_log own key state held store true e = by (nat_eq (without_node (join_with held state).targets own) 0)
  where
    next : State
    next = join_with held state

    by : (none : Bool) → (λ (s : Store). s.log) (if none then record { log = fin.remove store.log key; disk = store.disk ++ Stated key next ∷ Retired key next ∷ [] } else record { log = noted own key next store.log; disk = store.disk ++ Stated key next ∷ [] })
        ≡ (if none then retired key next (noted own key next store.log) else noted own key next store.log)
    by true = sym (retired_entry store.log key next (new_entry own next) (state_self next))
    by false = refl

took_disk : (own : ℕ) (key : Key) (state : State) (held : Option State) (store : Store) (b : Bool) → is_news held state ≡ b
    → (if b then recorded own key (join_with held state) store else store).disk ≡ store.disk ++ records_of own key (if b then Some (join_with held state) else None)
took_disk own key state held store false e = sym (append-nil store.disk)
took_disk own key state held store true e = by (nat_eq (without_node (join_with held state).targets own) 0)
  where
    next : State
    next = join_with held state

    by : (none : Bool) → (λ (s : Store). s.disk) (if none then record { log = fin.remove store.log key; disk = store.disk ++ Stated key next ∷ Retired key next ∷ [] } else record { log = noted own key next store.log; disk = store.disk ++ Stated key next ∷ [] })
        ≡ store.disk ++ (if none then Stated key next ∷ Retired key next ∷ [] else Stated key next ∷ [])
    by true = refl
    by false = refl

pub pushes_follow : PushesFollow
pushes_follow own key state table store tells = record {
  log = subst (λ (held : Option State). (take_one own (record { key = key; state = state }) store).log ≡ settled own key (news_of held state) (note_news own key (news_of held state) store.log))
      (sym (tells key)) (took_log own key state (said key store.disk) store (is_news (said key store.disk) state) refl);
  disk = subst (λ (held : Option State). (take_one own (record { key = key; state = state }) store).disk ≡ store.disk ++ records_of own key (news_of held state))
      (sym (tells key)) (took_disk own key state (said key store.disk) store (is_news (said key store.disk) state) refl);
  tells = λ other. ⊎_elim
      (λ (same : other ≡ key). subst (λ (k : Key). fin.get (taken key state table) k ≡ said k (take_one own (record { key = key; state = state }) store).disk) (sym same) here)
      (λ apart. kept_other key_total key_exact table key (join_with (fin.get table key) state) other apart ∙ tells other ∙ sym (joins.1 other apart))
      (same_or other key);
}
  where
    joins : (said key (take_one own (record { key = key; state = state }) store).disk ≡ Some (join_with (said key store.disk) state))
        × ((other : Key) → other ≢ key → said other (take_one own (record { key = key; state = state }) store).disk ≡ said other store.disk)
    joins = took_join own (record { key = key; state = state }) store

    here : fin.get (taken key state table) key ≡ said key (take_one own (record { key = key; state = state }) store).disk
    here = written key_total key_exact table key (join_with (fin.get table key) state) ∙ ap (λ held. Some (join_with held state)) (tells key) ∙ sym joins.0

-- a wider state, as it is taken
abbrev wide : State → ℕ → State
wide held to = record { value = held.value; stamp = held.stamp; targets = with_node held.targets to }

joined_wide : (held : State) (to : ℕ) → joined held (wide held to) ≡ wide held to
joined_wide held to = by (is_below held (wide held to))
  where
    same : record { value = held.value; stamp = held.stamp; targets = bit_or held.targets (with_node held.targets to) } ≡ wide held to
    same = ap (λ (t : ℕ). record { value = held.value; stamp = held.stamp; targets = t }) (or_again held.targets (one_node to))

    by : (b : Bool) → record { value = (cond b (wide held to) held).value; stamp = (cond b (wide held to) held).stamp; targets = bit_or held.targets (with_node held.targets to) } ≡ wide held to
    by true = same
    by false = same

new_target : (held : State) (k : ℕ) → k < 64 → has held.targets (suc k) ≡ false → is_same_state (wide held (suc k)) held ≡ false
new_target held k low lacks = by (is_same_state (wide held (suc k)) held) refl
  where
    by : (b : Bool) → is_same_state (wide held (suc k)) held ≡ b → b ≡ false
    by false e = refl
    by true e =
        let same = ap (λ s. s.targets) (state_is (wide held (suc k)) held e) in
        let here = has_right held.targets (one_node (suc k)) (suc k) (one_has k low) in
        absurd (true≢false (sym here ∙ ap (λ t. has t (suc k)) same ∙ lacks))

not_true : (b : Bool) → not b ≡ true → b ≡ false
not_true false e = refl
not_true true e = absurd (true≢false (sym e))

pub widening_follows : WideningFollows
widening_follows held next zero low high wider = absurd (omega (arith, low))
widening_follows held next (suc k) low high wider = by (is_here held.value && not (has held.targets (suc k))) refl wider
  where
    below : k < 64
    below = omega (arith, high)

    taken_wide : has held.targets (suc k) ≡ false → (news_of (Some held) (wide held (suc k)) ≡ Some (wide held (suc k))) × (joined held (wide held (suc k)) ≡ wide held (suc k))
    taken_wide lacks = (
      ap (λ (s : State). cond (not (is_same_state s held)) (Some s) None) (joined_wide held (suc k))
          ∙ ap (λ b. cond (not b) (Some (wide held (suc k))) None) (new_target held k below lacks),
      joined_wide held (suc k),
    )

    by : (b : Bool) → is_here held.value && not (has held.targets (suc k)) ≡ b → cond b (Some (wide held (suc k))) None ≡ Some next
        → (news_of (Some held) next ≡ Some next) × (joined held next ≡ next)
    by true e h =
        let same : wide held (suc k) ≡ next = cc h in
        subst (λ (s : State). (news_of (Some held) s ≡ Some s) × (joined held s ≡ s)) same
        (taken_wide (not_true (has held.targets (suc k)) (and_parts (is_here held.value) (not (has held.targets (suc k))) e).1))
    by false e h = absurd (cc h)

pub acks_follow : AcksFollow
acks_follow own nodes node disk key state by = at (fin.get node.log key) refl
  where
    nothing : IsLeft node node.log (disk ++ []) (rule.idle node disk)
    nothing = record { node_is = refl; disk_is = sym (append-nil disk) }

    left : (entry : Logged) → fin.get node.log key ≡ Some entry → is_same_state entry.state state && has entry.remaining by ≡ true → (out : List Letter) → (none : Bool)
        → IsLeft node (after_ack key state by (cond none Emptied Cleared) node.log) (disk ++ retired_by key state (cond none Emptied Cleared))
        (cond none (record { node = record node { log = fin.remove node.log key }; disk = disk ++ Retired key entry.state ∷ []; out = out })
        (record { node = record node { log = fin.insert node.log key (cleared by entry) }; disk = disk; out = [] }))
    left entry is both out true = record {
      node_is = refl;
      disk_is = ap (λ (s : State). disk ++ Retired key s ∷ []) (state_is entry.state state (and_parts (is_same_state entry.state state) (has entry.remaining by) both).0);
    }
    left entry is both out false = record {
      node_is = ap (λ (l : Log). record node { log = l })
          (sym (ap (λ h. cleared_at key state by h node.log) is ∙ ap (λ b. cond b (fin.insert node.log key (cleared by entry)) node.log) both));
      disk_is = sym (append-nil disk);
    }

    tested : (entry : Logged) → fin.get node.log key ≡ Some entry → (b : Bool) → is_same_state entry.state state && has entry.remaining by ≡ b
        → IsLeft node (after_ack key state by (cond b (cond (nat_eq (without_node entry.remaining by) 0) Emptied Cleared) Other) node.log)
        (disk ++ retired_by key state (cond b (cond (nat_eq (without_node entry.remaining by) 0) Emptied Cleared) Other))
        (cond b (rule.shrunk own nodes node disk key (cleared by entry)) (rule.idle node disk))
    tested entry is true both = left entry is both (rule.letters_to own (epoch_of node) None (rule.receivers own entry.state.targets nodes) (Retire key entry.state)) (nat_eq (without_node entry.remaining by) 0)
    tested entry is false both = nothing

    at : (held : Option Logged) → fin.get node.log key ≡ held
        → IsLeft node (after_ack key state by (answer_at state by held) node.log) (disk ++ retired_by key state (answer_at state by held)) (rule.acked_at own nodes node disk key state by held)
    at None is = nothing
    at (Some entry) is = tested entry is (is_same_state entry.state state && has entry.remaining by) refl

pub retiring_follows : RetiringFollows
retiring_follows node disk key state = at (fin.get node.log key)
  where
    tested : (entry : Logged) (b : Bool) → is_same_state entry.state state ≡ b
        → IsLeft node (cond b (fin.remove node.log key) node.log) (disk ++ cond b (Retired key state ∷ []) [])
        (cond b (record { node = record node { log = fin.remove node.log key }; disk = disk ++ Retired key entry.state ∷ []; out = [] }) (rule.idle node disk))
    tested entry true same = record { node_is = refl; disk_is = ap (λ (s : State). disk ++ Retired key s ∷ []) (state_is entry.state state same) }
    tested entry false same = record { node_is = refl; disk_is = sym (append-nil disk) }

    at : (held : Option Logged) → IsLeft node (cond (is_of state held) (fin.remove node.log key) node.log) (disk ++ cond (is_of state held) (Retired key state ∷ []) []) (rule.retired_at node disk key state held)
    at None = record { node_is = refl; disk_is = sym (append-nil disk) }
    at (Some entry) = tested entry (is_same_state entry.state state) refl
