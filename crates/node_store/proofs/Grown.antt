-- States that are taken only add records.
use Rattle.std.proofs.Common.{◌≡◌, ℕ, List, [], ◌∷◌, ◌++◌, Bool, true, false, nat_eq, refl, sym, ap, ◌∙◌, append-nil, append_assoc, if◌then◌else◌}
use Rattle.mail_model.specs.Identity.{Key, State}
use Rattle.mail_model.specs.Record.{Record}
use Rattle.mail_model.specs.Record.Record.{Stated, Retired}
use Rattle.std.specs.FinMap as fin
use Rattle.object_model.specs.Sets.{without_node}
use Rattle.object_model.specs.Said.{said}
use Rattle.object_model.specs.States.{join_with, is_news}
use Rattle.object_model.specs.UpdateLog.{noted}
use Rattle.cluster_model.specs.Store.{Store, Update, recorded, take_one, take_all}
use Rattle.node_store.proofs.Works.{Grows}

recorded_grows : (own : ℕ) (key : Key) (state : State) (store : Store) → Grows (recorded own key state) store
recorded_grows own key state store = by (nat_eq (without_node state.targets own) 0) refl
  where
    chosen : Bool → Store
    chosen b = if b
        then record { log = fin.remove store.log key; disk = store.disk ++ Stated key state ∷ Retired key state ∷ [] }
        else record { log = noted own key state store.log; disk = store.disk ++ Stated key state ∷ [] }

    by : (b : Bool) → nat_eq (without_node state.targets own) 0 ≡ b → Grows (recorded own key state) store
    by true e = record { more = Stated key state ∷ Retired key state ∷ []; is = ap (λ (b : Bool). (chosen b).disk) e }
    by false e = record { more = Stated key state ∷ []; is = ap (λ (b : Bool). (chosen b).disk) e }

pub one_grows : (own : ℕ) (update : Update) (store : Store) → Grows (take_one own update) store
one_grows own update store = by (is_news (said update.key store.disk) update.state) refl
  where
    next : State
    next = join_with (said update.key store.disk) update.state

    chosen : Bool → Store
    chosen b = if b then recorded own update.key next store else store

    by : (b : Bool) → is_news (said update.key store.disk) update.state ≡ b → Grows (take_one own update) store
    by true e = let g = recorded_grows own update.key next store in record { more = g.more; is = ap (λ (b : Bool). (chosen b).disk) e ∙ g.is }
    by false e = record { more = []; is = ap (λ (b : Bool). (chosen b).disk) e ∙ sym (append-nil store.disk) }

pub all_grow : (own : ℕ) (updates : List Update) (store : Store) → Grows (take_all own updates) store
all_grow own [] store = record { more = []; is = sym (append-nil store.disk) }
all_grow own (update ∷ updates) store =
    let first = one_grows own update store in
    let others = all_grow own updates (take_one own update store) in
    record { more = first.more ++ others.more; is = others.is ∙ ap (λ (l : List Record). l ++ others.more) first.is ∙ append_assoc store.disk first.more others.more }
