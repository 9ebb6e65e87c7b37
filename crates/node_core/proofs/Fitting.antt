-- The records that a node adds are ones that a record can spell.
use Rattle.std.proofs.Common.{◌≡◌, ℕ, List, [], ◌∷◌, ◌++◌, Bool, true, false, cond, nat_eq, Option, Some, None, refl, subst}
use Rattle.std.specs.Prelude.{All}
use Rattle.std.proofs.lemmas.List.Elements.{All-nil, All-cons, All-append, All-head, All-tail}
use Rattle.mail_model.specs.Names.{IsLowerName}
use Rattle.mail_model.specs.Identity.{Id, Stamp, Key, State}
use Rattle.mail_model.specs.Identity.Key.{Profile, Message}
use Rattle.mail_model.specs.Identity.Value.{Here, Gone}
use Rattle.mail_model.specs.Record.{Record}
use Rattle.mail_model.specs.Record.Record.{Octets, Stated, Retired}
use Rattle.mail_model.specs.Grammar.{IsId, IsStamp, IsCount, IsKey, IsObject, IsRecord}
use Rattle.object_model.specs.Sets.{without_node}
use Rattle.object_model.specs.States.{join_with, is_news}
use Rattle.object_model.specs.Said.{said}
use Rattle.object_model.specs.Letters.{DeletionMark}
use Rattle.cluster_model.specs.Store.{Store, Update, recorded, take_one, take_all, here_updates, gone_updates, is_wanted, with_octets}
use Rattle.cluster_model.specs.Rules.{with_pushed}
use Rattle.node_store.proofs.Objects.{join_object}
use Rattle.node_store.proofs.Logged.{said_fits}

recorded_fits : (own : ℕ) (key : Key) (state : State) (store : Store) → All IsRecord store.disk → IsObject key state → All IsRecord (recorded own key state store).disk
recorded_fits own key state store fit one = by (nat_eq (without_node state.targets own) 0)
  where
    stated : All IsRecord (Stated key state ∷ [])
    stated = All-cons IsRecord (Stated key state) [] one (All-nil IsRecord)

    both : All IsRecord (Stated key state ∷ Retired key state ∷ [])
    both = All-cons IsRecord (Stated key state) (Retired key state ∷ []) one (All-cons IsRecord (Retired key state) [] one (All-nil IsRecord))

    chosen : Bool → List Record
    chosen b = store.disk ++ cond b (Stated key state ∷ Retired key state ∷ []) (Stated key state ∷ [])

    at : (b : Bool) → All IsRecord (chosen b)
    at true = All-append IsRecord store.disk (Stated key state ∷ Retired key state ∷ []) fit both
    at false = All-append IsRecord store.disk (Stated key state ∷ []) fit stated

    same : (b : Bool) → nat_eq (without_node state.targets own) 0 ≡ b → chosen b ≡ (recorded own key state store).disk
    same true e = rw e refl
    same false e = rw e refl

    by : (b : Bool) → All IsRecord (recorded own key state store).disk
    by b = subst (All IsRecord) (same (nat_eq (without_node state.targets own) 0) refl) (at (nat_eq (without_node state.targets own) 0))

pub one_fits : (own : ℕ) (update : Update) (store : Store) → All IsRecord store.disk → IsObject update.key update.state → All IsRecord (take_one own update store).disk
one_fits own update store fit one = by (is_news (said update.key store.disk) update.state)
  where
    next : State
    next = join_with (said update.key store.disk) update.state

    by : (b : Bool) → All IsRecord (cond b (recorded own update.key next store) store).disk
    by true = recorded_fits own update.key next store fit (join_object update.key (said update.key store.disk) update.state (said_fits update.key store.disk fit) one)
    by false = fit

pub all_fit : (own : ℕ) (updates : List Update) (store : Store) → All IsRecord store.disk → All (λ u. IsObject u.key u.state) updates → All IsRecord (take_all own updates store).disk
all_fit own [] store fit all = fit
all_fit own (update ∷ updates) store fit all =
    all_fit own updates (take_one own update store) (one_fits own update store fit (All-head (λ (u : Update). IsObject u.key u.state) update updates all))
    (All-tail (λ (u : Update). IsObject u.key u.state) update updates all)

pub octets_fit : (id : Id) (users : List (List ℕ)) (octets : List ℕ) (disk : List Record) → IsId id → All IsRecord disk → All IsRecord (with_octets id users octets disk)
octets_fit id users octets disk one fit = All-append IsRecord disk (cond (is_wanted id users disk) (Octets id octets ∷ []) []) fit (by (is_wanted id users disk))
  where
    by : (b : Bool) → All IsRecord (cond b (Octets id octets ∷ []) [])
    by true = All-cons IsRecord (Octets id octets) [] one (All-nil IsRecord)
    by false = All-nil IsRecord

pub here_objects : (id : Id) (stamp : Stamp) (targets : ℕ) (users : List (List ℕ)) → IsId id → IsStamp stamp → IsCount 16 targets → All IsLowerName users
    → All (λ u. IsObject u.key u.state) (here_updates id stamp targets users)
here_objects id stamp targets [] i s t all = All-nil (λ (u : Update). IsObject u.key u.state)
here_objects id stamp targets (user ∷ users) i s t all =
    All-cons (λ (u : Update). IsObject u.key u.state) (record { key = Message user id; state = record { value = Here; stamp = stamp; targets = targets } }) (here_updates id stamp targets users)
    (record { key_fits = (All-head IsLowerName user users all, i); state_fits = record { value = tt; stamp = s; targets = t }; kind = tt })
    (here_objects id stamp targets users i s t (All-tail IsLowerName user users all))

pub gone_objects : (user : List ℕ) (targets : ℕ) (marks : List DeletionMark) → IsLowerName user → IsCount 16 targets → All (λ mark. IsId mark.id) marks → All (λ mark. IsStamp mark.stamp) marks
    → All (λ u. IsObject u.key u.state) (gone_updates user targets marks)
gone_objects user targets [] n t ids stamps = All-nil (λ (u : Update). IsObject u.key u.state)
gone_objects user targets (mark ∷ marks) n t ids stamps =
    All-cons (λ (u : Update). IsObject u.key u.state) (record { key = Message user mark.id; state = record { value = Gone; stamp = mark.stamp; targets = targets } }) (gone_updates user targets marks)
    (record {
      key_fits = (n, All-head (λ (m : DeletionMark). IsId m.id) mark marks ids);
      state_fits = record { value = tt; stamp = All-head (λ (m : DeletionMark). IsStamp m.stamp) mark marks stamps; targets = t };
      kind = tt;
    })
    (gone_objects user targets marks n t (All-tail (λ (m : DeletionMark). IsId m.id) mark marks ids) (All-tail (λ (m : DeletionMark). IsStamp m.stamp) mark marks stamps))

-- octets that were pushed
pub pushed_fit : (key : Key) (octets : Option (List ℕ)) (disk : List Record) → IsKey key → All IsRecord disk → All IsRecord (with_pushed key octets disk)
pushed_fit (Profile user) octets disk one fit = fit
pushed_fit (Message user id) None disk one fit = fit
pushed_fit (Message user id) (Some octets) disk one fit = octets_fit id (user ∷ []) octets disk one.1 fit
