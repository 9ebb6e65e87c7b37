-- A copy that gets a target more, as the machine's node does it.
use Rattle.std.proofs.Common.{◌≡◌, ◌≤◌, ℕ, max, List, [], ◌∷◌, Bool, true, false, not, ◌&&◌, cond, Option, Some, None, is_some, refl, sym, ap, subst, ◌∙◌, arith}
use Rattle.std.specs.Prelude.{All}
use Rattle.std.proofs.lemmas.Nat.{le_or_l}
use Rattle.mail_model.specs.Identity.{Key, State}
use Rattle.mail_model.specs.Grammar.{IsObject, IsRecord}
use Rattle.mail_model.specs.Listing.{is_here}
use Rattle.mail_model.specs.Record.{Record}
use Rattle.object_model.specs.Said.{said}
use Rattle.object_model.specs.Sets.{has, with_node, one_node}
use Rattle.object_model.specs.UpdateLog.{Log}
use Rattle.cluster_model.specs.Cluster as plain
use Rattle.cluster_model.specs.Store.{Store, Update, take_all}
use Rattle.cluster_model.specs.Rules.{Reaction, idle, can_widen, widened, widen, with_updates, greatest_named}
use Rattle.replica_push.specs.Pushes.{wider}
use Rattle.mail_base.proofs.Sets.{with_small}
use Rattle.node_store.specs.Disks.{View}
use Rattle.node_store.specs.Keeps.{seen_with}
use Rattle.node_store.specs.Changes.{take_wider, widened_in}
use Rattle.node_store.specs.Writes.{Done, WorkIsCutShort}
use Rattle.node_store.proofs.Logged.{said_fits}
use Rattle.node_tickets.specs.Standing.{IsOf, tickets_in}
use Rattle.node_tickets.specs.declared.tickets.Tickets.{Tickets}
use Rattle.node_core.specs.Nodes.{node_seen, NodeKeeps, IsWhole}
use Rattle.node_core.specs.Works.{NodeDid, NodeStopped}
use Rattle.node_core.specs.declared.numbers.Numbers.{Numbers}
use Rattle.node_core.specs.declared.shape.Shape.{Shape}
use Rattle.node_core.specs.declared.node.Node.{Node}
use Rattle.node_core.proofs.Doing.{did_by, stopped_by}
use Rattle.node_core.proofs.Fitting.{one_fits}
use Rattle.node_core.proofs.Sending.{none_fit}

-- a state with a target more
abbrev pub wide : State → ℕ → State
wide held to = record { value = held.value; stamp = held.stamp; targets = with_node held.targets to }

wide_object : (key : Key) (held : State) (to : ℕ) → 1 ≤ to → to ≤ 16 → IsObject key held → IsObject key (wide held to)
wide_object key held to low high one = record {
  key_fits = one.key_fits;
  state_fits = record {
    value = one.state_fits.value;
    stamp = one.state_fits.stamp;
    targets = (omega (arith, one.state_fits.targets.0, le_or_l held.targets (one_node to)), with_small held.targets to one.state_fits.targets.1 low high);
  };
  kind = one.kind;
}

pub can_widen_is : (to : ℕ) (s : Option State) → is_some (wider s to) ≡ can_widen to s
can_widen_is to None = refl
can_widen_is to (Some held) = by (is_here held.value && not (has held.targets to))
  where
    by : (b : Bool) → is_some (cond b (Some (wide held to)) None) ≡ b
    by true = refl
    by false = refl

module _ (own to : ℕ) (key : Key) where
  widened_fits : 1 ≤ to → to ≤ 16 → (store : Store) → All IsRecord store.disk → All IsRecord (take_wider own key (wider (said key store.disk) to) store).disk
  widened_fits low high store fit = at (said key store.disk) refl
    where
      at : (s : Option State) → said key store.disk ≡ s → All IsRecord (take_wider own key (wider s to) store).disk
      at None e = fit
      at (Some held) e = by (is_here held.value && not (has held.targets to))
        where
          by : (b : Bool) → All IsRecord (take_wider own key (cond b (Some (wide held to)) None) store).disk
          by true = one_fits own (record { key = key; state = wide held to }) store fit (wide_object key held to low high (said_fits key store.disk fit held e))
          by false = fit

  module _ (node : plain.Node) (disk : List Record) where
    abbrev store : Store
    store = record { log = node.log; disk = disk }

    abbrev updates : State → List Update
    updates held = record { key = key; state = wide held to } ∷ []

    abbrev wrote : State → Reaction
    wrote held = record { node = with_updates own node (updates held) (take_all own (updates held) store); disk = (take_all own (updates held) store).disk; out = [] }

    widened_disk : (s : Option State) → (widened own to key node disk s).disk ≡ (take_wider own key (wider s to) store).disk
    widened_disk None = refl
    widened_disk (Some held) = by (is_here held.value && not (has held.targets to))
      where
        by : (b : Bool) → (λ (r : Reaction). r.disk) (cond b (wrote held) (idle node disk)) ≡ (take_wider own key (cond b (Some (wide held to)) None) store).disk
        by true = refl
        by false = refl

    widened_out : (s : Option State) → (widened own to key node disk s).out ≡ []
    widened_out None = refl
    widened_out (Some held) = by (is_here held.value && not (has held.targets to))
      where
        by : (b : Bool) → (λ (r : Reaction). r.out) (cond b (wrote held) (idle node disk)) ≡ []
        by true = refl
        by false = refl

    abbrev becomes : Bool → Log → plain.Node
    becomes did log = record node { drawn = cond did (max node.drawn (greatest_named own node.boot key)) node.drawn; log = log }

    widened_node : (s : Option State) (did : Bool) → did ≡ can_widen to s → (widened own to key node disk s).node ≡ becomes did (take_wider own key (wider s to) store).log
    widened_node None true e = absurd (cc e)
    widened_node None false e = refl
    widened_node (Some held) did e = by (is_here held.value && not (has held.targets to)) did e
      where
        by : (b did : Bool) → did ≡ b → (λ (r : Reaction). r.node) (cond b (wrote held) (idle node disk)) ≡ becomes did (take_wider own key (cond b (Some (wide held to)) None) store).log
        by true true f = refl
        by true false f = absurd (cc f)
        by false true f = absurd (cc f)
        by false false f = refl

module _ {D : Type 0} (on : View D) (to : ℕ) (key : Key) (old : Node) (before : D) (after : D) where
  abbrev own : ℕ
  own = old.store.own

  pub widen_stopped : 1 ≤ to → to ≤ 16 → WorkIsCutShort on (widened_in own key to) old.store before after → NodeStopped on (λ node disk. widen own to key node disk) old before after
  widen_stopped low high cut = stopped_by on (λ node disk. widen own to key node disk) (widened_in own key to) old before after cut
      (λ records k. widened_disk own to key (node_seen old) records (said key records))
      (λ records k. widened_fits own to key low high (seen_with old.store records) k.fit)

  pub widen_did : (new : Node) (did : Bool) → ((records : List Record) → NodeKeeps records old → did ≡ can_widen to (said key records))
      → Done on (widened_in own key to) old.store before new.store after
      → new.numbers ≡ record old.numbers { drawn = cond did (max old.numbers.drawn (greatest_named own old.numbers.boot key)) old.numbers.drawn }
      → new.shape ≡ old.shape → new.tickets ≡ old.tickets → IsWhole old → NodeDid on (λ node disk. widen own to key node disk) old before new after []
  widen_did new did can d numbers shape tickets whole =
      did_by on (λ node disk. widen own to key node disk) (widened_in own key to) old before new after [] d
      (λ records k. widened_disk own to key (node_seen old) records (said key records))
      (λ records k. widened_node own to key (node_seen old) records (said key records) did (can records k) ∙ sym (node_is (widened_in own key to (seen_with old.store records)).log))
      (λ records k. widened_out own to key (node_seen old) records (said key records))
      (record { boot = ap (λ (n : Numbers). n.boot) numbers; shape = shape; tickets = λ own boot confirm is. subst (IsOf own boot confirm) (sym tickets) is })
      whole none_fit
    where
      drawn : ℕ
      drawn = cond did (max old.numbers.drawn (greatest_named own old.numbers.boot key)) old.numbers.drawn

      node_shaped : Shape → plain.Node
      node_shaped s = record (node_seen old) { installed = s.installed }

      node_is : (log : Log) → record (node_seen new) { log = log } ≡ record (node_seen old) { drawn = drawn; log = log }
      node_is log =
          ap (λ (n : Numbers). record (node_seen new) { boot = n.boot; drawn = n.drawn; count = n.count; calls = n.calls; log = log }) numbers
          ∙ ap (λ (s : Shape). record (node_seen old) { drawn = drawn; installed = (node_shaped s).installed; log = log; tickets = (node_seen new).tickets }) shape
          ∙ ap (λ (t : Tickets). record (node_seen old) { drawn = drawn; log = log; tickets = tickets_in t }) tickets
