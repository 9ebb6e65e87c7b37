-- A copy that gets a target more, as the machine's node does it.
use Rattle.std.proofs.Common.{◌≡◌, ℕ, List, ◌<◌, ◌^◌, Bool, true, false, not, ◌&&◌, cond, Option, Some, None, refl, sym, ap, subst, ◌∙◌, arith}
use Rattle.std.specs.FinMap as fin
use Rattle.std.proofs.lemmas.Nat.{le_or_l}
use Rattle.mail_model.specs.Identity.{Key, State}
use Rattle.mail_model.specs.Grammar.{IsObject}
use Rattle.mail_model.specs.Listing.{is_here}
use Rattle.mail_model.specs.Record.{Record}
use Rattle.object_model.specs.Sets.{has, with_node, one_node}
use Rattle.object_table.specs.Tables.{Table}
use Rattle.cluster_model.specs.Store.{take_one}
use Rattle.replica_push.specs.Pushes.{wider, wider_of}
use Rattle.node_store.specs.Disks.{View}
use Rattle.node_store.specs.Keeps.{KeepsRecords, seen_with, HoldsObjects, CanGoOn}
use Rattle.node_store.specs.Changes.{take_wider, widened_in}
use Rattle.node_store.specs.Writes.{Done, WorkIsCutShort}
use Rattle.node_store.specs.declared.store.NodeStore.{NodeStore}
use Rattle.node_store.proofs.Works.{done_none, done_like, stopped_like}

wider_one : (key : Key) (held next : State) (to : ℕ) → IsObject key held → wider_of held to ≡ Some next → next.targets < 2 ^ 16 → IsObject key next
wider_one key held next to one is bound = by (is_here held.value && not (has held.targets to)) is
  where
    wide : State
    wide = record { value = held.value; stamp = held.stamp; targets = with_node held.targets to }

    by : (b : Bool) → cond b (Some wide) None ≡ Some next → IsObject key next
    by true e =
        let same : wide ≡ next = cc e in
        let below : wide.targets < 2 ^ 16 = subst (λ (s : State). s.targets < 2 ^ 16) (sym same) bound in
        subst (IsObject key) same (record {
          key_fits = one.key_fits;
          state_fits = record {
            value = one.state_fits.value;
            stamp = one.state_fits.stamp;
            targets = (omega (arith, one.state_fits.targets.0, le_or_l held.targets (one_node to)), below);
          };
          kind = one.kind;
        })
    by false e = absurd (cc e)

-- the wider state can be recorded
pub wider_object : (key : Key) (next : State) (to : ℕ) (table : Table) → HoldsObjects table → Some next ≡ wider (fin.get table key) to → next.targets < 2 ^ 16 → IsObject key next
wider_object key next to table all is bound = by (fin.get table key) refl (sym is)
  where
    by : (held : Option State) → fin.get table key ≡ held → wider held to ≡ Some next → IsObject key next
    by None e f = absurd (cc f)
    by (Some held) e f = wider_one key held next to (all key held e) f bound

module _ {D : Type 0} (on : View D) (key : Key) (to : ℕ) (old : NodeStore) (before after : D) where
  same_at : (found : Option State) → found ≡ wider (fin.get old.objects key) to → (records : List Record) → KeepsRecords records old
      → take_wider old.own key found (seen_with old records) ≡ widened_in old.own key to (seen_with old records)
  same_at found is records k = ap (λ (o : Option State). take_wider old.own key o (seen_with old records)) (is ∙ ap (λ h. wider h to) (k.says key))

  pub none_wider : CanGoOn (on.seen before) old → None ≡ wider (fin.get old.objects key) to → Done on (widened_in old.own key to) old before old before
  none_wider sound is = done_like on (λ s. s) (widened_in old.own key to) old before old before (same_at None is) (done_none on old before sound)

  pub wider_done : (next : State) (new : NodeStore) → Some next ≡ wider (fin.get old.objects key) to → Done on (take_one old.own (record { key = key; state = next })) old before new after
      → Done on (widened_in old.own key to) old before new after
  wider_done next new is d = done_like on (take_one old.own (record { key = key; state = next })) (widened_in old.own key to) old before new after (same_at (Some next) is) d

  pub wider_stopped : (next : State) → Some next ≡ wider (fin.get old.objects key) to → WorkIsCutShort on (take_one old.own (record { key = key; state = next })) old before after
      → WorkIsCutShort on (widened_in old.own key to) old before after
  wider_stopped next is d = stopped_like on (take_one old.own (record { key = key; state = next })) (widened_in old.own key to) old before after (same_at (Some next) is) d
