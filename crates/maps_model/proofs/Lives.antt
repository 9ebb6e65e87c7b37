-- That a node goes down, is lost, is cut by a fault, or starts, as acts of the machine; and that an opening is sound.
use Rattle.std.proofs.Common.{◌≡◌, ◌≢◌, ◌⊎◌, inl, inr, ⊎_elim, ℕ, zero, suc, ◌≤◌, [], Option, Some, None, refl, sym, ap, ◌∙◌, subst, arith}
use Rattle.std.specs.Prelude.{slice_get}
use Rattle.object_model.specs.Letters.{Membership, Letter}
use Rattle.maps_model.specs.Epochs.{IsAtMost}
use Rattle.maps_model.specs.Cluster.{Node, Disk, Life, Slot, slot_at, slot_up}
use Rattle.maps_model.specs.Cluster.Life.{Up, Down, Lost}
use Rattle.maps_model.specs.Words.{Known}
use Rattle.maps_model.specs.Moves.{BeginsBoot, IsInOrder, IsReady, IsAct}
use Rattle.maps_model.specs.Rules.{Reaction, started, booted}
use Rattle.maps_model.specs.NodeLaws.{act_of, fall_act, cut_act, start_act, first_image, fresh_slots}
use Rattle.maps_model.specs.Parts.{Sound}
use Rattle.maps_model.proofs.Making.{same_life, not_lost, not_up, lost_not_up}
use Rattle.maps_model.proofs.Grouping.{none_some, some_same}

down_not_lost : (might : Disk) → Down might ≡ Lost → ⊥
down_not_lost might h = cc

-- whoever is not up afterwards sends nothing
pub gone : (n : ℕ) (before after : Slot) (heard : Option Letter) → before.life ≢ Lost → before.disk.boot ≤ after.disk.boot → IsAtMost before.disk.promise after.disk.promise
    → IsInOrder n after.disk after.life → ((new : Node) → after.life ≡ Up new → ⊥) → IsAct (record { node = n; before = before; after = after; heard = heard; out = [] })
gone n before after heard was boots promises order not = record {
  was = was;
  boots = boots;
  promises = promises;
  order = order;
  lives = λ new e. absurd (not new e);
  membership = record {
    installed = λ new e. absurd (not new e);
    group = λ new e. absurd (not new e);
    joins = λ new e. absurd (not new e);
    sent_installs = λ letter m. absurd m;
    sent_joins = λ letter m. absurd m;
    sent = λ letter m. absurd m;
  };
  maps = record {
    rows = λ old new b e. absurd (not new e);
    versions = λ old new b e. absurd (not new e);
    unmarked = λ old new b e. absurd (not new e);
    reports = λ letter m. absurd m;
    acks = λ letter m. absurd m;
  };
}

pub falls : (n : ℕ) (before : Slot) (life : Life) → before.life ≢ Lost → (life ≡ Down before.disk) ⊎ (life ≡ Lost) → IsAct (fall_act n before life)
falls n before life was (inl down) = subst (λ l. IsAct (fall_act n before l)) (sym down)
    (gone n before (record { life = Down before.disk; disk = before.disk }) None was (omega arith) (inr refl) (omega arith, inr refl) (λ new e. not_up before.disk new e))
falls n before life was (inr lost) = subst (λ l. IsAct (fall_act n before l)) (sym lost)
    (gone n before (record { life = Lost; disk = before.disk }) None was (omega arith) (inr refl) tt (λ new e. lost_not_up new e))

pub cuts : (own : ℕ) (node : Node) (disk : Disk) (did : Reaction) (heard : Option Letter) → IsAct (act_of own node disk did heard) → IsAct (cut_act own node disk did heard)
cuts own node disk did heard is =
    gone own (slot_up node disk) (record { life = Down did.disk; disk = disk }) heard (not_lost node) (omega arith) (inr refl) (is.boots, is.promises) (λ new e. not_up did.disk new e)

pub starts : (n : ℕ) (disk might image : Disk) → (image ≡ disk) ⊎ (image ≡ might) → IsReady n (record { life = Down might; disk = disk }) None → IsAct (start_act n disk might image)
starts n disk might image found ready = record {
  was = down_not_lost might;
  boots = omega (arith, more);
  promises = most;
  order = record {
    booted = refl;
    promised = refl;
    heard = omega arith;
    installed = λ g h. absurd (none_some g h);
    group = λ group h. absurd (none_some group h);
    counted = λ group h. absurd (none_some group h);
    joined = λ group h. absurd (none_some group h);
  };
  lives = λ new e. inr (subst (λ (x : Node). BeginsBoot (start_act n disk might image) x) (same_life (started image) new e) (record { later = omega (arith, more); without = refl; unopened = refl; rowless = λ m boot user. refl }));
  membership = record {
    installed = λ new e g h. absurd (none_some g (ap (λ (x : Node). x.installed) (same_life (started image) new e) ∙ h));
    group = λ new e group h. absurd (none_some group (ap (λ (x : Node). x.group) (same_life (started image) new e) ∙ h));
    joins = λ new e group h. absurd (none_some group (ap (λ (x : Node). x.group) (same_life (started image) new e) ∙ h));
    sent_installs = λ letter m. absurd m;
    sent_joins = λ letter m. absurd m;
    sent = λ letter m. absurd m;
  };
  maps = record {
    rows = λ old new b. absurd (not_up might old b);
    versions = λ old new b. absurd (not_up might old b);
    unmarked = λ old new b. absurd (not_up might old b);
    reports = λ letter m. absurd m;
    acks = λ letter m. absurd m;
  };
}
  where
    more : disk.boot ≤ image.boot
    more = ⊎_elim (λ e. omega (arith, ap (λ (d : Disk). d.boot) e)) (λ e. omega (arith, ap (λ (d : Disk). d.boot) e, ready.order.0)) found

    most : IsAtMost disk.promise image.promise
    most = ⊎_elim (λ e. inr (ap (λ (d : Disk). d.promise) (sym e))) (λ e. subst (λ (d : Disk). IsAtMost disk.promise d.promise) (sym e) ready.order.1) found

-- an opening
abbrev first_slot : Slot
first_slot = slot_up (started first_image) (booted first_image)

fresh : (n k : ℕ) (slot : Slot) → slice_get (fresh_slots n) k ≡ Some slot → first_slot ≡ slot
fresh zero k slot e = absurd (none_some slot e)
fresh (suc n) zero slot e = some_same first_slot slot e
fresh (suc n) (suc k) slot e = fresh n k slot e

fresh_at : (n m : ℕ) (slot : Slot) → slot_at (fresh_slots n) m ≡ Some slot → first_slot ≡ slot
fresh_at n zero slot e = absurd (none_some slot e)
fresh_at n (suc k) slot e = fresh n k slot e

fresh_node : (n m : ℕ) (node : Node) (disk : Disk) → slot_at (fresh_slots n) m ≡ Some (slot_up node disk) → started first_image ≡ node
fresh_node n m node disk e = same_life (started first_image) node (ap (λ (s : Slot). s.life) (fresh_at n m (slot_up node disk) e))

none_known : (n : ℕ) (g : Membership) → Known (fresh_slots n) [] g → ⊥
none_known n g (inl h) = none_some g (ap (λ (x : Node). x.installed) (fresh_node n h.n h.node h.disk h.here) ∙ h.is)
none_known n g (inr h) = h.inside

pub opens : (nodes : ℕ) → Sound (record { slots = fresh_slots nodes; flying = [] })
opens nodes = record {
  order = record {
    each = λ n slot at. subst (λ (s : Slot). IsInOrder n s.disk s.life) (fresh_at nodes n slot at) (record {
      booted = refl;
      promised = refl;
      heard = omega arith;
      installed = λ g h. absurd (none_some g h);
      group = λ group h. absurd (none_some group h);
      counted = λ group h. absurd (none_some group h);
      joined = λ group h. absurd (none_some group h);
    });
  };
  apart = record { each = λ letter m. absurd m };
  one = record { one = λ a b x. absurd (none_known nodes a x); over = λ g k. absurd (none_known nodes g k); counted = λ g k. absurd (none_known nodes g k); managers = λ g k. absurd (none_known nodes g k) };
  joins = record {
    named = λ g k. absurd (none_known nodes g k);
    joined = λ n node disk at group h. absurd (none_some group (ap (λ (x : Node). x.group) (fresh_node nodes n node disk at) ∙ h));
    joining = λ letter m. absurd m;
  };
  spoken = record {
    report_over = λ letter m. absurd m;
    ack_over = λ letter m. absurd m;
    reported = λ letter m. absurd m;
    acked = λ letter m. absurd m;
    rows = λ n node disk at m boot user row h. absurd (none_some row (ap (λ (x : Node). x.rows m boot user) (fresh_node nodes n node disk at) ∙ h));
  };
  reported = record { to = λ letter m. absurd m; fits = λ n node disk at letter m. absurd m };
  told = record { each = λ n node disk at g h. absurd (none_some g (ap (λ (x : Node). x.installed) (fresh_node nodes n node disk at) ∙ h)) };
}
