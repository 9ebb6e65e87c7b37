-- What a sound world says of who confirmed, as lists of nodes.
use Rattle.std.proofs.Common.{◌≡◌, inl, inr, ◌≤◌, ◌-◌, ℕ, true, List, [], ◌∷◌, Some, refl, sym, subst, le_refl}
use Rattle.std.specs.Prelude.{slice_get}
use Rattle.mail_model.specs.Identity.{Id}
use Rattle.mail_model.specs.Identity.Key.{Message}
use Rattle.mail_model.specs.Plan.{Plan}
use Rattle.mail_model.specs.Record.{Record, SaysGone}
use Rattle.mail_model.specs.Book.{BookEntry}
use Rattle.mail_model.specs.Book.BookEntry.{Acknowledged, Struck, Dropped, WentDown, CameUp, WasLost}
use Rattle.object_model.specs.Lists.{Among}
use Rattle.object_model.specs.Sets.{has, count_in, nodes_in}
use Rattle.session_model.specs.Copies.{OnNode, OnEnough, AreGoneOn, DroppedAreGone}
use Rattle.cluster_model.specs.Cluster.{Slot, slot_at}
use Rattle.cluster_model.specs.Laws.{LacksCopy}
use Rattle.cluster_model.specs.Parts.{Sound}
use Rattle.cluster_model.specs.World.{World, cluster_of}
use Rattle.cluster_model.specs.WorldLaws.{InPlan}
use Rattle.cluster_model.proofs.Promises.{dropped_gone}
use Rattle.cluster_owes.proofs.Masks.{mask_is, count_is, list_rises, all_in_list}
use Rattle.cluster_owes.proofs.Books.{AreMasked}

module _ (plan : Plan) (disks : List (List Record)) (w : World) (sound : Sound plan.confirm (cluster_of w)) (in_plan : InPlan plan.nodes w.slots)
    (at_disk : (n : ℕ) (slot : Slot) → slot_at w.slots n ≡ Some slot → (records : List Record) × (slice_get disks (n - 1) ≡ Some records) × (slot.disk ≡ records)) where
  -- it is so on each node of the set
  pub record SoOn (is_so : List Record → Type 0) (m : ℕ) : Type 0 where
    pub slot : Slot
    pub here : slot_at w.slots m ≡ Some slot
    pub so : is_so slot.disk

  on_node : (is_so : List Record → Type 0) (m : ℕ) → SoOn is_so m → OnNode disks is_so m
  on_node is_so m s = let d = at_disk m s.slot s.here in (d.0, d.1, subst is_so d.2 s.so)

  pub on_enough : (is_so : List Record → Type 0) (mask : ℕ) → plan.confirm ≤ count_in mask → ((m : ℕ) → has mask m ≡ true → SoOn is_so m) → OnEnough plan disks is_so (nodes_in mask 64)
  on_enough is_so mask enough each = record {
    are = record {
      rising = list_rises mask 64 plan.nodes (λ m h. let s = each m h in (in_plan m s.slot s.here).within);
      enough = subst (λ c. plan.confirm ≤ c) (sym (count_is mask 64)) enough;
    };
    each = all_in_list (OnNode disks is_so) mask 64 (λ m h. on_node is_so m (each m h));
  }

  -- a copy whose deletion was confirmed
  pub gone_on : (user : List ℕ) (id : Id) (confirmers : ℕ) → Among (Dropped user id confirmers) w.book → AreGoneOn plan disks user id (nodes_in confirmers 64)
  gone_on user id confirmers m =
      let d = dropped_gone plan.confirm (cluster_of w) sound user id confirmers m in
      on_enough (SaysGone (Message user id)) confirmers d.0 (λ n h. let l : LacksCopy user id w.slots n = d.1 n h in record { slot = l.slot; here = l.here; so = l.stands })

  pub all_gone : (book : List BookEntry) → AreMasked book → ((entry : BookEntry) → Among entry book → Among entry w.book) → DroppedAreGone plan disks book
  all_gone [] masked within = tt
  all_gone (Dropped user id confirmers ∷ book) masked within = (
    (nodes_in confirmers 64, sym (mask_is 64 confirmers (le_refl 64) masked.0), gone_on user id confirmers (within (Dropped user id confirmers) (inl refl))),
    all_gone book masked.1 (λ entry m. within entry (inr m)),
  )
  all_gone (Acknowledged copy ∷ book) masked within = all_gone book masked.1 (λ entry m. within entry (inr m))
  all_gone (Struck user id ∷ book) masked within = all_gone book masked (λ entry m. within entry (inr m))
  all_gone (WentDown node ∷ book) masked within = all_gone book masked (λ entry m. within entry (inr m))
  all_gone (CameUp node boot ∷ book) masked within = all_gone book masked (λ entry m. within entry (inr m))
  all_gone (WasLost node ∷ book) masked within = all_gone book masked (λ entry m. within entry (inr m))
