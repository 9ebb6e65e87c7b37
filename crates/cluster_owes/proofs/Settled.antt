-- A world in which it is settled, node by node, whether what was pending stands.
use Rattle.std.proofs.Common.{◌≡◌, ◌⊎◌, inl, inr, ⊎_elim, ◌≤◌, ◌+◌, ℕ, zero, suc, List, [], ◌∷◌, ◌++◌, Some, refl, sym, ap, ◌∙◌, subst, arith, le_refl}
use Rattle.std.specs.Prelude.{slice_get, slice_set}
use Rattle.mail_model.specs.Identity.{Id}
use Rattle.mail_model.specs.Record.{Record}
use Rattle.cluster_model.specs.Cluster.{Life, Slot, slot_at, with_slot, pending_of}
use Rattle.cluster_model.specs.Cluster.Life.{Up, Down, Lost}
use Rattle.cluster_model.specs.Deeds.{stop_act}
use Rattle.cluster_model.specs.World.{World, Leads, cluster_of}
use Rattle.cluster_model.proofs.Slots.{read_after, at_same}
use Rattle.cluster_model.proofs.Starting.{stop_acts}
use Rattle.cluster_model.proofs.Leading.{no_move, led_on}
use Rattle.cluster_model.proofs.Stepping.{quiet_leads}
use Rattle.cluster_owes.specs.Held.{IsHeld, AreHeld}

nothing : (xs : List Record) → xs ++ [] ≡ xs
nothing [] = refl
nothing (x ∷ xs) = ap (λ (l : List Record). x ∷ l) (nothing xs)

-- no step brings octets
abbrev pub Nothing : Id → List ℕ → Type 0
Nothing id octets = ⊥

-- The slots from number n + 1 on have these disks, the others are as they were, and nobody is lost that was not.
pub record IsSettled (confirm : ℕ) (w : World) (n : ℕ) (disks : List (List Record)) : Type 0 where
  pub next : World
  pub leads : Leads confirm Nothing (cluster_of w) (cluster_of next)
  pub book : next.book ≡ w.book
  pub low : (k : ℕ) → k ≤ n → slot_at next.slots k ≡ slot_at w.slots k
  pub each : (m : ℕ) (records : List Record) → slice_get disks m ≡ Some records → (slot : Slot) × (slot_at next.slots (suc (n + m)) ≡ Some slot) × (slot.disk ≡ records)
  pub was : (k : ℕ) (slot : Slot) → slot_at next.slots k ≡ Some slot → (before : Slot) × (slot_at w.slots k ≡ Some before) × (slot.life ≡ Lost → before.life ≡ Lost)

-- one node
record OneSettled (confirm : ℕ) (w : World) (n : ℕ) (records : List Record) : Type 0 where
  next : World
  leads : Leads confirm Nothing (cluster_of w) (cluster_of next)
  book : next.book ≡ w.book
  others : (k : ℕ) (slot : Slot) → slot_at next.slots k ≡ Some slot → (k ≡ n) ⊎ (slot_at w.slots k ≡ Some slot)
  stays : (k : ℕ) → (k ≡ n → ⊥) → slot_at next.slots k ≡ slot_at w.slots k
  here : (slot : Slot) × (slot_at next.slots n ≡ Some slot) × (slot.disk ≡ records)
  was : (slot : Slot) → slot_at next.slots n ≡ Some slot → (before : Slot) × (slot_at w.slots n ≡ Some before) × (slot.life ≡ Lost → before.life ≡ Lost)

other_slot : (slots : List Slot) (n k : ℕ) (slot : Slot) → (k ≡ n → ⊥) → slot_at (with_slot slots n slot) k ≡ slot_at slots k
other_slot slots zero k slot apart = refl
other_slot slots (suc n) zero slot apart = refl
other_slot slots (suc n) (suc k) slot apart = go slots n k (λ e. apart (ap suc e))
  where
    go : (xs : List Slot) (n k : ℕ) → (k ≡ n → ⊥) → slice_get (slice_set xs n slot) k ≡ slice_get xs k
    go [] n k apart = refl
    go (x ∷ xs) zero zero apart = absurd (apart refl)
    go (x ∷ xs) zero (suc k) apart = refl
    go (x ∷ xs) (suc n) zero apart = refl
    go (x ∷ xs) (suc n) (suc k) apart = go xs n k (λ e. apart (ap suc e))

settle_one : (confirm : ℕ) (w : World) (n : ℕ) (slot : Slot) (records : List Record) → slot_at w.slots n ≡ Some slot → IsHeld slot records → OneSettled confirm w n records
settle_one confirm w n slot records here (inl same) = record {
  next = w;
  leads = no_move confirm Nothing (cluster_of w) (cluster_of w) refl;
  book = refl;
  others = λ k s at. inr at;
  stays = λ k apart. refl;
  here = (slot, here, sym same);
  was = λ s at. (s, at, λ e. e);
}
settle_one confirm w n slot records here (inr kept) = by slot.life refl
  where
    as_it_is : pending_of slot.life ≡ [] → OneSettled confirm w n records
    as_it_is none = record {
      next = w;
      leads = no_move confirm Nothing (cluster_of w) (cluster_of w) refl;
      book = refl;
      others = λ k s at. inr at;
      stays = λ k apart. refl;
      here = (slot, here, sym (kept ∙ ap (λ p. slot.disk ++ p) none ∙ nothing slot.disk));
      was = λ s at. (s, at, λ e. e);
    }

    by : (life : Life) → slot.life ≡ life → OneSettled confirm w n records
    by (Up node) e = as_it_is (ap pending_of e)
    by Lost e = as_it_is (ap pending_of e)
    by (Down pending) e = record {
      next = next;
      leads = quiet_leads confirm Nothing w (stop_act n slot.disk pending [] (slot.disk ++ pending)) refl refl refl refl down
          (λ ready. stop_acts n slot.disk pending [] (slot.disk ++ pending) (record { kept = pending; pending_is = inr refl; records = refl; next_is = inl refl }) ready);
      book = refl;
      others = λ k s at. ⊎_elim (λ same. inl same.0) (λ old. inr old) (read_after w.slots n k (record { life = Down pending; disk = slot.disk }) settled s down at);
      stays = λ k apart. other_slot w.slots n k settled apart;
      here = (settled, at_same w.slots n (record { life = Down pending; disk = slot.disk }) settled down, sym (kept ∙ ap (λ l. slot.disk ++ pending_of l) e));
      was = λ s at. (slot, here, λ lost. absurd (never s at lost));
    }
      where
        settled : Slot
        settled = record { life = Down []; disk = slot.disk ++ pending }

        next : World
        next = record w { slots = with_slot w.slots n settled }

        down : slot_at w.slots n ≡ Some (record { life = Down pending; disk = slot.disk })
        down = here ∙ ap Some (λ i. record { life = e i; disk = slot.disk })

        never : (s : Slot) → slot_at next.slots n ≡ Some s → s.life ≡ Lost → ⊥
        never s at lost = clash (sym (at_same w.slots n (record { life = Down pending; disk = slot.disk }) settled down) ∙ at) lost
          where
            clash : Some settled ≡ Some s → s.life ≡ Lost → ⊥
            clash p q = down_lost (ap (λ (x : Slot). x.life) (same p) ∙ q)
              where
                same : Some settled ≡ Some s → settled ≡ s
                same p = cc

                down_lost : ◌≡◌ {A = Life} (Down []) Lost → ⊥
                down_lost p = cc

-- all nodes from n + 1 on
pub settle : (confirm : ℕ) (w : World) (n : ℕ) (disks : List (List Record))
    → ((m : ℕ) (records : List Record) → slice_get disks m ≡ Some records → (slot : Slot) × (slot_at w.slots (suc (n + m)) ≡ Some slot) × IsHeld slot records)
    → IsSettled confirm w n disks
settle confirm w n [] held = record {
  next = w;
  leads = no_move confirm Nothing (cluster_of w) (cluster_of w) refl;
  book = refl;
  low = λ k le. refl;
  each = λ m records e. absurd (cc e);
  was = λ k slot at. (slot, at, λ e. e);
}
settle confirm w n (records ∷ disks) held =
    let first = held 0 records refl in
    let zero_more = more_zero n in
    let one = settle_one confirm w (suc n) first.0 records (ap (λ k. slot_at w.slots (suc k)) (sym zero_more) ∙ first.1) first.2 in
    let rest = settle confirm one.next (suc n) disks (λ m found e. let at = held (suc m) found e in
    (at.0, one.stays (suc (suc n + m)) (further n m) ∙ ap (λ k. slot_at w.slots (suc k)) (sym (more_suc n m)) ∙ at.1, at.2)) in
    record {
      next = rest.next;
      leads = led_on confirm Nothing (cluster_of w) (cluster_of one.next) (cluster_of rest.next) one.leads rest.leads;
      book = rest.book ∙ one.book;
      low = λ k le. rest.low k (up_to n k le) ∙ one.stays k (below n k le);
      each = λ m found e. at_place one.next rest.next one.here rest.low rest.each m found e;
      was = λ k slot at. let mid = rest.was k slot at in let before = was_before one.next one.others one.was k mid.0 mid.1 in (before.0, before.1, λ lost. before.2 (mid.2 lost));
    }
  where
    more_zero : (n : ℕ) → n + 0 ≡ n
    more_zero n = omega arith

    more_suc : (n m : ℕ) → n + suc m ≡ suc n + m
    more_suc n m = omega arith

    further : (n m : ℕ) → suc (suc n + m) ≡ suc n → ⊥
    further n m e = omega (arith, e)

    up_to : (n k : ℕ) → k ≤ n → k ≤ suc n
    up_to n k le = omega (arith, le)

    below : (n k : ℕ) → k ≤ n → k ≡ suc n → ⊥
    below n k le e = omega (arith, le, e)

    at_place : (next last : World) → (slot : Slot) × (slot_at next.slots (suc n) ≡ Some slot) × (slot.disk ≡ records)
        → ((k : ℕ) → k ≤ suc n → slot_at last.slots k ≡ slot_at next.slots k)
        → ((m : ℕ) (found : List Record) → slice_get disks m ≡ Some found → (slot : Slot) × (slot_at last.slots (suc (suc n + m)) ≡ Some slot) × (slot.disk ≡ found))
        → (m : ℕ) (found : List Record) → slice_get (records ∷ disks) m ≡ Some found → (slot : Slot) × (slot_at last.slots (suc (n + m)) ≡ Some slot) × (slot.disk ≡ found)
    at_place next last here low each zero found e =
        (here.0, ap (λ k. slot_at last.slots (suc k)) (more_zero n) ∙ low (suc n) (le_refl (suc n)) ∙ here.1, here.2 ∙ (let same : records ≡ found = cc e in same))
    at_place next last here low each (suc m) found e = let s = each m found e in (s.0, ap (λ k. slot_at last.slots (suc k)) (more_suc n m) ∙ s.1, s.2)

    was_before : (next : World) → ((k : ℕ) (slot : Slot) → slot_at next.slots k ≡ Some slot → (k ≡ suc n) ⊎ (slot_at w.slots k ≡ Some slot))
        → ((slot : Slot) → slot_at next.slots (suc n) ≡ Some slot → (before : Slot) × (slot_at w.slots (suc n) ≡ Some before) × (slot.life ≡ Lost → before.life ≡ Lost))
        → (k : ℕ) (slot : Slot) → slot_at next.slots k ≡ Some slot → (before : Slot) × (slot_at w.slots k ≡ Some before) × (slot.life ≡ Lost → before.life ≡ Lost)
    was_before next others was k slot at = ⊎_elim
        (λ same. let b = was slot (ap (slot_at next.slots) (sym same) ∙ at) in (b.0, ap (slot_at w.slots) same ∙ b.1, b.2))
        (λ old. (slot, old, λ e. e))
        (others k slot at)

-- what stores hold, slot by slot
pub held_at : (slots : List Slot) (disks : List (List Record)) → AreHeld slots disks → (m : ℕ) (records : List Record) → slice_get disks m ≡ Some records
    → (slot : Slot) × (slice_get slots m ≡ Some slot) × IsHeld slot records
held_at [] [] held m records e = absurd (cc e)
held_at [] (first ∷ disks) held m records e = absurd held
held_at (slot ∷ slots) [] held m records e = absurd held
held_at (slot ∷ slots) (first ∷ disks) held zero records e = (slot, refl, subst (IsHeld slot) (let same : first ≡ records = cc e in same) held.0)
held_at (slot ∷ slots) (first ∷ disks) held (suc m) records e = held_at slots disks held.1 m records e

pub disk_at : (slots : List Slot) (disks : List (List Record)) → AreHeld slots disks → (m : ℕ) (slot : Slot) → slice_get slots m ≡ Some slot → (records : List Record) × (slice_get disks m ≡ Some records)
disk_at [] disks held m slot e = absurd (cc e)
disk_at (one ∷ slots) [] held m slot e = absurd held
disk_at (one ∷ slots) (first ∷ disks) held zero slot e = (first, refl)
disk_at (one ∷ slots) (first ∷ disks) held (suc m) slot e = disk_at slots disks held.1 m slot e
