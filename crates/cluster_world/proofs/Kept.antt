-- A mishap leaves each disk's records, so what a step kept it keeps with its mishaps too.
use Rattle.std.proofs.Common.{◌≡◌, ◌≢◌, ⊎_elim, ℕ, Bool, true, false, List, [], ◌∷◌, ◌++◌, Option, Some, None, refl, sym, ap, ◌∙◌, subst, arith, ◌≤◌, if◌then◌else◌}
use Rattle.std.specs.Prelude.{nat_eq, is_some}
use Rattle.std.specs.FinMap as fin
use Rattle.mail_model.specs.Record.{Record}
use Rattle.object_model.specs.Letters.{Number, Letter}
use Rattle.object_model.specs.Mishaps.{MishapKind}
use Rattle.cluster_model.specs.Cluster as plain
use Rattle.cluster_model.specs.Cluster.{slot_at, with_slot}
use Rattle.cluster_model.specs.Claims.{all_records}
use Rattle.cluster_model.specs.Deeds.{slot_up}
use Rattle.cluster_model.specs.Rules.{failed_at, mishap}
use Rattle.cluster_model.specs.World.{missed, missed_under, missed_at, missed_by, other_end}
use Rattle.cluster_model.proofs.Slots.{at_same}
use Rattle.node_store.specs.Disks.{View}
use Rattle.world_book.specs.declared.book.Book.{Book}
use Rattle.cluster_world.specs.Flights.{InFlight}
use Rattle.cluster_world.specs.Missing.{all_missed, OnlyTickets}
use Rattle.cluster_world.specs.Steps.{AreToldAlike, IsQuiet, AreSettled, EveryStopKeeps}
use Rattle.cluster_world.specs.Worlds.{WorldState, state_with}
use Rattle.cluster_world.specs.Lives.{of_node}
use Rattle.cluster_world.specs.declared.nodes.Nodes.{Nodes}
use Rattle.cluster_world.proofs.Still.{some_same}
use Rattle.cluster_world.proofs.Turned.{same_or, slot_other}

-- the records of a slot, with what is pending
abbrev pub kept_at : Option plain.Slot → Option (List Record)
kept_at None = None
kept_at (Some slot) = Some (all_records slot)

disk_kept : (kind : MishapKind) (node : plain.Node) (disk : List Record) (seq at : ℕ) (o : Option plain.Ticket) → (failed_at kind node disk seq at o).disk ≡ disk
disk_kept kind node disk seq at None = refl
disk_kept kind node disk seq at (Some ticket) = refl

module _ (kind : MishapKind) (slots : List plain.Slot) (n : ℕ) where
  put_kept : (m : ℕ) (x y : plain.Slot) → slot_at slots m ≡ Some x → all_records y ≡ all_records x → kept_at (slot_at (with_slot slots m y) n) ≡ kept_at (slot_at slots n)
  put_kept m x y here same = ⊎_elim
      (λ (e : n ≡ m).
      ap (λ k. kept_at (slot_at (with_slot slots m y) k)) e ∙ ap kept_at (at_same slots m x y here) ∙ ap Some same ∙ sym (ap kept_at here) ∙ ap (λ k. kept_at (slot_at slots k)) (sym e))
      (λ (e : n ≢ m). ap kept_at (slot_other slots m n y e))
      (same_or n m)

  by_kept : (at : ℕ) (number : Number) (disk : List Record) (life : plain.Life) → slot_at slots number.node ≡ Some (record { life = life; disk = disk })
      → kept_at (slot_at (missed_by kind slots at number disk life) n) ≡ kept_at (slot_at slots n)
  by_kept at number disk (plain.Life.Up node) here = by (nat_eq number.boot node.boot)
    where
      did : plain.Slot
      did = slot_up (mishap kind number.seq at node disk).node (mishap kind number.seq at node disk).disk

      by : (b : Bool) → kept_at (slot_at (if b then with_slot slots number.node did else slots) n) ≡ kept_at (slot_at slots n)
      by true = put_kept number.node (slot_up node disk) did here (ap (λ xs. xs ++ []) (disk_kept kind node disk number.seq at (fin.get node.tickets number.seq)))
      by false = refl
  by_kept at number disk (plain.Life.Down pending) here = refl
  by_kept at number disk plain.Life.Lost here = refl

  at_kept : (at : ℕ) (number : Number) (o : Option plain.Slot) → slot_at slots number.node ≡ o → kept_at (slot_at (missed_at kind slots at number o) n) ≡ kept_at (slot_at slots n)
  at_kept at number None here = refl
  at_kept at number (Some slot) here = by_kept at number slot.disk slot.life here

  under_kept : (letter : Letter) (o : Option Number) → kept_at (slot_at (missed_under kind slots letter o) n) ≡ kept_at (slot_at slots n)
  under_kept letter None = refl
  under_kept letter (Some number) = at_kept (other_end letter number) number (slot_at slots number.node) refl

  pub missed_kept : (letter : Letter) → kept_at (slot_at (missed kind slots letter) n) ≡ kept_at (slot_at slots n)
  missed_kept letter = under_kept letter letter.ticket

pub all_kept : (kind : MishapKind) (slots : List plain.Slot) (n : ℕ) (letters : List Letter) → kept_at (slot_at (all_missed kind slots letters) n) ≡ kept_at (slot_at slots n)
all_kept kind slots n [] = refl
all_kept kind slots n (letter ∷ letters) = all_kept kind (missed kind slots letter) n letters ∙ missed_kept kind slots n letter

there_too : (o : Option plain.Slot) (slot' : plain.Slot) → kept_at (Some slot') ≡ kept_at o → (slot : plain.Slot) × (o ≡ Some slot) × (all_records slot' ≡ all_records slot)
there_too None slot' e = absurd (let never : Some (all_records slot') ≡ None = e in cc)
there_too (Some slot) slot' e = (slot, refl, some_same (all_records slot') (all_records slot) e)

module _ {D : Type 0} (on : View D) where
  -- what was kept is kept where slots have the same records, and the disks are the same
  pub stops_on : (old mid new : WorldState D) (before between after : List plain.Slot) → new.disks ≡ mid.disks → ((n : ℕ) → kept_at (slot_at after n) ≡ kept_at (slot_at between n))
      → EveryStopKeeps on old mid before between → EveryStopKeeps on old new before after
  stops_on old mid new before between after same kept h = record {
    each = λ n disk disk' slot slot' e f a b here.
        let (was, there, records) = there_too (slot_at between n) slot' (sym (ap kept_at b) ∙ kept n) in
        let k = h.each n disk disk' slot was e (ap (λ ds. of_node ds n) (sym same) ∙ f) a there here in
        record { kept = k.kept; pending_is = k.pending_is; added = k.added; grew = records ∙ k.grew; stops = k.stops };
  }

  module _ (change : List plain.Slot → List plain.Slot) (old new : Nodes D) (only : OnlyTickets on change old new) (flying flying' : InFlight) (seconds seconds' : ℕ) (book book' : Book) where
    same_disk : (n : ℕ) (disk disk' : D) → of_node old.disks.items n ≡ Some disk → of_node new.disks.items n ≡ Some disk' → disk' ≡ disk
    same_disk n disk disk' e f = some_same disk' disk (sym f ∙ ap (λ ds. of_node ds n) only.disks ∙ e)

    pub only_told : (seen : D → Option (List ℕ)) → AreToldAlike seen (state_with old flying seconds book) (state_with new flying' seconds' book')
    only_told seen = record { each = λ n disk disk' e f. ap (λ d. is_some (seen d)) (same_disk n disk disk' e f) }

    pub only_quiet : (faults : D → ℕ) → IsQuiet faults (state_with old flying seconds book) (state_with new flying' seconds' book')
    only_quiet faults = record {
      later = λ n disk disk' e f. subst (λ d. faults disk ≤ faults d) (sym (same_disk n disk disk' e f)) (omega arith);
      same = λ n boot disk disk' b e f. ap faults (same_disk n disk disk' e f);
    }

    pub only_settled : (is_settled : D → Type 0) → AreSettled is_settled (state_with old flying seconds book) → AreSettled is_settled (state_with new flying' seconds' book')
    only_settled is_settled s = record { each = λ n boot disk a e. s.each n boot disk (sym (only.lives n) ∙ a) (ap (λ ds. of_node ds n) (sym only.disks) ∙ e) }
