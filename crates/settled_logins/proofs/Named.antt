-- The nodes that a manager names in a settled epoch, by the records of the disks.
use Rattle.std.proofs.Common.{◌≡◌, ⊎_elim, ℕ, zero, suc, ◌≤◌, ◌<◌, Bool, true, false, List, [], ◌∷◌, ◌++◌, append-nil, map, Option, Some, None, refl, sym, ◌∙◌, subst, arith, AllPairs, if◌then◌else◌}
use Rattle.std.specs.Prelude.{◌↔◌}
use Rattle.std.proofs.lemmas.List.Quantifiers.{all_pairs_push}
use Rattle.mail_model.specs.Identity.{State}
use Rattle.mail_model.specs.Identity.Key.{Message}
use Rattle.mail_model.specs.Record.{Record}
use Rattle.object_model.specs.Sets.{has, nodes_in}
use Rattle.object_model.specs.Lists.{Among}
use Rattle.object_model.specs.Said.{said}
use Rattle.object_model.proofs.Lists.{among_either}
use Rattle.cluster_model.specs.Reads as reads
use Rattle.login_model.specs.Cluster.{Slot, slot_at}
use Rattle.login_model.specs.Listing.{NamesHolders}
use Rattle.login_model.proofs.Asking.{in_set, set_in}
use Rattle.standing_model.specs.Standing.{disk_at, OnDisk, is_here_held, HasFragment}
use Rattle.settled_logins.proofs.Resting.{get_view, get_back}
use Rattle.settled_logins.proofs.Shown.{index_among}

same_held : (o : Option State) → reads.is_here_held o ≡ is_here_held o
same_held None = refl
same_held (Some state) = refl

-- the nodes of a set rise
in_bound : (mask k n : ℕ) → Among n (nodes_in mask k) → n ≤ k
in_bound mask zero n m = absurd m
in_bound mask (suc k) n m = ⊎_elim (λ front. let le = in_bound mask k n front in omega (arith, le)) (λ last. by (has mask (suc k)) last) (among_either n (nodes_in mask k) _ m)
  where
    by : (b : Bool) → Among n (if b then suc k ∷ [] else []) → n ≤ suc k
    by true x = ⊎_elim (λ is. omega (arith, is)) (λ none. absurd none) x
    by false x = absurd x

pub nodes_rise : (mask k : ℕ) → AllPairs (λ (a b : ℕ). a < b) (nodes_in mask k)
nodes_rise mask zero = λ i j d lt within. absurd (omega (arith, within))
nodes_rise mask (suc k) = by (nodes_rise mask k) (has mask (suc k))
  where
    by : AllPairs (λ (a b : ℕ). a < b) (nodes_in mask k) → (b : Bool) → AllPairs (λ (a b : ℕ). a < b) (nodes_in mask k ++ (if b then suc k ∷ [] else []))
    by rising true = all_pairs_push (λ (a b : ℕ). a < b) (nodes_in mask k) (suc k) rising (λ m d lt. let le = in_bound mask k _ (index_among (nodes_in mask k) m d lt) in omega (arith, le))
    by rising false = subst (AllPairs (λ (a b : ℕ). a < b)) (sym (append-nil (nodes_in mask k))) rising

module _ (slots : List Slot) (members : ℕ) (nodes : List ℕ) (user : List ℕ) (manager : ℕ) (same : (m : ℕ) → (has members m ≡ true) ↔ Among m nodes) (h : NamesHolders slots members user manager) where
  abbrev disks : List (List Record)
  disks = map (λ (slot : Slot). slot.disk) slots

  on_slot : (n : ℕ) (records : List Record) → disk_at disks n ≡ Some records → (slot : Slot) × (slot_at slots n ≡ Some slot) × (slot.disk ≡ records)
  on_slot zero records e = absurd (cc e)
  on_slot (suc k) records e = get_back (λ (slot : Slot). slot.disk) slots k records e

  of_slot : (n : ℕ) (slot : Slot) → slot_at slots n ≡ Some slot → disk_at disks n ≡ Some slot.disk
  of_slot zero slot e = absurd (cc e)
  of_slot (suc k) slot e = get_view (λ (slot : Slot). slot.disk) slots k slot e

  pub named_shown : (most : ℕ) → ((m : ℕ) → has members m ≡ true → m ≤ most) → (n : ℕ) → Among n (nodes_in (h.node.named user) most) ↔ (Among n nodes × OnDisk disks n (HasFragment user))
  named_shown most within n = (
    λ m.
        let named = in_set (h.node.named user) most n m in
        let holds = h.holds n named in
        ((same n).0 (h.members_only n named), (holds.0.disk, of_slot n holds.0 holds.1, record { id = holds.2.0; here = sym (same_held (said (Message user holds.2.0) holds.0.disk)) ∙ holds.2.1 })),
    λ (member, (records, at, fragment)).
        let slot = on_slot n records at in
        let named = h.holders n slot.0 ((same n).1 member) slot.1 fragment.id
        (same_held (said (Message user fragment.id) slot.0.disk) ∙ subst (λ d. is_here_held (said (Message user fragment.id) d) ≡ true) (sym slot.2) fragment.here) in
        set_in (h.node.named user) most n named (within n (h.members_only n named)),
  )
