-- Both messages of the freshly ended tape stand, and no other.
use Rattle.std.proofs.Common.{◌≡◌, ◌≢◌, ◌⊎◌, inl, inr, ⊎_elim, ℕ, true, false, List, [], ◌∷◌, ◌++◌, AllPairs, refl, ap, subst, arith, codes}
use Rattle.std.proofs.lemmas.List.Elements.{All-nil, All-cons}
use Rattle.std.proofs.lemmas.List.Kept.{AllPairs-cons}
use Rattle.std.proofs.lemmas.Option.{none-some}
use Rattle.std.specs.Ordering.{is_lt}
use Rattle.mail_model.specs.Identity.{Id, Stamp}
use Rattle.mail_model.specs.Identity.Key.{Message}
use Rattle.mail_model.specs.Record.{Record}
use Rattle.mail_model.specs.Record.Record.{Boot}
use Rattle.mail_model.specs.Site.{nth_id, nth_stamp}
use Rattle.object_model.specs.Lists.{Among}
use Rattle.object_model.specs.Said.{said, is_gone_held}
use Rattle.standing_model.specs.Standing.{OnDisk, HoldsCopy, CopyStands, IsStampOf, AreStanding, stamp_cmp}
use Rattle.worked_settles.specs.FreshTape.{three_members, fresh_disks, filed, nth_octets}
use Rattle.worked_settles.proofs.Nodes.{by_node, held_is_filed, held_stamp}

-- the records of each node
abbrev pub first_records : List Record
first_records = Boot 1 ∷ filed 1 3

abbrev pub second_records : List Record
second_records = Boot 1 ∷ filed 2 6 ++ filed 1 3

abbrev pub third_records : List Record
third_records = Boot 1 ∷ filed 2 6

abbrev pub alice : List ℕ
alice = codes "alice"

-- one of both messages
abbrev pub IsEither : Id → Type 0
IsEither id = (nth_id 1 ≡ id) ⊎ (nth_id 2 ≡ id)

pub differ : nth_id 1 ≢ nth_id 2
differ same = omega (arith, ap (λ (id : Id). id.seq) same)

-- what a node holds is one of both
pub held_either : (id : Id) (stamp : Stamp) (n : ℕ) → OnDisk fresh_disks n (HoldsCopy alice id stamp) → IsEither id
held_either id stamp n on = by_node first_records second_records third_records (HoldsCopy alice id stamp) (IsEither id) n on
    (λ holds. ⊎_elim (λ e. inl e) (λ none. absurd none) (held_is_filed id holds.octets first_records holds.held))
    (λ holds. ⊎_elim (λ e. inr e) (λ more. ⊎_elim (λ e. inl e) (λ none. absurd none) more) (held_is_filed id holds.octets second_records holds.held))
    (λ holds. ⊎_elim (λ e. inr e) (λ none. absurd none) (held_is_filed id holds.octets third_records holds.held))

-- with its own stamp
pub first_stamp : (stamp : Stamp) (n : ℕ) → OnDisk fresh_disks n (HoldsCopy alice (nth_id 1) stamp) → nth_stamp 1 ≡ stamp
first_stamp stamp n on = by_node first_records second_records third_records (HoldsCopy alice (nth_id 1) stamp) (nth_stamp 1 ≡ stamp) n on
    (λ holds. cc (held_stamp alice (nth_id 1) stamp first_records holds))
    (λ holds. cc (held_stamp alice (nth_id 1) stamp second_records holds))
    (λ holds. absurd (none-some stamp (held_stamp alice (nth_id 1) stamp third_records holds)))

pub second_stamp : (stamp : Stamp) (n : ℕ) → OnDisk fresh_disks n (HoldsCopy alice (nth_id 2) stamp) → nth_stamp 2 ≡ stamp
second_stamp stamp n on = by_node first_records second_records third_records (HoldsCopy alice (nth_id 2) stamp) (nth_stamp 2 ≡ stamp) n on
    (λ holds. absurd (none-some stamp (held_stamp alice (nth_id 2) stamp first_records holds)))
    (λ holds. cc (held_stamp alice (nth_id 2) stamp second_records holds))
    (λ holds. cc (held_stamp alice (nth_id 2) stamp third_records holds))

-- no node says that either is gone
abbrev SaysGone : Id → List Record → Type 0
SaysGone id records = is_gone_held (said (Message alice id) records) ≡ true

never : false ≡ true → ⊥
never is = cc

pub first_stands : CopyStands fresh_disks three_members alice (nth_id 1)
first_stands = record {
  n = 1;
  member = inl refl;
  stamp = nth_stamp 1;
  here = (first_records, refl, record { targets = 3; says = refl; octets = nth_octets 1; held = refl });
  not_gone = λ m among on. by_node first_records second_records third_records (SaysGone (nth_id 1)) ⊥ m on never never never;
}

pub second_stands : CopyStands fresh_disks three_members alice (nth_id 2)
second_stands = record {
  n = 2;
  member = inr (inl refl);
  stamp = nth_stamp 2;
  here = (second_records, refl, record { targets = 6; says = refl; octets = nth_octets 2; held = refl });
  not_gone = λ m among on. by_node first_records second_records third_records (SaysGone (nth_id 2)) ⊥ m on never never never;
}

-- the stamp of the first message is the earlier one
abbrev InOrder : Id → Id → Type 0
InOrder a b = (s t : Stamp) → IsStampOf fresh_disks three_members alice a s → IsStampOf fresh_disks three_members alice b t → is_lt (stamp_cmp t s) ≡ false

in_order : InOrder (nth_id 1) (nth_id 2)
in_order s t first second =
    subst (λ (u : Stamp). is_lt (stamp_cmp u s) ≡ false) (second_stamp t second.n second.says)
    (subst (λ (u : Stamp). is_lt (stamp_cmp (nth_stamp 2) u) ≡ false) (first_stamp s first.n first.says) refl)

-- a pair of which this is so
pair_of : (R : Id → Id → Type 0) (a b : Id) → R a b → AllPairs R (a ∷ b ∷ [])
pair_of R a b is = AllPairs-cons R a (b ∷ []) (All-cons (R a) b [] is (All-nil (R a))) (AllPairs-cons R b [] (All-nil (R b)) (λ i j d low high. absurd (omega (arith, high))))

-- what stands
stands_either : (id : Id) → CopyStands fresh_disks three_members alice id → Among id (nth_id 1 ∷ nth_id 2 ∷ [])
stands_either id stands = ⊎_elim (λ e. inl e) (λ e. inr (inl e)) (held_either id stands.stamp stands.n stands.here)

either_stands : (id : Id) → Among id (nth_id 1 ∷ nth_id 2 ∷ []) → CopyStands fresh_disks three_members alice id
either_stands id (inl is) = subst (CopyStands fresh_disks three_members alice) is first_stands
either_stands id (inr (inl is)) = subst (CopyStands fresh_disks three_members alice) is second_stands
either_stands id (inr (inr none)) = absurd none

pub both_stand : AreStanding fresh_disks three_members alice (nth_id 1 ∷ nth_id 2 ∷ [])
both_stand = record {
  exact = λ id. (stands_either id, either_stands id);
  once = pair_of (λ (a b : Id). a ≢ b) (nth_id 1) (nth_id 2) differ;
  rising = pair_of InOrder (nth_id 1) (nth_id 2) in_order;
}
