-- In a plan of one node the node itself is asked, and confirms as a call begins.
use Rattle.std.proofs.Common.{◌≡◌, inl, inr, ◌≤◌, ◌+◌, ◌-◌, ◌%◌, ℕ, zero, suc, Bool, true, false, not, List, [], ◌∷◌, ◌++◌, length, map, take, refl, sym, ap, ◌∙◌, subst, arith, true≢false, if◌then◌else◌}
use Rattle.std.specs.Prelude.{max, nat_lt, nat_le}
use Rattle.mail_model.specs.Told.{Mail}
use Rattle.object_model.specs.Mishaps.{no_mishaps, counted, mishaps_of}
use Rattle.object_model.specs.Mishaps.MishapKind.{FewMembers, Year}
use Rattle.mail_model.specs.Plan.{Plan}
use Rattle.object_model.specs.Lists.{Among}
use Rattle.object_model.specs.Sets.{has, one_node, with_node, nodes_in}
use Rattle.object_model.proofs.SetLaws.{has_right, one_has}
use Rattle.cluster_model.specs.Cluster.{Want, Node, members_of}
use Rattle.cluster_model.specs.Cluster.AskedOfNodes.{Deletion}
use Rattle.cluster_model.specs.Rules.{new_want, dated}
use Rattle.cluster_model.specs.Targets.{deliver_targets, strike_asks, rotated, position_of, set_of}
use Rattle.cluster_model.specs.Steps.{Struck, fails_at_once, has_few_members, end_of_dates}
use Rattle.cluster_model.specs.Steps.NodeCall.{Deliver, Strike}
use Rattle.cluster_model.specs.Makes.{targets_for, asked_for}

mod_one : (n : ℕ) → n % 1 ≡ 0
mod_one n = omega (arith)

with_first : (mask : ℕ) → has (with_node mask 1) 1 ≡ true
with_first mask = has_right mask (one_node 1) 1 (one_has 0 (omega arith))

few_or_late : (y f : Bool) → nat_lt 0 (mishaps_of (if y then counted Year (if f then counted FewMembers no_mishaps else no_mishaps) else (if f then counted FewMembers no_mishaps else no_mishaps))) ≡ false → f ≡ false
few_or_late y false h = refl
few_or_late true true h = absurd (true≢false h)
few_or_late false true h = absurd (true≢false h)

few_only : (f : Bool) → nat_lt 0 (mishaps_of (if f then counted FewMembers no_mishaps else no_mishaps)) ≡ false → f ≡ false
few_only false h = refl
few_only true h = absurd (true≢false h)

-- the one member
one_member : (mask nodes confirm : ℕ) → nodes ≡ 1 → confirm ≡ 1 → nat_lt (length (nodes_in mask nodes)) confirm ≡ false → nodes_in mask nodes ≡ 1 ∷ []
one_member mask nodes confirm one sure h = ap (nodes_in mask) one ∙ by (has mask 1) refl
    (subst (λ c. nat_lt (length (nodes_in mask 1)) c ≡ false) sure (subst (λ n. nat_lt (length (nodes_in mask n)) confirm ≡ false) one h))
  where
    by : (b : Bool) → has mask 1 ≡ b → nat_lt (length (nodes_in mask 1)) 1 ≡ false → nodes_in mask 1 ≡ 1 ∷ []
    by true e few = rw e refl
    by false e few = absurd (true≢false (let e2 : nat_lt (length (nodes_in mask 1)) 1 ≡ true = rw e refl in sym e2 ∙ few))

-- a delivery asks it
deliver_one : (copies seq : ℕ) → 1 ≤ copies → has (deliver_targets copies 1 seq (1 ∷ [])) 1 ≡ true
deliver_one zero seq some = absurd (omega (arith, some))
deliver_one (suc c) seq some =
    subst (λ at. has (set_of (take (suc c) (rotated at (1 ∷ [])))) 1 ≡ true) (sym (mod_one (position_of 1 (1 ∷ []) + (seq - 1)))) (with_first (set_of (take c [])))

-- and so does a deletion
strike_one : (listed : ℕ) → has (strike_asks 1 1 listed (1 ∷ [])) 1 ≡ true
strike_one listed = by (has listed 1)
  where
    by : (b : Bool) → has (set_of ((if b then 1 ∷ [] else []) ++ take (1 - length {A = ℕ} (if b then 1 ∷ [] else [])) (if not b then 1 ∷ [] else []))) 1 ≡ true
    by true = with_first 0
    by false = with_first 0

own_confirms : (targets : ℕ) → has targets 1 ≡ true → has (if has targets 1 then one_node 1 else 0) 1 ≡ true
own_confirms targets e = rw e (one_has 0 (omega arith))

module _ (plan : Plan) (one : plan.nodes ≡ 1) (sure : plan.confirm ≡ 1) (some : 1 ≤ plan.copies) (own : ℕ) (own_is : own ≡ 1) (seconds : ℕ) (node : Node) where
  members : has_few_members plan node ≡ false → nodes_in (members_of node) plan.nodes ≡ 1 ∷ []
  members few = one_member (members_of node) plan.nodes (max 1 plan.confirm) one (ap (max 1) sure) few

  pub delivery_sure : (mail : Mail) → fails_at_once plan seconds node (Deliver mail) ≡ false → has (if has (targets_for plan own node) own then one_node own else 0) 1 ≡ true
  delivery_sure mail fails =
      subst (λ o. has (if has (targets_for plan o node) o then one_node o else 0) 1 ≡ true) (sym own_is)
      (own_confirms (targets_for plan 1 node)
      (subst (λ ms. has (deliver_targets plan.copies 1 (node.drawn + 1) ms) 1 ≡ true) (sym (members (few_or_late (nat_le end_of_dates seconds) (has_few_members plan node) fails)))
      (deliver_one plan.copies (node.drawn + 1) some)))

  strike_sure : has_few_members plan node ≡ false → (listed : ℕ) → has (if has (strike_asks plan.confirm own listed (nodes_in (members_of node) plan.nodes)) own then one_node own else 0) 1 ≡ true
  strike_sure few listed =
      subst (λ o. has (if has (strike_asks plan.confirm o listed (nodes_in (members_of node) plan.nodes)) o then one_node o else 0) 1 ≡ true) (sym own_is)
      (own_confirms (strike_asks plan.confirm 1 listed (nodes_in (members_of node) plan.nodes))
      (subst (λ ms. has (strike_asks plan.confirm 1 listed ms) 1 ≡ true) (sym (members few))
      (subst (λ c. has (strike_asks c 1 listed (1 ∷ [])) 1 ≡ true) (sym sure) (strike_one listed))))

  items_sure : has_few_members plan node ≡ false → (user : List ℕ) (items : List Struck) (count : ℕ) (want : Want)
      → Among want (map (λ item. new_want own (Deletion user item.mark.id) item.asks) (dated own node count (asked_for plan own node items))) → has want.confirmed 1 ≡ true
  items_sure few user [] count want m = absurd m
  items_sure few user (item ∷ items) count want (inl e) = subst (λ (w : Want). has w.confirmed 1 ≡ true) e (strike_sure few item.targets)
  items_sure few user (item ∷ items) count want (inr m) = items_sure few user items (count + 1) want m

  pub deletion_sure : (user : List ℕ) (items : List Struck) → fails_at_once plan seconds node (Strike user items) ≡ false → (count : ℕ) (want : Want)
      → Among want (map (λ item. new_want own (Deletion user item.mark.id) item.asks) (dated own node count (asked_for plan own node items))) → has want.confirmed 1 ≡ true
  deletion_sure user items fails count want m = items_sure (few_only (has_few_members plan node) fails) user items count want m
