-- The set of an epoch's members, and the list of nodes that is told of it.
use Rattle.std.proofs.Common.{◌≡◌, ◌⊎◌, ⊎_elim, inl, inr, ℕ, zero, suc, ◌≤◌, Bool, true, false, true≢false, List, [], ◌∷◌, refl, sym, ap, ◌∙◌, subst, arith}
use Rattle.std.specs.Prelude.{if◌then◌else◌}
use Rattle.object_model.specs.Letters.{Member}
use Rattle.object_model.specs.Lists.{Among}
use Rattle.object_model.specs.Sets.{has, with_node, one_node, nodes_in}
use Rattle.object_model.proofs.Lists.{among_front, among_behind, among_either, among_last}
use Rattle.object_model.proofs.SetLaws.{has_left, has_right, has_none, has_with, one_has}
use Rattle.cluster_model.specs.Cluster.{set_of_members}
use Rattle.cluster_model.specs.Starts.{first_members}
use Rattle.mail_model.specs.Identity.{no_epoch}
use Rattle.fresh_sessions.specs.Acts.{nodes_to}
use Rattle.standing_model.specs.Standing.{HasExactly}

-- who is in the set is a member,
pub member_in : (members : List Member) (n : ℕ) → has (set_of_members members) n ≡ true → (member : Member) × Among member members × (member.node ≡ n)
member_in [] n h = absurd (true≢false (sym h ∙ has_none n))
member_in (x ∷ xs) n h = ⊎_elim
    (λ old. let (member, inside, is) = member_in xs n old in (member, inr inside, is))
    (λ is. (x, inl refl, sym is))
    (has_with (set_of_members xs) x.node n h)

itself : (mask n : ℕ) → 1 ≤ n → n ≤ 64 → has (with_node mask n) n ≡ true
itself mask zero above within = absurd (omega (arith, above))
itself mask (suc k) above within = has_right mask (one_node (suc k)) (suc k) (one_has k (omega (arith, within)))

-- and a member is in the set.
pub in_members : (members : List Member) (member : Member) → Among member members → 1 ≤ member.node → member.node ≤ 64 → has (set_of_members members) member.node ≡ true
in_members [] member m above within = absurd m
in_members (x ∷ xs) member (inl same) above within =
    subst (λ (y : Member). has (with_node (set_of_members xs) y.node) member.node ≡ true) (sym same) (itself (set_of_members xs) member.node above within)
in_members (x ∷ xs) member (inr m) above within = has_left (set_of_members xs) (one_node x.node) member.node (in_members xs member m above within)

-- nodes of a set, of those from 1 to k
pub in_nodes : (mask k n : ℕ) → has mask n ≡ true → n ≤ k → Among n (nodes_in mask k)
in_nodes mask zero zero h within = absurd (true≢false (sym h))
in_nodes mask zero (suc n) h within = absurd (omega (arith, within))
in_nodes mask (suc k) n h within = ⊎_elim
    (λ (less : n ≤ k). among_front n (nodes_in mask k) (if has mask (suc k) then suc k ∷ [] else []) (in_nodes mask k n h less))
    (λ (same : n ≡ suc k). among_behind n (nodes_in mask k) (if has mask (suc k) then suc k ∷ [] else [])
    (by (has mask (suc k)) (subst (λ x. has mask x ≡ true) same h) same))
    (cases within)
  where
    by : (b : Bool) → b ≡ true → n ≡ suc k → Among n (if b then suc k ∷ [] else [])
    by true e same = inl (sym same)
    by false e same = absurd (true≢false (sym e))

    cases : n ≤ suc k → (n ≤ k) ⊎ (n ≡ suc k)
    cases p = grind (arith, p)

pub nodes_in_set : (mask k n : ℕ) → Among n (nodes_in mask k) → has mask n ≡ true
nodes_in_set mask zero n m = absurd m
nodes_in_set mask (suc k) n m = ⊎_elim
    (λ old. nodes_in_set mask k n old)
    (λ new. by (has mask (suc k)) refl new)
    (among_either n (nodes_in mask k) (if has mask (suc k) then suc k ∷ [] else []) m)
  where
    by : (b : Bool) → has mask (suc k) ≡ b → Among n (if b then suc k ∷ [] else []) → has mask n ≡ true
    by true e (inl is) = subst (λ x. has mask x ≡ true) is e
    by true e (inr none) = absurd none
    by false e none = absurd none

-- a set of nodes up to k
pub exactly_those : (mask k : ℕ) → ((n : ℕ) → has mask n ≡ true → n ≤ k) → HasExactly mask (nodes_in mask k)
exactly_those mask k within n = (λ h. in_nodes mask k n h (within n h), λ m. nodes_in_set mask k n m)

-- the members of the first epoch
first_nodes : (k : ℕ) (member : Member) → Among member (first_members k) → Among member.node (nodes_to k)
first_nodes zero member m = absurd m
first_nodes (suc k) member m = ⊎_elim
    (λ old. among_front member.node (nodes_to k) (suc k ∷ []) (first_nodes k member old))
    (λ is. among_behind member.node (nodes_to k) (suc k ∷ []) (inl (ap (λ (x : Member). x.node) is)))
    (among_last member (first_members k) (record { node = suc k; boot = 1; was = no_epoch }) m)

nodes_first : (k n : ℕ) → Among n (nodes_to k) → (member : Member) × Among member (first_members k) × (member.node ≡ n) × (1 ≤ n) × (n ≤ k)
nodes_first zero n m = absurd m
nodes_first (suc k) n m = ⊎_elim
    (λ old. let (member, inside, is, above, within) = nodes_first k n old in
    (member, among_front member (first_members k) (record { node = suc k; boot = 1; was = no_epoch } ∷ []) inside, is, above, omega (arith, within)))
    (λ is. (record { node = suc k; boot = 1; was = no_epoch }, among_behind _ (first_members k) (record { node = suc k; boot = 1; was = no_epoch } ∷ []) (inl refl), is, omega (arith, is), omega (arith, is)))
    (among_last n (nodes_to k) (suc k) m)

pub first_exactly : (k : ℕ) → k ≤ 64 → HasExactly (set_of_members (first_members k)) (nodes_to k)
first_exactly k few n = (
  λ h. let (member, inside, is) = member_in (first_members k) n h in subst (λ x. Among x (nodes_to k)) is (first_nodes k member inside),
  λ m. let (member, inside, is, above, within) = nodes_first k n m in
      subst (λ x. has (set_of_members (first_members k)) x ≡ true) is (in_members (first_members k) member inside (subst (λ x. 1 ≤ x) (sym is) above) (subst (λ x. x ≤ 64) (sym is) (omega (arith, within, few)))),
)
