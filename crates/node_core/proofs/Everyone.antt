-- The nodes of a plan.
use Rattle.std.proofs.Common.{◌≡◌, ◌<◌, ◌≤◌, ℕ, zero, suc, List, length, take, drop, arith}
use Rattle.std.proofs.lemmas.List.{length-append, length-drop, length-take}
use Rattle.std.proofs.lemmas.Nat.{le_or_r, pow_pos}
use Rattle.object_model.specs.Sets.{with_node, one_node, all_nodes}
use Rattle.cluster_model.specs.Targets.{rotated}

pub some_nodes : (n : ℕ) → 1 ≤ n → 0 < all_nodes n
some_nodes zero some = absurd (omega arith)
some_nodes (suc k) some = omega (arith, le_or_r (all_nodes k) (one_node (suc k)), pow_pos k)

pub with_some : (mask node : ℕ) → 1 ≤ node → (set : ℕ) → set ≡ with_node mask node → 0 < set
with_some mask zero some set is = absurd (omega arith)
with_some mask (suc k) some set is = omega (arith, is, le_or_r mask (one_node (suc k)), pow_pos k)

pub length-turned : (at : ℕ) (xs : List ℕ) → at < length xs → length (rotated at xs) ≡ length xs
length-turned at xs within = omega (arith, length-append (drop at xs) (take at xs), length-drop at xs, length-take at xs)
