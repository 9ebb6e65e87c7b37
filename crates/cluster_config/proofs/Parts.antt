-- The parts of a TOML value, as the code goes over them.
use Rattle.std.proofs.Common.{◌≡◌, ℕ, ◌+◌, ◌<◌, suc, nat_le, false, ◌&&◌, List, [], ◌∷◌, length, get_or, drop, Some, refl, ap, arith}
use Rattle.std.proofs.lemmas.Bool.Decides.{nat_tests}
use Rattle.mail_model.specs.Plan.{Users}
use Rattle.toml.specs.View.{view, items_view}
use Rattle.toml.specs.declared.value.Value.{Value}
use Rattle.toml.proofs.Views.{items_view-drop}
use Rattle.cluster_config.specs.Keys.{has_known, all_have_known}
use Rattle.cluster_config.specs.People.{with_item, with_items}
use Rattle.cluster_config.specs.Values.{count}

-- the keys of one item more of those that are left
pub known_next : (known : List (List ℕ)) (vs : List Value) (i : ℕ) (d : Value) → i < length vs
    → all_have_known known (items_view (drop i vs)) ≡ has_known known (view (get_or vs i d)) && all_have_known known (items_view (drop (i + 1) vs))
known_next known vs i d h = ap (all_have_known known) (items_view-drop vs i d h)

pub counted : (vs : List Value) → count (items_view vs) ≡ length vs
counted [] = refl
counted (v ∷ vs) = ap suc (counted vs)

-- one item more of those that are left
pub item_next : (users : Users) (vs : List Value) (i : ℕ) (d : Value) → i < length vs
    → with_items (Some users) (items_view (drop i vs)) ≡ with_items (with_item users (view (get_or vs i d))) (items_view (drop (i + 1) vs))
item_next users vs i d h = ap (with_items (Some users)) (items_view-drop vs i d h)

pub too_many : (vs : List Value) → 4096 < length vs → nat_le (count (items_view vs)) 4096 ≡ false
too_many vs h = rw (counted vs) (grind (arith, nat_tests))
