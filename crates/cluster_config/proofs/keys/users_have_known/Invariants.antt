use Rattle.std.proofs.Common.{◌≡◌, drop}
use Rattle.toml.specs.View.{items_view}
use Rattle.cluster_config.specs.Keys.{all_have_known, user_keys}
use Rattle.cluster_config.proofs.keys.users_have_known.Given as goal

-- the items that are left have known keys exactly where all have
abbrev pub invariant-loop-item : goal.invariant-loop-item
invariant-loop-item l = all_have_known user_keys (items_view (drop l.item-index l.items.items)) ≡ all_have_known user_keys (items_view l.items.items)
