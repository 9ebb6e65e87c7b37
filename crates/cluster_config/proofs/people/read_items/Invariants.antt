use Rattle.std.proofs.Common.{◌≡◌, Some, drop}
use Rattle.std.specs.FinMap as map
use Rattle.toml.specs.View.{items_view}
use Rattle.cluster_config.specs.People.{with_items}
use Rattle.cluster_config.proofs.people.read_items.Given as goal

-- what is left of the items makes of the users so far what all of them make of none
abbrev pub invariant-loop-item : goal.invariant-loop-item
invariant-loop-item l = with_items (Some l.users) (items_view (drop l.item-index l.items.items)) ≡ with_items (Some map.empty) (items_view l.items.items)
