use Rattle.std.proofs.Common.{◌≡◌}
use Rattle.toml.specs.View.{members_view, table_view}
use Rattle.cluster_config.specs.Keys.{are_known}
use Rattle.cluster_config.specs.Owners.{keys_of}
use Rattle.cluster_config.proofs.keys.are_known.Given as goal

-- the entries that are left have known keys exactly where all have
abbrev pub invariant-loop-key : goal.invariant-loop-key
invariant-loop-key l = are_known (keys_of l.owner) (members_view l.key-iterator) ≡ are_known (keys_of l.owner) (table_view l.table)
