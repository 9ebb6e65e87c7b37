use Rattle.std.proofs.Common.{◌≡◌, [], ◌++◌, drop}
use Rattle.cluster_model.specs.Makes.{struck_entries}
use Rattle.node_core.specs.Beginning.{struck_of}
use Rattle.cluster_world.specs.Books.{entries_seen}
use Rattle.cluster_world.specs.Installs.{installs_in}
use Rattle.cluster_world.proofs.steps.begin.all_struck.Given as goal

-- the entries so far, and those of what is left, are all; none is of an epoch
abbrev pub invariant-loop-item : goal.invariant-loop-item
invariant-loop-item l = (entries_seen l.entries.items ++ struck_entries l.user (struck_of (drop l.item-index l.items)) ≡ struck_entries l.user (struck_of l.items)) × (installs_in l.entries.items ≡ [])
