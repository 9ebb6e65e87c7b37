use Rattle.std.proofs.Common.{◌≡◌, [], ◌++◌, drop}
use Rattle.cluster_model.specs.Progress.{wants_entries}
use Rattle.cluster_world.specs.Books.{entries_seen}
use Rattle.cluster_world.specs.Installs.{installs_in}
use Rattle.cluster_world.proofs.entries.entries_of.Given as goal

abbrev pub invariant-loop-want : goal.invariant-loop-want
invariant-loop-want l = (entries_seen l.entries.items ++ wants_entries (drop l.want-index l.wants) ≡ wants_entries l.wants) × (installs_in l.entries.items ≡ [])
