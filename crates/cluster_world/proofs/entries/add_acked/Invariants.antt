use Rattle.std.proofs.Common.{◌≡◌, ◌++◌, map, drop}
use Rattle.node_tickets.specs.Seen.{filing_seen}
use Rattle.cluster_world.specs.Books.{entries_seen, acked_entry}
use Rattle.cluster_world.specs.Installs.{installs_in}
use Rattle.cluster_world.proofs.entries.add_acked.Given as goal

abbrev pub invariant-loop-user : goal.invariant-loop-user
invariant-loop-user l =
    (entries_seen l.entries.items ++ map (acked_entry (filing_seen l.filing) l.confirmers) (drop l.user-index l.user-items)
    ≡ entries_seen l.fn.entries.items ++ map (acked_entry (filing_seen l.filing) l.confirmers) l.filing.users)
    × (installs_in l.entries.items ≡ installs_in l.fn.entries.items)
