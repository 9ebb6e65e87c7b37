use Rattle.node_reads.proofs.fetch.+copies.Given as goal

abbrev pub decreases-copies : goal.decreases-copies
decreases-copies l = l.count
