use Rattle.node_reads.proofs.nodes.+receivers.Given as goal

abbrev pub decreases-receivers : goal.decreases-receivers
decreases-receivers l = l.nodes
