use Rattle.node_reads.proofs.nodes.+first_receiver.Given as goal

abbrev pub decreases-first_receiver : goal.decreases-first_receiver
decreases-first_receiver l = l.nodes
