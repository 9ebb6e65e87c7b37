use Rattle.node_core.proofs.nodes.+nodes_in.Given as goal

abbrev pub decreases-nodes_in : goal.decreases-nodes_in
decreases-nodes_in l = l.nodes
