use Rattle.node_core.proofs.nodes.+all_nodes.Given as goal

abbrev pub decreases-all_nodes : goal.decreases-all_nodes
decreases-all_nodes l = l.nodes
