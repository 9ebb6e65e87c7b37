use Rattle.node_core.proofs.node.Node.+strikes_to.Given as goal

abbrev pub decreases-strikes_to : goal.decreases-strikes_to
decreases-strikes_to l = l.nodes
