use Rattle.node_maps.proofs.letters.+ask_others.Given as goal

abbrev pub decreases-ask_others : goal.decreases-ask_others
decreases-ask_others l = l.nodes
