use Rattle.whole_node.proofs.first.+first_members.Given as goal

abbrev pub decreases-first_members : goal.decreases-first_members
decreases-first_members l = l.nodes
