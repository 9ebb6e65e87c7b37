use Rattle.node_trials.proofs.tests.opening.journal_of.Given as goal

abbrev pub invariant-loop-letter : goal.invariant-loop-letter
invariant-loop-letter l = Unit {0}
