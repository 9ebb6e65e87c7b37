use Rattle.node_trials.proofs.tests.opening.begin.Goals as goal

pub take_here-requires-clause-sound : goal.take_here-requires-clause-sound
take_here-requires-clause-sound g c = c.in_ok-store_octets.ensures.wrote.sound
