use Rattle.cluster_world.proofs.steps.sorting.begin_any.Goals as goal

pub returns-then-reads-clause-did : goal.returns-then-reads-clause-did
returns-then-reads-clause-did g c = c.begin_read.ensures.did c.args.seconds
