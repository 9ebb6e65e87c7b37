use Rattle.cluster_world.proofs.telling.kind_at.Goals as goal

pub kind_in-requires-clause-reads : goal.kind_in-requires-clause-reads
kind_in-requires-clause-reads c = (c.requires.reads c.in-Up.node c.in-Up.is).0

pub kind_in-requires-clause-own : goal.kind_in-requires-clause-own
kind_in-requires-clause-own c = (c.requires.reads c.in-Up.node c.in-Up.is).1
