use Rattle.node_reads.proofs.Changes.{got, was_taken}
use Rattle.node_reads.proofs.reads.take_out.Goals as goal

pub returns-clause-was : goal.returns-clause-was
returns-clause-was c = got _ c.args.seq _ c.remove.ensures.value

pub returns-clause-out : goal.returns-clause-out
returns-clause-out c = was_taken _ _ c.args.seq c.remove.ensures.updates.0
