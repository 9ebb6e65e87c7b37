use Rattle.node_reads.proofs.Changes.{got}
use Rattle.node_reads.proofs.reads.get_in.Goals as goal

pub returns : goal.returns
returns c = got _ c.args.seq _ c.get.ensures.value
