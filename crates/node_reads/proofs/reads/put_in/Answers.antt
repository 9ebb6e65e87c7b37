use Rattle.std.proofs.lemmas.Result.{on_ok_weaker}
use Rattle.node_reads.proofs.Changes.{was_put}
use Rattle.node_reads.proofs.reads.put_in.Goals as goal

pub returns-clause-ok : goal.returns-clause-ok
returns-clause-ok c = on_ok_weaker c.put.result (λ up. was_put _ _ c.args.seq _ up) c.put.ensures.ok
