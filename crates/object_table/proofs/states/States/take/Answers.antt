use Rattle.std.proofs.lemmas.Result.{on_ok_weaker}
use Rattle.object_table.proofs.Writes.{took}
use Rattle.object_table.proofs.states.States.take.Goals as goal

pub returns-clause-ok : goal.returns-clause-ok
returns-clause-ok c = on_ok_weaker c.put.result (λ up. took _ _ c.args.self.now c.args.key.now _ c.args.state.now _ c.self.view_is c.in_ok-copy.ensures c.in_ok-next.ensures up) c.put.ensures.ok
