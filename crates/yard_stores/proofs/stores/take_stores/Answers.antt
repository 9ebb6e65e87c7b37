use Rattle.std.proofs.Common.{arith, ap, ◌∙◌, le_trans, ◌+◌, length}
use Rattle.std.proofs.lemmas.Grind.{common_steps}
use Rattle.std.proofs.lemmas.List.{length_push}
use Rattle.std.proofs.lemmas.Result.{err_from_is_err_and}
use Rattle.yard_stores.proofs.Taking.{taken_push, stopped}
use Rattle.yard_stores.proofs.stores.take_stores.Goals as goal

pub loop-node-preserved : goal.loop-node-preserved
loop-node-preserved g c = let t = c.in_ok-take_one.ensures.taken in let i = c.loop-node.invariant in record {
  taken = taken_push _ _ _ _ _ _ _ c.loop-node.node t.0 t.1 i.taken i.count t.2 t.3 t.4;
  returned = c.take_one.ensures.returned ∙ i.returned;
  opened = c.take_one.ensures.opened ∙ i.opened;
  closed = c.take_one.ensures.closed ∙ i.closed;
  unread = c.take_one.ensures.unread ∙ i.unread;
  unopened = c.take_one.ensures.unopened ∙ i.unopened;
  later = le_trans i.later c.take_one.ensures.later;
  capacity = c.take_one.ensures.capacity ∙ i.capacity;
  count = ap (λ n. n + 1) (ap length t.3 ∙ length_push _ _ ∙ i.count);
  within = grind (arith, common_steps);
}

pub returns-in_err-take_one-clause-taken : goal.returns-in_err-take_one-clause-taken
returns-in_err-take_one-clause-taken g c = let i = c.loop-node.invariant in
    let p = err_from_is_err_and c.from_residual.result c.from_residual.ensures.1 in
    rw (p.1, p.2) (stopped _ _ c.args.nodes c.loop-node.node _ _ _ _ _ _ _ _ _ i.taken i.count i.later c.in_err-take_one.ensures.taken)
