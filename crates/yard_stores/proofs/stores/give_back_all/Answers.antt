use Rattle.std.proofs.Common.{arith, ◌∙◌, subst}
use Rattle.std.proofs.lemmas.Grind.{common_steps}
use Rattle.yard_stores.specs.Taken.{TellsAll, numbered_stores}
use Rattle.yard_stores.proofs.Taking.{tells_push}
use Rattle.yard_stores.proofs.stores.give_back_all.Goals as goal

pub loop-disk-preserved : goal.loop-disk-preserved
loop-disk-preserved g c = let steps = c.in-Some.ensures.steps in let i = c.loop-disk.invariant in record {
  all = grind (arith, common_steps);
  rest = grind (arith, common_steps);
  count = grind (arith, common_steps);
  returned = tells_push _ _ _ 1 c.loop-disk.node c.loop-disk.yielded c.in-Some.disk (omega (arith, i.count)) i.returned c.give_back.ensures.returned;
  handed = c.give_back.ensures.handed ∙ i.handed;
  faults = c.give_back.ensures.faults ∙ i.faults;
  opened = c.give_back.ensures.opened ∙ i.opened;
  closed = c.give_back.ensures.closed ∙ i.closed;
  unread = c.give_back.ensures.unread ∙ i.unread;
  unopened = c.give_back.ensures.unopened ∙ i.unopened;
}

-- all of them were yielded
pub returns-clause-returned : goal.returns-clause-returned
returns-clause-returned g c = let i = c.loop-disk.invariant in let steps = c.in-None.ensures.steps in let into = c.into_iter-disk-iterator.ensures.into_iter_gives in
    subst (λ l. TellsAll (g.Y.Yard.returned c.args.yard.now) (g.Y.Yard.returned c.loop-disk.yard) (numbered_stores 1 l)) (grind (arith, common_steps)) i.returned
