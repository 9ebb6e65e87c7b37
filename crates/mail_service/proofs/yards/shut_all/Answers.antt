use Rattle.std.proofs.Common.{arith, ◌∙◌, subst, map}
use Rattle.std.proofs.lemmas.Grind.{common_steps}
use Rattle.yard_stores.specs.Taken.{TellsAll}
use Rattle.mail_service.specs.Entrances.{marked}
use Rattle.mail_service.proofs.Shutting.{tells_marked}
use Rattle.mail_service.proofs.yards.shut_all.Goals as goal

pub loop-entrance-preserved : goal.loop-entrance-preserved
loop-entrance-preserved g c = let steps = c.in-Some.ensures.steps in let i = c.loop-entrance.invariant in record {
  all = grind (arith, common_steps);
  rest = grind (arith, common_steps);
  closed = tells_marked marked _ _ _ c.loop-entrance.yielded c.in-Some.entrance i.closed c.shut.ensures.closed;
  opened = c.shut.ensures.opened ∙ i.opened;
  handed = c.shut.ensures.handed ∙ i.handed;
  returned = c.shut.ensures.returned ∙ i.returned;
  faults = c.shut.ensures.faults ∙ i.faults;
  unread = c.shut.ensures.unread ∙ i.unread;
  unopened = c.shut.ensures.unopened ∙ i.unopened;
}

-- all of them were yielded
pub returns-clause-closed : goal.returns-clause-closed
returns-clause-closed g c = let i = c.loop-entrance.invariant in let steps = c.in-None.ensures.steps in let into = c.into_iter-entrance-iterator.ensures.into_iter_gives in
    subst (λ l. TellsAll (g.Y.Yard.closed c.args.yard.now) (g.Y.Yard.closed c.loop-entrance.yard) (map marked l)) (grind (arith, common_steps)) i.closed
