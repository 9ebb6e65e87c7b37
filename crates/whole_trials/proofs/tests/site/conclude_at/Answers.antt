use Rattle.std.proofs.Common.{refl, sym, subst}
use Rattle.whole_trials.specs.Able.{IsAble}
use Rattle.whole_trials.proofs.Left.{able_left}
use Rattle.whole_trials.proofs.tests.site.conclude_at.Goals as goal

pub returns : goal.returns
returns c = record {
  able = λ seen able.
      subst (IsAble seen) (sym (c.settle.ensures _ refl)) (able_left seen _ _ (c.conclude-done.ensures.works seen (subst (IsAble seen) c.in-Some.is able)));
}
