use Rattle.std.proofs.Common.{refl, sym, subst}
use Rattle.whole_trials.specs.Able.{IsAble}
use Rattle.whole_trials.proofs.Left.{able_left}
use Rattle.whole_trials.proofs.tests.reading.hear_read_at.Goals as goal

pub returns : goal.returns
returns c = record { able = subst (IsAble _) (sym (c.settle.ensures _ refl)) (able_left _ _ _ c.hear_read-done.ensures.works) }
