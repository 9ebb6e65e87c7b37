use Rattle.std.proofs.Common.{rules}
use Rattle.std.proofs.lemmas.List.Sorted.{answers_always}
use Rattle.told_lists.specs.Joining.{comes_first}
use Rattle.told_lists.proofs.Listed.{by_stamps}
use Rattle.told_lists.proofs.join.sort_by_stamp.Goals as goal

pub returns-clause-in_order : goal.returns-clause-in_order
returns-clause-in_order c = c.sort_unstable_by.ensures.sorted comes_first by_stamps (answers_always _ _ _ (λ f a r g h. search rules))
