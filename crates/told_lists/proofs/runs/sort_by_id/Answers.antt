use Rattle.std.proofs.Common.{rules}
use Rattle.std.proofs.lemmas.List.Sorted.{answers_always}
use Rattle.told_lists.specs.Joining.{has_lower_id}
use Rattle.told_lists.proofs.Joined.{by_ids}
use Rattle.told_lists.proofs.runs.sort_by_id.Goals as goal

pub returns-clause-in_order : goal.returns-clause-in_order
returns-clause-in_order c = c.sort_unstable_by.ensures.sorted has_lower_id by_ids (answers_always _ _ _ (λ f a r g h. search rules))
