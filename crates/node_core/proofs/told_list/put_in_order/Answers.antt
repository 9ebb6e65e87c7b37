use Rattle.std.proofs.Common.{rules}
use Rattle.std.proofs.lemmas.List.Sorted.{answers_always}
use Rattle.node_core.specs.Listing.{comes_first}
use Rattle.node_core.proofs.Listing.{in_order_by}
use Rattle.node_core.proofs.told_list.put_in_order.Goals as goal

pub returns-clause-in_order : goal.returns-clause-in_order
returns-clause-in_order c = c.sort_unstable_by.ensures.sorted comes_first in_order_by (answers_always _ _ _ (λ f a r g h. search rules))
