use Rattle.std.proofs.Common.{◌≡◌, ℕ, take}
use Rattle.std.specs.List.{list_any}
use Rattle.object_model.specs.Sets.{has}
use Rattle.node_tickets.proofs.progress.Progress.waiting.Given as goal

abbrev pub invariant-loop-want : goal.invariant-loop-want
invariant-loop-want l = (m : ℕ) → has l.nodes m ≡ list_any (λ want. has want.waiting m) (take l.want-index l.want-items)
