use Rattle.std.proofs.Common.{◌≡◌, ℕ, take, nat_eq}
use Rattle.std.specs.List.{list_any}
use Rattle.object_model.specs.Sets.{has}
use Rattle.membership.proofs.opened.nodes_of.Given as goal

abbrev pub invariant-loop-join : goal.invariant-loop-join
invariant-loop-join l = (n : ℕ) → has l.nodes n ≡ list_any (λ join. nat_eq join.member.node n) (take l.join-index l.joins)
