use Rattle.std.proofs.Common.{◌≡◌, ℕ, List, drop}
use Rattle.cluster_model.specs.Rules.{drawn_past}
use Rattle.cluster_model.specs.Store.{gone_updates}
use Rattle.node_core.proofs.numbers.Numbers.know_marks.Given as goal

-- the deletions that are left raise the number to what all raise it to
abbrev pub invariant-loop-mark : goal.invariant-loop-mark
invariant-loop-mark l =
    (l.self ≡ record l.initial.self { drawn = l.self.drawn })
    × ((user : List ℕ) (targets : ℕ) → drawn_past l.fn.own l.initial.self.boot l.self.drawn (gone_updates user targets (drop l.mark-index l.marks))
    ≡ drawn_past l.fn.own l.initial.self.boot l.initial.self.drawn (gone_updates user targets l.marks))
