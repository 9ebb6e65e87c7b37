use Rattle.std.proofs.Common.{◌≡◌, ◌+◌, ◌++◌, drop}
use Rattle.std.specs.Prelude.{All}
use Rattle.mail_model.specs.Grammar.{IsStamp}
use Rattle.cluster_model.specs.Rules.{marks_for, dated}
use Rattle.node_core.specs.Nodes.{node_seen}
use Rattle.node_core.specs.Striking.{next_dated}
use Rattle.node_core.proofs.node.Node.marks_for.Given as goal

-- with the deletions that are left these are all
abbrev pub invariant-loop-id : goal.invariant-loop-id
invariant-loop-id l =
    (l.count ≡ l.self.numbers.count + l.id-index)
    × (l.marks ++ marks_for l.to (dated l.own (node_seen l.self) l.count (drop l.id-index l.asks)) ≡ marks_for l.to (next_dated l.self l.asks))
    × All (λ mark. IsStamp mark.stamp) l.marks
