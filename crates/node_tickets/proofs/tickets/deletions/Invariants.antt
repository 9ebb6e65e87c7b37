use Rattle.std.proofs.Common.{◌≡◌, map, take}
use Rattle.cluster_model.specs.Cluster.AskedOfNodes.{Deletion}
use Rattle.cluster_model.specs.Rules.{new_want}
use Rattle.node_tickets.proofs.tickets.deletions.Given as goal

abbrev pub invariant-loop-id : goal.invariant-loop-id
invariant-loop-id l = l.wants.items ≡ map (λ item. new_want l.own (Deletion l.user item.0) item.1) (take l.id-index l.asks)
