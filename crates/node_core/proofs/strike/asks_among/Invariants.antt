use Rattle.std.proofs.Common.{◌≡◌, take}
use Rattle.node_core.specs.Striking.{asks_among}
use Rattle.node_core.specs.Beginning.{struck_of}
use Rattle.node_core.proofs.strike.asks_among.Given as goal

abbrev pub invariant-loop-item : goal.invariant-loop-item
invariant-loop-item l = l.asks.items ≡ asks_among l.confirm l.own (struck_of (take l.item-index l.items)) l.members
