-- The numbers that calls that read draw, and such a call that fails at once.
use Rattle.std.specs.Prelude.{◌≡◌, ◌≤◌, ◌+◌, ℕ, Bool, true, false, nat_lt, List, [], Result, Ok, Err}
use Rattle.object_model.specs.Letters.{Number}
use Rattle.object_model.specs.Mishaps.{no_mishaps, counted}
use Rattle.object_model.specs.Mishaps.MishapKind.{FewMembers}
use Rattle.cluster_model.specs.Cluster as plain
use Rattle.cluster_model.specs.Rules.{refuse, new_number}
use Rattle.cluster_model.specs.Steps.{greatest}
use Rattle.node_core.specs.Nodes.{node_seen, IsAsBefore, Becomes}
use Rattle.node_core.specs.declared.fault.NodeFault.{NodeFault}
use Rattle.node_core.specs.declared.fault.NodeFault.TheVariants.{Disk, Worn, NoMemory}
use Rattle.node_core.specs.declared.node.Node.{Node}

-- whether no ticket can be drawn any more
abbrev pub lacks_ticket : plain.Node → Bool
lacks_ticket node = nat_lt greatest (node.calls + 1)

-- a node that has drawn the number of one more ticket
abbrev pub with_call : plain.Node → plain.Node
with_call node = record node { calls = node.calls + 1 }

-- A call that reads fails at once: it has its ticket among those of messages, which counts that too few nodes are members.
abbrev pub RefusesRead : plain.CallKind → Result Number NodeFault → Node → Node → Type 0
RefusesRead kind (Ok ticket) old new =
    (lacks_ticket (node_seen old) ≡ false) × (ticket ≡ new_number old.store.own (node_seen old)) × Becomes (refuse kind (counted FewMembers no_mishaps) 0 (node_seen old) []).node old new
RefusesRead kind (Err Disk) old new = ⊥
RefusesRead kind (Err Worn) old new = (lacks_ticket (node_seen old) ≡ true) × IsAsBefore old new
RefusesRead kind (Err (NoMemory true)) old new = ⊥
RefusesRead kind (Err (NoMemory false)) old new = IsAsBefore old new
