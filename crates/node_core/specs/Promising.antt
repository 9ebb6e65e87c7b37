-- A node that promises an epoch: the record comes first, and nothing is sent.
use Rattle.std.specs.Prelude.{◌++◌, [], ⊤, Some, Result, Ok, Err}
use Rattle.mail_model.specs.Identity.{EpochId}
use Rattle.whole_model.specs.Rules.{promise_records}
use Rattle.node_store.specs.Disks.{View}
use Rattle.node_core.specs.Works.{Rule, NodeDid, NodeFailed}
use Rattle.node_core.specs.declared.fault.NodeFault.{NodeFault}
use Rattle.node_core.specs.declared.node.Node.{Node}

-- the promise follows the records, and the node is as it was
abbrev pub promising : EpochId → Rule
promising epoch node disk = record { node = node; disk = disk ++ promise_records (Some epoch); out = [] }

-- what comes of it
abbrev pub PromisesEpoch : {T D : Type 0} → View D → EpochId → Result T NodeFault → Node → D → Node → D → Type 0
PromisesEpoch on epoch (Ok _) old before new after = NodeDid on (promising epoch) old before new after []
PromisesEpoch on epoch (Err fault) old before new after = NodeFailed on (promising epoch) ⊤ fault old before new after
