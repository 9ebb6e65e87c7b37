-- What a node does with a message that it is to store.
use Rattle.std.specs.Prelude.{◌≡◌, ◌+◌, ℕ, true, false, List, Option, Some, None, Result, Ok, Err, if◌then◌else◌}
use Rattle.mail_model.specs.Identity.{Id, Stamp}
use Rattle.mail_model.specs.Told.{Mail}
use Rattle.mail_model.specs.Mail.{IsStored}
use Rattle.object_model.specs.Sets.{has, nodes_in}
use Rattle.object_model.specs.Letters.{Number}
use Rattle.cluster_model.specs.Store.{Store}
use Rattle.cluster_model.specs.Cluster.{members_of}
use Rattle.cluster_model.specs.Rules.{begin_deliver, new_number}
use Rattle.cluster_model.specs.Targets.{deliver_targets}
use Rattle.node_store.specs.Disks.{View}
use Rattle.node_store.specs.Appends.{Fails}
use Rattle.node_store.specs.declared.fault.KeepFault.{KeepFault}
use Rattle.node_store.specs.declared.fault.KeepFault.TheVariants as keep
use Rattle.node_core.specs.Nodes.{node_seen, IsAsBefore}
use Rattle.node_core.specs.Works.{Rule, NodeDid, NodeStopped}
use Rattle.node_core.specs.Filed.{with_filed}
use Rattle.node_core.specs.declared.fault.NodeFault.{NodeFault}
use Rattle.node_core.specs.declared.fault.NodeFault.TheVariants.{Disk, Worn, NoMemory}
use Rattle.node_core.specs.declared.outbox.Outbox.{Outbox}
use Rattle.node_core.specs.declared.node.Node.{Node}

-- the id and the stamp that a message gets next, and its targets
abbrev pub next_id : Node → Id
next_id node = record { node = node.store.own; boot = node.numbers.boot; seq = node.numbers.drawn + 1 }

abbrev pub next_stamp : Node → Stamp
next_stamp node = record { count = node.numbers.count + 1; boot = node.numbers.boot; node = node.store.own }

abbrev pub next_targets : Node → ℕ
next_targets node = deliver_targets node.shape.copies node.store.own (node.numbers.drawn + 1) (nodes_in (members_of (node_seen node)) node.shape.nodes)

-- copies are taken where the own node is a target
abbrev pub filed_where : ℕ → Id → Stamp → ℕ → List (List ℕ) → List ℕ → Store → Store
filed_where own id stamp targets users octets store = if has targets own then with_filed own id stamp targets users octets store else store

module _ {D : Type 0} (on : View D) (mail : Mail) (seconds : ℕ) (old : Node) (before : D) (new : Node) (after : D) where
  abbrev pub delivering : List ℕ → Rule
  delivering octets node disk = begin_deliver old.store.own old.shape.nodes seconds node disk mail.mailboxes octets (next_targets old)

  pub record DeliveryBegun (ticket : Option Number) (outbox : Outbox) : Type 0 where
    pub octets : List ℕ
    pub stored : IsStored mail (next_id old) seconds octets
    pub ticket_is : ticket ≡ Some (new_number old.store.own (node_seen old))
    pub none_thrown : outbox.thrown ≡ None
    pub did : NodeDid on (delivering octets) old before new after outbox.letters

  pub record DeliveryStopped (fault : KeepFault) : Type 0 where
    pub octets : List ℕ
    pub stored : IsStored mail (next_id old) seconds octets
    pub stopped : NodeStopped on (delivering octets) old before after
    pub fails : Fails fault (on.faults before) (on.faults after)

  -- a delivery that has numbers and members enough
  abbrev pub BeginsDelivery : Result (Option Number × Outbox) NodeFault → Type 0
  BeginsDelivery (Ok begun) = DeliveryBegun begun.0 begun.1
  BeginsDelivery (Err Disk) = DeliveryStopped keep.Disk
  BeginsDelivery (Err Worn) = ⊥
  BeginsDelivery (Err (NoMemory true)) = DeliveryStopped keep.NoMemory
  BeginsDelivery (Err (NoMemory false)) = IsAsBefore old new × (after ≡ before)
