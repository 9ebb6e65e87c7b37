-- What a node does with copies that it is to delete.
use Rattle.std.specs.Prelude.{◌≡◌, ℕ, true, false, List, map, Option, Some, None, Result, Ok, Err}
use Rattle.mail_model.specs.Identity.{Id}
use Rattle.object_model.specs.Sets.{nodes_in}
use Rattle.object_model.specs.Letters.{Number}
use Rattle.cluster_model.specs.Cluster.{members_of}
use Rattle.cluster_model.specs.Rules.{StrikeItem, begin_strike, dated, new_number}
use Rattle.cluster_model.specs.Steps.{Struck}
use Rattle.cluster_model.specs.Targets.{strike_asks}
use Rattle.node_store.specs.Disks.{View}
use Rattle.node_store.specs.Appends.{Fails}
use Rattle.node_store.specs.declared.fault.KeepFault.{KeepFault}
use Rattle.node_store.specs.declared.fault.KeepFault.TheVariants as keep
use Rattle.node_core.specs.Nodes.{node_seen, IsAsBefore}
use Rattle.node_core.specs.Works.{Rule, NodeDid, NodeStopped}
use Rattle.node_core.specs.declared.fault.NodeFault.{NodeFault}
use Rattle.node_core.specs.declared.fault.NodeFault.TheVariants.{Disk, Worn, NoMemory}
use Rattle.node_core.specs.declared.outbox.Outbox.{Outbox}
use Rattle.node_core.specs.declared.node.Node.{Node}

-- each of these copies with the nodes that are asked for it
abbrev pub asks_among : ℕ → ℕ → List Struck → List ℕ → List (Id × ℕ)
asks_among confirm own items members = map (λ item. (item.id, strike_asks confirm own item.targets members)) items

-- these with the stamps that the node draws next
abbrev pub next_dated : Node → List (Id × ℕ) → List StrikeItem
next_dated node asks = dated node.store.own (node_seen node) node.numbers.count asks

-- each with the members that are asked for it
abbrev pub asked_of_members : List Struck → Node → List (Id × ℕ)
asked_of_members items old = asks_among old.shape.confirm old.store.own items (nodes_in (members_of (node_seen old)) old.shape.nodes)

-- the deletion of a user's copies
abbrev pub striking : List ℕ → List Struck → Node → Rule
striking user items old node disk = begin_strike old.store.own old.shape.nodes node disk user (asked_of_members items old)

module _ {D : Type 0} (on : View D) (user : List ℕ) (items : List Struck) (old : Node) (before : D) (new : Node) (after : D) where
  pub record StrikeBegun (ticket : Option Number) (outbox : Outbox) : Type 0 where
    pub ticket_is : ticket ≡ Some (new_number old.store.own (node_seen old))
    pub none_thrown : outbox.thrown ≡ None
    pub did : NodeDid on (striking user items old) old before new after outbox.letters

  pub record StrikeStopped (fault : KeepFault) : Type 0 where
    pub stopped : NodeStopped on (striking user items old) old before after
    pub fails : Fails fault (on.faults before) (on.faults after)

  -- a deletion that has numbers and members enough
  abbrev pub BeginsStrike : Result (Option Number × Outbox) NodeFault → Type 0
  BeginsStrike (Ok begun) = StrikeBegun begun.0 begun.1
  BeginsStrike (Err Disk) = StrikeStopped keep.Disk
  BeginsStrike (Err Worn) = ⊥
  BeginsStrike (Err (NoMemory true)) = StrikeStopped keep.NoMemory
  BeginsStrike (Err (NoMemory false)) = IsAsBefore old new × (after ≡ before)
