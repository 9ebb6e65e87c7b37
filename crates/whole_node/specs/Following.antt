-- What becomes of a node's maps in a call: they follow the records that the call appends.
use Rattle.std.specs.Prelude.{◌≡◌, ℕ, List, ◌++◌, true, false, ⊤, Option, Some, None, Result, Ok, Err}
use Rattle.mail_model.specs.Plan.{Plan}
use Rattle.mail_model.specs.Record.{Record}
use Rattle.object_model.specs.Letters.{Number, Letter}
use Rattle.cluster_model.specs.Makes.{begun_by}
use Rattle.cluster_model.specs.Steps.{NodeCall, fails_at_once}
use Rattle.whole_model.specs.Rules.{follows}
use Rattle.node_maps.specs.Nodes.{node_of, own_of}
use Rattle.node_core.specs.Nodes.{node_seen, NodeKeeps}
use Rattle.node_store.specs.Disks.{View}
use Rattle.node_core.specs.Works.{Rule, NodeDid}
use Rattle.node_core.specs.Beginning.{at_second}
use Rattle.node_core.specs.declared.fault.NodeFault.{NodeFault}
use Rattle.node_core.specs.declared.fault.NodeFault.TheVariants.{Disk, Worn, NoMemory}
use Rattle.node_core.specs.declared.outbox.Why.{Why}
use Rattle.node_core.specs.declared.outbox.Outbox.{Outbox}
use Rattle.whole_node.specs.declared.node.WholeNode.{WholeNode}

-- whatever records the node's disk had, the maps follow those that the rule appends
abbrev pub MapsFollow : Rule → WholeNode → WholeNode → Type 0
MapsFollow rule old new = (records added : List Record) → NodeKeeps records old.mail → (rule (node_seen old.mail) records).disk ≡ records ++ added
    → node_of new.maps ≡ follows (own_of old.maps) (node_of old.maps) records added

-- after a fault that the node may outlast the maps are as they were
abbrev pub MapsStay : NodeFault → WholeNode → WholeNode → Type 0
MapsStay Disk old new = ⊤
MapsStay Worn old new = new.maps ≡ old.maps
MapsStay (NoMemory true) old new = ⊤
MapsStay (NoMemory false) old new = new.maps ≡ old.maps

abbrev pub FollowsRule : {T : Type 0} → Rule → Result T NodeFault → WholeNode → WholeNode → Type 0
FollowsRule rule (Ok _) old new = MapsFollow rule old new
FollowsRule rule (Err fault) old new = MapsStay fault old new

-- a letter that is thrown changes nothing
abbrev pub FollowsOrThrows : Rule → Option Why → WholeNode → WholeNode → Type 0
FollowsOrThrows rule None old new = MapsFollow rule old new
FollowsOrThrows rule (Some why) old new = new.maps ≡ old.maps

abbrev pub FollowsLetter : Rule → Result Outbox NodeFault → WholeNode → WholeNode → Type 0
FollowsLetter rule (Ok outbox) old new = FollowsOrThrows rule outbox.thrown old new
FollowsLetter rule (Err fault) old new = MapsStay fault old new

-- A call that fails at once changes no maps. Where its rule was done they follow it.
pub record CallFollowed {D : Type 0} (on : View D) (plan : Plan) (own seconds : ℕ) (call : NodeCall) (old : WholeNode) (before : D) (new : WholeNode) (after : D) : Type 0 where
  pub at_once : fails_at_once plan seconds (node_seen old.mail) call ≡ true → new.maps ≡ old.maps
  pub goes : fails_at_once plan seconds (node_seen old.mail) call ≡ false → (octets : List ℕ) (sent : List Letter)
      → NodeDid on (λ node disk. begun_by plan (at_second seconds) own node disk call octets) old.mail before new.mail after sent
      → MapsFollow (λ node disk. begun_by plan (at_second seconds) own node disk call octets) old new

abbrev pub FollowsCall : {D : Type 0} → View D → Plan → ℕ → ℕ → NodeCall → Result (Option Number × Outbox) NodeFault → WholeNode → D → WholeNode → D → Type 0
FollowsCall on plan own seconds call (Ok begun) old before new after = CallFollowed on plan own seconds call old before new after
FollowsCall on plan own seconds call (Err fault) old before new after = MapsStay fault old new
