-- A node that stays up after a call can go on, whatever plan it is of.
use Rattle.std.proofs.Common.{◌≡◌, ℕ, List, [], Bool, true, false, Option, Some, None, refl, sym, subst}
use Rattle.std.specs.Prelude.{Result, Ok, Err}
use Rattle.std.specs.FinMap as fin
use Rattle.mail_model.specs.Plan.{Plan}
use Rattle.mail_model.specs.Identity.{Id, EpochId, Key}
use Rattle.mail_base.specs.declared.told.ToldPart.{ToldPart}
use Rattle.object_model.specs.Letters.{Number, Letter}
use Rattle.cluster_model.specs.Steps.{NodeCall}
use Rattle.node_store.specs.Disks.{View}
use Rattle.node_core.specs.Nodes.{CanWork, IsNodeOf, IsAsBefore}
use Rattle.node_core.specs.Works.{LeavesUp}
use Rattle.node_core.specs.Hearing.{HeardOrThrown, HearsLetter}
use Rattle.node_core.specs.Beginning.{CallDid, NodeBegins, IsTextEnded}
use Rattle.node_core.specs.Pushing.{PushesOut, WidensCopy}
use Rattle.node_core.specs.Promising.{PromisesEpoch}
use Rattle.node_core.specs.Reading.{TellsPart}
use Rattle.node_core.specs.declared.fault.NodeFault.{NodeFault}
use Rattle.node_core.specs.declared.fault.NodeFault.TheVariants.{Disk, Worn, NoMemory}
use Rattle.node_core.specs.declared.outbox.Why.{Why}
use Rattle.node_core.specs.declared.outbox.Outbox.{Outbox}
use Rattle.node_core.specs.declared.node.Node.{Node}

-- some plan that it is a node of
plan_of : Node → Plan
plan_of node = record { nodes = node.shape.nodes; copies = node.shape.copies; confirm = node.shape.confirm; buckets = 1; users = fin.empty; postmaster = [] }

is_of_it : (node : Node) → IsNodeOf (plan_of node) node.store.own node
unfolding plan_of
is_of_it node = record { own_is = refl; nodes = refl; copies = refl; confirm = refl }

module _ {D : Type 0} (on : View D) (old : Node) (before : D) (new : Node) (after : D) (works : CanWork (on.seen before) old) where
  same_disk : IsAsBefore old new → after ≡ before → CanWork (on.seen after) new
  same_disk same untouched = subst (λ (d : D). CanWork (on.seen d) new) (sym untouched) (same.works (on.seen before) works)

  same_seen : IsAsBefore old new → on.seen after ≡ on.seen before → CanWork (on.seen after) new
  same_seen same seen = subst (λ (o : Option (List ℕ)). CanWork o new) (sym seen) (same.works (on.seen before) works)

  pub hearing_goes_on : (letter : Letter) (result : Result Outbox NodeFault) → ((plan : Plan) (own : ℕ) → IsNodeOf plan own old → HearsLetter on own plan.nodes letter old before new after result)
      → LeavesUp result → CanWork (on.seen after) new
  hearing_goes_on letter result hears up = by result up (hears (plan_of old) old.store.own (is_of_it old))
    where
      heard : (why : Option Why) (sent : List Letter) → HeardOrThrown on old.store.own (plan_of old).nodes letter old before new after why sent → CanWork (on.seen after) new
      heard None sent h = h.did.works
      heard (Some why) sent h = same_disk h.as_before h.untouched

      by : (r : Result Outbox NodeFault) → LeavesUp r → HearsLetter on old.store.own (plan_of old).nodes letter old before new after r → CanWork (on.seen after) new
      by (Ok outbox) up h = heard outbox.thrown outbox.letters h
      by (Err Disk) up h = absurd up
      by (Err Worn) up h = absurd h
      by (Err (NoMemory true)) up h = absurd up
      by (Err (NoMemory false)) up h = same_disk h.0 h.1

  pub beginning_goes_on : (seconds : ℕ) (call : NodeCall) → IsTextEnded call → (result : Result (Option Number × Outbox) NodeFault)
      → ((plan : Plan) (own : ℕ) → IsNodeOf plan own old → IsTextEnded call → NodeBegins on plan own seconds call old before new after result)
      → LeavesUp result → CanWork (on.seen after) new
  beginning_goes_on seconds call ended result begins up = by result up (begins (plan_of old) old.store.own (is_of_it old) ended)
    where
      did : (ticket : Option Number) (sent : List Letter) → CallDid on (plan_of old) old.store.own seconds call old before new after ticket sent → CanWork (on.seen after) new
      did ticket sent (CallDid.AtOnce kind is fails ticket_is d) = d.works
      did ticket sent (CallDid.Goes octets goes filed ticket_is d) = d.works

      by : (r : Result (Option Number × Outbox) NodeFault) → LeavesUp r → NodeBegins on (plan_of old) old.store.own seconds call old before new after r → CanWork (on.seen after) new
      by (Ok begun) up b = did begun.0 begun.1.letters b.did
      by (Err Disk) up b = absurd up
      by (Err Worn) up b = same_disk b.1 b.2
      by (Err (NoMemory true)) up b = absurd up
      by (Err (NoMemory false)) up b = same_seen b.0 b.1.seen

  pub pushing_goes_on : (to most room : ℕ) (result : Result Outbox NodeFault) → ((plan : Plan) (own : ℕ) → IsNodeOf plan own old → PushesOut on own to most room old before new after result)
      → LeavesUp result → CanWork (on.seen after) new
  pushing_goes_on to most room result pushes up = by result up (pushes (plan_of old) old.store.own (is_of_it old))
    where
      by : (r : Result Outbox NodeFault) → LeavesUp r → PushesOut on old.store.own to most room old before new after r → CanWork (on.seen after) new
      by (Ok outbox) up p = same_seen p.1.as_before p.1.read.seen
      by (Err Disk) up p = absurd up
      by (Err Worn) up p = absurd p
      by (Err (NoMemory true)) up p = absurd up
      by (Err (NoMemory false)) up p = same_seen p.0 p.1.seen

  pub widening_goes_on : (to : ℕ) (key : Key) (result : Result Bool NodeFault) → ((plan : Plan) (own : ℕ) → IsNodeOf plan own old → WidensCopy on own to key old before new after result)
      → LeavesUp result → CanWork (on.seen after) new
  widening_goes_on to key result widens up = by result up (widens (plan_of old) old.store.own (is_of_it old))
    where
      by : (r : Result Bool NodeFault) → LeavesUp r → WidensCopy on old.store.own to key old before new after r → CanWork (on.seen after) new
      by (Ok did) up w = w.1.works
      by (Err Disk) up w = absurd up
      by (Err Worn) up w = absurd w
      by (Err (NoMemory true)) up w = absurd up
      by (Err (NoMemory false)) up w = same_disk w.0 w.1

  pub promising_goes_on : {T : Type 0} (epoch : EpochId) (result : Result T NodeFault) → PromisesEpoch on epoch result old before new after → LeavesUp result → CanWork (on.seen after) new
  promising_goes_on epoch (Ok did) p up = p.works
  promising_goes_on epoch (Err Disk) p up = absurd up
  promising_goes_on epoch (Err Worn) p up = absurd p
  promising_goes_on epoch (Err (NoMemory true)) p up = absurd up
  promising_goes_on epoch (Err (NoMemory false)) p up = same_disk p.0 p.1

-- so can one that told a part of a message
pub telling_goes_on : {D : Type 0} (on : View D) (node : Node) (before after : D) → CanWork (on.seen before) node → (user : List ℕ) (id : Id) (from most : ℕ) (result : Result ToldPart NodeFault)
    → TellsPart on user id from most node before after result → LeavesUp result → CanWork (on.seen after) node
telling_goes_on on node before after works user id from most (Ok part) t up = subst (λ (o : Option (List ℕ)). CanWork o node) (sym t.read.seen) works
telling_goes_on on node before after works user id from most (Err Disk) t up = absurd up
telling_goes_on on node before after works user id from most (Err Worn) t up = absurd t
telling_goes_on on node before after works user id from most (Err (NoMemory true)) t up = absurd up
telling_goes_on on node before after works user id from most (Err (NoMemory false)) t up = subst (λ (o : Option (List ℕ)). CanWork o node) (sym t.0.seen) works
