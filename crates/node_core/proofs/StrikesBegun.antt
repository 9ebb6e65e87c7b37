-- A deletion that a node begins, for every plan whose node it is.
use Rattle.std.proofs.Common.{◌≡◌, ℕ, max, List, [], length, true, false, nat_lt, Option, Some, refl, ap, ◌∙◌}
use Rattle.std.specs.Prelude.{Result, Ok, Err}
use Rattle.mail_model.specs.Plan.{Plan}
use Rattle.mail_model.specs.Record.{Record}
use Rattle.object_model.specs.Sets.{nodes_in}
use Rattle.object_model.specs.Letters.{Number}
use Rattle.object_model.specs.Mishaps.{Mishaps}
use Rattle.cluster_model.specs.Cluster.{members_of}
use Rattle.cluster_model.specs.Rules.{begin_strike, new_number}
use Rattle.cluster_model.specs.Steps.{Struck, mishaps_of_call, fails_at_once, is_worn_for}
use Rattle.cluster_model.specs.Steps.NodeCall.{Strike}
use Rattle.cluster_model.specs.Makes.{begun_by}
use Rattle.node_store.specs.Disks.{View}
use Rattle.node_store.specs.declared.fault.KeepFault.{KeepFault}
use Rattle.node_store.specs.declared.fault.KeepFault.TheVariants as keep
use Rattle.node_core.specs.Nodes.{node_seen, IsNodeOf}
use Rattle.node_core.specs.Works.{Rule}
use Rattle.node_core.specs.Failing.{few_seen, lacks_numbers}
use Rattle.node_core.specs.Striking.{asks_among, striking, StrikeBegun, StrikeStopped, BeginsStrike}
use Rattle.node_core.specs.Beginning.{at_second, CallDid, CallBegun, CallStopped, NodeBegins}
use Rattle.node_core.specs.declared.fault.NodeFault.{NodeFault}
use Rattle.node_core.specs.declared.fault.NodeFault.TheVariants.{Disk, Worn, NoMemory}
use Rattle.node_core.specs.declared.outbox.Outbox.{Outbox}
use Rattle.node_core.specs.declared.node.Node.{Node}
use Rattle.node_core.proofs.Doing.{did_same, stopped_same}
use Rattle.node_core.proofs.Begun.{worn_goes, untouched}

-- the mishaps of a deletion
pub strike_mishaps : (plan : Plan) (own seconds : ℕ) (old : Node) (members : List ℕ) (m : Mishaps) → IsNodeOf plan own old → members ≡ nodes_in (members_of (node_seen old)) old.shape.nodes
    → m ≡ few_seen (nat_lt (length members) (max 1 old.shape.confirm)) → (user : List ℕ) (items : List Struck) → m ≡ mishaps_of_call plan seconds (node_seen old) (Strike user items)
strike_mishaps plan own seconds old members m p are is user items =
    is ∙ ap (λ (l : List ℕ). few_seen (nat_lt (length l) (max 1 old.shape.confirm))) are
    ∙ ap (λ (n : ℕ). few_seen (nat_lt (length (nodes_in (members_of (node_seen old)) n)) (max 1 old.shape.confirm))) p.nodes
    ∙ ap (λ (f : ℕ). few_seen (nat_lt (length (nodes_in (members_of (node_seen old)) plan.nodes)) (max 1 f))) p.confirm

-- a deletion goes
module _ {D : Type 0} (on : View D) (plan : Plan) (own seconds : ℕ) (old : Node) (before : D) (p : IsNodeOf plan own old) (user : List ℕ) (items : List Struck)
    (fails : fails_at_once plan seconds (node_seen old) (Strike user items) ≡ false) (fresh : lacks_numbers 0 (length items) old ≡ false) (new : Node) (after : D) where
  abbrev rule_of : Rule
  rule_of node disk = begun_by plan (at_second seconds) own node disk (Strike user items) []

  same_rule : (records : List Record) → striking user items old (node_seen old) records ≡ rule_of (node_seen old) records
  same_rule records =
      ap (λ (o : ℕ). begin_strike o old.shape.nodes (node_seen old) records user (asks_among old.shape.confirm o items (nodes_in (members_of (node_seen old)) old.shape.nodes))) p.own_is
      ∙ ap (λ (n : ℕ). begin_strike own n (node_seen old) records user (asks_among old.shape.confirm own items (nodes_in (members_of (node_seen old)) n))) p.nodes
      ∙ ap (λ (f : ℕ). begin_strike own plan.nodes (node_seen old) records user (asks_among f own items (nodes_in (members_of (node_seen old)) plan.nodes))) p.confirm

  not_worn : is_worn_for plan seconds (node_seen old) (Strike user items) ≡ false
  not_worn = worn_goes plan seconds 0 (length items) old (Strike user items) refl refl refl fails ∙ fresh

  went : (ticket : Option Number) (outbox : Outbox) → StrikeBegun on user items old before new after ticket outbox → CallBegun on plan own seconds (Strike user items) old before new after ticket outbox
  went ticket outbox d = record {
    fresh = not_worn;
    none_thrown = d.none_thrown;
    did = CallDid.Goes [] fails refl (d.ticket_is ∙ ap (λ (o : ℕ). Some (new_number o (node_seen old))) p.own_is)
        (did_same on (striking user items old) rule_of old before new after outbox.letters same_rule d.did);
  }

  stopped_in : (fault : KeepFault) → StrikeStopped on user items old before new after fault → CallStopped on plan own seconds (Strike user items) old before new after fault
  stopped_in fault d = record {
    fresh = not_worn;
    octets = [];
    filed = refl;
    stopped = stopped_same on (striking user items old) rule_of old before after same_rule d.stopped;
    fails = d.fails;
  }

  pub strikes : (result : Result (Option Number × Outbox) NodeFault) → BeginsStrike on user items old before new after result → NodeBegins on plan own seconds (Strike user items) old before new after result
  strikes (Ok begun) d = went begun.0 begun.1 d
  strikes (Err Disk) d = stopped_in keep.Disk d
  strikes (Err Worn) d = absurd d
  strikes (Err (NoMemory true)) d = stopped_in keep.NoMemory d
  strikes (Err (NoMemory false)) d = let u = untouched on before after d.1 in (d.0, u.0, u.1)
