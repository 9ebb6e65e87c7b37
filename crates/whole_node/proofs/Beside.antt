-- What becomes of a node's tickets of calls that read, and of its locks, in what is none of these calls.
use Rattle.std.proofs.Common.{◌≡◌, ℕ, Bool, true, nat_eq, ◌&&◌, List, [], Option, Some, None, refl, sym, ap, ◌∙◌, eq-eqb, if◌then◌else◌}
use Rattle.std.specs.Prelude.{Result, IfOk}
use Rattle.std.proofs.lemmas.Bool.{and_from}
use Rattle.mail_model.specs.Identity.{EpochId}
use Rattle.mail_model.specs.Record.{Record}
use Rattle.object_model.specs.Keys.{is_same_epoch}
use Rattle.object_model.specs.Locks.{Held, no_locks}
use Rattle.object_model.specs.Letters.{Membership}
use Rattle.cluster_model.specs.Cluster as mail
use Rattle.maps_model.specs.Cluster as maps
use Rattle.joint_model.specs.Joint.Life.{Up, Down}
use Rattle.joint_world.specs.Staying.{KeepsReads}
use Rattle.node_reads.specs.Tables.{reads_in}
use Rattle.node_reads.specs.declared.reads.NodeReads.{NodeReads}
use Rattle.node_core.specs.Nodes.{node_seen, CanWork, NodeKeeps, IsSameNode}
use Rattle.node_core.specs.declared.node.Node.{Node}
use Rattle.node_maps.specs.Nodes.{node_of}
use Rattle.whole_node.specs.Nodes.{joint_seen, HasMaps, AreReadsOf, HasNoReads, KeepsBeside, WholeWorks}
use Rattle.whole_node.specs.declared.node.WholeNode.{WholeNode}

-- it is one node in one boot
pub record IsSameBoot (old new : Node) : Type 0 where
  pub own : new.store.own ≡ old.store.own
  pub boot : (node_seen new).boot ≡ (node_seen old).boot

-- and messages go by the membership by which they went
pub record GoesOn (old new : Node) : Type 0 where
  pub boot : IsSameBoot old new
  pub epoch : (node_seen new).installed ≡ (node_seen old).installed

pub nothing_kept : (node : WholeNode) → KeepsBeside node node
nothing_kept node = record { reads = refl; locks = refl }

pub reads_of : (old new : WholeNode) → IsSameBoot old.mail new.mail → AreReadsOf old.mail old.reads → new.reads ≡ old.reads → AreReadsOf new.mail new.reads
reads_of old new b of e = record {
  own_is = ap (λ (r : NodeReads). r.own) e ∙ of.own_is ∙ sym b.own;
  boot_is = ap (λ (r : NodeReads). r.boot) e ∙ of.boot_is ∙ sym b.boot;
}

same_epoch : (e : EpochId) → is_same_epoch e e ≡ true
same_epoch e = and_from (nat_eq e.count e.count) (nat_eq e.node e.node) (eq-eqb e.count e.count refl) (eq-eqb e.node e.node refl)

epochs : (installed : Option Membership) → mail.epoch_in installed ≡ maps.epoch_in installed
epochs None = refl
epochs (Some membership) = refl

-- messages and maps go by one epoch
pub shared : (node : WholeNode) → HasMaps node → mail.epoch_of (node_seen node.mail) ≡ maps.epoch_of (node_of node.maps)
shared node has = ap mail.epoch_in has.epoch ∙ epochs node.maps.group.installed

-- all locks were let go where messages go by another epoch than before
pub cleared_beside : (old new : WholeNode) → HasMaps old → HasMaps new → new.reads ≡ old.reads
    → new.locks ≡ (if is_same_epoch (mail.epoch_of (node_seen old.mail)) (mail.epoch_of (node_seen new.mail)) then old.locks else no_locks) → KeepsReads (Up (joint_seen old)) (joint_seen new)
cleared_beside old new was is reads locks = (ap reads_in reads, locks ∙ (λ i. if is_same_epoch (shared old was i) (shared new is i) then old.locks else no_locks))

-- none was, where they go by the same
pub kept_beside : (old new : WholeNode) → HasMaps old → HasMaps new → (node_seen new.mail).installed ≡ (node_seen old.mail).installed → KeepsBeside old new → KeepsReads (Up (joint_seen old)) (joint_seen new)
kept_beside old new was is epoch kept = cleared_beside old new was is kept.reads
    (kept.locks
    ∙ sym (ap (λ (b : Bool). if b then old.locks else no_locks)
    (ap (λ (i : Option Membership). is_same_epoch (mail.epoch_of (node_seen old.mail)) (mail.epoch_in i)) epoch ∙ same_epoch (mail.epoch_of (node_seen old.mail)))))

-- the maps have the membership that they had, whatever messages go by
pub idle_beside : (old new : WholeNode) → (node_of new.maps).installed ≡ (node_of old.maps).installed → KeepsBeside old new → KeepsReads (Up (joint_seen old)) (joint_seen new)
idle_beside old new epoch kept = (
  ap reads_in kept.reads,
  kept.locks
      ∙ sym (ap (λ (b : Bool). if b then old.locks else no_locks)
      (ap (λ (i : Option Membership). is_same_epoch (maps.epoch_of (node_of old.maps)) (maps.epoch_in i)) epoch ∙ same_epoch (maps.epoch_of (node_of old.maps)))),
)

-- a node that has started has none
pub started_beside : (node : WholeNode) → HasNoReads node → KeepsReads (Down []) (joint_seen node)
started_beside node none = (none.none, none.free)

-- what is left of a node that stays up
pub record Outlasts (old new : WholeNode) : Type 0 where
  pub maps : HasMaps new
  pub mail : GoesOn old.mail new.mail

pub works_on : (old new : WholeNode) (seen : Option (List ℕ)) → Outlasts old new → AreReadsOf old.mail old.reads → KeepsBeside old new → CanWork seen new.mail → WholeWorks seen new
works_on old new seen o of kept works = record { mail = works; maps = o.maps; reads = reads_of old new o.mail.boot of kept.reads }

pub beside_on : (old new : WholeNode) → HasMaps old → Outlasts old new → KeepsBeside old new → KeepsReads (Up (joint_seen old)) (joint_seen new)
beside_on old new has o kept = kept_beside old new has o.maps o.mail.epoch kept
