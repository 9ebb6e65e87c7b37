-- A group that was concluded, or none was open.
use Rattle.std.proofs.Common.{◌≡◌, ℕ, List, Option, Some, None, sym, ap, subst, if◌then◌else◌}
use Rattle.object_model.specs.Keys.{is_same_epoch}
use Rattle.object_model.specs.Locks.{no_locks}
use Rattle.cluster_model.specs.Cluster as plain
use Rattle.cluster_model.specs.Cluster.{epoch_of}
use Rattle.joint_model.specs.Joint.Life.{Up}
use Rattle.joint_world.specs.Staying.{KeepsReads}
use Rattle.node_store.specs.declared.store.NodeStore.{NodeStore}
use Rattle.node_maps.specs.Rounds as rounds
use Rattle.node_maps.specs.declared.concluding.Concluded.{Concluded}
use Rattle.node_core.specs.Nodes.{node_seen, CanWork}
use Rattle.node_core.specs.declared.node.Node.{Node}
use Rattle.whole_node.specs.Nodes.{joint_seen, HasMaps, WholeWorks}
use Rattle.whole_node.specs.Grouping.{SharesWhere, ConcludesOrNot}
use Rattle.whole_node.specs.declared.node.WholeNode.{WholeNode}
use Rattle.whole_node.proofs.Beside.{IsSameBoot, reads_of, cleared_beside}
use Rattle.whole_node.proofs.Opened.{has_kept, concluded_so, concluded_has}

pub concluded_or_not : (buckets : ℕ) (done : Option Concluded) (old new : WholeNode) → HasMaps old → rounds.ConcludesOrNot buckets done old.maps new.maps → SharesWhere done old new → ConcludesOrNot buckets done old new
concluded_or_not buckets None old new has c mail = (c.0, c.1, mail)
concluded_or_not buckets (Some done) old new has c mail = concluded_so buckets done old new has c mail

-- messages go on in the same boot
concluded_boot : (done : Option Concluded) (old new : WholeNode) → SharesWhere done old new → IsSameBoot old.mail new.mail
concluded_boot None old new mail = record { own = ap (λ (n : Node). n.store.own) mail; boot = ap (λ (n : Node). (node_seen n).boot) mail }
concluded_boot (Some done) old new mail = record { own = ap (λ (s : NodeStore). s.own) mail.store; boot = ap (λ (n : plain.Node). n.boot) mail.seen }

concluded_maps : (buckets : ℕ) (done : Option Concluded) (old new : WholeNode) → HasMaps old → rounds.ConcludesOrNot buckets done old.maps new.maps → SharesWhere done old new → HasMaps new
concluded_maps buckets None old new has c mail = has_kept old new has mail c.1
concluded_maps buckets (Some done) old new has c mail = concluded_has buckets done old new has c mail

concluded_mail : (done : Option Concluded) (old new : WholeNode) (seen : Option (List ℕ)) → CanWork seen old.mail → SharesWhere done old new → CanWork seen new.mail
concluded_mail None old new seen works mail = subst (CanWork seen) (sym mail) works
concluded_mail (Some done) old new seen works mail = mail.works seen works

pub concluded_works : (buckets : ℕ) (done : Option Concluded) (old new : WholeNode) (seen : Option (List ℕ)) → WholeWorks seen old → rounds.ConcludesOrNot buckets done old.maps new.maps → SharesWhere done old new
    → new.reads ≡ old.reads → WholeWorks seen new
concluded_works buckets done old new seen w c mail reads = record {
  mail = concluded_mail done old new seen w.mail mail;
  maps = concluded_maps buckets done old new w.maps c mail;
  reads = reads_of old new (concluded_boot done old new mail) w.reads reads;
}

-- all locks of an earlier epoch were let go
pub concluded_beside : (buckets : ℕ) (done : Option Concluded) (old new : WholeNode) → HasMaps old → rounds.ConcludesOrNot buckets done old.maps new.maps → SharesWhere done old new → new.reads ≡ old.reads
    → new.locks ≡ (if is_same_epoch (epoch_of (node_seen old.mail)) (epoch_of (node_seen new.mail)) then old.locks else no_locks) → KeepsReads (Up (joint_seen old)) (joint_seen new)
concluded_beside buckets done old new has c mail reads locks = cleared_beside old new has (concluded_maps buckets done old new has c mail) reads locks

-- the same of a node that has both halves
pub both_kept : (buckets : ℕ) (done : Option Concluded) (old mid new : WholeNode) → new.mail ≡ mid.mail → new.maps ≡ mid.maps → rounds.ConcludesOrNot buckets done old.maps mid.maps × SharesWhere done old mid
    → rounds.ConcludesOrNot buckets done old.maps new.maps × SharesWhere done old new
both_kept buckets done old mid new mail maps b = (
  subst (rounds.ConcludesOrNot buckets done old.maps) (sym maps) b.0,
  shares done (subst (SharesWhere done old) (λ i. record mid { mail = sym mail i; maps = sym maps i }) b.1),
)
  where
    shares : (done : Option Concluded) → SharesWhere done old (record mid { mail = new.mail; maps = new.maps }) → SharesWhere done old new
    shares None s = s
    shares (Some done) s = s
