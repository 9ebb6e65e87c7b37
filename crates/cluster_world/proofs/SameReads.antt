-- Nodes with the same tickets of calls that read and the same locks.
use Rattle.std.proofs.Common.{◌≡◌, sym, ap, ◌∙◌}
use Rattle.maps_model.specs.Cluster.{epoch_of}
use Rattle.cluster_model.specs.Cluster as plain
use Rattle.joint_model.specs.Joint as joint
use Rattle.node_maps.specs.Nodes.{node_of}
use Rattle.whole_node.specs.Nodes.{joint_seen}
use Rattle.whole_node.specs.declared.node.WholeNode.{WholeNode}
use Rattle.cluster_world.specs.Asking.{HasTickets}
use Rattle.cluster_world.specs.Keeping.{HasSameReads}
use Rattle.cluster_world.proofs.Lifting.{locks_by}
use Rattle.node_core.specs.Nodes.{node_seen}
use Rattle.joint_world.specs.Staying.{KeepsReads}

pub same_reads : (a b : WholeNode) → b ≡ a → HasSameReads a b
same_reads a b same = record { reads = ap (λ (z : WholeNode). (joint_seen z).reads) same; locks = ap (λ (z : WholeNode). (joint_seen z).locks) same }

pub reads_more : (a b c : WholeNode) → HasSameReads a b → HasSameReads b c → HasSameReads a c
reads_more a b c one two = record { reads = two.reads ∙ one.reads; locks = two.locks ∙ one.locks }

-- In its epoch a node keeps both.
pub kept_reads : (a b : WholeNode) → node_of b.maps ≡ node_of a.maps → KeepsReads (joint.Life.Up (joint_seen a)) (joint_seen b) → HasSameReads a b
kept_reads a b maps kept = record {
  reads = kept.0;
  locks = kept.1 ∙ locks_by (epoch_of (node_of a.maps)) (epoch_of (node_of b.maps)) (joint_seen a).locks (sym (ap epoch_of maps));
}

-- A node with all that another has is as that one in the machine's words.
pub memory_same : (a b : WholeNode) → node_seen b.mail ≡ node_seen a.mail → node_of b.maps ≡ node_of a.maps → HasSameReads a b → joint_seen b ≡ joint_seen a
memory_same a b mail maps same =
    let reads = same.reads in
    let locks = same.locks in
    λ i. record { whole = record { mail = mail i; maps = maps i }; reads = reads i; locks = locks i }

-- Where the tickets of messages alone changed both stay.
pub tickets_reads : (tickets : plain.Tickets) (a b : WholeNode) → HasTickets tickets a b → HasSameReads a b
tickets_reads tickets a b has = kept_reads a b (ap node_of has.maps) has.beside
