-- What messages see of a node that does something for membership and maps.
use Rattle.std.specs.Prelude.{◌++◌, List, [], Option}
use Rattle.mail_model.specs.Identity.{EpochId}
use Rattle.object_model.specs.Lists.{Among}
use Rattle.object_model.specs.Letters.{Membership, Letter}
use Rattle.cluster_model.specs.Cluster as plain
use Rattle.cluster_model.specs.Forms.{promise_records, IsPlainMaps}
use Rattle.node_store.specs.Disks.{View}
use Rattle.node_core.specs.Works.{Rule, NodeDid, NodeFailed}
use Rattle.node_core.specs.declared.fault.NodeFault.{NodeFault}
use Rattle.node_core.specs.declared.node.Node.{Node}

-- what a node knows of a letter before it acts upon it
abbrev pub Learns : Type 0
Learns = plain.Node → plain.Node

abbrev pub learns_nothing : Learns
learns_nothing node = node

-- It changes at most which membership is installed, appends at most a promise, and sends these letters.
abbrev pub forms_rule : Learns → Option Membership → Option EpochId → List Letter → Rule
forms_rule learns installed promise sent node disk = record { node = record (learns node) { installed = installed }; disk = disk ++ promise_records promise; out = sent }

module _ {D : Type 0} (on : View D) (learns : Learns) (old : Node) (before : D) (new : Node) (after : D) where
  -- it was done, and its letters are of membership and maps alone
  pub record HasFormed (sent : List Letter) : Type 0 where
    pub installed : Option Membership
    pub promise : Option EpochId
    pub did : NodeDid on (forms_rule learns installed promise sent) old before new after sent
    pub plain : (letter : Letter) → Among letter sent → IsPlainMaps letter

  -- It stopped, which may be only where this holds: the promise stands, or may stand, or does not, and nothing is sent.
  pub record StopsForming (may : Type 0) (fault : NodeFault) : Type 0 where
    pub installed : Option Membership
    pub promise : Option EpochId
    pub failed : NodeFailed on (forms_rule learns installed promise []) may fault old before new after
