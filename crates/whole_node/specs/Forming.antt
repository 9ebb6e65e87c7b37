-- What messages see of a node's part in membership and maps: an epoch may be installed and one promised, and letters of that kind are sent.
use Rattle.std.specs.Prelude.{List, ◌++◌, Option}
use Rattle.mail_model.specs.Identity.{EpochId}
use Rattle.object_model.specs.Lists.{Among}
use Rattle.object_model.specs.Letters.{Membership, Letter}
use Rattle.cluster_model.specs.Cluster as cluster
use Rattle.cluster_model.specs.Forms.{promise_records, IsPlainMaps}
use Rattle.node_store.specs.Disks.{View}
use Rattle.node_core.specs.Works.{Rule, NodeDid}
use Rattle.node_core.specs.declared.node.Node.{Node}

-- What the node learns comes first. Then it has this installed, appends at most a promise, and sends these letters.
abbrev pub forms_by : (cluster.Node → cluster.Node) → Option Membership → Option EpochId → List Letter → Rule
forms_by learns installed promise sent node disk = record { node = record (learns node) { installed = installed }; disk = disk ++ promise_records promise; out = sent }

-- it was done
pub record FormsOn {D : Type 0} (on : View D) (learns : cluster.Node → cluster.Node) (installed : Option Membership) (promise : Option EpochId) (old : Node) (before : D) (new : Node) (after : D) (sent : List Letter) : Type 0 where
  pub did : NodeDid on (forms_by learns installed promise sent) old before new after sent
  pub sends : (letter : Letter) → Among letter sent → IsPlainMaps letter
