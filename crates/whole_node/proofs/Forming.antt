-- What a node does for membership and maps, as messages see it.
use Rattle.std.proofs.Common.{◌≡◌, ℕ, List, [], ◌++◌, Option, None, true, false, refl, sym, ap, ◌∙◌, subst, append-nil}
use Rattle.mail_model.specs.Identity.{EpochId}
use Rattle.mail_model.specs.Record.{Record}
use Rattle.object_model.specs.Lists.{Among}
use Rattle.object_model.specs.Letters.{Membership, Letter}
use Rattle.cluster_model.specs.Cluster as plain
use Rattle.cluster_model.specs.Forms.{IsPlainMaps}
use Rattle.node_store.specs.Disks.{View}
use Rattle.node_store.specs.Appends.{AppendsRecords}
use Rattle.node_core.specs.Nodes.{NodeKeeps, end_in, CanWork}
use Rattle.node_core.specs.Installing.{HasInstalled}
use Rattle.node_core.specs.Spelling.{AllCanBeTaken}
use Rattle.node_core.specs.Works.{Rule, NodeDid, NodeStopped, NodeFailed}
use Rattle.node_core.specs.declared.fault.NodeFault.{NodeFault}
use Rattle.node_core.specs.declared.fault.NodeFault.TheVariants.{Disk, Worn, NoMemory}
use Rattle.node_core.specs.declared.node.Node.{Node}
use Rattle.node_core.proofs.Doing.{did_none}
use Rattle.node_core.proofs.Sending.{none_fit}
use Rattle.whole_node.specs.Forming.{forms_by, FormsOn}
use Rattle.whole_node.specs.Hearing.{appends_promise}

abbrev idling : Rule
idling node disk = record { node = node; disk = disk; out = [] }

module _ {D : Type 0} (on : View D) where
  -- a node installs an epoch without work on its disk
  pub installed_forms : (installed : Option Membership) (old : Node) (disk : D) (new : Node) (sent : List Letter) → CanWork (on.seen disk) old → HasInstalled installed old new → AllCanBeTaken sent
      → ((letter : Letter) → Among letter sent → IsPlainMaps letter) → FormsOn on (λ node. node) installed None old disk new disk sent
  installed_forms installed old disk new sent works h taken sends =
      let d = did_none on idling old disk old [] works refl (λ records. refl) (λ records. refl) (λ records. refl) (record { boot = refl; shape = refl; tickets = λ own boot confirm i. i }) none_fit in
      record {
        did = record {
          added = d.added;
          disk = λ records k. append-nil records ∙ d.disk records k;
          node = λ records k. sym h.seen;
          out = λ records k. refl;
          keeps = λ records k. subst (λ (l : List Record). NodeKeeps l new) (d.disk records k) (h.keeps records k);
          boot = ap (λ (n : plain.Node). n.boot) h.seen;
          same = h.same;
          works = h.works (on.seen disk) works;
          appends = subst (λ (n : ℕ). AppendsRecords on disk disk (end_in old) n d.added) (sym h.end_is) d.appends;
          fits = taken;
        };
        sends = sends;
      }

  -- work that stopped over a promise, by another name of its rule
  pub stopped_forming : (learns : plain.Node → plain.Node) (promise : Option EpochId) (old : Node) (before after : D) → NodeStopped on (appends_promise promise []) old before after
      → NodeStopped on (forms_by learns None promise []) old before after
  stopped_forming learns promise old before after d = record {
    front = d.front;
    pending = d.pending;
    cut = λ records k. record { missing = (d.cut records k).missing; is = (d.cut records k).is };
    stops = d.stops;
    fit = λ records k. d.fit records k;
  }
