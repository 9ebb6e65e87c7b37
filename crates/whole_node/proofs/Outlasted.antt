-- What is left of a node that outlasts a fault, and letters of one kind that are not of the other.
use Rattle.std.proofs.Common.{◌≡◌, ℕ, Bool, true, false, List, [], Option, Some, refl, sym, ap, ◌∙◌, subst, true≢false, ◌||◌}
use Rattle.std.specs.Prelude.{⊤, Result, Err}
use Rattle.mail_model.specs.Identity.{EpochId}
use Rattle.object_model.specs.Letters.{Body, Letter}
use Rattle.object_model.specs.Letters.Body.{Group, Join, Install, Report, ReportAck}
use Rattle.cluster_model.specs.Cluster as plain
use Rattle.whole_model.specs.Rules.{IsMailBody, IsMapsBody}
use Rattle.node_store.specs.Disks.{View}
use Rattle.maps_model.specs.Cluster as maps
use Rattle.joint_model.specs.Joint.Life.{Up}
use Rattle.joint_world.specs.Staying.{KeepsReads}
use Rattle.node_maps.specs.Nodes.{KeepsNode}
use Rattle.node_maps.specs.Hearing.{StopsHearing}
use Rattle.node_maps.specs.declared.maps.NodeMaps.{NodeMaps}
use Rattle.node_core.specs.Nodes.{node_seen, CanWork}
use Rattle.node_core.specs.Works.{Rule, NodeFailed, LeavesUp}
use Rattle.node_core.specs.declared.fault.NodeFault.{NodeFault}
use Rattle.node_core.specs.declared.fault.NodeFault.TheVariants.{Disk, Worn, NoMemory}
use Rattle.node_core.specs.declared.node.Node.{Node}
use Rattle.whole_node.specs.Nodes.{joint_seen, KeepsBeside, WholeWorks}
use Rattle.whole_node.specs.Hearing.{is_install, PromiseStands}
use Rattle.whole_node.specs.declared.node.WholeNode.{WholeNode}
use Rattle.whole_node.proofs.Beside.{reads_of, idle_beside}
use Rattle.whole_node.proofs.Called.{works_same}
use Rattle.whole_node.proofs.Opened.{has_kept}

-- no letter is both of messages and of maps
pub not_both : (body : Body) → IsMailBody body → IsMapsBody body → ⊥
not_both (Group epoch) mail of = mail
not_both (Join epoch promise boot was claims) mail of = mail
not_both (Install membership) mail of = mail
not_both (Report row) mail of = mail
not_both (ReportAck user version) mail of = mail
not_both other mail of = of

pub or_first : (a b : Bool) → (a || b) ≡ false → a ≡ false
or_first true b e = absurd (true≢false e)
or_first false b e = refl

pub or_second : (a b : Bool) → (a || b) ≡ false → b ≡ false
or_second true b e = absurd (true≢false e)
or_second false b e = e

-- but for an Install the maps are as they were where memory ran out
stops_kept : (body : Body) (old new : NodeMaps) → is_install body ≡ false → StopsHearing body old new → KeepsNode old new
stops_kept (Install membership) old new e s = absurd (true≢false e)
stops_kept body old new e s = s

module _ {D : Type 0} (on : View D) (old : WholeNode) (before : D) (works : WholeWorks (on.seen before) old) where
  -- after work that failed, where the node may stay up
  pub failed_works : (T : Type 0) (rule : Rule) (may : Type 0) (new : WholeNode) (after : D) (fault : NodeFault) → new.maps ≡ old.maps → KeepsBeside old new → NodeFailed on rule may fault old.mail before new.mail after
      → LeavesUp {T = T} (Err fault) → WholeWorks (on.seen after) new
  failed_works T rule may new after Disk maps kept f up = absurd up
  failed_works T rule may new after Worn maps kept f up = absurd f
  failed_works T rule may new after (NoMemory true) maps kept f up = absurd up
  failed_works T rule may new after (NoMemory false) maps kept f up =
      works_same old works.maps works.reads new (on.seen after) f.0.same (ap (λ (n : plain.Node). n.boot) f.0.seen) (ap (λ (n : plain.Node). n.installed) f.0.seen) f.0.keeps maps kept
      (subst (λ (d : D). CanWork (on.seen d) new.mail) (sym f.1) (f.0.works (on.seen before) works.mail))

  -- where memory ran out as a letter was taken in
  pub short_works : (T : Type 0) (promise : Option EpochId) (body : Body) (mid : WholeNode) (amid : D) (new : WholeNode) (appended : Bool) → PromiseStands on promise appended old before mid amid → mid.maps ≡ old.maps
      → (down : Bool) → (down ≡ false → appended ≡ false) → (down ≡ false → is_install body ≡ false) → StopsHearing body mid.maps new.maps → new.mail ≡ mid.mail → new.reads ≡ old.reads
      → LeavesUp {T = T} (Err (NoMemory down)) → WholeWorks (on.seen amid) new
  short_works T promise body mid amid new appended stands same true none calm stops mail reads up = absurd up
  short_works T promise body mid amid new appended stands same false none calm stops mail reads up =
      let unchanged = stands.none (none refl) in
      let mail_is = mail ∙ unchanged.0 in
      record {
        mail = subst (λ (n : Node). CanWork (on.seen amid) n) (sym mail_is) (subst (λ (d : D). CanWork (on.seen d) old.mail) (sym unchanged.1) works.mail);
        maps = has_kept old new works.maps mail_is (subst (λ (m : NodeMaps). KeepsNode m new.maps) same (stops_kept body mid.maps new.maps (calm refl) stops));
        reads = reads_of old new (record { own = ap (λ (n : Node). n.store.own) mail_is; boot = ap (λ (n : Node). (node_seen n).boot) mail_is }) works.reads reads;
      }

  -- its locks were kept
  pub short_beside : (T : Type 0) (body : Body) (mid new : WholeNode) → mid.maps ≡ old.maps → (down : Bool) → (down ≡ false → is_install body ≡ false) → StopsHearing body mid.maps new.maps → KeepsBeside old new
      → LeavesUp {T = T} (Err (NoMemory down)) → KeepsReads (Up (joint_seen old)) (joint_seen new)
  short_beside T body mid new same true calm stops kept up = absurd up
  short_beside T body mid new same false calm stops kept up = idle_beside old new
      (ap (λ (n : maps.Node). n.installed) (stops_kept body mid.maps new.maps (calm refl) stops).node ∙ ap (λ (m : NodeMaps). m.group.installed) same) kept
