-- What was done for messages, and the maps after it.
use Rattle.std.proofs.Common.{◌≡◌, ℕ, Bool, true, false, List, [], ◌++◌, Option, Some, None, refl, sym, ap, ◌∙◌, subst, append-nil, arith, true≢false}
use Rattle.std.specs.Prelude.{All, ⊤, Result, Ok, Err, is_err, is_some, OnOk, OnErr}
use Rattle.mail_model.specs.Plan.{Plan, Users}
use Rattle.mail_model.specs.Identity.Key.{Message}
use Rattle.mail_model.specs.Record.{Record}
use Rattle.mail_model.specs.Grammar.{IsRecord}
use Rattle.std.specs.FinMap as fin
use Rattle.object_model.specs.Said.{said}
use Rattle.object_model.specs.Letters.{Letter}
use Rattle.cluster_model.specs.Cluster as plain
use Rattle.cluster_model.specs.Reads.{is_here_held}
use Rattle.maps_model.specs.Cluster as maps
use Rattle.node_store.specs.Disks.{View}
use Rattle.node_store.specs.Appends.{Fails}
use Rattle.node_store.specs.declared.fault.KeepFault.TheVariants as keep
use Rattle.node_store.proofs.Journals.{all_stops}
use Rattle.node_core.specs.Nodes.{node_seen, NodeKeeps, end_in, IsNodeOf, CanWork, IsSameNode}
use Rattle.node_core.specs.Works.{Rule, NodeDid, NodeStopped}
use Rattle.node_core.specs.declared.node.Node.{Node}
use Rattle.mailbox_fragment.specs.Here.{is_here_in}
use Rattle.node_maps.specs.Nodes.{node_of, own_of}
use Rattle.node_maps.specs.declared.maps.NodeMaps.{NodeMaps}
use Rattle.whole_world.proofs.Staying.{follows_boot}
use Rattle.whole_world.proofs.Keeping.{follows_epoch}
use Rattle.whole_node.specs.Nodes.{KnowsHere, HasMaps, AreReadsOf, KeepsBeside, WholeWorks}
use Rattle.whole_node.specs.Following.{MapsFollow}
use Rattle.whole_node.specs.declared.node.WholeNode.{WholeNode}
use Rattle.whole_node.proofs.Beside.{Outlasts, works_on}
use Rattle.whole_node.proofs.Led.{led_is}
use Rattle.whole_node.proofs.Taking.{Leads}

-- what holds where a call went well, and where it did not
pub on_ok : {T E P : Type 0} (r : Result T E) → OnOk r P → is_err r ≡ false → P
on_ok (Ok x) p e = p
on_ok (Err x) p e = absurd (true≢false e)

pub on_err : {T E P : Type 0} (r : Result T E) → OnErr r P → is_err r ≡ true → P
on_err (Ok x) p e = absurd (true≢false (sym e))
on_err (Err x) p e = p

pub some_of : {X : Type 0} (o : Option X) → is_some o ≡ true → (x : X) × (Some x ≡ o)
some_of None e = absurd (true≢false (sym e))
some_of (Some x) e = (x, refl)

pub none_of : {X : Type 0} (o : Option X) → is_some o ≡ false → None ≡ o
none_of None e = refl
none_of (Some x) e = absurd (true≢false e)

-- a plan that the node is of
pub plan_of : Node → Plan
plan_of node = record { nodes = node.shape.nodes; copies = node.shape.copies; confirm = node.shape.confirm; buckets = 1; users = fin.empty; postmaster = [] }

pub is_of : (node : Node) → IsNodeOf (plan_of node) node.store.own node
unfolding plan_of
is_of node = record { own_is = refl; nodes = refl; copies = refl; confirm = refl }

-- and one with these users
pub plan_for : Users → Node → Plan
plan_for users node = record { nodes = node.shape.nodes; copies = node.shape.copies; confirm = node.shape.confirm; buckets = 1; users = users; postmaster = [] }

pub is_for : (users : Users) (node : Node) → IsNodeOf (plan_for users node) node.store.own node
unfolding plan_for
is_for users node = record { own_is = refl; nodes = refl; copies = refl; confirm = refl }

pub has_users : (users : Users) (node : Node) → users ≡ (plan_for users node).users
unfolding plan_for
has_users users node = refl

pub same_own : (old new : Node) → IsSameNode old new → new.store.own ≡ old.store.own
same_own old new same = (same (plan_of old) old.store.own (is_of old)).own_is

-- work that was done, and after which memory ran out
pub done_stops : {D : Type 0} (on : View D) (rule : Rule) (old : Node) (before : D) (new : Node) (after : D) (sent : List Letter) → NodeDid on rule old before new after sent
    → NodeStopped on rule old before after × Fails keep.NoMemory (on.faults before) (on.faults after)
done_stops on rule old before new after sent d = (
  record {
    front = d.added;
    pending = [];
    cut = λ records k. record { missing = []; is = d.disk records k ∙ ap (λ (l : List Record). records ++ l) (sym (append-nil (d.added ++ []) ∙ append-nil d.added)) };
    stops = all_stops on before after (end_in old) (end_in new) d.added d.appends;
    fit = λ records k. subst (All IsRecord) (sym (d.disk records k)) (d.keeps records k).fit;
  },
  omega (arith, d.appends.quiet),
)

module _ (old : WholeNode) (has : HasMaps old) where
  -- whatever its disk's records are, the maps know what is here
  pub knows_any : (records : List Record) → NodeKeeps records old.mail → KnowsHere records old.maps
  knows_any records keeps user id = has.knows user id ∙ ap is_here_held (sym (has.keeps.says (Message user id)) ∙ keeps.says (Message user id))

  pub follows_led : (rule : Rule) (new : WholeNode)
      → ((records : List Record) → NodeKeeps records old.mail → Leads (own_of old.maps) records (rule (node_seen old.mail) records).disk old.maps new.maps) → MapsFollow rule old new
  follows_led rule new leads records added keeps is = led_is (own_of old.maps) records (rule (node_seen old.mail) records).disk (node_of old.maps) (node_of new.maps) (leads records keeps).led added is

  pub has_after : {D : Type 0} (on : View D) (rule : Rule) (before : D) (new : WholeNode) (after : D) (sent : List Letter) → NodeDid on rule old.mail before new.mail after sent
      → ((records : List Record) → (rule (node_seen old.mail) records).node.installed ≡ (node_seen old.mail).installed)
      → ((records : List Record) → NodeKeeps records old.mail → Leads (own_of old.maps) records (rule (node_seen old.mail) records).disk old.maps new.maps) → HasMaps new
  has_after on rule before new after sent d stays leads =
      let l = leads has.records has.keeps in
      record {
        own = l.own_is ∙ has.own ∙ sym (same_own old.mail new.mail d.same);
        boot = ap (λ (n : maps.Node). n.boot) l.led.node ∙ follows_boot (own_of old.maps) (node_of old.maps) has.records l.led.added ∙ has.boot ∙ sym d.boot;
        epoch = sym (ap (λ (n : plain.Node). n.installed) (d.node has.records has.keeps)) ∙ stays has.records ∙ has.epoch
            ∙ sym (ap (λ (n : maps.Node). n.installed) l.led.node ∙ follows_epoch (own_of old.maps) (node_of old.maps) has.records l.led.added);
        records = has.records ++ d.added;
        keeps = d.keeps has.records has.keeps;
        knows = subst (λ (r : List Record). KnowsHere r new.maps) (d.disk has.records has.keeps) l.knows;
      }

  -- a node that is as it was, but perhaps for its tickets
  pub has_same : (new : WholeNode) → IsSameNode old.mail new.mail → (node_seen new.mail).boot ≡ (node_seen old.mail).boot → (node_seen new.mail).installed ≡ (node_seen old.mail).installed
      → ((records : List Record) → NodeKeeps records old.mail → NodeKeeps records new.mail) → new.maps ≡ old.maps → HasMaps new
  has_same new same boot epoch keeps maps = record {
    own = ap own_of maps ∙ has.own ∙ sym (same_own old.mail new.mail same);
    boot = ap (λ (m : NodeMaps). (node_of m).boot) maps ∙ has.boot ∙ sym boot;
    epoch = epoch ∙ has.epoch ∙ sym (ap (λ (m : NodeMaps). m.group.installed) maps);
    records = has.records;
    keeps = keeps has.records has.keeps;
    knows = λ user id. ap (λ (m : NodeMaps). is_here_in m.fragments user id) maps ∙ has.knows user id;
  }

  -- so it goes on
  pub outlasts_after : {D : Type 0} (on : View D) (rule : Rule) (before : D) (new : WholeNode) (after : D) (sent : List Letter) → NodeDid on rule old.mail before new.mail after sent
      → ((records : List Record) → (rule (node_seen old.mail) records).node.installed ≡ (node_seen old.mail).installed)
      → ((records : List Record) → NodeKeeps records old.mail → Leads (own_of old.maps) records (rule (node_seen old.mail) records).disk old.maps new.maps) → Outlasts old new
  outlasts_after on rule before new after sent d stays leads = record {
    maps = has_after on rule before new after sent d stays leads;
    mail = record {
      boot = record { own = same_own old.mail new.mail d.same; boot = d.boot };
      epoch = sym (ap (λ (n : plain.Node). n.installed) (d.node has.records has.keeps)) ∙ stays has.records;
    };
  }

  pub outlasts_same : (new : WholeNode) → IsSameNode old.mail new.mail → (node_seen new.mail).boot ≡ (node_seen old.mail).boot → (node_seen new.mail).installed ≡ (node_seen old.mail).installed
      → ((records : List Record) → NodeKeeps records old.mail → NodeKeeps records new.mail) → new.maps ≡ old.maps → Outlasts old new
  outlasts_same new same boot epoch keeps maps = record {
    maps = has_same new same boot epoch keeps maps;
    mail = record { boot = record { own = same_own old.mail new.mail same; boot = boot }; epoch = epoch };
  }

-- its tickets changed alone, or nothing did
pub works_same : (old : WholeNode) → HasMaps old → AreReadsOf old.mail old.reads → (new : WholeNode) (seen : Option (List ℕ)) → IsSameNode old.mail new.mail → (node_seen new.mail).boot ≡ (node_seen old.mail).boot
    → (node_seen new.mail).installed ≡ (node_seen old.mail).installed → ((records : List Record) → NodeKeeps records old.mail → NodeKeeps records new.mail) → new.maps ≡ old.maps → KeepsBeside old new
    → CanWork seen new.mail → WholeWorks seen new
works_same old has of new seen same boot epoch keeps maps kept works = works_on old new seen (outlasts_same old has new same boot epoch keeps maps) of kept works
