-- Work on a node's store as work of the node.
use Rattle.std.proofs.Common.{◌≡◌, ◌<◌, ℕ, List, sym, ap, subst, ◌∙◌}
use Rattle.std.specs.Prelude.{All}
use Rattle.mail_model.specs.Record.{Record}
use Rattle.mail_model.specs.Grammar.{IsRecord}
use Rattle.object_model.specs.UpdateLog.{Log}
use Rattle.object_model.specs.Letters.{Body, Letter}
use Rattle.cluster_model.specs.Cluster as plain
use Rattle.cluster_model.specs.Store.{Store, Update}
use Rattle.cluster_model.specs.Rules.{Reaction, with_updates, drawn_past}
use Rattle.cluster_model.specs.Thrown.{with_stamps}
use Rattle.disk_journal.specs.Journal.{end_of}
use Rattle.node_store.specs.Disks.{View}
use Rattle.node_store.specs.Appends.{AppendsRecords, StopsAfter}
use Rattle.node_store.specs.Keeps.{KeepsRecords, seen_with}
use Rattle.node_store.specs.Writes.{Done, WorkIsCutShort}
use Rattle.node_store.specs.declared.store.NodeStore.{NodeStore}
use Rattle.node_store.proofs.Works.{done_none, done_stopped}
use Rattle.node_tickets.specs.Standing.{IsOf, tickets_in}
use Rattle.node_tickets.specs.declared.tickets.Tickets.{Tickets}
use Rattle.node_core.specs.Nodes.{node_seen, NodeKeeps, end_in, IsShape, IsWhole, CanWork, IsSameNode}
use Rattle.node_core.specs.Spelling.{AllCanBeTaken}
use Rattle.node_core.specs.Works.{Rule, NodeDid, NodeStopped, HasLearned, IsLikewise}
use Rattle.node_core.specs.declared.shape.Shape.{Shape}
use Rattle.node_core.specs.declared.numbers.Numbers.{Numbers}
use Rattle.node_core.specs.declared.node.Node.{Node}

-- a node of the same boot with tickets of its own
pub whole_with : (old new : Node) → IsWhole old → new.store.own ≡ old.store.own → new.numbers.boot ≡ old.numbers.boot → new.shape ≡ old.shape
    → ((own boot confirm : ℕ) → IsOf own boot confirm old.tickets → IsOf own boot confirm new.tickets) → IsWhole new
whole_with old new w own boot shape tickets = record {
  tickets = subst (λ (n : ℕ). IsOf n new.numbers.boot new.shape.confirm new.tickets) (sym own)
      (subst (λ (b : ℕ). IsOf old.store.own b new.shape.confirm new.tickets) (sym boot)
      (subst (λ (s : Shape). IsOf old.store.own old.numbers.boot s.confirm new.tickets) (sym shape)
      (tickets old.store.own old.numbers.boot old.shape.confirm w.tickets)));
  boot = subst (λ (b : ℕ). 0 < b) (sym boot) w.boot;
  shape = subst (λ (n : ℕ). IsShape n new.shape) (sym own) (subst (λ (s : Shape). IsShape old.store.own s) (sym shape) w.shape);
}

-- tickets of the same node
pub whose_of : (old new : Tickets) → IsOf old.own old.boot old.confirm new → (own boot confirm : ℕ) → IsOf own boot confirm old → IsOf own boot confirm new
whose_of old new w own boot confirm i = record { own_is = w.own_is ∙ i.own_is; boot_is = w.boot_is ∙ i.boot_is; confirm_is = w.confirm_is ∙ i.confirm_is }

pub same_node : (old new : Node) → new.store.own ≡ old.store.own → new.shape ≡ old.shape → IsSameNode old new
same_node old new own shape plan n p = record {
  own_is = own ∙ p.own_is;
  nodes = ap (λ (s : Shape). s.nodes) shape ∙ p.nodes;
  copies = ap (λ (s : Shape). s.copies) shape ∙ p.copies;
  confirm = ap (λ (s : Shape). s.confirm) shape ∙ p.confirm;
}

module _ {D : Type 0} (on : View D) where
  pub did_by : (rule : Rule) (f : Store → Store) (old : Node) (before : D) (new : Node) (after : D) (sent : List Letter)
      → Done on f old.store before new.store after
      → ((records : List Record) → NodeKeeps records old → (rule (node_seen old) records).disk ≡ (f (seen_with old.store records)).disk)
      → ((records : List Record) → NodeKeeps records old → (rule (node_seen old) records).node ≡ record (node_seen new) { log = (f (seen_with old.store records)).log })
      → ((records : List Record) → NodeKeeps records old → (rule (node_seen old) records).out ≡ sent)
      → IsLikewise old new → IsWhole old → AllCanBeTaken sent → NodeDid on rule old before new after sent
  did_by rule f old before new after sent d disk node out like whole fits = record {
    added = d.added;
    disk = λ records k. disk records k ∙ d.whole records k;
    node = λ records k. node records k ∙ ap (λ (l : Log). record (node_seen new) { log = l }) (d.log records k);
    out = out;
    keeps = d.keeps;
    boot = like.boot;
    same = same_node old new d.own like.shape;
    works = record { store = d.sound; whole = whole_with old new whole d.own like.boot like.shape like.tickets };
    appends = d.appends;
    fits = fits;
  }

  pub stopped_by : (rule : Rule) (f : Store → Store) (old : Node) (before after : D)
      → WorkIsCutShort on f old.store before after
      → ((records : List Record) → NodeKeeps records old → (rule (node_seen old) records).disk ≡ (f (seen_with old.store records)).disk)
      → ((records : List Record) → NodeKeeps records old → All IsRecord (f (seen_with old.store records)).disk)
      → NodeStopped on rule old before after
  stopped_by rule f old before after d disk fit = record {
    front = d.front;
    pending = d.pending;
    cut = λ records k. record { missing = (d.cut records k).missing; is = disk records k ∙ (d.cut records k).is };
    stops = d.stops;
    fit = λ records k. subst (All IsRecord) (sym (disk records k)) (fit records k);
  }

  -- the disk is not touched
  pub did_none : (rule : Rule) (old : Node) (disk : D) (new : Node) (sent : List Letter)
      → CanWork (on.seen disk) old → new.store ≡ old.store
      → ((records : List Record) → (rule (node_seen old) records).disk ≡ records)
      → ((records : List Record) → (rule (node_seen old) records).node ≡ node_seen new)
      → ((records : List Record) → (rule (node_seen old) records).out ≡ sent)
      → IsLikewise old new → AllCanBeTaken sent → NodeDid on rule old disk new disk sent
  did_none rule old disk new sent works store records node out like fits =
      did_by rule (λ s. s) old disk new disk sent
      (subst (λ (s : NodeStore). Done on (λ t. t) old.store disk s disk) (sym store) (done_none on old.store disk works.store))
      (λ r k. records r) (λ r k. node r ∙ ap (λ (l : Log). record (node_seen new) { log = l }) (ap (λ (s : NodeStore). s.log) store)) (λ r k. out r) like works.whole fits

  -- one rule by another name
  pub did_same : (rule other : Rule) (old : Node) (before : D) (new : Node) (after : D) (sent : List Letter)
      → ((records : List Record) → rule (node_seen old) records ≡ other (node_seen old) records)
      → NodeDid on rule old before new after sent → NodeDid on other old before new after sent
  did_same rule other old before new after sent same d = record {
    added = d.added;
    disk = λ records k. ap (λ (r : Reaction). r.disk) (sym (same records)) ∙ d.disk records k;
    node = λ records k. ap (λ (r : Reaction). r.node) (sym (same records)) ∙ d.node records k;
    out = λ records k. ap (λ (r : Reaction). r.out) (sym (same records)) ∙ d.out records k;
    keeps = d.keeps;
    boot = d.boot;
    same = d.same;
    works = d.works;
    appends = d.appends;
    fits = d.fits;
  }

  pub stopped_same : (rule other : Rule) (old : Node) (before after : D)
      → ((records : List Record) → rule (node_seen old) records ≡ other (node_seen old) records)
      → NodeStopped on rule old before after → NodeStopped on other old before after
  stopped_same rule other old before after same d = record {
    front = d.front;
    pending = d.pending;
    cut = λ records k. record { missing = (d.cut records k).missing; is = ap (λ (r : Reaction). r.disk) (sym (same records)) ∙ (d.cut records k).is };
    stops = d.stops;
    fit = λ records k. subst (All IsRecord) (ap (λ (r : Reaction). r.disk) (same records)) (d.fit records k);
  }

  -- a node that was done with its work may stop all the same
  pub all_stopped : (rule : Rule) (f : Store → Store) (old : Node) (before : D) (store : NodeStore) (after : D) → Done on f old.store before store after
      → ((records : List Record) → NodeKeeps records old → (rule (node_seen old) records).disk ≡ (f (seen_with old.store records)).disk)
      → NodeStopped on rule old before after
  all_stopped rule f old before store after d disk =
      stopped_by rule f old before after (done_stopped on f old.store before store after d) disk
      (λ records k. subst (All IsRecord) (sym (d.whole records k)) (d.keeps records k).fit)

  -- it learned the stamps of a letter first
  module _ (rule : Rule) (body : Body) (old mid : Node) (learned : HasLearned body old mid) (before after : D) where
    kept : (records : List Record) → NodeKeeps records old → NodeKeeps records mid
    kept records k = subst (KeepsRecords records) (sym learned.store) k

    end_is : end_in mid ≡ end_in old
    end_is = ap (λ (s : NodeStore). end_of s.journal) learned.store

    pub did_learned : (new : Node) (sent : List Letter) → NodeDid on rule mid before new after sent → NodeDid on (λ node disk. rule (with_stamps body node) disk) old before new after sent
    did_learned new sent d = record {
      added = d.added;
      disk = λ records k. ap (λ (n : plain.Node). (rule n records).disk) (sym learned.seen) ∙ d.disk records (kept records k);
      node = λ records k. ap (λ (n : plain.Node). (rule n records).node) (sym learned.seen) ∙ d.node records (kept records k);
      out = λ records k. ap (λ (n : plain.Node). (rule n records).out) (sym learned.seen) ∙ d.out records (kept records k);
      keeps = λ records k. d.keeps records (kept records k);
      boot = d.boot ∙ ap (λ (n : plain.Node). n.boot) learned.seen;
      same = λ plan own p. d.same plan own (learned.same plan own p);
      works = d.works;
      appends = subst (λ (n : ℕ). AppendsRecords on before after n (end_in new) d.added) end_is d.appends;
      fits = d.fits;
    }

    pub stopped_learned : NodeStopped on rule mid before after → NodeStopped on (λ node disk. rule (with_stamps body node) disk) old before after
    stopped_learned d = record {
      front = d.front;
      pending = d.pending;
      cut = λ records k. record {
        missing = (d.cut records (kept records k)).missing;
        is = ap (λ (n : plain.Node). (rule n records).disk) (sym learned.seen) ∙ (d.cut records (kept records k)).is;
      };
      stops = subst (λ (n : ℕ). StopsAfter on before after n d.front d.pending) end_is d.stops;
      fit = λ records k. subst (All IsRecord) (ap (λ (n : plain.Node). (rule n records).disk) learned.seen) (d.fit records (kept records k));
    }

  -- States that are taken: the node's number of messages is that of the rule, and its letters are known beforehand.
  module _ (rule : Rule) (f : Store → Store) (updates : List Update) (sent : List Letter) (old : Node) (before : D) (after : D) where
    pub takes_did : (new : Node)
        → ((records : List Record) → rule (node_seen old) records
        ≡ record { node = with_updates old.store.own (node_seen old) updates (f (seen_with old.store records)); disk = (f (seen_with old.store records)).disk; out = sent })
        → Done on f old.store before new.store after
        → new.numbers ≡ record old.numbers { drawn = drawn_past old.store.own old.numbers.boot old.numbers.drawn updates }
        → new.shape ≡ old.shape → new.tickets ≡ old.tickets → IsWhole old → AllCanBeTaken sent → NodeDid on rule old before new after sent
    takes_did new is d numbers shape tickets whole fits =
        did_by rule f old before new after sent d
        (λ records k. ap (λ (r : Reaction). r.disk) (is records))
        (λ records k. ap (λ (r : Reaction). r.node) (is records) ∙ sym (node_is (f (seen_with old.store records)).log))
        (λ records k. ap (λ (r : Reaction). r.out) (is records))
        (record { boot = ap (λ (n : Numbers). n.boot) numbers; shape = shape; tickets = λ own boot confirm is. subst (IsOf own boot confirm) (sym tickets) is })
        whole fits
      where
        node_is : (log : Log) → record (node_seen new) { log = log }
            ≡ record (node_seen old) { drawn = drawn_past old.store.own old.numbers.boot old.numbers.drawn updates; log = log }
        node_is log =
            ap (λ (n : Numbers). record (node_seen new) { boot = n.boot; drawn = n.drawn; count = n.count; calls = n.calls; log = log }) numbers
            ∙ ap (λ (s : Shape). record (node_seen old) { drawn = drawn_past old.store.own old.numbers.boot old.numbers.drawn updates; installed = (node_shaped s).installed; log = log; tickets = (node_seen new).tickets }) shape
            ∙ ap (λ (t : Tickets). record (node_seen old) { drawn = drawn_past old.store.own old.numbers.boot old.numbers.drawn updates; log = log; tickets = tickets_in t }) tickets
          where
            node_shaped : Shape → plain.Node
            node_shaped s = record (node_seen old) { installed = s.installed }

    pub takes_stopped :
        ((records : List Record) → rule (node_seen old) records
        ≡ record { node = with_updates old.store.own (node_seen old) updates (f (seen_with old.store records)); disk = (f (seen_with old.store records)).disk; out = sent })
        → WorkIsCutShort on f old.store before after → ((records : List Record) → NodeKeeps records old → All IsRecord (f (seen_with old.store records)).disk) → NodeStopped on rule old before after
    takes_stopped is d fit = stopped_by rule f old before after d (λ records k. ap (λ (r : Reaction). r.disk) (is records)) fit
