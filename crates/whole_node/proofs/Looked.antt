-- A letter of membership or maps that a node looked at, and what is left of both its halves.
use Rattle.std.proofs.Common.{◌≡◌, ◌<◌, ℕ, Bool, true, false, cond, List, [], ◌∷◌, ◌++◌, Option, Some, None, refl, sym, ap, ◌∙◌, subst, append-nil, true≢false, arith}
use Rattle.std.specs.Prelude.{All, ⊤, option_map, Result, Ok, Err}
use Rattle.mail_model.specs.Identity.{Id, EpochId}
use Rattle.mail_model.specs.Identity.Key.{Message}
use Rattle.mail_model.specs.Grammar.{IsNodeNumber}
use Rattle.mail_model.specs.Record.{Record}
use Rattle.mail_model.specs.Record.Record.{Promise}
use Rattle.object_model.specs.Letters.{Membership, Body, Letter}
use Rattle.object_model.specs.Letters.Body.{Group, Join, Install, Report, ReportAck}
use Rattle.object_model.specs.Said.{said}
use Rattle.object_model.proofs.SaidLaws.{held_both}
use Rattle.cluster_model.specs.Cluster as plain
use Rattle.cluster_model.specs.Thrown as thrown
use Rattle.cluster_model.specs.Thrown.{is_stale, with_stamps}
use Rattle.cluster_model.specs.Reads.{is_here_held}
use Rattle.maps_model.specs.Cluster as maps
use Rattle.maps_model.specs.Rules as rules
use Rattle.disk_journal.specs.Journal.{end_of}
use Rattle.node_store.specs.Appends.{AppendsRecords}
use Rattle.node_store.specs.Keeps.{KeepsRecords, CanGoOn}
use Rattle.node_store.specs.declared.store.NodeStore.{NodeStore}
use Rattle.whole_model.specs.Whole as whole
use Rattle.whole_model.specs.Whole.{maps_disk_of}
use Rattle.whole_model.specs.Rules.{IsMapsBody, promise_records}
use Rattle.whole_world.specs.World.{Reaction}
use Rattle.whole_world.specs.Thrown.{is_before, refused_by}
use Rattle.whole_world.specs.Makes.{promise_by}
use Rattle.node_store.specs.Disks.{View}
use Rattle.mailbox_fragment.specs.declared.fragments.Fragments.{Fragments}
use Rattle.mailbox_fragment.specs.Here.{is_here_in}
use Rattle.node_maps.specs.Nodes.{node_of, own_of, IsDisk, KeepsNode}
use Rattle.node_maps.specs.Hearing.{promise_due, left_by, HearsBody, StopsHearing, Throws}
use Rattle.node_maps.specs.declared.answer.Answer.{Answer}
use Rattle.node_maps.specs.declared.maps.NodeMaps.{NodeMaps}
use Rattle.node_core.specs.Nodes.{node_seen, NodeKeeps, end_in, IsAsBefore, IsSameNode, CanWork, IsWhole}
use Rattle.node_core.specs.Works.{Rule, NodeDid, NodeStopped, NodeFailed}
use Rattle.node_core.specs.Hearing.{why_seen}
use Rattle.node_core.specs.Spelling.{AllCanBeTaken}
use Rattle.node_core.specs.declared.fault.NodeFault.{NodeFault}
use Rattle.node_core.specs.declared.fault.NodeFault.TheVariants.{Disk, Worn, NoMemory}
use Rattle.node_core.specs.declared.node.Node.{Node}
use Rattle.node_core.specs.declared.outbox.Why.{Why}
use Rattle.node_core.specs.declared.outbox.Why.TheVariants as why
use Rattle.node_core.specs.declared.outbox.Outbox.{Outbox}
use Rattle.node_core.proofs.Doing.{did_none}
use Rattle.node_core.proofs.Sending.{none_fit}
use Rattle.whole_node.specs.Nodes.{KnowsHere, HasMaps, WholeWorks}
use Rattle.whole_node.specs.Forming.{forms_by, FormsOn}
use Rattle.whole_node.specs.Hearing.{NamesANode, FitsMaps, why_refused, is_install, installs, HasTakenIn, appends_promise, PromiseStands, MakesPromise, TookLetter, TakesLetter, LeftByRule, LookedAt, ThrownStale, LookedAtOrStale, KeepsMaps, HearsOfMaps}
use Rattle.whole_node.specs.declared.node.WholeNode.{WholeNode}
use Rattle.whole_node.proofs.Holding.{holds_same}
use Rattle.whole_node.proofs.Beside.{reads_of}
use Rattle.whole_node.proofs.Called.{same_own, done_stops, knows_any}
use Rattle.whole_node.proofs.Refused.{refused_same, never_stale}
use Rattle.whole_node.proofs.Said.{AreSaid, none_says, hears_boot, hears_epoch, are_said}
use Rattle.whole_node.proofs.Epochs.{installs_boot, left_seen}
use Rattle.whole_node.proofs.Forming.{stopped_forming}
use Rattle.whole_world.proofs.Seeing.{hear_sends}

-- a letter makes the promise due to which it brings a node
pub due_is : (node : maps.Node) (body : Body) → promise_due node body ≡ promise_by node body
due_is node (Group epoch) = refl
due_is node body = refl

some_is : (a b : EpochId) → Some a ≡ Some b → a ≡ b
some_is a b e = cc

-- and it names a node that there can be
pub due_named : (node : maps.Node) (body : Body) (epoch : EpochId) → promise_due node body ≡ Some epoch → NamesANode body → IsNodeNumber epoch.node
due_named node (Group e) epoch is fits = by (is_before node.promise e) is
  where
    by : (b : Bool) → cond b (Some e) None ≡ Some epoch → IsNodeNumber epoch.node
    by true is = subst (λ (x : EpochId). IsNodeNumber x.node) (some_is e epoch is) fits
    by false is = absurd (cc is)
due_named node body epoch is fits = absurd (cc is)

module _ {D : Type 0} (on : View D) (body : Body) (old : WholeNode) (before : D) where
  abbrev due : Option EpochId
  due = promise_by (node_of old.maps) body

  pub promise_stands : (epoch : EpochId) (new : WholeNode) (after : D) → promise_due (node_of old.maps) body ≡ Some epoch → NodeDid on (appends_promise (Some epoch) []) old.mail before new.mail after []
      → PromiseStands on due true old before new after
  promise_stands epoch new after is d = subst (λ (p : Option EpochId). PromiseStands on p true old before new after) (sym is ∙ due_is (node_of old.maps) body)
      (record { did = d; none = λ e. absurd (true≢false e) })

  pub promise_fails : (epoch : EpochId) (new : WholeNode) (after : D) (fault : NodeFault) → promise_due (node_of old.maps) body ≡ Some epoch
      → NodeFailed on (appends_promise (Some epoch) []) ⊤ fault old.mail before new.mail after → NodeFailed on (appends_promise due []) ⊤ fault old.mail before new.mail after
  promise_fails epoch new after fault is f = subst (λ (p : Option EpochId). NodeFailed on (appends_promise p []) ⊤ fault old.mail before new.mail after) (sym is ∙ due_is (node_of old.maps) body) f

  pub no_promise : CanWork (on.seen before) old.mail → promise_due (node_of old.maps) body ≡ None → PromiseStands on due false old before old before
  no_promise works is = subst (λ (p : Option EpochId). PromiseStands on p false old before old before) (sym is ∙ due_is (node_of old.maps) body)
      (record {
        did = did_none on (appends_promise None []) old.mail before old.mail [] works refl (λ records. append-nil records) (λ records. refl) (λ records. refl)
            (record { boot = refl; shape = refl; tickets = λ own boot confirm i. i }) none_fit;
        none = λ e. (refl, refl);
      })

-- nothing was changed
pub as_it_was : (node : Node) → IsAsBefore node node
as_it_was node = record { seen = refl; same = λ plan own p. p; keeps = λ records k. k; works = λ seen w. w; end_is = refl }

pub as_before_of : (old new : Node) → new ≡ old → IsAsBefore old new
as_before_of old new e = subst (IsAsBefore old) (sym e) (as_it_was old)

-- a promise says nothing of copies
pub said_promised : (promise : Option EpochId) (user : List ℕ) (id : Id) (records : List Record) → said (Message user id) (records ++ promise_records promise) ≡ said (Message user id) records
said_promised None user id records = ap (said (Message user id)) (append-nil records)
said_promised (Some epoch) user id records = held_both (Message user id) None records (Promise epoch ∷ [])

pub knows_promised : (promise : Option EpochId) (records : List Record) (old new : NodeMaps) → new.fragments ≡ old.fragments → KnowsHere records old → KnowsHere (records ++ promise_records promise) new
knows_promised promise records old new held knows user id =
    ap (λ (f : Fragments). is_here_in f user id) held ∙ knows user id ∙ ap is_here_held (sym (said_promised promise user id records))

-- it was taken in, and then only locks were let go
pub took_kept : (letter : Letter) (outbox : Outbox) (old mid new : WholeNode) → new.mail ≡ mid.mail → new.maps ≡ mid.maps → TookLetter letter outbox old mid → TookLetter letter outbox old new
took_kept letter outbox old mid new mail maps took = record {
  answer = took.answer;
  heard = subst (HearsBody old.maps letter letter.body took.answer) (sym maps) took.heard;
  letters = took.letters;
  thrown = took.thrown;
  taken = subst (λ (m : NodeMaps). HasTakenIn letter.body m.group.installed old.mail new.mail) (sym maps)
      (subst (λ (m : Node). HasTakenIn letter.body mid.maps.group.installed old.mail m) (sym mail) took.taken);
}

-- what a disk tells is what the maps know
pub is_disk : (records : List Record) (maps : NodeMaps) → KnowsHere records maps → IsDisk maps (maps_disk_of records)
is_disk records maps knows = record { holds = λ user. sym (holds_same records maps knows user) }

-- a rule of membership and maps leaves a node with its maps
pub has_ruled : {D : Type 0} (on : View D) (rule : Rule) (promise : Option EpochId) (old : WholeNode) (before : D) (new : WholeNode) (after : D) (sent : List Letter) → HasMaps old
    → ((records : List Record) → (rule (node_seen old.mail) records).disk ≡ records ++ promise_records promise)
    → NodeDid on rule old.mail before new.mail after sent → own_of new.maps ≡ own_of old.maps → (node_of new.maps).boot ≡ (node_of old.maps).boot
    → (node_seen new.mail).installed ≡ new.maps.group.installed → new.maps.fragments ≡ old.maps.fragments → HasMaps new
has_ruled on rule promise old before new after sent has disk d own boot epoch held = record {
  own = own ∙ has.own ∙ sym (same_own old.mail new.mail d.same);
  boot = boot ∙ has.boot ∙ sym d.boot;
  epoch = epoch;
  records = has.records ++ d.added;
  keeps = d.keeps has.records has.keeps;
  knows = subst (λ (r : List Record). KnowsHere r new.maps) (sym (disk has.records) ∙ d.disk has.records has.keeps) (knows_promised promise has.records old.maps new.maps held has.knows);
}

-- a promise and then the stamps of a letter
did_learned : {D : Type 0} (on : View D) (body : Body) (promise : Option EpochId) (installed : Option Membership) (old mid new : Node) (before after : D) (sent : List Letter)
    → (is_install body ≡ false → (node_seen old).installed ≡ installed)
    → NodeDid on (appends_promise promise []) old before mid after [] → HasTakenIn body installed mid new → AllCanBeTaken sent → NodeDid on (forms_by (with_stamps body) installed promise sent) old before new after sent
did_learned on body promise installed old mid new before after sent stays d l fits = record {
  added = d.added;
  disk = λ records k. d.disk records k;
  node = λ records k. sym (left_seen body installed (node_seen old) stays) ∙ ap (λ (n : plain.Node). with_stamps body (installs body installed n)) (d.node records k) ∙ sym l.seen;
  out = λ records k. refl;
  keeps = λ records k. subst (KeepsRecords (records ++ d.added)) (sym l.store) (d.keeps records k);
  boot = ap (λ (n : plain.Node). n.boot) l.seen ∙ installs_boot body installed (node_seen mid) ∙ d.boot;
  same = λ plan own p. l.same plan own (d.same plan own p);
  works = record { store = subst (CanGoOn (on.seen after)) (sym l.store) d.works.store; whole = l.whole d.works.whole };
  appends = subst (λ (n : ℕ). AppendsRecords on before after (end_in old) n d.added) (sym (ap (λ (s : NodeStore). end_of s.journal) l.store)) d.appends;
  fits = fits;
}

module _ {D : Type 0} (on : View D) (letter : Letter) (old : WholeNode) (before : D) (works : WholeWorks (on.seen before) old) (of : IsMapsBody letter.body) where
  abbrev promise : Option EpochId
  promise = promise_by (node_of old.maps) letter.body

  abbrev IsFresh : Type 0
  IsFresh = is_stale letter (node_seen old.mail).installed ≡ false

  -- thrown at once
  pub stale_heard : is_stale letter (node_seen old.mail).installed ≡ true → (outbox : Outbox) → outbox.letters ≡ [] → outbox.thrown ≡ Some why.Stale → LookedAtOrStale on letter old before old before outbox.thrown outbox.letters
  stale_heard e outbox none thrown = subst (λ (t : Option Why). LookedAtOrStale on letter old before old before t outbox.letters) (sym thrown)
      (record { stale = e; none = none; as_before = as_it_was old.mail; maps = refl; untouched = refl })

  pub stale_fits : (outbox : Outbox) → outbox.letters ≡ [] → All FitsMaps outbox.letters
  stale_fits outbox none = subst (All FitsMaps) (sym none) none_says

  -- its promise could not be made
  pub failed_heard : (mid : WholeNode) (amid : D) (fault : NodeFault) → IsFresh → mid.maps ≡ old.maps → NodeFailed on (appends_promise promise []) ⊤ fault old.mail before mid.mail amid
      → HearsOfMaps on letter old before mid amid (Err fault)
  failed_heard mid amid Disk fresh maps f = ((fresh, stopped_forming on (with_stamps letter.body) promise old.mail before amid f.1, f.2), tt)
  failed_heard mid amid Worn fresh maps f = absurd f
  failed_heard mid amid (NoMemory true) fresh maps f = ((fresh, stopped_forming on (with_stamps letter.body) promise old.mail before amid f.1, f.2), tt)
  failed_heard mid amid (NoMemory false) fresh maps f = (f, keeps_same)
    where
      keeps_same : KeepsNode old.maps mid.maps
      keeps_same = subst (KeepsNode old.maps) (sym maps) (record { own = refl; node = refl; held = refl })

  module _ (mid : WholeNode) (amid : D) (new : WholeNode) (appended : Bool) (stands : PromiseStands on promise appended old before mid amid) (same : mid.maps ≡ old.maps) where
    -- memory ran out once the promise stood
    pub short_heard : (down : Bool) → IsFresh → (down ≡ false → appended ≡ false) → (down ≡ false → is_install letter.body ≡ false) → StopsHearing letter.body mid.maps new.maps → new.mail ≡ mid.mail
        → HearsOfMaps on letter old before new amid (Err (NoMemory down))
    short_heard true fresh none calm stops mail =
        let s = done_stops on (appends_promise promise []) old.mail before mid.mail amid [] stands.did in
        ((fresh, stopped_forming on (with_stamps letter.body) promise old.mail before amid s.0, s.1), tt)
    short_heard false fresh none calm stops mail =
        let unchanged = stands.none (none refl) in
        ((as_before_of old.mail new.mail (mail ∙ unchanged.0), unchanged.1), subst (λ (m : NodeMaps). KeepsNode m new.maps) same (kept letter.body (calm refl) stops))
      where
        kept : (body : Body) → is_install body ≡ false → StopsHearing body mid.maps new.maps → KeepsNode mid.maps new.maps
        kept (Install membership) e s = absurd (true≢false e)
        kept body e s = s

    -- it was heard
    module _ (outbox : Outbox) (took : TookLetter letter outbox mid new) where
      heard : HearsBody old.maps letter letter.body took.answer new.maps
      heard = subst (λ (m : NodeMaps). HearsBody m letter letter.body took.answer new.maps) same took.heard

      own_is : own_of old.maps ≡ old.mail.store.own
      own_is = works.maps.own

      hears : (records : List Record) → NodeKeeps records old.mail → rules.Hears old.mail.store.own (node_of old.maps) (maps_disk_of records) letter letter.body (left_by new.maps promise (maps_disk_of records) outbox.letters)
      hears records keeps =
          subst (λ (l : List Letter). rules.Hears old.mail.store.own (node_of old.maps) (maps_disk_of records) letter letter.body (left_by new.maps promise (maps_disk_of records) l)) (sym took.letters)
          (subst (λ (n : ℕ). rules.Hears n (node_of old.maps) (maps_disk_of records) letter letter.body (left_by new.maps promise (maps_disk_of records) took.answer.letters)) own_is
          (subst (λ (p : Option EpochId). rules.Hears (own_of old.maps) (node_of old.maps) (maps_disk_of records) letter letter.body (left_by new.maps p (maps_disk_of records) took.answer.letters)) (due_is (node_of old.maps) letter.body)
          (heard.did (maps_disk_of records) (is_disk records old.maps (knows_any old works.maps records keeps)))))

      said_so : AreSaid outbox.letters
      said_so = are_said old.mail.store.own (node_of old.maps) (maps_disk_of works.maps.records) letter (left_by new.maps promise (maps_disk_of works.maps.records) outbox.letters) letter.body of (hears works.maps.records works.maps.keeps)

      same_epoch : is_install letter.body ≡ false → (node_of new.maps).installed ≡ (node_of old.maps).installed
      same_epoch none = hears_epoch old.mail.store.own (node_of old.maps) (maps_disk_of works.maps.records) letter (left_by new.maps promise (maps_disk_of works.maps.records) outbox.letters) letter.body of none
          (hears works.maps.records works.maps.keeps)

      mail_did : NodeDid on (forms_by (with_stamps letter.body) (node_of new.maps).installed promise outbox.letters) old.mail before new.mail amid outbox.letters
      mail_did = did_learned on letter.body promise (node_of new.maps).installed old.mail mid.mail new.mail before amid outbox.letters (λ none. works.maps.epoch ∙ sym (same_epoch none)) stands.did took.taken said_so.taken

      mail_seen : node_seen new.mail ≡ record (with_stamps letter.body (node_seen old.mail)) { installed = (node_of new.maps).installed }
      mail_seen = sym (mail_did.node works.maps.records works.maps.keeps)

      mail_forms : FormsOn on (with_stamps letter.body) (node_of new.maps).installed promise old.mail before new.mail amid outbox.letters
      mail_forms = record {
        did = mail_did;
        sends = λ one m. hear_sends old.mail.store.own (node_of old.maps) (maps_disk_of works.maps.records) letter (left_by new.maps promise (maps_disk_of works.maps.records) outbox.letters) one letter.body of
            (hears works.maps.records works.maps.keeps) m;
      }

      fresh_maps : IsFresh → is_stale letter (node_of old.maps).installed ≡ false
      fresh_maps fresh = subst (λ (i : Option Membership). is_stale letter i ≡ false) works.maps.epoch fresh

      looked : IsFresh → LookedAt on letter old before new amid outbox.thrown outbox.letters
      looked fresh = record {
        within = fresh;
        refused = took.thrown ∙ refused_same old.mail.store.own (node_of old.maps) letter letter.body refl of (fresh_maps fresh) took.answer.thrown
            (subst (λ (n : ℕ). Throws n (node_of old.maps) letter letter.body took.answer.thrown) own_is heard.thrown);
        rule = λ records keeps. record {
          did = left_by new.maps promise (maps_disk_of records) outbox.letters;
          hears = hears records keeps;
          left = λ i. record {
            node = record { mail = mail_seen i; maps = node_of new.maps };
            disk = records ++ promise_records promise;
            out = outbox.letters;
          };
        };
        mail = mail_forms;
        fits = said_so.fits;
      }

      pub heard_so : IsFresh → LookedAtOrStale on letter old before new amid outbox.thrown outbox.letters
      heard_so fresh = by outbox.thrown (looked fresh)
        where
          by : (t : Option Why) → LookedAt on letter old before new amid t outbox.letters → LookedAtOrStale on letter old before new amid t outbox.letters
          by (Some why.Stale) l = absurd (never_stale old.mail.store.own (node_of old.maps) letter.body (sym l.refused))
          by (Some why.Down) l = l
          by (Some why.Old) l = l
          by (Some why.NotPromised) l = l
          by (Some why.NotMember) l = l
          by (Some why.Late) l = l
          by None l = l

      pub heard_fits : All FitsMaps outbox.letters
      heard_fits = said_so.fits

      pub heard_has : HasMaps new
      heard_has = has_ruled on (forms_by (with_stamps letter.body) (node_of new.maps).installed promise outbox.letters) promise old before new amid outbox.letters works.maps (λ records. refl) mail_did heard.own
          (hears_boot old.mail.store.own (node_of old.maps) (maps_disk_of works.maps.records) letter (left_by new.maps promise (maps_disk_of works.maps.records) outbox.letters) letter.body of
          (hears works.maps.records works.maps.keeps))
          (ap (λ (n : plain.Node). n.installed) mail_seen)
          heard.held

      pub heard_works : new.reads ≡ old.reads → WholeWorks (on.seen amid) new
      heard_works reads = record {
        mail = mail_did.works;
        maps = heard_has;
        reads = reads_of old new (record { own = same_own old.mail new.mail mail_did.same; boot = mail_did.boot }) works.reads reads;
      }
