-- A node that makes the first epoch itself, and enters it.
use Rattle.std.proofs.Common.{◌≡◌, ◌≢◌, ◌⊎◌, inl, inr, ⊎_elim, ◌<◌, ◌≤◌, ◌+◌, ◌-◌, ℕ, zero, suc, Bool, true, false, nat_eq, eq-eqb, List, [], ◌∷◌, ◌++◌, length, Option, Some, None, refl, sym, ap, ◌∙◌, subst, arith, true≢false, if◌then◌else◌}
use Rattle.std.proofs.lemmas.List.{length-append}
use Rattle.std.proofs.lemmas.Bool.Decides.{eqb_tells}
use Rattle.mail_model.specs.Identity.{Id, EpochId, no_epoch}
use Rattle.mail_model.specs.Plan.{Plan}
use Rattle.mail_model.specs.Record.{Record, payloads_of}
use Rattle.mail_model.specs.Record.Record.{Boot, Promise}
use Rattle.object_model.specs.Letters.{Member, MapRow, Membership, Row, Letter}
use Rattle.object_model.specs.Letters.Body.{Install}
use Rattle.cluster_model.specs.Cluster as plain
use Rattle.cluster_model.specs.Starts.{first_epoch, first_members, first_membership}
use Rattle.maps_model.specs.Cluster as maps
use Rattle.maps_model.specs.Cluster.{member_of, NamesNode, epoch_of}
use Rattle.maps_model.specs.Epochs.{IsBefore, IsAtMost}
use Rattle.maps_model.specs.Assign.{IsAssigned}
use Rattle.maps_model.specs.Rules as rules
use Rattle.maps_model.specs.Rules.HearsInstall.{Old, NotPromised, NotMember, Enters}
use Rattle.maps_model.specs.Rules.MarkAt.{TellsItself, Marks, Spares}
use Rattle.maps_model.specs.Rules.RowAt.{Tells, Keeps, Drops}
use Rattle.maps_model.proofs.OneMap.{one_map}
use Rattle.whole_world.specs.First.{first_maps}
use Rattle.user_map.specs.Plain.{assigned}
use Rattle.user_map.proofs.Assigned.{some_map}
use Rattle.disk_journal.specs.Journal.{TellsJournal, end_of}
use Rattle.io_edge.specs.Causes.{Rose}
use Rattle.node_store.specs.Disks.{View}
use Rattle.node_store.specs.declared.store.NodeStore.{NodeStore}
use Rattle.mailbox_fragment.specs.Here.{is_here_in}
use Rattle.mailbox_fragment.specs.declared.fragments.Fragments.{Fragments}
use Rattle.node_maps.specs.Nodes.{node_of, own_of, holds_in}
use Rattle.node_maps.specs.Hearing.{IsDue, HearsBody, left_by}
use Rattle.node_maps.specs.declared.answer.Answer.{Answer}
use Rattle.node_maps.specs.declared.maps.NodeMaps.{NodeMaps}
use Rattle.node_core.specs.Nodes.{node_seen, NodeKeeps, end_in, IsNodeOf}
use Rattle.node_core.specs.First.{IsFirst, unformed_node}
use Rattle.node_core.specs.Installing.{HasInstalled}
use Rattle.node_core.specs.Promising.{promising}
use Rattle.node_core.specs.Works.{NodeDid}
use Rattle.node_core.specs.declared.node.Node.{Node}
use Rattle.node_reads.specs.Tables.{reads_in}
use Rattle.whole_node.specs.Nodes.{HasMaps, AreReadsOf, HasNoReads, KeepsBeside}
use Rattle.whole_node.specs.Starting.{first_map, HasPromisedFirst, EntersMaps, EntersEpoch, HasFirstMaps, HasEnteredFirst, IsInFirstEpoch, IsFirstWhole}
use Rattle.whole_node.specs.declared.node.WholeNode.{WholeNode}
use Rattle.whole_node.proofs.Beside.{reads_of}
use Rattle.whole_node.proofs.Called.{knows_any}
use Rattle.whole_node.proofs.Holding.{holds_same}

-- the members of a plan, one after another
abbrev first : ℕ → Member
first n = record { node = n; boot = 1; was = no_epoch }

pub first_last : (nodes k : ℕ) → nodes ≡ suc k → first_members nodes ≡ first_members k ++ record { node = nodes; boot = 1; was = no_epoch } ∷ []
first_last nodes k e = subst (λ (n : ℕ). first_members n ≡ first_members k ++ first n ∷ []) (sym e) refl

pub first_some : (nodes : ℕ) → 1 ≤ nodes → 0 < length (first_members nodes)
first_some zero some = absurd (omega (arith, some))
first_some (suc k) some = omega (arith, length-append (first_members k) (first (suc k) ∷ []))

member_front : (xs ys : List Member) (n : ℕ) (m : Member) → member_of xs n ≡ Some m → member_of (xs ++ ys) n ≡ Some m
member_front [] ys n m e = absurd (cc e)
member_front (x ∷ xs) ys n m e = by (λ h. member_front xs ys n m h) (nat_eq x.node n) e
  where
    by : (member_of xs n ≡ Some m → member_of (xs ++ ys) n ≡ Some m) → (b : Bool) → (if b then Some x else member_of xs n) ≡ Some m → (if b then Some x else member_of (xs ++ ys) n) ≡ Some m
    by rest true e = e
    by rest false e = rest e

member_behind : (xs ys : List Member) (n : ℕ) → member_of xs n ≡ None → member_of (xs ++ ys) n ≡ member_of ys n
member_behind [] ys n e = refl
member_behind (x ∷ xs) ys n e = by (λ h. member_behind xs ys n h) (nat_eq x.node n) e
  where
    by : (member_of xs n ≡ None → member_of (xs ++ ys) n ≡ member_of ys n) → (b : Bool) → (if b then Some x else member_of xs n) ≡ None → (if b then Some x else member_of (xs ++ ys) n) ≡ member_of ys n
    by rest true e = absurd (cc e)
    by rest false e = rest e

no_member : (k n : ℕ) → k < n → member_of (first_members k) n ≡ None
no_member zero n less = refl
no_member (suc k) n less = member_behind (first_members k) (first (suc k) ∷ []) n (no_member k n (omega (arith, less))) ∙ by (nat_eq (suc k) n) (eqb_tells (suc k) n)
  where
    by : (b : Bool) → ((nat_eq (suc k) n ≡ true) × (suc k ≡ n)) ⊎ ((nat_eq (suc k) n ≡ false) × (suc k ≢ n)) → (if nat_eq (suc k) n then Some (first (suc k)) else None) ≡ None
    by b (inl same) = absurd (omega (arith, less, same.1))
    by b (inr other) = ap (λ (t : Bool). if t then Some (first (suc k)) else None) other.0

-- each node of the plan is one
has_member : (k n : ℕ) → 1 ≤ n → n ≤ k → member_of (first_members k) n ≡ Some (first n)
has_member zero n some within = absurd (omega (arith, some, within))
has_member (suc k) n some within = by (λ h. has_member k n some h) (eqb_tells (suc k) n)
  where
    by : (n ≤ k → member_of (first_members k) n ≡ Some (first n)) → ((nat_eq (suc k) n ≡ true) × (suc k ≡ n)) ⊎ ((nat_eq (suc k) n ≡ false) × (suc k ≢ n)) → member_of (first_members (suc k)) n ≡ Some (first n)
    by rest (inl same) = member_behind (first_members k) (first (suc k) ∷ []) n (no_member k n (omega (arith, same.1)))
        ∙ ap (λ (t : Bool). if t then Some (first (suc k)) else None) same.0 ∙ ap (λ (m : ℕ). Some (first m)) same.1
    by rest (inr other) = member_front (first_members k) (first (suc k) ∷ []) n (first n) (rest (omega (arith, within, other.1)))

pub names_own : (nodes own : ℕ) (map : List MapRow) → 1 ≤ own → own ≤ nodes → NamesNode (first_membership nodes map) own 1
names_own nodes own map some within = record { member = first own; is = has_member nodes own some within; same = refl }

-- the map that was assigned is that of the first epoch
pub first_map_is : (plan : Plan) (map : List MapRow) → 1 ≤ plan.nodes → IsAssigned [] (first_members plan.nodes) plan.buckets first_epoch map → map ≡ first_map plan
first_map_is plan map some a = one_map [] (first_members plan.nodes) plan.buckets first_epoch map (first_map plan) a
    (some_map [] (first_members plan.nodes) plan.buckets first_epoch (first_some plan.nodes some))

-- what was made of it is the first membership
pub membership_is : (plan : Plan) (nodes buckets : ℕ) (epoch : EpochId) (members slice : List Member) (map : List MapRow) (install : Membership) → nodes ≡ plan.nodes → buckets ≡ plan.buckets → 1 ≤ plan.nodes
    → members ≡ first_members nodes → slice ≡ members → epoch ≡ first_epoch → IsAssigned [] slice buckets epoch map → install ≡ record { epoch = epoch; members = members; map = map }
    → install ≡ first_membership plan.nodes (first_map plan)
membership_is plan nodes buckets epoch members slice map install n b some are same e a is =
    let members_are : members ≡ first_members plan.nodes = are ∙ ap first_members n in
    let assigned_so : IsAssigned [] (first_members plan.nodes) plan.buckets first_epoch map =
    subst (λ (m : List Member). IsAssigned [] m plan.buckets first_epoch map) (same ∙ members_are)
    (subst (λ (k : ℕ). IsAssigned [] slice k first_epoch map) b (subst (λ (x : EpochId). IsAssigned [] slice buckets x map) e a)) in
    is ∙ (λ i. record { epoch = e i; members = members_are i; map = first_map_is plan map some assigned_so i })

-- An Install of an epoch that is due is heard.
before_self : (a : EpochId) → IsBefore a a → ⊥
before_self a (inl less) = omega (arith, less)
before_self a (inr same) = omega (arith, same.1)

not_both : (a b : EpochId) → IsBefore a b → IsAtMost b a → ⊥
not_both a b less (inl more) = by less more
  where
    by : IsBefore a b → IsBefore b a → ⊥
    by (inl x) (inl y) = omega (arith, x, y)
    by (inl x) (inr y) = omega (arith, x, y.0)
    by (inr x) (inl y) = omega (arith, x.0, y)
    by (inr x) (inr y) = omega (arith, x.1, y.1)
not_both a b less (inr same) = before_self a (subst (IsBefore a) same less)

module _ (old new : NodeMaps) (letter : Letter) (answer : Answer) (g : Membership) (due : IsDue (node_of old) g) (named : NamesNode g (own_of old) (node_of old).boot)
    (heard : HearsBody old letter (Install g) answer new) where
  abbrev disk : maps.Disk
  disk = record { boot = 0; promise = no_epoch; holds = holds_in old }

  pub left : EntersMaps g old new
  left = by (heard.did disk (record { holds = λ user. refl }))
    where
      by : rules.HearsInstall (own_of old) (node_of old) disk g (left_by new None disk answer.letters) → EntersMaps g old new
      by (Old (inl below) e) = absurd (before_self g.epoch (subst (IsBefore g.epoch) (sym due.0) below))
      by (Old (inr most) e) = absurd (not_both (epoch_of (node_of old)) g.epoch due.1 most)
      by (NotPromised above e) = absurd (before_self g.epoch (subst (λ (p : EpochId). IsBefore p g.epoch) (sym due.0) above))
      by (NotMember none e) = absurd (none named)
      by (Enters promised before names marked rows entering e) = record { marked = marked; rows = rows; entering = entering; is = ap (λ (r : rules.Reaction). r.node) e }

  pub entered_maps : (node_of new).installed ≡ Some g
  entered_maps = ap (λ (n : maps.Node). n.installed) left.is

  pub enters : (before after : WholeNode) → HasInstalled (node_of new).installed before.mail after.mail → KeepsBeside before after → EntersEpoch g (record before { maps = old }) (record after { maps = new })
  enters before after h kept = record {
    rule = left;
    mail = subst (λ (m : Option Membership). HasInstalled m before.mail after.mail) entered_maps h;
    installed = entered_maps;
    promise = ap (λ (n : maps.Node). n.promise) left.is;
    group = ap (λ (n : maps.Node). n.group) left.is;
    own = heard.own;
    boot = ap (λ (n : maps.Node). n.boot) left.is;
    held = heard.held;
    beside = record { reads = kept.reads; locks = kept.locks };
  }

-- A node that holds no message of a user and has nothing due marks nobody as it enters an epoch; and where it comes from no epoch it has no row.
no_mark : (own : ℕ) (node : maps.Node) (held : maps.Disk) (g : Membership) (user : List ℕ) (marked : Bool) → node.marked user ≡ false → held.holds user ≡ false
    → rules.MarkAt own node held g user marked → marked ≡ false
no_mark own node held g user marked unmarked none (TellsItself manager is) = is
no_mark own node held g user marked unmarked none (Marks other due is) = absurd (⊎_elim (λ yet. true≢false (sym yet ∙ unmarked)) (λ full. true≢false (sym full.0 ∙ none)) due)
no_mark own node held g user marked unmarked none (Spares other yet spared is) = is

no_row : (own : ℕ) (node : maps.Node) (held : maps.Disk) (g : Membership) (m boot : ℕ) (user : List ℕ) (row : Option Row) → node.installed ≡ None → node.marked user ≡ false → held.holds user ≡ false
    → rules.RowAt own node held g m boot user row → row ≡ None
no_row own node held g m boot user row without unmarked none (Tells same its manages due is) = absurd (⊎_elim (λ yet. true≢false (sym yet ∙ unmarked)) (λ full. true≢false (sym full.0 ∙ none)) due)
no_row own node held g m boot user row without unmarked none (Keeps kept other is) = absurd (let never : None ≡ Some kept.old = sym without ∙ kept.installed in cc)
no_row own node held g m boot user row without unmarked none (Drops kept other is) = is

-- A node whose maps have promised the first epoch enters it.
abbrev started_first : maps.Node
started_first = rules.started (record { boot = 0; promise = first_epoch; holds = λ user. false })

module _ (plan : Plan) (start : WholeNode) (p : HasPromisedFirst plan start.mail) (has : HasMaps start)
    (starts : (image : maps.Disk) → image.boot + 1 ≡ (node_seen start.mail).boot → image.promise ≡ first_epoch → node_of start.maps ≡ rules.started image) where
  abbrev mail : Node
  mail = start.mail

  abbrev its : NodeMaps
  its = start.maps

  its_are : node_of its ≡ started_first
  its_are = starts (record { boot = 0; promise = first_epoch; holds = λ user. false }) (sym p.boot) refl

  abbrev membership : Membership
  membership = first_membership plan.nodes (first_map plan)

  pub first_due : (g : Membership) → g ≡ membership → IsDue (node_of its) g
  first_due g is = subst (λ (m : Membership). IsDue (node_of its) m) (sym is) (subst (λ (n : maps.Node). IsDue n membership) (sym its_are) (refl, inl (omega arith)))

  pub first_names : (g : Membership) → g ≡ membership → NamesNode g (own_of its) (node_of its).boot
  first_names g is =
      let s = p.whole.shape in
      subst (λ (m : Membership). NamesNode m (own_of its) (node_of its).boot) (sym is)
      (subst (λ (b : ℕ). NamesNode membership (own_of its) b) (sym (has.boot ∙ p.boot))
      (names_own plan.nodes (own_of its) (first_map plan) (omega (arith, has.own, s.some)) (omega (arith, has.own, s.within, p.nodes))))

  -- no message is here
  none_here : (user : List ℕ) → holds_in its user ≡ false
  none_here user = holds_same (Boot 1 ∷ Promise first_epoch ∷ []) its (knows_any start has (Boot 1 ∷ Promise first_epoch ∷ []) p.keeps) user

  first_maps_are : (now : NodeMaps) → EntersMaps membership its now → node_of now ≡ first_maps plan.nodes (first_map plan)
  first_maps_are now e =
      let unmarked : (user : List ℕ) → (node_of its).marked user ≡ false = λ user. ap (λ (n : maps.Node). n.marked user) its_are in
      let without : (node_of its).installed ≡ None = ap (λ (n : maps.Node). n.installed) its_are in
      let marks : e.marked ≡ (λ user. false) = λ i user. no_mark (own_of its) (node_of its) _ membership user (e.marked user) (unmarked user) (none_here user) (e.entering.marks user) i in
      let rows : e.rows ≡ (λ m boot user. None) =
      λ i m boot user. no_row (own_of its) (node_of its) _ membership m boot user (e.rows m boot user) without (unmarked user) (none_here user) (e.entering.keeps m boot user) i in
      e.is ∙ ap (λ (n : maps.Node). rules.entered n membership e.marked e.rows) its_are ∙ (λ i. rules.entered started_first membership (marks i) (rows i))

  pub first_entered : (g : Membership) (node : WholeNode) → g ≡ membership → EntersEpoch g start node → AreReadsOf mail start.reads → HasNoReads start → HasEnteredFirst plan mail node
  first_entered g node is e of none = record {
    mail = subst (λ (m : Membership). HasInstalled (Some m) mail node.mail) is e.mail;
    maps = record {
      promise = e.promise ∙ ap (λ (n : maps.Node). n.promise) its_are;
      none_open = e.group ∙ ap (λ (n : maps.Node). n.group) its_are;
      has_maps = record {
        own = e.own ∙ has.own ∙ ap (λ (s : NodeStore). s.own) (sym e.mail.store);
        boot = e.boot ∙ has.boot ∙ ap (λ (n : plain.Node). n.boot) (sym e.mail.seen);
        epoch = ap (λ (n : plain.Node). n.installed) e.mail.seen ∙ sym e.installed;
        records = has.records;
        keeps = e.mail.keeps has.records has.keeps;
        knows = λ user id. ap (λ (f : Fragments). is_here_in f user id) e.held ∙ has.knows user id;
      };
      reads = reads_of start node (record { own = ap (λ (s : NodeStore). s.own) e.mail.store; boot = ap (λ (n : plain.Node). n.boot) e.mail.seen }) of e.beside.reads;
      blank = record { none = ap reads_in e.beside.reads ∙ none.none; free = e.beside.locks ∙ none.free };
    };
    maps_are = first_maps_are node.maps (subst (λ (m : Membership). EntersMaps m its node.maps) is e.rule);
  }

-- What has happened over its disk: the first boot, and then the promise.
module _ {D : Type 0} (on : View D) (plan : Plan) (own : ℕ) (before mid after : D) (born mail : Node) (first_is : IsFirst on plan own before mid born) (d : NodeDid on (promising first_epoch) born mid mail after []) where
  records : List Record
  records = Boot 1 ∷ []

  added : Promise first_epoch ∷ [] ≡ d.added
  added = tails (d.disk (Boot 1 ∷ []) first_is.keeps)
    where
      tails : (Boot 1 ∷ Promise first_epoch ∷ []) ≡ (Boot 1 ∷ d.added) → Promise first_epoch ∷ [] ≡ d.added
      tails e = cc

  seen_same : node_seen mail ≡ unformed_node
  seen_same = sym (d.node (Boot 1 ∷ []) first_is.keeps) ∙ first_is.seen_is

  both : (Boot 1 ∷ []) ++ d.added ≡ Boot 1 ∷ Promise first_epoch ∷ []
  both = ap (λ (l : List Record). Boot 1 ∷ l) (sym added)

  keeps_both : NodeKeeps (Boot 1 ∷ Promise first_epoch ∷ []) mail
  keeps_both = subst (λ (l : List Record). NodeKeeps l mail) both (d.keeps (Boot 1 ∷ []) first_is.keeps)

  of_it : IsNodeOf plan own mail
  of_it = d.same plan own first_is.of_plan

  pub promised_first : HasPromisedFirst plan mail
  promised_first = record {
    whole = d.works.whole;
    nodes = of_it.nodes;
    boot = ap (λ (n : plain.Node). n.boot) seen_same;
    without = ap (λ (n : plain.Node). n.installed) seen_same;
    keeps = keeps_both;
  }

  abbrev with_installed : Option Membership → plain.Node → plain.Node
  with_installed installed node = record node { installed = installed }

  pub is_first_whole : (node : WholeNode) → HasEnteredFirst plan mail node → IsFirstWhole on plan own before after node
  is_first_whole node e = record {
    mail = record {
      seen_is = e.mail.seen ∙ ap (with_installed (Some (first_membership plan.nodes (first_map plan)))) seen_same;
      of_plan = e.mail.same plan own of_it;
      works = e.mail.works (on.seen after) d.works;
      keeps = e.mail.keeps (Boot 1 ∷ Promise first_epoch ∷ []) keeps_both;
      tells = subst (λ (n : ℕ). TellsJournal (on.seen after) own (payloads_of (Boot 1 ∷ Promise first_epoch ∷ [])) n) (sym e.mail.end_is)
          (subst (λ (l : List Record). TellsJournal (on.seen after) own (payloads_of l) (end_in mail)) both (d.appends.stand own (Boot 1 ∷ []) first_is.tells));
      quiet = d.appends.quiet ∙ first_is.quiet;
    };
    maps = e.maps;
    maps_are = e.maps_are;
  }
