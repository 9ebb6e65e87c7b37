-- A whole node that starts over its disk.
use Rattle.std.proofs.Common.{◌≡◌, ◌+◌, inl, inr, ⊎_elim, ℕ, List, [], ◌∷◌, ◌++◌, Bool, true, false, ◌||◌, Option, Some, None, IfSome, refl, sym, ap, subst, ◌∙◌, true≢false}
use Rattle.std.specs.Prelude.{All, is_some, Err}
use Rattle.std.specs.Ordering.{nat_cmp, eq_by_cmp}
use Rattle.std.specs.Cmp.Lexicographic.{slice_cmp}
use Rattle.io_edge.specs.Moments.{IsOnly}
use Rattle.mail_model.specs.Identity.{Id, EpochId, State}
use Rattle.mail_model.specs.Identity.Key.{Message}
use Rattle.mail_model.specs.Plan.{Plan}
use Rattle.mail_model.specs.Record.{Record, IsJournal, payloads_of}
use Rattle.mail_model.specs.Record.Record.{Boot}
use Rattle.mail_model.specs.Grammar.{IsRecord}
use Rattle.object_model.specs.Lists.{Among}
use Rattle.object_model.specs.Said.{said}
use Rattle.cluster_model.specs.Cluster as plain
use Rattle.cluster_model.specs.Claims.{boot_of}
use Rattle.cluster_model.specs.Reads.{is_here_held}
use Rattle.maps_model.specs.Cluster as maps
use Rattle.maps_model.specs.Rules as maps_rules
use Rattle.whole_model.specs.Whole.{promise_of, maps_disk_of}
use Rattle.whole_model.proofs.Following.{promise_both}
use Rattle.map_rebuild.specs.Users.{has_user}
use Rattle.disk_journal.specs.Journal.{TellsJournal}
use Rattle.node_store.specs.Disks.{View}
use Rattle.node_store.specs.Mailboxes.{AreUsersSaid}
use Rattle.node_core.specs.Nodes.{node_seen, NodeKeeps, end_in}
use Rattle.node_core.specs.Starting.{MayHold, WhereItHolds, StartKeeps, StartedOver, StoppedOver, NodeStarted, NodeStarts, PromisedOver, NodeStartedWith}
use Rattle.node_core.specs.declared.fault.NodeFault.TheVariants.{NoMemory}
use Rattle.node_core.specs.declared.node.Node.{Node}
use Rattle.node_maps.specs.Nodes.{node_of}
use Rattle.node_maps.specs.declared.maps.NodeMaps.{NodeMaps}
use Rattle.whole_node.specs.Nodes.{AreReadsOf, HasMaps, HasNoReads, KeepsNamed}
use Rattle.whole_node.specs.Restarting.{WholeStartedOver, WholeNodeStarted}
use Rattle.whole_node.specs.declared.node.WholeNode.{WholeNode}
use Rattle.whole_node.proofs.Holding.{own_user}

-- who is among the names is found there
among_found : (user : List ℕ) (users : List (List ℕ)) → Among user users → has_user users user ≡ true
among_found user [] m = absurd m
among_found user (other ∷ users) m = ⊎_elim
    (λ same. ap (λ (b : Bool). b || has_user users user) (subst (λ (u : List ℕ). eq_by_cmp (slice_cmp nat_cmp) user u ≡ true) (sym same) (own_user user)))
    (λ behind. ap (λ (b : Bool). eq_by_cmp (slice_cmp nat_cmp) user other || b) (among_found user users behind) ∙ or_true (eq_by_cmp (slice_cmp nat_cmp) user other))
    m
  where
    or_true : (b : Bool) → (b || true) ≡ true
    or_true true = refl
    or_true false = refl

-- what is here is said
stated : (held : Option State) → is_here_held held ≡ true → (state : State) × (held ≡ Some state)
stated None here = absurd (true≢false (sym here))
stated (Some state) here = (state, refl)

-- all users of whom the disk says something are named
pub all_named : (mail : Node) (names users : List (List ℕ)) → (records : List Record) × NodeKeeps records mail → ((records : List Record) → NodeKeeps records mail → AreUsersSaid records names) → users ≡ names
    → KeepsNamed users mail
all_named mail names users some are is = record {
  records = some.0;
  keeps = some.1;
  named = λ user id here.
      let of = stated (said (Message user id) some.0) here in
      subst (λ (us : List (List ℕ)). has_user us user ≡ true) (sym is) (among_found user names ((are some.0 some.1).all (Message user id) of.0 of.1));
}

module _ {D : Type 0} (on : View D) (plan : Plan) (own : ℕ) (before after : D) where
  -- what holds of the records that the disk may hold
  where_it_holds : (P Q : List Record → List Record → Type 0) → ((records pending : List Record) → P records pending → Q records pending) → WhereItHolds on before own P → WhereItHolds on before own Q
  where_it_holds P Q f holds = by (on.seen before) holds
    where
      by : (o : Option (List ℕ)) → IfSome o (λ _. (records pending : List Record) → MayHold on before own records pending → P records pending)
          → IfSome o (λ _. (records pending : List Record) → MayHold on before own records pending → Q records pending)
      by None holds = tt
      by (Some held) holds = λ records pending may. f records pending (holds records pending may)

  module _ (node : WholeNode) (promise : EpochId) (starts : (image : maps.Disk) → image.boot + 1 ≡ (node_seen node.mail).boot → image.promise ≡ promise → node_of node.maps ≡ maps_rules.started image) where
    whole_over : (records pending : List Record) → PromisedOver on plan own before after node.mail promise records pending → WholeStartedOver on plan own before after node records pending
    whole_over records pending p =
        let found = records ++ p.over.starts.kept in
        let promised : promise_of found ≡ promise = sym (p.promise_is ∙ ap promise_of p.over.starts.records ∙ promise_both _ found (Boot (boot_of found + 1) ∷ [])) in
        let booted : boot_of found + 1 ≡ (node_seen node.mail).boot = sym (ap (λ (n : plain.Node). n.boot) p.over.starts.is) in
        let its_are : node_of node.maps ≡ maps_rules.started (maps_disk_of found) = starts (maps_disk_of found) booted promised in
        record {
          mail = p.over;
          starts = λ i. record { mail = p.over.starts.is i; maps = its_are i };
        }

    pub whole_started : NodeStartedWith on plan own before after node.mail promise → HasMaps node → AreReadsOf node.mail node.reads → HasNoReads node → WholeNodeStarted on plan own before after node
    whole_started s has of none = record {
      mail = s.started;
      works = record { mail = s.started.works; maps = has; reads = of };
      blank = none;
      over = where_it_holds (PromisedOver on plan own before after node.mail promise) (WholeStartedOver on plan own before after node) whole_over s.over;
    }

  -- the same of a node that has this for messages
  pub whole_started_of : (mail : Node) (promise : EpochId) (node : WholeNode) → node.mail ≡ mail
      → ((image : maps.Disk) → image.boot + 1 ≡ (node_seen mail).boot → image.promise ≡ promise → node_of node.maps ≡ maps_rules.started image)
      → NodeStartedWith on plan own before after mail promise → HasMaps node → AreReadsOf node.mail node.reads → HasNoReads node → WholeNodeStarted on plan own before after node
  whole_started_of mail promise node is starts s has of none = whole_started node promise (λ image booted promised. starts image (booted ∙ ap (λ (m : Node). (node_seen m).boot) is) promised)
      (subst (λ (m : Node). NodeStartedWith on plan own before after m promise) (sym is) s) has of none

  -- Memory ran out once the boot was recorded, so that its record stands.
  short_over : (mail : Node) (held : List ℕ) → on.seen after ≡ Some held → IsOnly on.clock after held → (records pending : List Record) → StartedOver on plan own before after mail records pending
      → StoppedOver on plan own before after records pending
  short_over mail held seen only records pending s =
      let found = records ++ s.starts.kept in
      let boot = Boot (boot_of found + 1) ∷ [] in
      let ends = subst (λ (o : Option (List ℕ)). TellsJournal o own (payloads_of s.new) (end_in mail)) seen s.tells in
      let journal = subst (λ (l : List Record). IsJournal own held (payloads_of l)) s.starts.records ends.journal in
      record {
        next = boot;
        new = found;
        stops = record { kept = s.starts.kept; pending_is = s.starts.pending_is; records = refl; next_is = inr (inl refl) };
        holds = record {
          images = λ c image. inr (subst (λ (h : List ℕ). IsJournal own h (payloads_of (found ++ boot))) (sym (only c image)) journal);
          fit = subst (All IsRecord) s.starts.records s.keeps.fit;
        };
        stops_keep = subst (StartKeeps on plan own before after records pending) s.starts.records s.stops_keep;
      }

  pub start_short : (mail : Node) → IfSome (on.seen after) (λ held. IsOnly on.clock after held) → is_some (on.seen after) ≡ is_some (on.seen before) → NodeStarted on plan own before after mail
      → NodeStarts on plan own before after (Err (NoMemory true))
  start_short mail only alike s = by (on.seen before) (on.seen after) refl alike only s.over
    where
      by : (b a : Option (List ℕ)) → on.seen after ≡ a → is_some a ≡ is_some b → IfSome a (λ held. IsOnly on.clock after held)
          → IfSome b (λ _. (records pending : List Record) → MayHold on before own records pending → StartedOver on plan own before after mail records pending)
          → IfSome b (λ _. (records pending : List Record) → MayHold on before own records pending → StoppedOver on plan own before after records pending)
      by None a seen alike only over = tt
      by (Some old) None seen alike only over = absurd (true≢false (sym alike))
      by (Some old) (Some held) seen alike only over = λ records pending may. short_over mail held seen only records pending (over records pending may)
