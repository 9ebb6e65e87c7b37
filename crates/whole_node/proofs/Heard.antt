-- A letter that was heard, and a copy that was widened, and the maps after it.
use Rattle.std.proofs.Common.{◌≡◌, ℕ, Bool, true, false, List, [], ◌++◌, Option, Some, None, refl, sym, ap, ◌∙◌, subst}
use Rattle.std.specs.Prelude.{All, Result, Ok, Err, IfOk, ⊤}
use Rattle.std.proofs.lemmas.List.Elements.{All-nil}
use Rattle.mail_model.specs.Identity.{Id}
use Rattle.mail_model.specs.Identity.Key.{Message}
use Rattle.mail_model.specs.Plan.{Plan}
use Rattle.mail_model.specs.Record.{Record}
use Rattle.object_model.specs.Letters.{Letter}
use Rattle.cluster_model.specs.Deeds.{hear}
use Rattle.cluster_model.specs.Rules.{widen}
use Rattle.node_store.specs.Disks.{View}
use Rattle.node_core.specs.Nodes.{node_seen, NodeKeeps, IsNodeOf, IsAsBefore}
use Rattle.node_core.specs.Works.{NodeDid, LeavesUp}
use Rattle.node_core.specs.Hearing.{HearsLetter, HeardOrThrown, LetterHeard}
use Rattle.node_core.specs.Pushing.{PushesOut, WidensCopy}
use Rattle.node_core.proofs.Going.{pushing_goes_on}
use Rattle.node_core.specs.declared.fault.NodeFault.{NodeFault}
use Rattle.node_core.specs.declared.fault.NodeFault.TheVariants.{Disk, Worn, NoMemory}
use Rattle.node_core.specs.declared.outbox.Why.{Why}
use Rattle.node_core.specs.declared.outbox.Outbox.{Outbox}
use Rattle.node_core.specs.declared.node.Node.{Node}
use Rattle.node_maps.specs.Nodes.{own_of}
use Rattle.node_maps.specs.declared.maps.NodeMaps.{NodeMaps}
use Rattle.whole_node.specs.Nodes.{HasMaps, KeepsBeside, WholeWorks}
use Rattle.whole_node.specs.Noting.{NotesCopies, copies_named}
use Rattle.whole_node.specs.Following.{MapsFollow, MapsStay, FollowsRule, FollowsOrThrows, FollowsLetter}
use Rattle.whole_node.specs.declared.node.WholeNode.{WholeNode}
use Rattle.whole_node.proofs.Taking.{Leads}
use Rattle.whole_node.proofs.Ruled.{leads_heard, leads_widened}
use Rattle.whole_node.proofs.Mailing.{hears_mail, widens_mail, sent_like}
use Rattle.whole_node.specs.Hearing.{FitsMaps}
use Rattle.whole_node.proofs.Beside.{Outlasts, works_on}
use Rattle.whole_node.proofs.Called.{plan_of, is_of, done_stops, knows_any, follows_led, outlasts_after, outlasts_same}

module _ {D : Type 0} (on : View D) (letter : Letter) (old : WholeNode) (before : D) (new : WholeNode) (after : D) (has : HasMaps old) where
  abbrev pub HearsAny : Result Outbox NodeFault → Type 0
  HearsAny result = (plan : Plan) (own : ℕ) → IsNodeOf plan own old.mail → HearsLetter on own plan.nodes letter old.mail before new.mail after result

  abbrev pub FollowsAny : Result Outbox NodeFault → Type 0
  FollowsAny result = (plan : Plan) (own : ℕ) → IsNodeOf plan own old.mail → FollowsLetter (λ node disk. hear own plan.nodes node disk letter) result old new

  heard_of : (plan : Plan) (own : ℕ) (outbox : Outbox) → None ≡ outbox.thrown → HeardOrThrown on own plan.nodes letter old.mail before new.mail after outbox.thrown outbox.letters
      → LetterHeard on own plan.nodes letter old.mail before new.mail after outbox.letters
  heard_of plan own outbox none h = subst (λ (t : Option Why). HeardOrThrown on own plan.nodes letter old.mail before new.mail after t outbox.letters) (sym none) h

  abbrev pub Noted : Type 0
  Noted = (records : List Record) → NodeKeeps records new.mail → NotesCopies records (copies_named letter.body) old.maps new.maps

  leads_of : (plan : Plan) (own : ℕ) → IsNodeOf plan own old.mail → (sent : List Letter) → NodeDid on (λ node disk. hear own plan.nodes node disk letter) old.mail before new.mail after sent → Noted
      → (records : List Record) → NodeKeeps records old.mail → Leads (own_of old.maps) records (hear own plan.nodes (node_seen old.mail) records letter).disk old.maps new.maps
  leads_of plan own is sent d notes records keeps = subst (λ (n : ℕ). Leads n records (hear own plan.nodes (node_seen old.mail) records letter).disk old.maps new.maps) (sym (has.own ∙ is.own_is))
      (leads_heard own records old.maps (has.own ∙ is.own_is) (knows_any old has records keeps) plan.nodes (node_seen old.mail) new.maps letter
      (subst (λ (l : List Record). NotesCopies l (copies_named letter.body) old.maps new.maps) (sym (d.disk records keeps)) (notes (records ++ d.added) (d.keeps records keeps))))

  -- it was heard, and its copies were noted
  pub heard_follows : (outbox : Outbox) → None ≡ outbox.thrown → HearsAny (Ok outbox) → Noted → FollowsAny (Ok outbox)
  heard_follows outbox none hears notes plan own is =
      let h = heard_of plan own outbox none (hears plan own is) in
      subst (λ (t : Option Why). FollowsOrThrows (λ node disk. hear own plan.nodes node disk letter) t old new) none
      (follows_led old has (λ node disk. hear own plan.nodes node disk letter) new (leads_of plan own is outbox.letters h.did notes))

  pub heard_has : (outbox : Outbox) → None ≡ outbox.thrown → HearsAny (Ok outbox) → Noted → Outlasts old new
  heard_has outbox none hears notes =
      let plan = plan_of old.mail in
      let own = old.mail.store.own in
      let h = heard_of plan own outbox none (hears plan own (is_of old.mail)) in
      outlasts_after old has on (λ node disk. hear own plan.nodes node disk letter) before new after outbox.letters h.did (λ records. (hears_mail own plan.nodes (node_seen old.mail) records letter).epoch) (leads_of plan own (is_of old.mail) outbox.letters h.did notes)

  pub heard_fits : (outbox : Outbox) → None ≡ outbox.thrown → HearsAny (Ok outbox) → All FitsMaps outbox.letters
  heard_fits outbox none hears =
      let plan = plan_of old.mail in
      let own = old.mail.store.own in
      let h = heard_of plan own outbox none (hears plan own (is_of old.mail)) in
      subst (All FitsMaps) (h.did.out has.records has.keeps) (hears_mail own plan.nodes (node_seen old.mail) has.records letter).fits

  -- it was heard, and then memory ran out
  pub heard_stops : (outbox : Outbox) → None ≡ outbox.thrown → HearsAny (Ok outbox) → HearsAny (Err (NoMemory true))
  heard_stops outbox none hears plan own is =
      let h = heard_of plan own outbox none (hears plan own is) in
      let s = done_stops on (λ node disk. hear own plan.nodes node disk letter) old.mail before new.mail after outbox.letters h.did in
      (h.taken, s.0, s.1)

  -- it was thrown
  pub thrown_follows : (outbox : Outbox) (why : Why) → Some why ≡ outbox.thrown → new.maps ≡ old.maps → FollowsAny (Ok outbox)
  thrown_follows outbox why thrown maps plan own is = subst (λ (t : Option Why). FollowsOrThrows (λ node disk. hear own plan.nodes node disk letter) t old new) thrown maps

  as_before : IsAsBefore old.mail new.mail → new.maps ≡ old.maps → Outlasts old new
  as_before same maps = outlasts_same old has new same.same (ap (λ n. n.boot) same.seen) (ap (λ n. n.installed) same.seen) same.keeps maps

  pub thrown_fits : (outbox : Outbox) (why : Why) → Some why ≡ outbox.thrown → HearsAny (Ok outbox) → All FitsMaps outbox.letters
  thrown_fits outbox why thrown hears = subst (All FitsMaps)
      (sym (subst (λ (t : Option Why). HeardOrThrown on old.mail.store.own (plan_of old.mail).nodes letter old.mail before new.mail after t outbox.letters) (sym thrown) (hears (plan_of old.mail) old.mail.store.own (is_of old.mail))).none)
      (All-nil FitsMaps)

  pub thrown_has : (outbox : Outbox) (why : Why) → Some why ≡ outbox.thrown → HearsAny (Ok outbox) → new.maps ≡ old.maps → Outlasts old new
  thrown_has outbox why thrown hears maps = as_before
      (subst (λ (t : Option Why). HeardOrThrown on old.mail.store.own (plan_of old.mail).nodes letter old.mail before new.mail after t outbox.letters) (sym thrown) (hears (plan_of old.mail) old.mail.store.own (is_of old.mail))).as_before maps

  -- or the work failed
  pub failed_follows : (fault : NodeFault) → new.maps ≡ old.maps → FollowsAny (Err fault)
  failed_follows Disk maps plan own is = tt
  failed_follows Worn maps plan own is = maps
  failed_follows (NoMemory true) maps plan own is = tt
  failed_follows (NoMemory false) maps plan own is = maps

  pub failed_has : (fault : NodeFault) → HearsAny (Err fault) → new.maps ≡ old.maps → LeavesUp {T = Outbox} (Err fault) → Outlasts old new
  failed_has Disk hears maps up = absurd up
  failed_has Worn hears maps up = absurd (hears (plan_of old.mail) old.mail.store.own (is_of old.mail))
  failed_has (NoMemory true) hears maps up = absurd up
  failed_has (NoMemory false) hears maps up = as_before (hears (plan_of old.mail) old.mail.store.own (is_of old.mail)).0 maps

module _ {D : Type 0} (on : View D) (user : List ℕ) (id : Id) (to : ℕ) (old : WholeNode) (before : D) (new : WholeNode) (after : D) (has : HasMaps old) (maps : new.maps ≡ old.maps) where
  abbrev pub WidensAny : Result Bool NodeFault → Type 0
  WidensAny result = (plan : Plan) (own : ℕ) → IsNodeOf plan own old.mail → WidensCopy on own to (Message user id) old.mail before new.mail after result

  widening_leads : (own : ℕ) → own_of old.maps ≡ own → (records : List Record) → NodeKeeps records old.mail → Leads (own_of old.maps) records (widen own to (Message user id) (node_seen old.mail) records).disk old.maps new.maps
  widening_leads own is records keeps = subst (λ (k : ℕ). Leads k records (widen own to (Message user id) (node_seen old.mail) records).disk old.maps new.maps) (sym is)
      (subst (λ (m : NodeMaps). Leads own records (widen own to (Message user id) (node_seen old.mail) records).disk old.maps m) (sym maps)
      (leads_widened own records old.maps is (knows_any old has records keeps) (node_seen old.mail) user id to))

  pub widened_follows : (result : Result Bool NodeFault) → (plan : Plan) (own : ℕ) → IsNodeOf plan own old.mail → FollowsRule (λ node disk. widen own to (Message user id) node disk) result old new
  widened_follows (Ok did) plan own is = follows_led old has (λ node disk. widen own to (Message user id) node disk) new (widening_leads own (has.own ∙ is.own_is))
  widened_follows (Err Disk) plan own is = tt
  widened_follows (Err Worn) plan own is = maps
  widened_follows (Err (NoMemory true)) plan own is = tt
  widened_follows (Err (NoMemory false)) plan own is = maps

  pub widened_has : (result : Result Bool NodeFault) → WidensAny result → LeavesUp result → Outlasts old new
  widened_has result widens up = by result up (widens (plan_of old.mail) old.mail.store.own (is_of old.mail))
    where
      by : (r : Result Bool NodeFault) → LeavesUp r → WidensCopy on old.mail.store.own to (Message user id) old.mail before new.mail after r → Outlasts old new
      by (Ok did) up w = outlasts_after old has on (λ node disk. widen old.mail.store.own to (Message user id) node disk) before new after [] w.1 (λ records. (widens_mail old.mail.store.own to (Message user id) (node_seen old.mail) records).epoch) (widening_leads old.mail.store.own has.own)
      by (Err Disk) up w = absurd up
      by (Err Worn) up w = absurd w
      by (Err (NoMemory true)) up w = absurd up
      by (Err (NoMemory false)) up w = outlasts_same old has new w.0.same (ap (λ n. n.boot) w.0.seen) (ap (λ n. n.installed) w.0.seen) w.0.keeps maps

-- a push changes nothing
pub pushed_works : {D : Type 0} (on : View D) (to most room : ℕ) (old : WholeNode) (before : D) (new : WholeNode) (after : D) → WholeWorks (on.seen before) old → new.maps ≡ old.maps → KeepsBeside old new
    → (result : Result Outbox NodeFault) → ((plan : Plan) (own : ℕ) → IsNodeOf plan own old.mail → PushesOut on own to most room old.mail before new.mail after result) → LeavesUp result → WholeWorks (on.seen after) new
pushed_works on to most room old before new after works maps kept result pushes up = works_on old new (on.seen after) (by result up (pushes (plan_of old.mail) old.mail.store.own (is_of old.mail))) works.reads kept
    (pushing_goes_on on old.mail before new.mail after works.mail to most room result pushes up)
  where
    same : IsAsBefore old.mail new.mail → Outlasts old new
    same a = outlasts_same old works.maps new a.same (ap (λ n. n.boot) a.seen) (ap (λ n. n.installed) a.seen) a.keeps maps

    by : (r : Result Outbox NodeFault) → LeavesUp r → PushesOut on old.mail.store.own to most room old.mail before new.mail after r → Outlasts old new
    by (Ok outbox) up p = same p.1.as_before
    by (Err Disk) up p = absurd up
    by (Err Worn) up p = absurd p
    by (Err (NoMemory true)) up p = absurd up
    by (Err (NoMemory false)) up p = same p.0

pub pushed_fits : {D : Type 0} (on : View D) (to most room : ℕ) (old : WholeNode) (before : D) (new : WholeNode) (after : D) → HasMaps old
    → (result : Result Outbox NodeFault) → ((plan : Plan) (own : ℕ) → IsNodeOf plan own old.mail → PushesOut on own to most room old.mail before new.mail after result) → IfOk result (λ outbox. All FitsMaps outbox.letters)
pushed_fits on to most room old before new after has (Ok outbox) pushes =
    let p = pushes (plan_of old.mail) old.mail.store.own (is_of old.mail) in
    sent_like old.mail.store.own to most room (node_seen old.mail) has.records outbox.letters (p.1.alike has.records has.keeps)
pushed_fits on to most room old before new after has (Err fault) pushes = tt
