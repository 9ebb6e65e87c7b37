-- A call that begins at a node that is up: how the node and its disk then are.
use Rattle.std.proofs.Common.{◌≡◌, ◌⊎◌, inl, inr, ℕ, ◌+◌, ◌<◌, ◌≤◌, true, false, List, [], ◌∷◌, Option, Some, None, Result, Ok, Err, refl, sym, ap, ◌∙◌, subst, arith}
use Rattle.std.specs.Prelude.{IfOk, is_some, slice_get, slice_set}
use Rattle.std.proofs.Common.{get_or, All}
use Rattle.std.proofs.lemmas.Option.{slice_get-get_or}
use Rattle.std.specs.List.{list_all}
use Rattle.std.proofs.lemmas.Bool.{and_parts}
use Rattle.std.proofs.lemmas.Bool.Decides.{nat_tests}
use Rattle.io_edge.specs.Octets.{IsToldAlike}
use Rattle.io_edge.proofs.Passing.{keeps_none}
use Rattle.mail_model.specs.Plan.{Plan}
use Rattle.object_model.specs.Letters.{Number, Letter}
use Rattle.session_model.specs.Events.{NodeLife as life}
use Rattle.cluster_model.specs.Steps.{NodeCall, is_node, nodes_of_call}
use Rattle.node_store.specs.Disks.{View}
use Rattle.node_store.specs.Appends.{Fails}
use Rattle.node_store.specs.declared.fault.KeepFault.{KeepFault}
use Rattle.node_store.specs.declared.fault.KeepFault.TheVariants as keep
use Rattle.node_core.specs.Beginning.{IsTextEnded, call_seen, CallDid, CallStopped, NodeBegins}
use Rattle.node_core.specs.Nodes.{node_seen, IsNodeOf, IsAsBefore}
use Rattle.node_core.specs.Spelling.{AllCanBeTaken}
use Rattle.node_core.specs.Works.{Rule, NodeDid, IsOnlyRead, LeavesUp}
use Rattle.node_core.specs.declared.fault.NodeFault.{NodeFault}
use Rattle.node_core.specs.declared.fault.NodeFault.TheVariants.{Disk, Worn, NoMemory}
use Rattle.whole_node.specs.Nodes.{WholeWorks, joint_seen}
use Rattle.whole_node.specs.declared.node.WholeNode.{WholeNode}
use Rattle.node_core.specs.declared.outbox.Outbox.{Outbox}
use Rattle.call_tickets.specs.declared.call.Call.{Call}
use Rattle.node_maps.specs.Nodes.{own_of}
use Rattle.whole_node.specs.Following.{FollowsCall}
use Rattle.whole_node.specs.Hearing.{FitsMaps}
use Rattle.cluster_world.specs.Hears.{AllCanBeHeard}
use Rattle.cluster_world.specs.Begins.{BeginsAt}
use Rattle.cluster_world.specs.Changes.{ChangesNode}
use Rattle.cluster_world.specs.Lives.{life_seen, of_node, falls_left, all_falls_left, CanWorkOn}
use Rattle.cluster_world.specs.Steps.{WasToWork}
use Rattle.cluster_world.specs.Turning.{TurnsBy, life_left}
use Rattle.cluster_world.specs.Turns.{life_refusal, node_refusal}
use Rattle.cluster_world.specs.Worlds.{seen_life, life_among}
use Rattle.cluster_world.specs.declared.life.Life.{Life}
use Rattle.cluster_world.specs.declared.life.Life.TheVariants.{Up, Down, Lost}
use Rattle.cluster_world.specs.declared.nodes.Nodes.{Nodes}
use Rattle.cluster_world.specs.declared.step.Step.TheVariants as step
use Rattle.cluster_world.specs.declared.fault.StepFault.TheVariants as fault
use Rattle.cluster_world.proofs.Still.{some_same}
use Rattle.cluster_world.proofs.Changing.{changed_at, node_at}
use Rattle.cluster_world.proofs.Asked.{ready_of}
use Rattle.cluster_world.proofs.FlightLaws.{all_heard}
use Rattle.cluster_world.proofs.Turned.{still_ready, falls_now}
use Rattle.cluster_world.proofs.Refusing.{fit_of}
use Rattle.cluster_world.proofs.Beside.{turns_keep}
use Rattle.joint_world.specs.Staying.{KeepsReads}
use Rattle.cluster_world.specs.Keeping.{joint_life}

-- the answer of a node
abbrev pub Began : Type 0
Began = Result (Option Number × Outbox) NodeFault

-- a node at which a call may begin is up
pub begin_up : (n : ℕ) (call : Call) (o : Option Life) (l : Life) → o ≡ Some l → life_refusal (step.Begin n call) (seen_life o) ≡ None → (node : WholeNode) × (l ≡ Up node)
begin_up n call None l e h = absurd (let never : None ≡ Some l = e in cc)
begin_up n call (Some (Up node)) l e h = (node, some_same l (Up node) (sym e))
begin_up n call (Some Down) l e h = absurd (let never : Some fault.NodeDown ≡ None = h in cc)
begin_up n call (Some Lost) l e h = absurd (let never : Some fault.NodeLost ≡ None = h in cc)

pub within_of : (plan : Plan) (n : ℕ) (more : List ℕ) → list_all (is_node plan) (n ∷ more) ≡ true → (1 ≤ n) × (n ≤ plan.nodes)
within_of plan n more named =
    let is : is_node plan n ≡ true = (and_parts (is_node plan n) (list_all (is_node plan) more) named).0 in
    (grind (arith, nat_tests), grind (arith, nat_tests))

pub not_up : (node : WholeNode) → Down ≡ Up node → ⊥
not_up node e = cc

pub up_same : (x y : WholeNode) → Up x ≡ Up y → x ≡ y
up_same x y e = cc

-- a disk that was not called was read, and no more
pub read_none : {D : Type 0} (on : View D) (before after : D) → after ≡ before → IsOnlyRead on before after
read_none on before after e = subst (λ d. IsOnlyRead on before d) (sym e) (record { seen = refl; images = keeps_none on.clock before })

module _ {D : Type 0} (n : ℕ) (call : Call) (old : Nodes D) (fit : node_refusal old.plan (life_among old) (step.Begin n call) ≡ None) where
  pub begin_named : list_all (is_node old.plan) (n ∷ nodes_of_call (call_seen call)) ≡ true
  begin_named = (fit_of (list_all (is_node old.plan) (n ∷ nodes_of_call (call_seen call))) (life_refusal (step.Begin n call) (life_among old n)) fit).0

  begin_fits : life_refusal (step.Begin n call) (life_among old n) ≡ None
  begin_fits = (fit_of (list_all (is_node old.plan) (n ∷ nodes_of_call (call_seen call))) (life_refusal (step.Begin n call) (life_among old n)) fit).1

  -- the node and its disk, that there are
  pub begin_there : (seen : D → Option (List ℕ)) → CanWorkOn seen old.plan old.lives.items old.disks.items → (l : Life) → of_node old.lives.items n ≡ Some l → (disk : D) → of_node old.disks.items n ≡ Some disk
      → (node : WholeNode) × (l ≡ Up node) × IsNodeOf old.plan n node.mail × WholeWorks (seen disk) node
  begin_there seen works l here disk held =
      let (node, up) = begin_up n call (of_node old.lives.items n) l here begin_fits in
      let (of, can) = ready_of seen old.plan old.lives.items old.disks.items works n node disk (here ∙ ap Some up) held in
      (node, up, of, can)

-- the node and its disk at their place, where the nodes are lent
module _ {D : Type 0} (on : View D) (n : ℕ) (call : Call) (lent old : Nodes D) (same : lent ≡ old) (fit : node_refusal old.plan (life_among old) (step.Begin n call) ≡ None)
    (ready : CanWorkOn on.seen old.plan old.lives.items old.disks.items) (k : ℕ) (at : k + 1 ≡ n) (l dl : Life) (d dd : D) (read : l ≡ get_or lent.lives.items k dl) (held : d ≡ get_or lent.disks.items k dd) where
  within : k < old.plan.nodes
  within = omega (arith, at, (within_of old.plan n (nodes_of_call (call_seen call)) (begin_named n call old fit)).1)

  life_here : slice_get old.lives.items k ≡ Some l
  life_here = slice_get-get_or old.lives.items k dl (omega (arith, within, old.all)) ∙ ap Some (sym (read ∙ ap (λ (x : Nodes D). get_or x.lives.items k dl) same))

  disk_here : slice_get old.disks.items k ≡ Some d
  disk_here = slice_get-get_or old.disks.items k dd (omega (arith, within, old.disk_each)) ∙ ap Some (sym (held ∙ ap (λ (x : Nodes D). get_or x.disks.items k dd) same))

  up_there : (node : WholeNode) × (l ≡ Up node) × IsNodeOf old.plan n node.mail × WholeWorks (on.seen d) node
  up_there = begin_there n call old fit on.seen ready l (node_at old.lives.items n k at ∙ life_here) d (node_at old.disks.items n k at ∙ disk_here)

  pub begin_place : (node : WholeNode) × (l ≡ Up node) × WholeWorks (on.seen d) node
  begin_place = let (node, up, of, can) = up_there in (node, up, can)

  pub begin_changed : (is_settled : D → Type 0) (seconds : ℕ) (began : Began) (l' : Life) (d' : D) (new : Nodes D) → new.plan ≡ lent.plan → new.lives.items ≡ slice_set lent.lives.items k l'
      → new.disks.items ≡ slice_set lent.disks.items k d' → IsTextEnded (call_seen call)
      → TurnsBy on.seen (λ result one before other after. (plan : Plan) (own : ℕ) → IsNodeOf plan own one → IsTextEnded (call_seen call)
      → NodeBegins on plan own seconds (call_seen call) one before other after result)
      (λ result one before other after. (plan : Plan) (own : ℕ) → IsNodeOf plan own one.mail → FollowsCall on plan own seconds (call_seen call) result one before other after) began l d l' d'
      → (LeavesUp began → is_settled d → is_settled d') → ChangesNode n (BeginsAt on is_settled old.plan n seconds (call_seen call) began) old new
  begin_changed is_settled seconds began l' d' new plan_is lives_are disks_are ended turns settled =
      let (node, up, of, can) = up_there in
      let mine : node ≡ turns.old = up_same node turns.old (sym up ∙ turns.was) in
      changed_at n k (BeginsAt on is_settled old.plan n seconds (call_seen call) began) old new l l' d d' at life_here disk_here (plan_is ∙ ap (λ (x : Nodes D). x.plan) same)
      (lives_are ∙ ap (λ (x : Nodes D). slice_set x.lives.items k l') same) (disks_are ∙ ap (λ (x : Nodes D). slice_set x.disks.items k d') same) (
        record {
          old = turns.old;
          new = turns.new;
          was = turns.was;
          did = turns.did old.plan n (subst (λ (x : WholeNode). IsNodeOf old.plan n x.mail) mine of) ended;
          maps = turns.maps old.plan n (subst (λ (x : WholeNode). IsNodeOf old.plan n x.mail) mine of);
          beside = turns.beside;
          is = turns.is;
          works = turns.works;
        },
        settled,
      )

module _ {D : Type 0} (on : View D) (is_settled : D → Type 0) (n : ℕ) (call : Call) (seconds : ℕ) (old mid : Nodes D)
    (fit : node_refusal old.plan (life_among old) (step.Begin n call) ≡ None) (ready : CanWorkOn on.seen old.plan old.lives.items old.disks.items) (began : Began)
    (ch : ChangesNode n (BeginsAt on is_settled old.plan n seconds (call_seen call) began) old mid) where
  abbrev pub B : Life → D → Life → D → Type 0
  B = BeginsAt on is_settled old.plan n seconds (call_seen call) began

  abbrev pub a : WholeNode
  a = ch.does.0.old

  abbrev pub b : WholeNode
  b = ch.does.0.new

  pub begin_was : ch.life ≡ Up a
  begin_was = ch.does.0.was

  pub begin_works : IsNodeOf old.plan n a.mail × WholeWorks (on.seen ch.disk) a
  begin_works = ready_of on.seen old.plan old.lives.items old.disks.items ready n a ch.disk (ch.was ∙ ap Some begin_was) ch.held

  pub begin_life : (r : Began) → began ≡ r → ch.life' ≡ life_left r b
  begin_life r e = ch.does.0.is ∙ ap (λ (x : Began). life_left x b) e

  pub begin_did : (r : Began) → began ≡ r → NodeBegins on old.plan n seconds (call_seen call) a.mail ch.disk b.mail ch.disk' r
  begin_did r e = subst (λ (x : Began). NodeBegins on old.plan n seconds (call_seen call) a.mail ch.disk b.mail ch.disk' x) e ch.does.0.did

  -- what became of its maps
  pub begin_maps : (r : Began) → began ≡ r → FollowsCall on old.plan n seconds (call_seen call) r a ch.disk b ch.disk'
  begin_maps r e = subst (λ (x : Began). FollowsCall on old.plan n seconds (call_seen call) x a ch.disk b ch.disk') e ch.does.0.maps

  -- and of its tickets of calls that read
  pub begin_keeps : (node : WholeNode) → ch.life' ≡ Up node → KeepsReads (joint_life ch.life) (joint_seen node)
  begin_keeps = turns_keep on.seen (λ result one before other after. NodeBegins on old.plan n seconds (call_seen call) one before other after result)
      (λ result one before other after. FollowsCall on old.plan n seconds (call_seen call) result one before other after)
      began ch.life ch.disk ch.life' ch.disk' ch.does.0

  pub begin_own : own_of a.maps ≡ n
  begin_own = begin_works.1.maps.own ∙ begin_works.0.own_is

  -- the node is up, in its boot
  pub record StaysUp : Type 0 where
    pub is : ch.life' ≡ Up b
    pub boot : (node_seen b.mail).boot ≡ (node_seen a.mail).boot
    pub of_plan : IsNodeOf old.plan n b.mail
    pub works : WholeWorks (on.seen ch.disk') b
    pub told : IsToldAlike (on.seen ch.disk) (on.seen ch.disk')
    pub quiet : on.faults ch.disk' ≡ on.faults ch.disk
    pub settles : is_settled ch.disk → is_settled ch.disk'

  -- or down
  pub record FellDown : Type 0 where
    pub is : ch.life' ≡ Down
    pub told : IsToldAlike (on.seen ch.disk) (on.seen ch.disk')
    pub later : on.faults ch.disk ≤ on.faults ch.disk'

  works_by : (r : Began) → began ≡ r → LeavesUp r → WholeWorks (on.seen ch.disk') b
  works_by r e up = subst (λ (x : Began). LeavesUp x → WholeWorks (on.seen ch.disk') b) e ch.does.0.works up

  settles_by : (r : Began) → began ≡ r → LeavesUp r → is_settled ch.disk → is_settled ch.disk'
  settles_by r e up = subst (λ (x : Began). LeavesUp x → is_settled ch.disk → is_settled ch.disk') e ch.does.1 up

  up_by : (rule : Rule) (sent : List Letter) → ch.life' ≡ Up b → (is_settled ch.disk → is_settled ch.disk') → WholeWorks (on.seen ch.disk') b → NodeDid on rule a.mail ch.disk b.mail ch.disk' sent → StaysUp
  up_by rule sent is settles can did = record {
    is = is;
    boot = did.boot;
    of_plan = did.same old.plan n begin_works.0;
    works = can;
    told = did.appends.told;
    quiet = did.appends.quiet;
    settles = settles;
  }

  up_as_before : ch.life' ≡ Up b → (is_settled ch.disk → is_settled ch.disk') → WholeWorks (on.seen ch.disk') b → IsAsBefore a.mail b.mail → IsOnlyRead on ch.disk ch.disk' → on.faults ch.disk' ≡ on.faults ch.disk → StaysUp
  up_as_before is settles can same read quiet = record {
    is = is;
    boot = ap (λ x. x.boot) same.seen;
    of_plan = same.same old.plan n begin_works.0;
    works = can;
    told = ap (λ (o : Option (List ℕ)). is_some o) read.seen;
    quiet = quiet;
    settles = settles;
  }

  up_begun : (ticket : Option Number) (sent : List Letter) → ch.life' ≡ Up b → (is_settled ch.disk → is_settled ch.disk') → WholeWorks (on.seen ch.disk') b
      → CallDid on old.plan n seconds (call_seen call) a.mail ch.disk b.mail ch.disk' ticket sent → StaysUp
  up_begun ticket sent is settles can (CallDid.AtOnce kind of_kind fails t did) = up_by _ sent is settles can did
  up_begun ticket sent is settles can (CallDid.Goes octets fails filed t did) = up_by _ sent is settles can did

  later_by : (fault : KeepFault) (x y : ℕ) → Fails fault x y → x ≤ y
  later_by keep.Disk x y f = f.0
  later_by keep.NoMemory x y f = f

  down_by : (fault : KeepFault) → ch.life' ≡ Down → CallStopped on old.plan n seconds (call_seen call) a.mail ch.disk b.mail ch.disk' fault → FellDown
  down_by fault is s = record { is = is; told = s.stopped.stops.told; later = later_by fault (on.faults ch.disk) (on.faults ch.disk') s.fails }

  by_case : (r : Began) → began ≡ r → ch.life' ≡ life_left r b → NodeBegins on old.plan n seconds (call_seen call) a.mail ch.disk b.mail ch.disk' r → StaysUp ⊎ FellDown
  by_case (Ok begun) e is did = inl (up_begun begun.0 begun.1.letters is (settles_by (Ok begun) e tt) (works_by (Ok begun) e tt) did.did)
  by_case (Err Disk) e is did = inr (down_by keep.Disk is did)
  by_case (Err Worn) e is did = inl (up_as_before is (settles_by (Err Worn) e tt) (works_by (Err Worn) e tt) did.1 (read_none on ch.disk ch.disk' did.2) (ap on.faults did.2))
  by_case (Err (NoMemory true)) e is did = inr (down_by keep.NoMemory is did)
  by_case (Err (NoMemory false)) e is did = inl (up_as_before is (settles_by (Err (NoMemory false)) e tt) (works_by (Err (NoMemory false)) e tt) did.0 did.1 did.2)

  pub begin_case : StaysUp ⊎ FellDown
  begin_case = by_case began refl ch.does.0.is ch.does.0.did

  pub begin_stays : (begun : Option Number × Outbox) → began ≡ Ok begun → StaysUp
  begin_stays begun e = up_begun begun.0 begun.1.letters (begin_life (Ok begun) e) (settles_by (Ok begun) e tt) (works_by (Ok begun) e tt) (begin_did (Ok begun) e).did

  -- what it sends can be heard
  fits_by : (ticket : Option Number) (sent : List Letter) → CallDid on old.plan n seconds (call_seen call) a.mail ch.disk b.mail ch.disk' ticket sent → AllCanBeTaken sent
  fits_by ticket sent (CallDid.AtOnce kind of_kind fails t did) = did.fits
  fits_by ticket sent (CallDid.Goes octets fails filed t did) = did.fits

  pub begin_heard : (r : Began) → began ≡ r → IfOk r (λ begun. All FitsMaps begun.1.letters) → IfOk r (λ begun. AllCanBeHeard begun.1.letters)
  begin_heard (Ok begun) e fits = all_heard begun.1.letters (fits_by begun.0 begun.1.letters (begin_did (Ok begun) e).did) fits
  begin_heard (Err why) e fits = tt

  up_alone : (node : WholeNode) → ch.life' ≡ Up node → StaysUp ⊎ FellDown → IsNodeOf old.plan n node.mail × WholeWorks (on.seen ch.disk') node
  up_alone node up (inl s) =
      subst (λ (x : WholeNode). IsNodeOf old.plan n x.mail × WholeWorks (on.seen ch.disk') x) (up_same b node (sym s.is ∙ up)) (s.of_plan, s.works)
  up_alone node up (inr f) = absurd (not_up node (sym f.is ∙ up))

  pub begin_ready : CanWorkOn on.seen mid.plan mid.lives.items mid.disks.items
  begin_ready = subst (λ p. CanWorkOn on.seen p mid.lives.items mid.disks.items) (sym ch.plan)
      (still_ready n B old mid ch on.seen old.plan ready (λ node up. up_alone node up begin_case))

  -- its life is told as before, where it stays up
  pub begin_seen : StaysUp → life_seen ch.life' ≡ life_seen ch.life
  begin_seen s = ap life_seen s.is ∙ ap life.Up s.boot ∙ sym (ap life_seen begin_was)

  settles_so : StaysUp ⊎ FellDown → (boot : ℕ) → life_seen ch.life' ≡ life.Up boot → (life_seen ch.life ≡ life.Up boot → is_settled ch.disk) → is_settled ch.disk'
  settles_so (inl s) boot up was = s.settles (was (sym (begin_seen s) ∙ up))
  settles_so (inr f) boot up was = absurd (let never : life.Down ≡ life.Up boot = sym (ap life_seen f.is) ∙ up in cc)

  pub begin_settles : (boot : ℕ) → life_seen ch.life' ≡ life.Up boot → (life_seen ch.life ≡ life.Up boot → is_settled ch.disk) → is_settled ch.disk'
  begin_settles = settles_so begin_case

  falls_by : StaysUp ⊎ FellDown → falls_left ch.life' ≤ 2
  falls_by (inl s) = omega (arith, ap falls_left s.is)
  falls_by (inr f) = omega (arith, ap falls_left f.is)

  pub begin_falls : all_falls_left mid.lives.items ≤ all_falls_left old.lives.items
  begin_falls =
      let same : all_falls_left mid.lives.items + falls_left ch.life ≡ all_falls_left old.lives.items + falls_left ch.life' = falls_now n B old mid ch in
      omega (arith, same, ap falls_left begin_was, falls_by begin_case)

  pub begin_within : n ≤ mid.plan.nodes
  begin_within = subst (λ (p : Plan). n ≤ p.nodes) (sym ch.plan) (within_of old.plan n (nodes_of_call (call_seen call)) (begin_named n call old fit)).1

  pub begin_worked : WasToWork old.plan.nodes (step.Begin n call) (life_among old n) n
  begin_worked =
      let (above, within) = within_of old.plan n (nodes_of_call (call_seen call)) (begin_named n call old fit) in
      record { above = above; within = within; worked = inl ((node_seen a.mail).boot, ap seen_life ch.was ∙ ap life_seen begin_was) }
