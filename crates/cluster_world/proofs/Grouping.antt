-- What a step does in which a node opens a group or concludes one: for messages both are one step, in which an epoch forms.
use Rattle.std.proofs.Common.{◌≡◌, ◌≢◌, inl, inr, ℕ, ◌+◌, ◌-◌, length, drop, ◌≤◌, ◌<◌, nat_le, Bool, true, false, ◌&&◌, List, [], ◌∷◌, ◌++◌, append-nil, get_or, Option, Some, None, Result, Ok, Err, refl, sym, ap, ◌∙◌, subst, arith, if◌then◌else◌}
use Rattle.std.specs.Prelude.{nat_lt, All, IfOk, IfSome, is_some, slice_get, slice_set}
use Rattle.std.specs.List.{list_all}
use Rattle.std.proofs.lemmas.Bool.{and_parts}
use Rattle.std.proofs.lemmas.Bool.Decides.{nat_tests}
use Rattle.io_edge.specs.Causes.{Rose}
use Rattle.io_edge.specs.Octets.{IsToldAlike}
use Rattle.mail_model.specs.Identity.{EpochId}
use Rattle.mail_model.specs.Plan.{Plan}
use Rattle.mail_model.specs.Record.{Record}
use Rattle.mail_model.specs.Book.BookEntry.{WentDown}
use Rattle.object_model.specs.Letters.{Membership, Letter}
use Rattle.session_model.specs.Events.{NodeLife, NodeLife as life, turned}
use Rattle.cluster_model.specs.Cluster as plain
use Rattle.cluster_model.specs.Cluster.{Slot}
use Rattle.cluster_model.specs.Deeds.{slot_up}
use Rattle.cluster_model.specs.World as machine
use Rattle.cluster_model.specs.Steps as steps
use Rattle.cluster_model.specs.Steps.{is_node, actor_of, letters_end, step_fault}
use Rattle.cluster_model.specs.Makes.{IsUp, IsSaidOfForming, FormsAt, RunsShort, MakesStep, cut_world, after}
use Rattle.cluster_model.specs.Forms.{promise_records}
use Rattle.maps_model.specs.Rules as maps_rules
use Rattle.whole_world.specs.Laws.{Stands}
use Rattle.whole_world.specs.Makes as whole_makes
use Rattle.whole_world.specs.Steps as whole_steps
use Rattle.whole_world.specs.Steps.{room_left, greatest_epoch}
use Rattle.whole_world.specs.World as whole_world
use Rattle.whole_world.specs.World.{mail_world_of}
use Rattle.node_store.specs.Disks.{View}
use Rattle.node_core.specs.Nodes.{node_seen, NodeKeeps, end_in, IsAsBefore, CanWork, IsNodeOf}
use Rattle.node_core.specs.Spelling.{AllCanBeTaken}
use Rattle.node_core.specs.Works.{LeavesUp, Rule, NodeDid, NodeStopped}
use Rattle.node_core.specs.declared.fault.NodeFault.{NodeFault}
use Rattle.node_core.specs.declared.fault.NodeFault.TheVariants.{Disk, Worn, NoMemory}
use Rattle.node_core.specs.declared.node.Node.{Node}
use Rattle.node_maps.specs.declared.concluding.Concluded.{Concluded}
use Rattle.whole_node.specs.Hearing.{FitsMaps}
use Rattle.node_maps.specs.Nodes.{node_of}
use Rattle.whole_node.specs.Grouping.{next_of, GroupConcluded, OpensGroup, ConcludesGroup}
use Rattle.whole_node.specs.declared.grouping.Grouped.{Grouped}
use Rattle.whole_node.specs.declared.node.WholeNode.{WholeNode}
use Rattle.whole_node.specs.Nodes.{whole_seen, WholeWorks}
use Rattle.whole_node.proofs.Forming.{installed_forms}
use Rattle.world_book.specs.Books.{entries_of, spare_of}
use Rattle.world_book.specs.declared.book.Book.{Book}
use Rattle.world_book.specs.declared.entry.Entry.TheVariants as written
use Rattle.cluster_world.specs.Books.{entries_seen, booked_by}
use Rattle.cluster_world.specs.Changes.{ChangesNode}
use Rattle.cluster_world.specs.Flights.{InFlight, put_down, taken_out}
use Rattle.cluster_world.specs.Forming.{learns_nothing, forms_rule, HasFormed}
use Rattle.cluster_world.specs.Forms.{joins_at, GroupsSo, GroupsAt, ConcludesGroupSo, ConcludesGroupAt}
use Rattle.cluster_world.specs.Hears.{AllCanBeHeard}
use Rattle.cluster_world.specs.Lives.{life_seen, of_node, all_falls_left, CanWorkOn}
use Rattle.object_model.specs.Mishaps.MishapKind.{Crowded}
use Rattle.cluster_world.specs.Maps.{AreMaps}
use Rattle.cluster_world.specs.Missing.{all_missed, SentOff}
use Rattle.cluster_world.specs.Moments.{StopsKeep}
use Rattle.cluster_world.specs.Posts.{IsEntered, AnswersSent}
use Rattle.cluster_world.specs.Seen.{step_seen, said_seen, fault_seen, whole_step, whole_fault}
use Rattle.cluster_world.specs.Stands.{SlotStands}
use Rattle.cluster_world.specs.Steps.{SaysSo, StepDid, LeadsWhole, AreSettled, WasToWork, FallsSo, IsRefusedRight, IsUnchanged, ChangesNothing, FaultHasCause, HasPassed, LeadsMail}
use Rattle.cluster_world.specs.Telling.{members_seen}
use Rattle.cluster_world.specs.Turning.{life_left}
use Rattle.cluster_world.specs.Turns.{life_refusal, actor_refusal, nodes_of_step, node_refusal, life_after_step, seconds_after_step}
use Rattle.cluster_world.specs.Unfinished.{said_of_fault, entries_of_fault}
use Rattle.cluster_world.specs.Worlds.{WorldState, seen_life, life_among, state_with, tells_in, node_of_life, StateStandsFor}
use Rattle.cluster_world.specs.declared.life.Life.{Life}
use Rattle.cluster_world.specs.declared.life.Life.TheVariants.{Up, Down}
use Rattle.cluster_world.specs.declared.nodes.Nodes.{Nodes}
use Rattle.cluster_world.specs.declared.step.Step.{Step}
use Rattle.cluster_world.specs.declared.step.Step.TheVariants as step
use Rattle.cluster_world.specs.declared.step.Said.{Said}
use Rattle.cluster_world.specs.declared.step.Said.TheVariants as said
use Rattle.cluster_world.specs.declared.fault.StepFault.{StepFault}
use Rattle.cluster_world.specs.declared.fault.StepFault.TheVariants as fault
use Rattle.cluster_world.proofs.AfterWidening.{works_there, StaysUp, FallsDown, did_stay, read_stays, stays_ready, stays_falls, stays_settled, down_ready, down_falls, down_settled, caused, Works, life_at, disk_at, up_there}
use Rattle.cluster_world.proofs.Changing.{changed_at, set_same}
use Rattle.cluster_world.proofs.AfterWork.{nothing_else, AreThese, turned_after, work_did, work_goes_on, work_lives, up_slot, up_is, WorkSent, work_sent, CutSlot, work_stopped, work_undone, cut_stands, cut_stops, idle_stands, idle_stops}
use Rattle.cluster_world.proofs.Follows.{drop_front}
use Rattle.cluster_world.proofs.Turned.{life_there}
use Rattle.cluster_world.proofs.WholeForms.{up_whole, some_room, opened_whole, concluded_whole, open_fails, open_short, conclude_short}
use Rattle.cluster_world.proofs.WholeGroups.{Stood, stood, group_faults, conclude_faults_are, joined_group}
use Rattle.cluster_world.proofs.WholeStarts.{keep_maps}
use Rattle.cluster_world.proofs.Falling.{fallen, falls_kept, entries_more}
use Rattle.cluster_world.proofs.Kept.{only_settled}
use Rattle.cluster_world.proofs.Longer.{as_long, longer_by, same_book}
use Rattle.cluster_world.proofs.Refusing.{fit_of, form_goes}
use Rattle.cluster_world.proofs.Same.{same_told, same_quiet, same_unchanged, led_whole}
use Rattle.cluster_world.proofs.Still.{some_same, nothing_read}
use Rattle.cluster_world.proofs.Unchanged.{unchanged_by, memory_kept}
use Rattle.cluster_world.proofs.Beside.{OwnKept, turns_keep, turns_same}
use Rattle.cluster_world.proofs.Lifting.{IsNoAsk, IsDoneWhole}
use Rattle.joint_world.specs.Staying.{IsForWhole}
use Rattle.joint_world.specs.World as joint_world
use Rattle.joint_world.specs.World.{whole_world_of}

-- letters that can be taken, and that fit, can be heard
pub can_be_heard : (letters : List Letter) → AllCanBeTaken letters → All FitsMaps letters → AllCanBeHeard letters
can_be_heard letters taken fits = λ k d within. record { taken = taken k d within; fits = fits k d within }

-- a whole node that opened a group, as messages see it
pub groups_so : {D : Type 0} (on : View D) (nodes : ℕ) (old : WholeNode) (before : D) (new : WholeNode) (after : D) (r : Result Grouped NodeFault) → OpensGroup on nodes old before new after r
    → GroupsSo on r old.mail before new.mail after
groups_so on nodes old before new after (Ok done) o = record { installed = (node_seen old.mail).installed; promise = Some (next_of old); did = o.mail.did; plain = o.mail.sends }
groups_so on nodes old before new after (Err Disk) o = record { installed = None; promise = Some (next_of old); failed = o.failed }
groups_so on nodes old before new after (Err Worn) o = (o.1.as_before, o.1.untouched)
groups_so on nodes old before new after (Err (NoMemory true)) o = record { installed = None; promise = Some (next_of old); failed = o.failed }
groups_so on nodes old before new after (Err (NoMemory false)) o = record { installed = None; promise = None; failed = (o.as_before, o.untouched) }

pub groups_heard : {D : Type 0} (on : View D) (nodes : ℕ) (old : WholeNode) (before : D) (new : WholeNode) (after : D) (r : Result Grouped NodeFault) → OpensGroup on nodes old before new after r
    → IfOk r (λ done. AllCanBeHeard done.letters)
groups_heard on nodes old before new after (Ok done) o = can_be_heard done.letters o.mail.did.fits o.fits
groups_heard on nodes old before new after (Err Disk) o = tt
groups_heard on nodes old before new after (Err Worn) o = tt
groups_heard on nodes old before new after (Err (NoMemory true)) o = tt
groups_heard on nodes old before new after (Err (NoMemory false)) o = tt

same_before : (old new : Node) → new ≡ old → IsAsBefore old new
same_before old new same = record {
  seen = ap node_seen same;
  same = λ plan own is. subst (IsNodeOf plan own) (sym same) is;
  keeps = λ records keeps. subst (NodeKeeps records) (sym same) keeps;
  works = λ seen works. subst (CanWork seen) (sym same) works;
  end_is = ap end_in same;
}

-- and one that concluded its group
pub concludes_so : {D : Type 0} (on : View D) (buckets : ℕ) (old new : WholeNode) (d : D) (r : Result (Option Concluded) NodeFault) → CanWork (on.seen d) old.mail → ConcludesGroup buckets r old new
    → ConcludesGroupSo on r old.mail d new.mail d
concludes_so on buckets old new d (Ok (Some done)) works o = record {
  installed = (node_of new.maps).installed;
  promise = None;
  did = (installed_forms on (node_of new.maps).installed old.mail d new.mail done.letters works o.mail o.taken o.sends).did;
  plain = o.sends;
}
concludes_so on buckets old new d (Ok None) works o = (same_before old.mail new.mail o.2, refl)
concludes_so on buckets old new d (Err Disk) works o = o
concludes_so on buckets old new d (Err Worn) works o = o
concludes_so on buckets old new d (Err (NoMemory true)) works o = tt
concludes_so on buckets old new d (Err (NoMemory false)) works o = o

pub concludes_heard : (buckets : ℕ) (old new : WholeNode) (r : Result (Option Concluded) NodeFault) → ConcludesGroup buckets r old new → IfOk r (λ done. IfSome done (λ concluded. AllCanBeHeard concluded.letters))
concludes_heard buckets old new (Ok (Some done)) o = can_be_heard done.letters o.taken o.fits
concludes_heard buckets old new (Ok None) o = tt
concludes_heard buckets old new (Err why) o = tt

inside : (plan : Plan) (n : ℕ) → list_all (is_node plan) (n ∷ []) ≡ true → (1 ≤ n) × (n ≤ plan.nodes)
inside plan n named =
    let is : is_node plan n ≡ true = (and_parts (is_node plan n) true named).0 in
    (grind (arith, nat_tests), grind (arith, nat_tests))

-- a node that is named once may be named twice
pub named_twice : (plan : Plan) (n : ℕ) → list_all (is_node plan) (n ∷ []) ≡ true → list_all (is_node plan) (n ∷ n ∷ []) ≡ true
named_twice plan n named = let is : is_node plan n ≡ true = (and_parts (is_node plan n) true named).0 in ap (λ b. b && (b && true)) is

-- the node and its disk at their place, where the nodes are lent
module _ {D : Type 0} (on : View D) (n : ℕ) (s : Step) (forms : step_seen s ≡ steps.Step.Form n) (names : nodes_of_step s ≡ n ∷ []) (working : Works s) (lent old : Nodes D) (same : lent ≡ old) (fit : node_refusal old.plan (life_among old) s ≡ None)
    (ready : CanWorkOn on.seen old.plan old.lives.items old.disks.items) (k : ℕ) (at : k + 1 ≡ n) (l dl : Life) (d dd : D) (read : l ≡ get_or lent.lives.items k dl) (held : d ≡ get_or lent.disks.items k dd) where
  fits : (list_all (is_node old.plan) (n ∷ []) ≡ true) × (life_refusal s (life_among old n) ≡ None)
  fits = fit_of (list_all (is_node old.plan) (n ∷ [])) (life_refusal s (life_among old n))
      (subst (λ (x : steps.Step). (if list_all (is_node old.plan) (n ∷ []) then actor_refusal s (life_among old) (actor_of x) else Some fault.NoSuchNode) ≡ None) forms
      (subst (λ ns. (if list_all (is_node old.plan) ns then actor_refusal s (life_among old) (actor_of (step_seen s)) else Some fault.NoSuchNode) ≡ None) names fit))

  twice : list_all (is_node old.plan) (n ∷ n ∷ []) ≡ true
  twice = named_twice old.plan n fits.0

  read_old : l ≡ get_or old.lives.items k dl
  read_old = read ∙ ap (λ (x : Nodes D). get_or x.lives.items k dl) same

  held_old : d ≡ get_or old.disks.items k dd
  held_old = held ∙ ap (λ (x : Nodes D). get_or x.disks.items k dd) same

  life_here : slice_get old.lives.items k ≡ Some l
  life_here = life_at on.seen s n n k old twice fits.1 working ready at l dl d dd read_old held_old

  disk_here : slice_get old.disks.items k ≡ Some d
  disk_here = disk_at on.seen s n n k old twice fits.1 working ready at l dl d dd read_old held_old

  pub form_place : (node : WholeNode) × (l ≡ Up node) × WholeWorks (on.seen d) node
  form_place = up_there on.seen s n n k old twice fits.1 working ready at l dl d dd read_old held_old

  pub form_changed : (P : Life → D → Life → D → Type 0) (l' : Life) (d' : D) (new : Nodes D) → new.plan ≡ lent.plan → new.lives.items ≡ slice_set lent.lives.items k l' → new.disks.items ≡ slice_set lent.disks.items k d'
      → P l d l' d' → ChangesNode n P old new
  form_changed P l' d' new plan_is lives_are disks_are does = changed_at n k P old new l l' d d' at life_here disk_here (plan_is ∙ ap (λ (x : Nodes D). x.plan) same)
      (lives_are ∙ ap (λ (x : Nodes D). slice_set x.lives.items k l') same) (disks_are ∙ ap (λ (x : Nodes D). slice_set x.disks.items k d') same) does

  -- its disk is not touched
  pub form_changed_life : (P : Life → D → Life → D → Type 0) (l' : Life) (new : Nodes D) → new.plan ≡ lent.plan → new.lives.items ≡ slice_set lent.lives.items k l' → new.disks.items ≡ lent.disks.items → P l d l' d
      → ChangesNode n P old new
  form_changed_life P l' new plan_is lives_are disks_are does = changed_at n k P old new l l' d d at life_here disk_here (plan_is ∙ ap (λ (x : Nodes D). x.plan) same)
      (lives_are ∙ ap (λ (x : Nodes D). slice_set x.lives.items k l') same) (disks_are ∙ ap (λ (x : Nodes D). x.disks.items) same ∙ sym (set_same old.disks.items k d disk_here)) does

module _ {D : Type 0} (on : View D) where
  -- a step by which an epoch forms, whatever comes of it
  pub record IsForming (n : ℕ) (s : Step) : Type 0 where
    pub seen : step_seen s ≡ steps.Step.Form n
    pub named : (plan : Plan) (lives : ℕ → NodeLife) → node_refusal plan lives s ≡ None → list_all (is_node plan) (n ∷ []) ≡ true
    pub clock : (result : Result Said StepFault) (was : ℕ) → was ≡ seconds_after_step s result was
    pub passed : (it : Said) (old new : WorldState D) → HasPassed (Ok it) s old new
    pub asks : IsNoAsk s
    pub for : (v : joint_world.World) → IsForWhole v (whole_step s)

  -- and what it says where it was done
  pub record IsFormed (s : Step) (what : Said) : Type 0 where
    pub says : SaysSo s what
    pub goes_on : (m : ℕ) (was : NodeLife) → life_after_step (Ok what) s m was ≡ was
    pub falls : (nodes : ℕ) (lives : ℕ → NodeLife) → FallsSo (Ok what) nodes s lives
    pub cause : (old new : WorldState D) → FaultHasCause on (Ok what) s old new
    pub of_forming : IsSaidOfForming (said_seen what)

  pub group_forms : (n : ℕ) → IsForming n (step.Group n)
  group_forms n = record { seen = refl; named = λ plan lives fit. (fit_of (list_all (is_node plan) (n ∷ [])) (life_refusal (step.Group n) (lives n)) fit).0; clock = λ result was. refl; passed = λ it old new. tt; asks = tt; for = λ v. tt }

  pub group_formed : (n : ℕ) (epoch : EpochId) → IsFormed (step.Group n) (said.Grouped epoch)
  group_formed n epoch = record { says = tt; goes_on = λ m was. refl; falls = λ nodes lives. tt; cause = λ old new. tt; of_forming = tt }

  pub conclude_forms : (n : ℕ) → IsForming n (step.Conclude n)
  conclude_forms n = record { seen = refl; named = λ plan lives fit. (fit_of (list_all (is_node plan) (n ∷ [])) (life_refusal (step.Conclude n) (lives n)) fit).0; clock = λ result was. refl; passed = λ it old new. tt; asks = tt; for = λ v. tt }

  pub conclude_formed : (n : ℕ) (epoch : EpochId) (members : ℕ) → IsFormed (step.Conclude n) (said.Concluded epoch members)
  conclude_formed n epoch members = record { says = tt; goes_on = λ m was. refl; falls = λ nodes lives. tt; cause = λ old new. tt; of_forming = tt }

  module _ (n : ℕ) (s : Step) (f : IsForming n s) (old : Nodes D) (fit : node_refusal old.plan (life_among old) s ≡ None) (ready : CanWorkOn on.seen old.plan old.lives.items old.disks.items) where
    named : list_all (is_node old.plan) (n ∷ []) ≡ true
    named = f.named old.plan (life_among old) fit

    made_as : (tells : Bool) (w next : machine.World) (outcome : steps.StepOutcome) → MakesStep old.plan tells w (steps.Step.Form n) outcome next → MakesStep old.plan tells w (step_seen s) outcome next
    made_as tells w next outcome made = subst (λ (x : steps.Step). MakesStep old.plan tells w x outcome next) (sym f.seen) made

    -- It is refused, and nothing was done.
    module _ (flying : InFlight) (seconds : ℕ) (book : Book) where
      abbrev before : WorldState D
      before = state_with old flying seconds book

      -- the whole machine refuses it so
      abbrev pub Refuses : StepFault → Type 0
      Refuses why = (w : machine.World) → StateStandsFor on before w → (v : whole_world.World) → mail_world_of v ≡ w → AreMaps old.lives.items v.slots
          → whole_makes.MakesStep old.plan (tells_in on.seen before) v (whole_step s) (whole_fault why) v

      refused_so : (why : StepFault) → Refuses why → (IsDoneWhole (whole_fault why) → ⊥) → IsRefusedRight (Err why) (node_refusal old.plan (life_among old) s) → FallsSo (Err why) old.plan.nodes s (life_among old)
          → ((m : ℕ) → life_among old m ≡ life_after_step (Err why) s m (life_among old m)) → ChangesNothing on (Err why) s before before → StepDid on (Err why) s before before
      refused_so why refuses none right falls lives kept = record {
        plan = refl;
        handed = refl;
        refused = right;
        kind = tt;
        falls = falls;
        lives = lives;
        clock = f.clock (Err why) seconds;
        told = same_told on before;
        quiet = same_quiet on before;
        passed = tt;
        books = same_book (booked_by book);
        kept = kept;
        leads = λ known ended story v st sound. led_whole on before (Err why) s v st f.asks none (refuses (mail_world_of (whole_world_of v)) st.mail (whole_world_of v) refl st.maps);
        cause = λ w st. tt;
      }

      pub form_worn : Refuses fault.Worn → StepDid on (Err fault.Worn) s before before
      form_worn refuses = refused_so fault.Worn refuses (λ done. done) (sym fit) tt (λ m. refl) (same_unchanged on before s)

      pub form_crowded : Refuses fault.NoRoom → StepDid on (Err fault.NoRoom) s before before
      form_crowded refuses = refused_so fault.NoRoom refuses (λ done. done) (sym fit) tt (λ m. refl) (same_unchanged on before s)

      pub form_none : Refuses fault.NotAGroup → StepDid on (Err fault.NotAGroup) s before before
      form_none refuses = refused_so fault.NotAGroup refuses (λ done. done) (sym fit) tt (λ m. refl) (same_unchanged on before s)

    -- what the whole world makes of it
    abbrev pub WholeTo : WorldState D → Result Said StepFault → List Life → machine.World → machine.World → Type 0
    WholeTo start result lives w next = (v : whole_world.World) → mail_world_of v ≡ w → Stands old.plan v → AreMaps old.lives.items v.slots → LeadsWhole old.plan (tells_in on.seen start) result s lives v next

    -- The node worked.
    module _ (P : Life → D → Life → D → Type 0) (mid : Nodes D) (ch : ChangesNode n P old mid) (a : WholeNode) (was : ch.life ≡ Up a) (own : OwnKept ch.life ch.life') where
      up_boot : (b : WholeNode) → ch.life' ≡ Up b → (node_seen b.mail).boot ≡ (node_seen a.mail).boot → life_seen ch.life' ≡ life_seen ch.life
      up_boot b is boot = ap life_seen is ∙ ap life.Up boot ∙ sym (ap life_seen was)

      -- it did what it was to do
      pub formed_stays : (b : WholeNode) (letters : List Letter) → ch.life' ≡ Up b → HasFormed on learns_nothing a.mail ch.disk b.mail ch.disk' letters → WholeWorks (on.seen ch.disk') b → StaysUp on n P old mid ch ready a was b
      formed_stays b letters is h can = did_stay on n P old mid ch ready a was (forms_rule learns_nothing h.installed h.promise letters) b letters is h.did can

      -- it is as it was
      pub idle_stays : (b : WholeNode) → ch.life' ≡ Up b → IsAsBefore a.mail b.mail → ch.disk' ≡ ch.disk → WholeWorks (on.seen ch.disk') b → StaysUp on n P old mid ch ready a was b
      idle_stays b is alike untold can = read_stays on n P old mid ch ready a was b is alike (nothing_read on ch.disk ch.disk' untold) (ap on.faults untold) can

      module _ (flying : InFlight) (early : nat_le letters_end flying.sent ≡ false) (seconds : ℕ) (book book' : Book) where
        abbrev first : WorldState D
        first = state_with old flying seconds book

        abbrev between : WorldState D
        between = state_with mid flying seconds book'

        goes : (w : machine.World) → StateStandsFor on first w → (node : plain.Node) (disk : List Record) → IsUp w n node disk → step_fault old.plan (steps.Step.Form n) w ≡ None
        goes w st node disk up = form_goes old.plan w n (slot_up node disk) named up node refl (ap (nat_le letters_end) (sym st.sent) ∙ early)

        -- the whole world, where it was done,
        abbrev pub Formed : (what : Said) (b : WholeNode) (letters : List Letter) → HasFormed on learns_nothing a.mail ch.disk b.mail ch.disk' letters → Nodes D → InFlight → Type 0
        Formed what b letters h new flying' = (w : machine.World) (st : StateStandsFor on first w)
            → (sent : WorkSent on n P old mid new ch (forms_rule learns_nothing h.installed h.promise letters) a was flying flying' seconds book book' letters w.flying w.book w)
            → WholeTo first (Ok what) new.lives.items w (after (record w { flying = w.flying; book = w.book }) n (forms_rule learns_nothing h.installed h.promise letters sent.node sent.disk))

        -- its letters are in flight
        pub formed_did : (what : Said) → IsFormed s what → (b : WholeNode) → ch.life' ≡ Up b → (letters : List Letter) (h : HasFormed on learns_nothing a.mail ch.disk b.mail ch.disk' letters) → entries_of book' ≡ entries_of book
            → (new : Nodes D) (flying' : InFlight) → SentOff on old.plan letters None flying flying' mid new → Formed what b letters h new flying' → StepDid on (Ok what) s first (state_with new flying' seconds book')
        formed_did what g b is letters h wrote new flying' off whole =
            let rule : Rule = forms_rule learns_nothing h.installed h.promise letters in
            work_did on n P old mid new ch _ off.noticed.only flying flying' seconds book book' (Ok what) s (f.clock (Ok what) seconds) (sym fit) g.says (g.falls old.plan.nodes (life_among old))
            (λ m. work_goes_on on n P old mid new ch _ off.noticed.only (up_boot b is h.did.boot) m ∙ sym (g.goes_on m (life_among old m)))
            h.did.appends.told
            (subst (λ x. on.faults ch.disk ≤ x) (sym h.did.appends.quiet) (omega arith))
            (λ boot _. h.did.appends.quiet)
            (f.passed what first (state_with new flying' seconds book'))
            (as_long (booked_by book) (booked_by book') (ap entries_seen wrote))
            tt
            f.asks
            (λ v s done. f.for v)
            own
            (λ w st.
            let sent : WorkSent on n P old mid new ch rule a was flying flying' seconds book book' letters w.flying w.book w =
            work_sent on n P old mid new ch rule a was flying flying' seconds book book' b is letters h.did old.plan None off w st w.flying refl w.book (ap entries_seen wrote ∙ st.book) in
            record {
              next = after (record w { flying = w.flying; book = w.book }) n (rule sent.node sent.disk);
              stands = sent.stands;
              made = made_as (tells_in on.seen first) w (after (record w { flying = w.flying; book = w.book }) n (rule sent.node sent.disk)) (steps.StepOutcome.Says (said_seen what)) (
                goes w st sent.node sent.disk sent.up,
                FormsAt.Does sent.node sent.disk sent.up g.of_forming (rule sent.node sent.disk) (record { installed = h.installed; promise = h.promise; node_is = refl; disk_is = refl; sends = h.plain }) refl,
              );
              stops = sent.stops;
              whole = whole w st sent;
            })
            (g.cause first (state_with new flying' seconds book'))

        -- It went down in it, or after it: its promise stands, or may stand, or does not.
        module _ (installed : Option Membership) (promise : Option EpochId) (letters : List Letter) (down : ch.life' ≡ Down) (told : IsToldAlike (on.seen ch.disk) (on.seen ch.disk')) (later : on.faults ch.disk ≤ on.faults ch.disk')
            (wrote : entries_of book' ≡ entries_of book ++ written.Down n ∷ [])
            (cut : (w : machine.World) → StateStandsFor on first w → CutSlot on n P old mid mid ch (forms_rule learns_nothing installed promise letters) a was flying flying seconds book book' w) where
          abbrev rule_cut : Rule
          rule_cut = forms_rule learns_nothing installed promise letters

          was_to_work : WasToWork old.plan.nodes s (life_among old n) n
          was_to_work = let within = inside old.plan n named in record { above = within.0; within = within.1; worked = inl ((node_seen a.mail).boot, ap seen_life ch.was ∙ ap life_seen was) }

          lives_down : (m : ℕ) → life_among mid m ≡ turned n life.Down m (life_among old m)
          lives_down m = work_lives on n P old mid mid ch (λ slots. slots) (nothing_else on mid) m ∙ ap (λ l. turned n l m (life_among old m)) (ap life_seen down)

          not_up : (boot : ℕ) → life_seen ch.life' ≡ life.Up boot → ⊥
          not_up boot up = let never : life.Down ≡ life.Up boot = sym (ap life_seen down) ∙ up in cc

          booked_is : (w : machine.World) → StateStandsFor on first w → booked_by book' ≡ w.book ++ WentDown n ∷ []
          booked_is w st = ap entries_seen wrote ∙ entries_more (entries_of book) (written.Down n ∷ []) ∙ ap (λ b. b ++ WentDown n ∷ []) st.book

          -- and in the whole world
          abbrev pub Falls : Result Said StepFault → Type 0
          Falls result = (w : machine.World) (st : StateStandsFor on first w) → WholeTo first result mid.lives.items w (cut_world w n (cut w st).disk (cut w st).front (cut w st).pending)

          -- its disk failed
          pub form_failed : SaysSo s (said.Faulted n) → Rose (on.faults ch.disk) (on.faults ch.disk') → Falls (Ok (said.Faulted n)) → StepDid on (Ok (said.Faulted n)) s first between
          form_failed fails rose whole = work_did on n P old mid mid ch (λ slots. slots) (nothing_else on mid) flying flying seconds book book' (Ok (said.Faulted n)) s (f.clock (Ok (said.Faulted n)) seconds) (sym fit) fails was_to_work lives_down
              told later (λ boot up. absurd (not_up boot up)) (f.passed (said.Faulted n) first between) (longer_by book book' (written.Down n ∷ []) wrote) tt f.asks (λ v s done. f.for v) own
              (λ w st.
              let c = cut w st in
              record {
                next = cut_world w n c.disk c.front c.pending;
                stands = cut_stands on n P old mid mid ch rule_cut a was flying flying seconds book book' down (λ slots. slots) (nothing_else on mid) w st c w.flying st.flying refl w.book (booked_is w st);
                made = made_as (tells_in on.seen first) w (cut_world w n c.disk c.front c.pending) (steps.StepOutcome.Says (steps.Said.Faulted n)) (
                  goes w st c.node c.disk c.up,
                  FormsAt.FailsForming c.node c.disk promise c.up refl (record { front = c.front; pending = c.pending; one = c.one; cut = c.cut; is = refl }),
                );
                stops = cut_stops on n P old mid mid ch rule_cut a was flying flying seconds book book' down (λ slots. slots) (nothing_else on mid) w st c (cut_world w n c.disk c.front c.pending).slots (λ m. refl);
                whole = whole w st;
              })
              (caused on n P old mid ch s flying flying seconds seconds book book' (inl rose))

          -- or memory ran out
          pub form_fell : Falls (Err (fault.NoMemory (Some n))) → StepDid on (Err (fault.NoMemory (Some n))) s first between
          form_fell whole = work_did on n P old mid mid ch (λ slots. slots) (nothing_else on mid) flying flying seconds book book' (Err (fault.NoMemory (Some n))) s (f.clock (Err (fault.NoMemory (Some n))) seconds) tt tt was_to_work lives_down
              told later (λ boot up. absurd (not_up boot up)) tt (longer_by book book' (written.Down n ∷ []) wrote) tt f.asks (λ v s done. f.for v) own
              (λ w st.
              let c = cut w st in
              record {
                next = cut_world w n c.disk c.front c.pending;
                stands = cut_stands on n P old mid mid ch rule_cut a was flying flying seconds book book' down (λ slots. slots) (nothing_else on mid) w st c w.flying st.flying refl w.book (booked_is w st);
                made = made_as (tells_in on.seen first) w (cut_world w n c.disk c.front c.pending) (steps.StepOutcome.NoMemory (Some n))
                    (RunsShort.Forming c.node c.disk promise c.up refl (record { front = c.front; pending = c.pending; one = c.one; cut = c.cut; is = refl }));
                stops = cut_stops on n P old mid mid ch rule_cut a was flying flying seconds book book' down (λ slots. slots) (nothing_else on mid) w st c (cut_world w n c.disk c.front c.pending).slots (λ m. refl);
                whole = whole w st;
              })
              tt

        -- where its disk is as it was, nothing more stands there
        pub untouched_cut : ch.disk' ≡ ch.disk → (installed : Option Membership) (letters : List Letter) (w : machine.World) → StateStandsFor on first w
            → CutSlot on n P old mid mid ch (forms_rule learns_nothing installed None letters) a was flying flying seconds book book' w
        untouched_cut untold installed letters w st =
            let rule : Rule = forms_rule learns_nothing installed None letters in
            let (slot, here, stood) = up_slot on n P old mid mid ch rule a was flying flying seconds book book' w st in
            let whole : slot ≡ slot_up (node_seen a.mail) slot.disk = up_is on n P old mid mid ch rule a was flying flying seconds book book' slot stood in
            let (_, fit_all, holds) = fallen on n ch.disk slot a stood in
            let stands : SlotStands on n Down ch.disk (record { life = plain.Life.Down []; disk = slot.disk }) = ([], refl, fit_all, holds) in
            let keeps : StopsKeep on n ch.disk ch.disk slot (record { life = plain.Life.Down []; disk = slot.disk }) = falls_kept on n ch.disk slot (Up a) (plain.Life.Down []) refl (alive slot whole) stood in
            record {
              node = node_seen a.mail;
              disk = slot.disk;
              up = here ∙ ap Some whole;
              node_is = refl;
              front = [];
              pending = [];
              one = omega arith;
              cut = record { missing = []; is = refl };
              stands = subst (λ d. SlotStands on n Down d (record { life = plain.Life.Down []; disk = slot.disk ++ [] })) (sym untold)
                  (subst (λ xs. SlotStands on n Down ch.disk (record { life = plain.Life.Down []; disk = xs })) (sym (append-nil slot.disk)) stands);
              keeps = subst (λ d. StopsKeep on n ch.disk d (slot_up (node_seen a.mail) slot.disk) (record { life = plain.Life.Down []; disk = slot.disk ++ [] })) (sym untold)
                  (subst (λ xs. StopsKeep on n ch.disk ch.disk (slot_up (node_seen a.mail) slot.disk) (record { life = plain.Life.Down []; disk = xs })) (sym (append-nil slot.disk))
                  (subst (λ (x : Slot). StopsKeep on n ch.disk ch.disk x (record { life = plain.Life.Down []; disk = slot.disk })) whole keeps));
            }
          where
            alive : (slot : Slot) → slot ≡ slot_up (node_seen a.mail) slot.disk → slot.life ≢ plain.Life.Lost
            alive slot whole lost = let never : plain.Life.Up (node_seen a.mail) ≡ plain.Life.Lost = sym (ap (λ (x : Slot). x.life) whole) ∙ lost in cc

        -- It did nothing, and is as it was.
        module _ (b : WholeNode) (is : ch.life' ≡ Up b) (alike : IsAsBefore a.mail b.mail) (stay : node_of b.maps ≡ node_of a.maps) (untold : ch.disk' ≡ ch.disk) (wrote : entries_of book' ≡ entries_of book) where
          -- the whole world is as it was
          abbrev pub Idles : StepFault → Type 0
          Idles why = (w : machine.World) (st : StateStandsFor on first w) → WholeTo first (Err why) mid.lives.items w w

          idle_so : (why : StepFault) → Idles why → IsRefusedRight (Err why) (node_refusal old.plan (life_among old) s) → FallsSo (Err why) old.plan.nodes s (life_among old)
              → ((m : ℕ) → life_among old m ≡ life_after_step (Err why) s m (life_among old m)) → (IsUnchanged on s first between → ChangesNothing on (Err why) s first between)
              → ((tells : Bool) (w : machine.World) → MakesStep old.plan tells w (steps.Step.Form n) (fault_seen why) w) → StepDid on (Err why) s first between
          idle_so why whole right falls lives kept made =
              let rule : Rule = forms_rule learns_nothing None None [] in
              work_did on n P old mid mid ch (λ slots. slots) (nothing_else on mid) flying flying seconds book book' (Err why) s (f.clock (Err why) seconds) right tt falls
              (λ m. work_goes_on on n P old mid mid ch (λ slots. slots) (nothing_else on mid) (up_boot b is (ap (λ (x : plain.Node). x.boot) alike.seen)) m ∙ lives m)
              (ap (λ d. is_some (on.seen d)) untold)
              (subst (λ d. on.faults ch.disk ≤ on.faults d) (sym untold) (omega arith))
              (λ boot _. ap on.faults untold)
              tt
              (as_long (booked_by book) (booked_by book') (ap entries_seen wrote))
              (kept (unchanged_by n P old mid ch flying flying seconds seconds book book' on s (memory_kept ch.life ch.life' a b was is alike stay (turns_same ch.life ch.life' own a b was is stay))
              (λ _. untold) (λ _. (nothing_read on ch.disk ch.disk' untold, ap on.faults untold)) refl refl (ap entries_seen wrote)))
              f.asks
              (λ v s done. f.for v)
              own
              (λ w st. record {
                next = w;
                stands = idle_stands on n P old mid mid ch rule a was flying flying seconds book book' b is alike untold (λ slots. slots) (nothing_else on mid) w st w.flying st.flying refl (ap entries_seen wrote);
                made = made_as (tells_in on.seen first) w w (fault_seen why) (made (tells_in on.seen first) w);
                stops = idle_stops on n P old mid mid ch rule a was flying flying seconds book book' b is alike untold (λ slots. slots) (nothing_else on mid) w st w.slots (λ m. refl);
                whole = whole w st;
              })
              tt

          pub form_idle_worn : Idles fault.Worn → StepDid on (Err fault.Worn) s first between
          form_idle_worn whole = idle_so fault.Worn whole (sym fit) tt (λ m. refl) (λ same. same) (λ tells w. (inr tt, refl))

          pub form_idle_none : Idles fault.NotAGroup → StepDid on (Err fault.NotAGroup) s first between
          form_idle_none whole = idle_so fault.NotAGroup whole (sym fit) tt (λ m. refl) (λ same. same) (λ tells w. (inr tt, refl))

          pub form_idle_short : Idles (fault.NoMemory None) → StepDid on (Err (fault.NoMemory None)) s first between
          form_idle_short whole = idle_so (fault.NoMemory None) whole tt tt (λ m. refl) (λ same. same) (λ tells w. refl)

    -- All that the step leads to.
    module _ (is_settled : D → Type 0) (flying : InFlight) (early : nat_le letters_end flying.sent ≡ false) (book : Book) where
      pub record FormDid (roomy : Book) (result : Result Said StepFault) (new : Nodes D) (flying' : InFlight) (book' : Book) : Type 0 where
        pub did : (seconds : ℕ) → StepDid on result s (state_with old flying seconds book) (state_with new flying' seconds book')
        pub works : CanWorkOn on.seen new.plan new.lives.items new.disks.items
        pub settled : (seconds : ℕ) → AreSettled is_settled (state_with old flying seconds book) → AreSettled is_settled (state_with new flying' seconds book')
        pub spare : spare_of roomy + all_falls_left new.lives.items ≤ spare_of book' + all_falls_left old.lives.items + 1

      -- the book has room for what may be written
      module _ (roomy : Book) (wrote : entries_of roomy ≡ entries_of book) (room : all_falls_left old.lives.items + 1 ≤ spare_of roomy)
          (P : Life → D → Life → D → Type 0) (mid : Nodes D) (ch : ChangesNode n P old mid) (a : WholeNode) (was : ch.life ≡ Up a) (own : OwnKept ch.life ch.life') where
        -- It did what it was to do, and its letters were sent, or memory ran out.
        module _ (b : WholeNode) (is : ch.life' ≡ Up b) (letters : List Letter) (h : HasFormed on learns_nothing a.mail ch.disk b.mail ch.disk' letters) (settles : is_settled ch.disk → is_settled ch.disk') (can : WholeWorks (on.seen ch.disk') b)
            (new : Nodes D) (flying' : InFlight) (book' : Book) where
          -- the whole world once it went down
          abbrev pub Undone : Type 0
          Undone = (t : ChangesNode n (AreThese ch.life Down ch.disk ch.disk') old new) (seconds : ℕ) (w : machine.World) (st : StateStandsFor on (state_with old flying seconds book) w)
              → (c : CutSlot on n (AreThese ch.life Down ch.disk ch.disk') old new new t (forms_rule learns_nothing h.installed h.promise letters) a (t.does.life_was ∙ was) flying flying seconds book book' w)
              → WholeTo (state_with old flying seconds book) (Err (fault.NoMemory (Some n))) new.lives.items w (cut_world w n c.disk c.front c.pending)

          undone_by : ChangesNode n (AreThese ch.life Down ch.disk ch.disk') old new → flying' ≡ flying → IsEntered n roomy book' → Undone → FormDid roomy (Err (fault.NoMemory (Some n))) new flying' book'
          undone_by t flying_is entered undone =
              let rule : Rule = forms_rule learns_nothing h.installed h.promise letters in
              let was' : t.life ≡ Up a = t.does.life_was ∙ was in
              let did : NodeDid on rule a.mail t.disk b.mail t.disk' letters =
              subst (λ d. NodeDid on rule a.mail d b.mail t.disk' letters) (sym t.does.disk_was) (subst (λ d. NodeDid on rule a.mail ch.disk b.mail d letters) (sym t.does.disk_is) h.did) in
              let later : on.faults t.disk ≤ on.faults t.disk' = subst (λ x. on.faults t.disk ≤ x) (sym did.appends.quiet) (omega arith) in
              let fell : FallsDown on n (AreThese ch.life Down ch.disk ch.disk') old new t ready a was' = record { is = t.does.life_is; told = did.appends.told; later = later } in
              record {
                did = λ seconds. subst (λ (x : InFlight). StepDid on (Err (fault.NoMemory (Some n))) s (state_with old flying seconds book) (state_with new x seconds book')) (sym flying_is)
                    (form_fell (AreThese ch.life Down ch.disk ch.disk') new t a was' (λ b up. let never : Down ≡ Up b = sym t.does.life_is ∙ up in cc) flying early seconds book book' h.installed h.promise letters t.does.life_is did.appends.told later
                    (entered.wrote ∙ ap (λ xs. xs ++ written.Down n ∷ []) wrote)
                    (λ w st. work_undone on n (AreThese ch.life Down ch.disk ch.disk') old new new t rule a was' flying flying seconds book book' b letters did w st)
                    (λ w st. undone t seconds w st (work_undone on n (AreThese ch.life Down ch.disk ch.disk') old new new t rule a was' flying flying seconds book book' b letters did w st)));
                works = down_ready on n (AreThese ch.life Down ch.disk ch.disk') old new t ready a was' fell;
                settled = λ seconds. down_settled on n (AreThese ch.life Down ch.disk ch.disk') old new t ready a was' fell flying flying' seconds seconds book book' is_settled;
                spare = omega (arith, down_falls on n (AreThese ch.life Down ch.disk ch.disk') old new t ready a was' fell, entered.spare);
              }

          pub answered_by : (what : Said) → IsFormed s what → (SentOff on old.plan letters None flying flying' mid new → (seconds : ℕ) → Formed P mid ch a was own flying early seconds book book' what b letters h new flying') → Undone
              → (r : Result Said StepFault) → AnswersSent on mid.plan n None what letters r mid flying roomy new flying' book' → FormDid roomy r new flying' book'
          answered_by what g formed undone (Ok it) (it_is, off, book_is) =
              let stays = formed_stays P mid ch a was own b letters is h can in
              let sent : SentOff on old.plan letters None flying flying' mid new = subst (λ p. SentOff on p letters None flying flying' mid new) ch.plan off in
              record {
                did = λ seconds. subst (λ x. StepDid on (Ok x) s (state_with old flying seconds book) (state_with new flying' seconds book')) (sym it_is)
                    (formed_did P mid ch a was own flying early seconds book book' what g b is letters h (ap entries_of book_is ∙ wrote) new flying' sent (formed sent seconds));
                works = subst (λ p. CanWorkOn on.seen p new.lives.items new.disks.items) (sym off.noticed.only.plan) off.noticed.works;
                settled = λ seconds st. only_settled on (λ slots. all_missed Crowded slots (put_down letters (taken_out None flying)).left) mid new off.noticed.only flying flying' seconds seconds book' book' is_settled
                    (stays_settled on n P old mid ch ready a was b stays flying flying seconds seconds book book' is_settled settles st);
                spare = omega (arith, off.noticed.only.falls, stays_falls on n P old mid ch ready a was b stays, ap spare_of book_is);
              }
          answered_by what g formed undone (Err why) (why_is, turned, flying_is, entered) =
              subst (λ x. FormDid roomy (Err x) new flying' book') (sym why_is) (undone_by (turned_after n P Down old mid new ch turned) flying_is entered undone)

        -- It is as it was.
        module _ (b : WholeNode) (is : ch.life' ≡ Up b) (alike : IsAsBefore a.mail b.mail) (stay : node_of b.maps ≡ node_of a.maps) (untold : ch.disk' ≡ ch.disk) (can : WholeWorks (on.seen ch.disk') b) (book' : Book) (same : entries_of book' ≡ entries_of roomy) (spare : spare_of roomy ≤ spare_of book' + 1) where
          kept_by : (why : StepFault) → ((seconds : ℕ) → StepDid on (Err why) s (state_with old flying seconds book) (state_with mid flying seconds book')) → FormDid roomy (Err why) mid flying book'
          kept_by why did =
              let stays = idle_stays P mid ch a was own b is alike untold can in
              record {
                did = did;
                works = stays_ready on n P old mid ch ready a was b stays;
                settled = λ seconds. stays_settled on n P old mid ch ready a was b stays flying flying seconds seconds book book' is_settled (λ was_settled. subst is_settled (sym untold) was_settled);
                spare = omega (arith, stays_falls on n P old mid ch ready a was b stays, spare);
              }

          abbrev pub Keeps : StepFault → Type 0
          Keeps why = (seconds : ℕ) → Idles P mid ch a was own flying early seconds book book' b is alike stay untold (same ∙ wrote) why

          pub worn_by : Keeps fault.Worn → FormDid roomy (Err fault.Worn) mid flying book'
          worn_by whole = kept_by fault.Worn (λ seconds. form_idle_worn P mid ch a was own flying early seconds book book' b is alike stay untold (same ∙ wrote) (whole seconds))

          pub none_by : Keeps fault.NotAGroup → FormDid roomy (Err fault.NotAGroup) mid flying book'
          none_by whole = kept_by fault.NotAGroup (λ seconds. form_idle_none P mid ch a was own flying early seconds book book' b is alike stay untold (same ∙ wrote) (whole seconds))

          pub short_by : Keeps (fault.NoMemory None) → FormDid roomy (Err (fault.NoMemory None)) mid flying book'
          short_by whole = kept_by (fault.NoMemory None) (λ seconds. form_idle_short P mid ch a was own flying early seconds book book' b is alike stay untold (same ∙ wrote) (whole seconds))

        -- It went down.
        module _ (down : ch.life' ≡ Down) (told : IsToldAlike (on.seen ch.disk) (on.seen ch.disk')) (later : on.faults ch.disk ≤ on.faults ch.disk') (book' : Book) (entered : entries_of book' ≡ entries_of roomy ++ written.Down n ∷ [])
            (spare : spare_of roomy ≤ spare_of book' + 1) where
          fell_so : FallsDown on n P old mid ch ready a was
          fell_so = record { is = down; told = told; later = later }

          down_by : (result : Result Said StepFault) → ((seconds : ℕ) → StepDid on result s (state_with old flying seconds book) (state_with mid flying seconds book')) → FormDid roomy result mid flying book'
          down_by result did = record {
            did = did;
            works = down_ready on n P old mid ch ready a was fell_so;
            settled = λ seconds. down_settled on n P old mid ch ready a was fell_so flying flying seconds seconds book book' is_settled;
            spare = omega (arith, down_falls on n P old mid ch ready a was fell_so, spare);
          }

          now_wrote : entries_of book' ≡ entries_of book ++ written.Down n ∷ []
          now_wrote = entered ∙ ap (λ xs. xs ++ written.Down n ∷ []) wrote

          -- the whole world once it went down
          abbrev pub Cuts : Option Membership → Option EpochId → Result Said StepFault → Type 0
          Cuts installed promise result = (seconds : ℕ) (w : machine.World) (st : StateStandsFor on (state_with old flying seconds book) w)
              → (c : CutSlot on n P old mid mid ch (forms_rule learns_nothing installed promise []) a was flying flying seconds book book' w)
              → WholeTo (state_with old flying seconds book) result mid.lives.items w (cut_world w n c.disk c.front c.pending)

          pub failed_by : SaysSo s (said.Faulted n) → (installed : Option Membership) (promise : Option EpochId) → NodeStopped on (forms_rule learns_nothing installed promise []) a.mail ch.disk ch.disk' → Rose (on.faults ch.disk) (on.faults ch.disk')
              → Cuts installed promise (Ok (said.Faulted n)) → FormDid roomy (Ok (said.Faulted n)) mid flying book'
          failed_by fails installed promise stopped rose whole = down_by (Ok (said.Faulted n)) (λ seconds. form_failed P mid ch a was own flying early seconds book book' installed promise [] down told later now_wrote
              (λ w st. work_stopped on n P old mid mid ch (forms_rule learns_nothing installed promise []) a was flying flying seconds book book' stopped w st) fails rose
              (λ w st. whole seconds w st (work_stopped on n P old mid mid ch (forms_rule learns_nothing installed promise []) a was flying flying seconds book book' stopped w st)))

          pub fell_by : (installed : Option Membership) (promise : Option EpochId) → NodeStopped on (forms_rule learns_nothing installed promise []) a.mail ch.disk ch.disk' → Cuts installed promise (Err (fault.NoMemory (Some n)))
              → FormDid roomy (Err (fault.NoMemory (Some n))) mid flying book'
          fell_by installed promise stopped whole = down_by (Err (fault.NoMemory (Some n))) (λ seconds. form_fell P mid ch a was own flying early seconds book book' installed promise [] down told later now_wrote
              (λ w st. work_stopped on n P old mid mid ch (forms_rule learns_nothing installed promise []) a was flying flying seconds book book' stopped w st)
              (λ w st. whole seconds w st (work_stopped on n P old mid mid ch (forms_rule learns_nothing installed promise []) a was flying flying seconds book book' stopped w st)))

          pub fell_untold : ch.disk' ≡ ch.disk → Cuts None None (Err (fault.NoMemory (Some n))) → FormDid roomy (Err (fault.NoMemory (Some n))) mid flying book'
          fell_untold untold whole = down_by (Err (fault.NoMemory (Some n))) (λ seconds. form_fell P mid ch a was own flying early seconds book book' None None [] down told later now_wrote
              (λ w st. untouched_cut P mid ch a was own flying early seconds book book' untold None [] w st)
              (λ w st. whole seconds w st (untouched_cut P mid ch a was own flying early seconds book book' untold None [] w st)))

      -- what is cut of a promise
      cut_of : (promise : Option EpochId) (disk front pending missing : List Record) → disk ++ promise_records promise ≡ disk ++ ((front ++ pending) ++ missing) → promise_records promise ≡ (front ++ pending) ++ missing
      cut_of promise disk front pending missing is = sym (drop_front disk (promise_records promise)) ∙ ap (drop (length disk)) is ∙ drop_front disk ((front ++ pending) ++ missing)

      -- A node opened a group, or stopped as it did.
      module _ (s_is : s ≡ step.Group n) (roomy : Book) (wrote : entries_of roomy ≡ entries_of book) (room : all_falls_left old.lives.items + 1 ≤ spare_of roomy) (opened : Result Grouped NodeFault) (mid : Nodes D)
          (ch : ChangesNode n (GroupsAt on is_settled old.plan.nodes opened) old mid) where
        abbrev P_group : Life → D → Life → D → Type 0
        P_group = GroupsAt on is_settled old.plan.nodes opened

        abbrev a_node : WholeNode
        a_node = ch.does.0.old

        abbrev b_node : WholeNode
        b_node = ch.does.0.new

        abbrev Opens : Result Grouped NodeFault → Type 0
        Opens r = OpensGroup on old.plan.nodes a_node ch.disk b_node ch.disk' r × (ch.life' ≡ life_left r b_node) × (LeavesUp r → (is_settled ch.disk → is_settled ch.disk') × WholeWorks (on.seen ch.disk') b_node)

        opens_own : OwnKept ch.life ch.life'
        opens_own = turns_keep on.seen (λ result old before new after. GroupsSo on result old before new after) (λ result old_node before new after. OpensGroup on old.plan.nodes old_node before new after result)
            opened ch.life ch.disk ch.life' ch.disk' ch.does.0

        opens_as : (r : Result Grouped NodeFault) → opened ≡ r → Opens r
        opens_as r e = subst Opens e (ch.does.0.maps, ch.does.0.is, λ up. (ch.does.1 up, ch.does.0.works up))

        own_here : a_node.mail.store.own ≡ n
        own_here = (works_there on n P_group old mid ch ready a_node ch.does.0.was).0.own_is

        fit_here : node_refusal old.plan (life_among old) (step.Group n) ≡ None
        fit_here = subst (λ (x : Step). node_refusal old.plan (life_among old) x ≡ None) s_is fit

        at_here : of_node old.lives.items n ≡ Some (Up a_node)
        at_here = ch.was ∙ ap Some ch.does.0.was

        next_is : Some (next_of a_node) ≡ Some (maps_rules.next_epoch n (node_of a_node.maps))
        next_is = ap (λ k. Some (maps_rules.next_epoch k (node_of a_node.maps))) own_here

        -- the whole machine lets it
        goes_whole : (seconds : ℕ) (w : machine.World) → StateStandsFor on (state_with old flying seconds book) w → (v : whole_world.World) → mail_world_of v ≡ w → AreMaps old.lives.items v.slots
            → nat_le greatest_epoch (node_of a_node.maps).heard ≡ false → nat_le (old.plan.nodes - 1) (room_left flying.flights) ≡ true → (disk : List Record) → whole_world.IsUp v n (whole_seen a_node) disk
            → whole_steps.step_fault old.plan (whole_steps.Step.OpenGroup n) v ≡ None
        goes_whole seconds w st v seen maps fresh space disk there =
            group_faults on n old flying seconds book w st v seen maps a_node at_here fit_here disk there false false false early fresh (some_room (old.plan.nodes - 1) (room_left flying.flights) space)

        pub opened_within : n ≤ mid.plan.nodes
        opened_within = subst (λ (p : Plan). n ≤ p.nodes) (sym ch.plan) (inside old.plan n named).1

        -- as messages see it
        forms_of : (done : Grouped) → opened ≡ Ok done → HasFormed on learns_nothing a_node.mail ch.disk b_node.mail ch.disk' done.letters
        forms_of done e = groups_so on old.plan.nodes a_node ch.disk b_node ch.disk' (Ok done) (opens_as (Ok done) e).0

        pub opened_ready : (done : Grouped) → opened ≡ Ok done → CanWorkOn on.seen mid.plan mid.lives.items mid.disks.items
        opened_ready done e = let o = opens_as (Ok done) e in
            stays_ready on n P_group old mid ch ready a_node ch.does.0.was b_node (formed_stays P_group mid ch a_node ch.does.0.was opens_own b_node done.letters o.1 (forms_of done e) (o.2 tt).1)

        module _ (space : nat_le (old.plan.nodes - 1) (room_left flying.flights) ≡ true) where
          pub opened_sent : (done : Grouped) → opened ≡ Ok done → (items : List Letter) → items ≡ done.letters → IsFormed s (said.Grouped done.epoch) → (r : Result Said StepFault) (new : Nodes D) (flying' : InFlight) (book' : Book)
              → AnswersSent on mid.plan n None (said.Grouped done.epoch) items r mid flying roomy new flying' book' → FormDid roomy r new flying' book'
          unfolding groups_so
          opened_sent done e items same g r new flying' book' sent =
              let o = opens_as (Ok done) e in
              let h = groups_so on old.plan.nodes a_node ch.disk b_node ch.disk' (Ok done) o.0 in
              answered_by roomy wrote room P_group mid ch a_node ch.does.0.was opens_own b_node o.1 done.letters h (o.2 tt).0 (o.2 tt).1 new flying' book' (said.Grouped done.epoch) g
              (λ off seconds w st did v seen sound maps.
              let there = up_whole old.lives.items w v seen maps n a_node did.node did.disk at_here did.up did.node_is in
              subst (λ (x : Step). LeadsWhole old.plan (tells_in on.seen (state_with old flying seconds book)) (Ok (said.Grouped done.epoch)) x new.lives.items v
              (after (record w { flying = w.flying; book = w.book }) n (forms_rule learns_nothing h.installed h.promise done.letters did.node did.disk))) (sym s_is)
              (opened_whole on n P_group old mid new ch _ off.noticed.only a_node b_node own_here o.1 (tells_in on.seen (state_with old flying seconds book)) w v seen sound maps did.node did.disk there did.keeps ch.disk ch.disk' done o.0
              (goes_whole seconds w st v seen maps o.0.fresh space did.disk there)
              (forms_rule learns_nothing h.installed h.promise done.letters did.node did.disk)
              (ap (λ m. forms_rule learns_nothing h.installed h.promise done.letters m did.disk) did.node_is
              ∙ ap (λ x. record { node = x; disk = did.disk ++ promise_records (Some (next_of a_node)); out = done.letters }) (h.did.node did.disk did.keeps))))
              (λ t seconds w st c v seen sound maps.
              let there = up_whole old.lives.items w v seen maps n a_node c.node c.disk at_here c.up c.node_is in
              subst (λ (x : Step). LeadsWhole old.plan (tells_in on.seen (state_with old flying seconds book)) (Err (fault.NoMemory (Some n))) x new.lives.items v (cut_world w n c.disk c.front c.pending)) (sym s_is)
              (open_short on n (AreThese ch.life Down ch.disk ch.disk') old new new t (λ slots. slots) (nothing_else on new) a_node (λ node up. let never : Down ≡ Up node = sym t.does.life_is ∙ up in cc)
              (tells_in on.seen (state_with old flying seconds book)) w v seen maps c.disk there (Some (next_of a_node)) c.front c.pending c.cut.missing c.one
              (cut_of (Some (next_of a_node)) c.disk c.front c.pending c.cut.missing c.cut.is) next_is))
              r
              (subst (λ ls. AnswersSent on mid.plan n None (said.Grouped done.epoch) ls r mid flying roomy new flying' book') same sent)

          pub opened_not : (why : NodeFault) → opened ≡ Err why → (result : Result Said StepFault) (book' : Book) → result ≡ said_of_fault n why → entries_of book' ≡ entries_of roomy ++ entries_of_fault n why
              → spare_of roomy ≤ spare_of book' + 1 → FormDid roomy result mid flying book'
          opened_not why e result book' result_is entered spare = subst (λ x. FormDid roomy x mid flying book') (sym result_is) (by why (opens_as (Err why) e) entered)
            where
              falls : ch.life' ≡ Down → (book' : Book) → (fresh : nat_le greatest_epoch (node_of a_node.maps).heard ≡ false) → (seconds : ℕ) (w : machine.World) (st : StateStandsFor on (state_with old flying seconds book) w)
                  → (c : CutSlot on n P_group old mid mid ch (forms_rule learns_nothing None (Some (next_of a_node)) []) a_node ch.does.0.was flying flying seconds book book' w)
                  → WholeTo (state_with old flying seconds book) (Ok (said.Faulted n)) mid.lives.items w (cut_world w n c.disk c.front c.pending)
                  × WholeTo (state_with old flying seconds book) (Err (fault.NoMemory (Some n))) mid.lives.items w (cut_world w n c.disk c.front c.pending)
              falls down book' fresh seconds w st c = (
                λ v seen sound maps.
                    let there = up_whole old.lives.items w v seen maps n a_node c.node c.disk at_here c.up c.node_is in
                    subst (λ (x : Step). LeadsWhole old.plan (tells_in on.seen (state_with old flying seconds book)) (Ok (said.Faulted n)) x mid.lives.items v (cut_world w n c.disk c.front c.pending)) (sym s_is)
                    (open_fails on n P_group old mid mid ch (λ slots. slots) (nothing_else on mid) a_node (λ node up. let never : Down ≡ Up node = sym down ∙ up in cc) (tells_in on.seen (state_with old flying seconds book)) w v seen maps
                    c.disk there (Some (next_of a_node)) c.front c.pending c.cut.missing c.one (cut_of (Some (next_of a_node)) c.disk c.front c.pending c.cut.missing c.cut.is) next_is
                    (goes_whole seconds w st v seen maps fresh space c.disk there)),
                λ v seen sound maps.
                    let there = up_whole old.lives.items w v seen maps n a_node c.node c.disk at_here c.up c.node_is in
                    subst (λ (x : Step). LeadsWhole old.plan (tells_in on.seen (state_with old flying seconds book)) (Err (fault.NoMemory (Some n))) x mid.lives.items v (cut_world w n c.disk c.front c.pending)) (sym s_is)
                    (open_short on n P_group old mid mid ch (λ slots. slots) (nothing_else on mid) a_node (λ node up. let never : Down ≡ Up node = sym down ∙ up in cc) (tells_in on.seen (state_with old flying seconds book)) w v seen maps
                    c.disk there (Some (next_of a_node)) c.front c.pending c.cut.missing c.one (cut_of (Some (next_of a_node)) c.disk c.front c.pending c.cut.missing c.cut.is) next_is),
              )

              -- the whole world is as it was
              kept_whole : (result : StepFault) → ch.life' ≡ Up b_node → b_node.maps ≡ a_node.maps → (seconds : ℕ) (w : machine.World) (v : whole_world.World) → mail_world_of v ≡ w → AreMaps old.lives.items v.slots
                  → whole_makes.MakesStep old.plan (tells_in on.seen (state_with old flying seconds book)) v (whole_steps.Step.OpenGroup n) (whole_fault result) v
                  → LeadsWhole old.plan (tells_in on.seen (state_with old flying seconds book)) (Err result) s mid.lives.items v w
              kept_whole result is same seconds w v seen maps made =
                  subst (λ (x : Step). LeadsWhole old.plan (tells_in on.seen (state_with old flying seconds book)) (Err result) x mid.lives.items v w) (sym s_is)
                  (record { now = v; seen = seen; maps = keep_maps n P_group old mid ch a_node b_node ch.does.0.was is (ap node_of same) v.slots maps; made = made })

              by : (why : NodeFault) → Opens (Err why) → entries_of book' ≡ entries_of roomy ++ entries_of_fault n why → FormDid roomy (said_of_fault n why) mid flying book'
              by Disk (so, is, up) written_is =
                  let (may, stopped, fails) = so.failed in
                  failed_by roomy wrote room P_group mid ch a_node ch.does.0.was opens_own is stopped.stops.told fails.0 book' written_is spare (subst (λ (x : Step). SaysSo x (said.Faulted n)) (sym s_is) refl) None (Some (next_of a_node)) stopped fails.1
                  (λ seconds w st c. (falls is book' so.fresh seconds w st c).0)
              by Worn (so, is, up) written_is =
                  worn_by roomy wrote room P_group mid ch a_node ch.does.0.was opens_own b_node is so.1.as_before (ap node_of so.1.maps) so.1.untouched (up tt).1 book' (written_is ∙ append-nil (entries_of roomy)) spare
                  (λ seconds w st v seen sound maps.
                  let here = stood on n old flying seconds book w st v seen maps a_node at_here in
                  kept_whole fault.Worn is so.1.maps seconds w v seen maps
                  (inl (group_faults on n old flying seconds book w st v seen maps a_node at_here fit_here here.disk here.there false true (nat_lt (room_left flying.flights) (old.plan.nodes - 1)) early so.0 refl), refl))
              by (NoMemory true) (so, is, up) written_is =
                  let (may, stopped, fails) = so.failed in
                  fell_by roomy wrote room P_group mid ch a_node ch.does.0.was opens_own is stopped.stops.told fails book' written_is spare None (Some (next_of a_node)) stopped
                  (λ seconds w st c. (falls is book' so.fresh seconds w st c).1)
              by (NoMemory false) (so, is, up) written_is =
                  short_by roomy wrote room P_group mid ch a_node ch.does.0.was opens_own b_node is so.as_before (ap node_of so.maps) so.untouched (up tt).1 book' (written_is ∙ append-nil (entries_of roomy)) spare
                  (λ seconds w st v seen sound maps. kept_whole (fault.NoMemory None) is so.maps seconds w v seen maps refl)

      -- A node concluded its group, or had none open, or memory ran out.
      module _ (s_is : s ≡ step.Conclude n) (roomy : Book) (wrote : entries_of roomy ≡ entries_of book) (room : all_falls_left old.lives.items + 1 ≤ spare_of roomy) (concluded : Result (Option Concluded) NodeFault) (mid : Nodes D)
          (ch : ChangesNode n (ConcludesGroupAt on old.plan.buckets concluded) old mid) where
        abbrev P_conclude : Life → D → Life → D → Type 0
        P_conclude = ConcludesGroupAt on old.plan.buckets concluded

        abbrev a_one : WholeNode
        a_one = ch.does.0.old

        abbrev b_one : WholeNode
        b_one = ch.does.0.new

        abbrev Concludes : Result (Option Concluded) NodeFault → Type 0
        Concludes r = ConcludesGroup old.plan.buckets r a_one b_one × (ch.life' ≡ life_left r b_one) × (LeavesUp r → WholeWorks (on.seen ch.disk') b_one)

        ends_own : OwnKept ch.life ch.life'
        ends_own = turns_keep on.seen (λ result old before new after. ConcludesGroupSo on result old before new after) (λ result old_node before new after. ConcludesGroup old.plan.buckets result old_node new)
            concluded ch.life ch.disk ch.life' ch.disk' ch.does.0

        concludes_as : (r : Result (Option Concluded) NodeFault) → concluded ≡ r → Concludes r
        concludes_as r e = subst Concludes e (ch.does.0.maps, ch.does.0.is, ch.does.0.works)

        works_one : IsNodeOf old.plan n a_one.mail × WholeWorks (on.seen ch.disk) a_one
        works_one = works_there on n P_conclude old mid ch ready a_one ch.does.0.was

        own_one : a_one.mail.store.own ≡ n
        own_one = works_one.0.own_is

        fit_one : node_refusal old.plan (life_among old) (step.Conclude n) ≡ None
        fit_one = subst (λ (x : Step). node_refusal old.plan (life_among old) x ≡ None) s_is fit

        at_one : of_node old.lives.items n ≡ Some (Up a_one)
        at_one = ch.was ∙ ap Some ch.does.0.was

        -- as messages see it
        abbrev ends_of : (done : Concluded) → GroupConcluded old.plan.buckets done a_one b_one → HasFormed on learns_nothing a_one.mail ch.disk b_one.mail ch.disk' done.letters
        ends_of done o = record {
          installed = (node_of b_one.maps).installed;
          promise = None;
          did = subst (λ d. NodeDid on (forms_rule learns_nothing (node_of b_one.maps).installed None done.letters) a_one.mail ch.disk b_one.mail d done.letters) (sym ch.does.1)
              (installed_forms on (node_of b_one.maps).installed a_one.mail ch.disk b_one.mail done.letters works_one.1.mail o.mail o.taken o.sends).did;
          plain = o.sends;
        }

        pub concluded_within : n ≤ mid.plan.nodes
        concluded_within = subst (λ (p : Plan). n ≤ p.nodes) (sym ch.plan) (inside old.plan n named).1

        pub concluded_ready : (done : Concluded) → concluded ≡ Ok (Some done) → CanWorkOn on.seen mid.plan mid.lives.items mid.disks.items
        concluded_ready done e = let o = concludes_as (Ok (Some done)) e in
            stays_ready on n P_conclude old mid ch ready a_one ch.does.0.was b_one (formed_stays P_conclude mid ch a_one ch.does.0.was ends_own b_one done.letters o.1 (ends_of done o.0) (o.2 tt))

        -- how many members it has, as its own node says it
        members_so : (life : Life) → of_node mid.lives.items n ≡ Some life → ch.life' ≡ Up b_one → (members : ℕ) → members ≡ members_seen (node_of_life (Some life)) → members ≡ plain.members_of (node_seen b_one.mail)
        members_so life at is members members_are =
            members_are ∙ ap (λ (l : Life). members_seen (node_of_life (Some l))) (some_same life ch.life' (sym at ∙ life_there n P_conclude old mid ch) ∙ is)

        -- once it went down the whole world has no promise
        falls_one : {Q : Life → D → Life → D → Type 0} → (new : Nodes D) → (t : ChangesNode n Q old new) → (was : t.life ≡ Up a_one) → t.life' ≡ Down → (installed : Option Membership) (letters : List Letter) (book' : Book)
            → (seconds : ℕ) (w : machine.World) (st : StateStandsFor on (state_with old flying seconds book) w)
            → (c : CutSlot on n Q old new new t (forms_rule learns_nothing installed None letters) a_one was flying flying seconds book book' w)
            → WholeTo (state_with old flying seconds book) (Err (fault.NoMemory (Some n))) new.lives.items w (cut_world w n c.disk c.front c.pending)
        falls_one {Q} new t was down installed letters book' seconds w st c v seen sound maps =
            let there = up_whole old.lives.items w v seen maps n a_one c.node c.disk at_one c.up c.node_is in
            subst (λ (x : Step). LeadsWhole old.plan (tells_in on.seen (state_with old flying seconds book)) (Err (fault.NoMemory (Some n))) x new.lives.items v (cut_world w n c.disk c.front c.pending)) (sym s_is)
            (conclude_short on n Q old new new t (λ slots. slots) (nothing_else on new) a_one (λ node up. let never : Down ≡ Up node = sym down ∙ up in cc)
            (tells_in on.seen (state_with old flying seconds book)) w v seen maps c.disk there None c.front c.pending c.cut.missing c.one (cut_of None c.disk c.front c.pending c.cut.missing c.cut.is) refl)

        pub concluded_sent : (done : Concluded) → concluded ≡ Ok (Some done) → (items : List Letter) → items ≡ done.letters
            → (before : Life) → of_node old.lives.items n ≡ Some before → (joins : ℕ) → joins_at before ≡ Some joins → nat_le (joins - 1) (room_left flying.flights) ≡ true
            → (life : Life) → of_node mid.lives.items n ≡ Some life → (members : ℕ) → members ≡ members_seen (node_of_life (Some life))
            → IsFormed s (said.Concluded done.epoch members) → (r : Result Said StepFault) (new : Nodes D) (flying' : InFlight) (book' : Book)
            → AnswersSent on mid.plan n None (said.Concluded done.epoch members) items r mid flying roomy new flying' book' → FormDid roomy r new flying' book'
        concluded_sent done e items same before before_at joins joined space life at members members_are g r new flying' book' sent =
            let o = concludes_as (Ok (Some done)) e in
            let h = ends_of done o.0 in
            answered_by roomy wrote room P_conclude mid ch a_one ch.does.0.was ends_own b_one o.1 done.letters h (λ was_settled. subst is_settled (sym ch.does.1) was_settled) (o.2 tt) new flying' book' (said.Concluded done.epoch members) g
            (λ off seconds w st did v seen sound maps.
            let there = up_whole old.lives.items w v seen maps n a_one did.node did.disk at_one did.up did.node_is in
            subst (λ (x : Step). LeadsWhole old.plan (tells_in on.seen (state_with old flying seconds book)) (Ok (said.Concluded done.epoch members)) x new.lives.items v
            (after (record w { flying = w.flying; book = w.book }) n (forms_rule learns_nothing h.installed h.promise done.letters did.node did.disk))) (sym s_is)
            (concluded_whole on n P_conclude old mid new ch _ off.noticed.only a_one b_one own_one o.1 (tells_in on.seen (state_with old flying seconds book)) w v seen sound maps did.node did.disk there did.keeps done o.0
            (goes_whole seconds w st v seen maps did.disk there)
            members (members_so life at o.1 members members_are)
            (forms_rule learns_nothing h.installed h.promise done.letters did.node did.disk)
            (ap (λ m. forms_rule learns_nothing h.installed h.promise done.letters m did.disk) did.node_is
            ∙ ap (λ x. record { node = x; disk = did.disk ++ promise_records None; out = done.letters }) (h.did.node did.disk did.keeps))))
            (λ t seconds w st c. falls_one {Q = AreThese ch.life Down ch.disk ch.disk'} new t (t.does.life_was ∙ ch.does.0.was) t.does.life_is (node_of b_one.maps).installed done.letters book' seconds w st c)
            r
            (subst (λ ls. AnswersSent on mid.plan n None (said.Concluded done.epoch members) ls r mid flying roomy new flying' book') same sent)
          where
            goes_whole : (seconds : ℕ) (w : machine.World) → StateStandsFor on (state_with old flying seconds book) w → (v : whole_world.World) → mail_world_of v ≡ w → AreMaps old.lives.items v.slots
                → (disk : List Record) → whole_world.IsUp v n (whole_seen a_one) disk → whole_steps.step_fault old.plan (whole_steps.Step.ConcludeGroup n) v ≡ None
            goes_whole seconds w st v seen maps disk there =
                let is : before ≡ Up a_one = some_same before (Up a_one) (sym before_at ∙ at_one) in
                let (group, group_is, size) = joined_group on n old flying seconds book fit_one (node_of a_one.maps).group joins (ap joins_at (sym is) ∙ joined) in
                conclude_faults_are on n old flying seconds book w st v seen maps a_one at_one fit_one disk there (Some group) false false group_is early
                (ap (λ k. nat_lt (room_left flying.flights) (k - 1)) size ∙ some_room (joins - 1) (room_left flying.flights) space)

        pub concluded_none : concluded ≡ Ok None → FormDid roomy (Err fault.NotAGroup) mid flying roomy
        concluded_none e =
            let o = concludes_as (Ok None) e in
            none_by roomy wrote room P_conclude mid ch a_one ch.does.0.was ends_own b_one o.1 (same_before a_one.mail b_one.mail o.0.2) o.0.1.node ch.does.1 (o.2 tt) roomy refl (omega arith)
            (λ seconds w st v seen sound maps.
            let here = stood on n old flying seconds book w st v seen maps a_one at_one in
            subst (λ (x : Step). LeadsWhole old.plan (tells_in on.seen (state_with old flying seconds book)) (Err fault.NotAGroup) x mid.lives.items v w) (sym s_is)
            (record {
              now = v;
              seen = seen;
              maps = keep_maps n P_conclude old mid ch a_one b_one ch.does.0.was o.1 o.0.1.node v.slots maps;
              made = (inl (conclude_faults_are on n old flying seconds book w st v seen maps a_one at_one fit_one here.disk here.there None (nat_le letters_end flying.sent) (nat_lt (room_left flying.flights) (0 - 1)) o.0.0 refl refl), refl);
            }))

        pub concluded_not : (why : NodeFault) → concluded ≡ Err why → (result : Result Said StepFault) (book' : Book) → result ≡ said_of_fault n why → entries_of book' ≡ entries_of roomy ++ entries_of_fault n why
            → spare_of roomy ≤ spare_of book' + 1 → FormDid roomy result mid flying book'
        concluded_not why e result book' result_is entered spare = subst (λ x. FormDid roomy x mid flying book') (sym result_is) (by why (concludes_as (Err why) e) entered)
          where
            by : (why : NodeFault) → Concludes (Err why) → entries_of book' ≡ entries_of roomy ++ entries_of_fault n why → FormDid roomy (said_of_fault n why) mid flying book'
            by Disk (so, is, up) written_is = absurd so
            by Worn (so, is, up) written_is = absurd so
            by (NoMemory true) (so, is, up) written_is =
                fell_untold roomy wrote room P_conclude mid ch a_one ch.does.0.was ends_own is (ap (λ d. is_some (on.seen d)) ch.does.1)
                (subst (λ d. on.faults ch.disk ≤ on.faults d) (sym ch.does.1) (omega arith)) book' written_is spare ch.does.1
                (λ seconds w st c. falls_one {Q = P_conclude} mid ch ch.does.0.was is None [] book' seconds w st c)
            by (NoMemory false) (so, is, up) written_is = absurd so
