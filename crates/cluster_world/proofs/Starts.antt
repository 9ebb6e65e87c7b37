-- What a start of a node does.
use Rattle.std.proofs.Common.{◌≡◌, ◌⊎◌, inl, inr, ⊎_elim, ℕ, zero, suc, ◌+◌, ◌≤◌, nat_le, true, false, List, [], ◌∷◌, ◌++◌, append-nil, All, Option, Some, None, Result, Ok, Err, refl, sym, ap, ◌∙◌, subst, arith}
use Rattle.std.specs.Prelude.{IfSome, IfOk, is_some}
use Rattle.std.specs.List.{list_all}
use Rattle.std.proofs.lemmas.Bool.{and_parts}
use Rattle.std.proofs.lemmas.Bool.Decides.{nat_tests}
use Rattle.io_edge.specs.Causes.{Rose}
use Rattle.io_edge.specs.Moments.{IsOnly}
use Rattle.mail_model.specs.Plan.{Plan}
use Rattle.mail_model.specs.Record.{Record, payloads_of}
use Rattle.mail_model.specs.Grammar.{IsRecord}
use Rattle.mail_model.specs.Book.{BookEntry}
use Rattle.session_model.specs.Events.{NodeLife, NodeLife as life, turned}
use Rattle.cluster_model.specs.Cluster as plain
use Rattle.cluster_model.specs.Cluster.{Slot, slot_at, with_slot}
use Rattle.cluster_model.specs.Claims.{all_records, boot_of}
use Rattle.cluster_model.specs.Deeds.{slot_up}
use Rattle.cluster_model.specs.World as machine
use Rattle.cluster_model.specs.Steps as steps
use Rattle.cluster_model.specs.Steps.{is_node, letters_end, greatest_boot}
use Rattle.cluster_model.specs.Makes.{MakesStep, StartsUp, RunsShort, IsLastBoot}
use Rattle.disk_journal.specs.Journal.{EndsAt}
use Rattle.whole_world.specs.World as whole_world
use Rattle.whole_world.specs.World.{mail_world_of}
use Rattle.node_store.specs.Disks.{View}
use Rattle.node_core.specs.Nodes.{node_seen, end_in}
use Rattle.node_core.specs.Starting.{MayHold, WhereItHolds, IsStartStop, StartKeeps, StoppedOver, WornOver, NodeStarts}
use Rattle.node_core.specs.declared.fault.NodeFault.{NodeFault}
use Rattle.node_core.specs.declared.fault.NodeFault.TheVariants.{Disk, Worn, NoMemory}
use Rattle.whole_node.specs.declared.node.WholeNode.{WholeNode}
use Rattle.whole_node.specs.Restarting.{WholeStartedOver, WholeNodeStarted}
use Rattle.world_book.specs.Books.{entries_of}
use Rattle.world_book.specs.declared.book.Book.{Book}
use Rattle.world_book.specs.declared.entry.Entry.TheVariants as written
use Rattle.cluster_world.specs.Books.{entries_seen, booked_by}
use Rattle.cluster_world.specs.Flights.{InFlight}
use Rattle.cluster_world.specs.Lives.{life_seen, of_node, falls_left, all_falls_left, CanWorkOn}
use Rattle.cluster_world.specs.Stands.{SlotStands}
use Rattle.cluster_world.specs.Worlds.{WorldState, seen_life, life_among, state_with, tells_in, StateStandsFor, memory_of_life}
use Rattle.cluster_world.specs.Changes.{ChangesNode}
use Rattle.cluster_world.specs.Starting.{said_of_start, entries_of_start, IsUpIn, ComesToThis, HasStarted}
use Rattle.cluster_world.specs.Seen.{outcome_seen}
use Rattle.cluster_world.specs.Turns.{life_refusal, node_refusal, life_after_step}
use Rattle.cluster_world.specs.Maps.{AreMaps}
use Rattle.cluster_world.specs.Moments.{IsStopOf, StopsKeep}
use Rattle.cluster_world.specs.Steps.{StepDid, AreSettled, LeadsWhole, StepIsKnown, IsRefusedRight, SaysSo, FallsSo, WasToWork, FaultHasCause, ChangesNothing, IsUnchanged, LeadsMail, HasPassed, MayMisread}
use Rattle.cluster_world.specs.declared.life.Life.{Life}
use Rattle.cluster_world.specs.declared.life.Life.TheVariants.{Up, Down, Lost}
use Rattle.cluster_world.specs.declared.nodes.Nodes.{Nodes}
use Rattle.cluster_world.specs.declared.step.Step.TheVariants as step
use Rattle.cluster_world.specs.declared.step.Said.{Said}
use Rattle.cluster_world.specs.declared.step.Said.TheVariants as said
use Rattle.cluster_world.specs.declared.fault.StepFault.{StepFault}
use Rattle.cluster_world.specs.declared.fault.StepFault.TheVariants as fault
use Rattle.cluster_world.proofs.Still.{some_same}
use Rattle.cluster_world.proofs.Same.{same_told, same_quiet, led_kept, same_unchanged}
use Rattle.cluster_world.proofs.Worked.{passed, if_both}
use Rattle.cluster_world.proofs.Turned.{slot_of, lives_turned, as_many, told_by, quiet_by, settled_by, still_ready, falls_now, stops_kept, stands_now}
use Rattle.cluster_world.proofs.Refusing.{fit_of, start_goes, start_is_worn}
use Rattle.cluster_world.proofs.Falling.{entries_more}
use Rattle.cluster_world.proofs.Asked.{turned_same, slot_same}
use Rattle.cluster_world.proofs.Unchanged.{unchanged_by}
use Rattle.cluster_world.proofs.Longer.{same_book, longer_by}
use Rattle.cluster_world.proofs.Told.{IsOfMail, IsDone, kept_whole}
use Rattle.cluster_world.proofs.WholeStarts.{fall_maps, start_comes, start_fails, start_short}
use Rattle.cluster_world.proofs.Lifting.{lift}
use Rattle.cluster_world.proofs.Beside.{alone_keeps}
use Rattle.cluster_world.proofs.Wholly.{even_of}
use Rattle.cluster_world.proofs.Turning.{up_same}
use Rattle.joint_world.specs.Staying.{KeepsReads}
use Rattle.joint_world.specs.World.{whole_world_of}
use Rattle.whole_node.specs.Nodes.{joint_seen}
use Rattle.cluster_world.specs.Keeping.{joint_life}

-- a disk of those that all tell tells
told_at : {D : Type 0} (seen : D → Option (List ℕ)) (disks : List D) (n : ℕ) (disk : D) → list_all (λ d. is_some (seen d)) disks ≡ true → of_node disks n ≡ Some disk → is_some (seen disk) ≡ true
told_at seen disks zero disk all e = absurd (let never : None ≡ Some disk = e in cc)
told_at {D} seen disks (suc k) disk all e = at disks k all e
  where
    at : (disks : List D) (k : ℕ) → list_all (λ d. is_some (seen d)) disks ≡ true → Rattle.std.specs.Prelude.slice_get disks k ≡ Some disk → is_some (seen disk) ≡ true
    at [] k all e = absurd (let never : None ≡ Some disk = e in cc)
    at (d ∷ ds) zero all e = subst (λ x. is_some (seen x) ≡ true) (some_same d disk e) (and_parts (is_some (seen d)) (list_all (λ d. is_some (seen d)) ds) all).0
    at (d ∷ ds) (suc k) all e = at ds k (and_parts (is_some (seen d)) (list_all (λ d. is_some (seen d)) ds) all).1 e

where_told : (o : Option (List ℕ)) (P : Type 0) → is_some o ≡ true → IfSome o (λ _. P) → P
where_told None P e h = absurd (let never : false ≡ true = e in cc)
where_told (Some c) P e h = h

wherever : (o : Option (List ℕ)) (P : Type 0) → P → IfSome o (λ _. P)
wherever None P p = tt
wherever (Some c) P p = p

both_held : (o : Option (List ℕ)) (P Q R : List ℕ → Type 0) → ((c : List ℕ) → P c → Q c → R c) → IfSome o P → IfSome o Q → IfSome o R
both_held None P Q R f p q = tt
both_held (Some c) P Q R f p q = f c p q

-- a node that may start is down
start_down : (n : ℕ) (l : Life) → life_refusal (step.Start n) (life_seen l) ≡ None → l ≡ Down
start_down n (Up node) e = absurd (let never : Some fault.NodeUp ≡ None = e in cc)
start_down n Down e = refl
start_down n Lost e = absurd (let never : Some fault.NodeLost ≡ None = e in cc)

named_of : (plan : Plan) (lives : ℕ → NodeLife) (n : ℕ) → node_refusal plan lives (step.Start n) ≡ None → list_all (is_node plan) (n ∷ []) ≡ true
named_of plan lives n fit = (fit_of (list_all (is_node plan) (n ∷ [])) (life_refusal (step.Start n) (lives n)) fit).0

within_of : (plan : Plan) (n : ℕ) → list_all (is_node plan) (n ∷ []) ≡ true → (1 ≤ n) × (n ≤ plan.nodes)
within_of plan n named =
    let is : is_node plan n ≡ true = (and_parts (is_node plan n) true named).0 in
    (grind (arith, nat_tests), grind (arith, nat_tests))

module _ {D : Type 0} (on : View D) (is_settled : D → Type 0) (only : (disk : D) → is_settled disk → IfSome (on.seen disk) (λ held. IsOnly on.clock disk held))
    (n : ℕ) (old new : Nodes D) (fit : node_refusal old.plan (life_among old) (step.Start n) ≡ None) (started : Result ℕ NodeFault)
    (ch : ChangesNode n (HasStarted on old.plan n is_settled started) old new) where
  abbrev P : Life → D → Life → D → Type 0
  P = HasStarted on old.plan n is_settled started

  named : list_all (is_node old.plan) (n ∷ []) ≡ true
  named = named_of old.plan (life_among old) n fit

  was_down : ch.life ≡ Down
  was_down = ch.does.was

  -- the life is up only where the start went well
  up_then : (r : Result ℕ NodeFault) → ComesToThis on old.plan n r ch.disk ch.life' ch.disk' → (node : WholeNode) → ch.life' ≡ Up node
      → (boot : ℕ) × (r ≡ Ok boot) × WholeNodeStarted on old.plan n ch.disk ch.disk' node
  up_then (Ok boot) (other, is, st) node up =
      (boot, refl, subst (λ m. WholeNodeStarted on old.plan n ch.disk ch.disk' m) (let same : Up other ≡ Up node = sym is.is ∙ up in the_node other node same) st)
    where
      the_node : (x y : WholeNode) → Up x ≡ Up y → x ≡ y
      the_node x y e = cc
  up_then (Err why) (down, st) node up = absurd (let never : Down ≡ Up node = sym down ∙ up in cc)

  pub start_ready : CanWorkOn on.seen old.plan old.lives.items old.disks.items → CanWorkOn on.seen new.plan new.lives.items new.disks.items
  start_ready works = subst (λ p. CanWorkOn on.seen p new.lives.items new.disks.items) (sym ch.plan)
      (still_ready n P old new ch on.seen old.plan works (λ node up. let (boot, is, st) = up_then started ch.does.comes node up in (st.mail.of_plan, st.works)))

  up_life : (l : Life) (boot : ℕ) → life_seen l ≡ life.Up boot → (node : WholeNode) × (l ≡ Up node)
  up_life (Up node) boot e = (node, refl)
  up_life Down boot e = absurd (let never : life.Down ≡ life.Up boot = e in cc)
  up_life Lost boot e = absurd (let never : life.Lost ≡ life.Up boot = e in cc)

  pub start_settled : (flying : InFlight) (seconds : ℕ) (book book' : Book) → AreSettled is_settled (state_with old flying seconds book) → AreSettled is_settled (state_with new flying seconds book')
  start_settled flying seconds book book' = settled_by n P old new ch flying flying seconds seconds book book' is_settled (λ boot up _.
      let (node, now) = up_life ch.life' boot up in
      let (number, is, st) = up_then started ch.does.comes node now in
      subst (λ (r : Result ℕ NodeFault). IfOk r (λ _. is_settled ch.disk')) is ch.does.settled)

  some_left : falls_left ch.life' ≤ 2
  some_left = two ch.life'
    where
      two : (l : Life) → falls_left l ≤ 2
      two (Up node) = omega arith
      two Down = omega arith
      two Lost = omega arith

  pub start_room : (spare most : ℕ) → all_falls_left old.lives.items ≤ most → most + 2 ≤ spare + 1 → all_falls_left new.lives.items ≤ spare
  start_room spare most few room =
      let same : all_falls_left new.lives.items + falls_left ch.life ≡ all_falls_left old.lives.items + falls_left ch.life' = falls_now n P old new ch in
      omega (arith, same, ap falls_left was_down, some_left, few, room)

  module _ (flying : InFlight) (seconds : ℕ) (book book' : Book) (early : nat_le letters_end flying.sent ≡ false)
      (wrote : entries_of book' ≡ entries_of book ++ entries_of_start n started) where
    abbrev before : WorldState D
    before = state_with old flying seconds book

    abbrev behind : WorldState D
    behind = state_with new flying seconds book'

    -- what the machine has of the node
    record Found (w : machine.World) : Type 0 where
      slot : Slot
      pending : List Record
      here : slot_at w.slots n ≡ Some slot
      is : slot.life ≡ plain.Life.Down pending
      whole : slot ≡ record { life = plain.Life.Down pending; disk = slot.disk }
      fit_all : All IsRecord (slot.disk ++ pending)
      holds : IfSome (on.seen ch.disk) (λ _. MayHold on ch.disk n slot.disk pending)

    found : (w : machine.World) → StateStandsFor on before w → Found w
    found w st =
        let (slot, here, stood) = slot_of on old.lives.items old.disks.items w.slots n ch.life ch.disk st.slots ch.was ch.held in
        let down : SlotStands on n Down ch.disk slot = subst (λ l. SlotStands on n l ch.disk slot) was_down stood in
        let (pending, is, fit_all, holds) = down in
        record { slot = slot; pending = pending; here = here; is = is; whole = ap (λ l. record { life = l; disk = slot.disk }) is; fit_all = fit_all; holds = holds }

    told_here : StepIsKnown on.seen before (step.Start n) → is_some (on.seen ch.disk) ≡ true
    told_here known = ⊎_elim (λ all. told_at on.seen old.disks.items n ch.disk all ch.held) (λ blind. absurd blind) known

    -- what the start is known to have done
    over : (Q : List Record → List Record → Type 0) → StepIsKnown on.seen before (step.Start n) → (w : machine.World) (f : Found w) → WhereItHolds on ch.disk n Q → Q f.slot.disk f.pending
    over Q known w f h = where_told (on.seen ch.disk) (Q f.slot.disk f.pending) (told_here known)
        (if_both (on.seen ch.disk) _ _ _ (λ (holds : MayHold on ch.disk n f.slot.disk f.pending) all. all f.slot.disk f.pending holds) f.holds h)

    start_goes_now : (w : machine.World) → StateStandsFor on before w → (f : Found w) → steps.step_fault old.plan (steps.Step.Start n) w ≡ None
    start_goes_now w st f = start_goes old.plan w n f.slot named f.here f.pending f.is (ap (nat_le letters_end) (sym st.sent) ∙ early)

    keeps_so : (w : machine.World) (f : Found w) (slot' : Slot) (all : List Record) → all_records slot' ≡ all → StartKeeps on old.plan n ch.disk ch.disk' f.slot.disk f.pending all
        → StopsKeep on n ch.disk ch.disk' f.slot slot'
    keeps_so w f slot' all e k = record {
      kept = k.kept;
      pending_is = subst (λ xs. (k.kept ≡ []) ⊎ (k.kept ≡ xs)) (sym (ap plain.pending_of f.is)) k.pending_is;
      added = k.added;
      grew = e ∙ k.grew;
      stops = wherever (on.seen ch.disk) _ (passed on.clock ch.disk ch.disk' (IsStartStop n f.slot.disk f.pending k.added) (IsStopOf n f.slot k.added) (λ c s. record {
        kept = s.kept;
        pending_is = subst (λ xs. (s.kept ≡ []) ⊎ (s.kept ≡ xs)) (sym (ap plain.pending_of f.is)) s.pending_is;
        front = s.front;
        rest = s.rest;
        split = s.split;
        is = s.is;
      }) k.moments);
    }

    leads_so : (outcome : Result Said StepFault) (entries : List BookEntry) → booked_by book' ≡ booked_by book ++ entries → (w : machine.World) → StateStandsFor on before w → (f : Found w)
        → (slot' : Slot) → SlotStands on n ch.life' ch.disk' slot' → StopsKeep on n ch.disk ch.disk' f.slot slot'
        → MakesStep old.plan (tells_in on.seen before) w (steps.Step.Start n) (outcome_seen outcome) (record w { slots = with_slot w.slots n slot'; book = w.book ++ entries })
        → ((v : whole_world.World) → mail_world_of v ≡ w → AreMaps old.lives.items v.slots
        → LeadsWhole old.plan (tells_in on.seen before) outcome (step.Start n) new.lives.items v (record w { slots = with_slot w.slots n slot'; book = w.book ++ entries }))
        → LeadsMail on outcome (step.Start n) before behind w
    leads_so outcome entries e w st f slot' stands kept made whole = record {
      next = record w { slots = with_slot w.slots n slot'; book = w.book ++ entries };
      stands = stands_now n P old new ch on flying seconds book book' entries e w st slot' stands;
      made = made;
      stops = record { each = stops_kept n P old new ch on w.slots f.slot slot' st.slots f.here (λ _. kept) };
      whole = λ v seen sound maps. whole v seen maps;
    }

    unchanged : (w : machine.World) (f : Found w) → ◌≡◌ {A = machine.World} (record w { slots = with_slot w.slots n f.slot; book = w.book ++ [] }) w
    unchanged w f =
        let slots_are : with_slot w.slots n f.slot ≡ w.slots = slot_same w.slots n f.slot f.here in
        let book_is : w.book ++ [] ≡ w.book = append-nil w.book in
        λ i. record w { slots = slots_are i; book = book_is i }

    -- the machine's slot, as it is down
    slot_down : (w : machine.World) (f : Found w) → slot_at w.slots n ≡ Some (record { life = plain.Life.Down f.pending; disk = f.slot.disk })
    slot_down w f = f.here ∙ ap Some f.whole

    never_up : ch.life' ≡ Down → (node : WholeNode) → ch.life' ≡ Up node → ⊥
    never_up down node up = let never : Down ≡ Up node = sym down ∙ up in cc

    worn : (w : machine.World) → StateStandsFor on before w → (f : Found w) → WornOver on old.plan n ch.disk ch.disk' f.slot.disk f.pending
        → (steps.step_fault old.plan (steps.Step.Start n) w ≡ None) × (steps.StepFault.Worn ≡ steps.StepFault.Worn) × IsLastBoot w n
    worn w st f so = (start_goes_now w st f, refl, record { disk = f.slot.disk; pending = f.pending; here = slot_down w f; kept = so.kept; pending_is = so.pending_is; last = so.last })

    -- The whole world is as it was.
    whole_stays : (why : StepFault) → IsOfMail (Err why) (step.Start n) → (IsDone (outcome_seen (Err why)) → ⊥) → ch.life' ≡ Down → (w : machine.World) (f : Found w)
        → MakesStep old.plan (tells_in on.seen before) w (steps.Step.Start n) (outcome_seen (Err why)) w → (v : whole_world.World) → mail_world_of v ≡ w → AreMaps old.lives.items v.slots
        → LeadsWhole old.plan (tells_in on.seen before) (Err why) (step.Start n) new.lives.items v (record w { slots = with_slot w.slots n f.slot; book = w.book ++ [] })
    whole_stays why of none down w f made v seen maps = record {
      now = v;
      seen = seen ∙ sym (unchanged w f);
      maps = fall_maps n P old new ch v maps (never_up down);
      made = kept_whole old.plan (tells_in on.seen before) (Err why) (step.Start n) v of none
          (subst (λ x. MakesStep old.plan (tells_in on.seen before) x (steps.Step.Start n) (outcome_seen (Err why)) x) (sym seen) made);
    }

    -- Down it stays, or it went down in its start.
    down_did : (why : NodeFault) → ch.life' ≡ Down → IsRefusedRight (said_of_start n (Err why)) (node_refusal old.plan (life_among old) (step.Start n))
        → IfOk (said_of_start n (Err why)) (SaysSo (step.Start n)) → FallsSo (said_of_start n (Err why)) old.plan.nodes (step.Start n) (life_among old)
        → ((m : ℕ) → life_after_step (said_of_start n (Err why)) (step.Start n) m (life_among old m) ≡ turned n life.Down m (life_among old m))
        → (StepIsKnown on.seen before (step.Start n) → (w : machine.World) → StateStandsFor on before w → LeadsMail on (said_of_start n (Err why)) (step.Start n) before behind w)
        → ((w : machine.World) → StateStandsFor on before w → FaultHasCause on (said_of_start n (Err why)) (step.Start n) before behind)
        → ChangesNothing on (said_of_start n (Err why)) (step.Start n) before behind → StepDid on (said_of_start n (Err why)) (step.Start n) before behind
    down_did why down refused kind falls lives leads cause kept = record {
      plan = ch.plan;
      handed = as_many n P old new ch;
      refused = refused;
      kind = kind;
      falls = falls;
      lives = λ m. lives_turned n P old new ch m ∙ ap (λ l. turned n (life_seen l) m (life_among old m)) down ∙ sym (lives m);
      told = told_by n P old new ch flying flying seconds seconds book book' on.seen ch.does.told;
      quiet = quiet_by n P old new ch flying flying seconds seconds book book' on.faults ch.does.faults (λ boot up. absurd (let never : life.Down ≡ life.Up boot = sym (ap life_seen down) ∙ up in cc));
      clock = refl;
      passed = passed_by why;
      books = longer_by book book' (entries_of_start n started) wrote;
      kept = kept;
      leads = λ known ended. lift on _ _ _ _ (even_of old) (even_of new) tt (λ v stands done. tt)
          (alone_keeps n P old new ch (λ b up. absurd (let never : Down ≡ Up b = sym down ∙ up in cc))) (leads known);
      cause = cause;
    }
      where
        passed_by : (why : NodeFault) → HasPassed (said_of_start n (Err why)) (step.Start n) before behind
        passed_by Disk = tt
        passed_by Worn = tt
        passed_by (NoMemory true) = tt
        passed_by (NoMemory false) = tt

    -- down it stays, and its disk was started again
    left_down : ch.life' ≡ Down → booked_by book' ≡ booked_by book → IsUnchanged on (step.Start n) before behind
    left_down down same = unchanged_by n P old new ch flying flying seconds seconds book book' on (step.Start n)
        (ap (λ (l : Life). memory_of_life (Some l)) down ∙ sym (ap (λ (l : Life). memory_of_life (Some l)) was_down))
        (λ away. absurd (away refl)) (λ never. absurd (never n refl)) refl refl same

    -- the node was down
    was_life : life_among old n ≡ life.Down
    was_life = ap seen_life ch.was ∙ ap life_seen was_down

    stays : (m : ℕ) → life_among old m ≡ turned n life.Down m (life_among old m)
    stays m = sym (subst (λ l. turned n l m (life_among old m) ≡ life_among old m) was_life (turned_same (life_among old) n m))

    falls_here : WasToWork old.plan.nodes (step.Start n) (life_among old n) n
    falls_here = record { above = (within_of old.plan n named).0; within = (within_of old.plan n named).1; worked = inr refl }

    stands_down : (next records : List Record) → MayHold on ch.disk' n records next → ch.life' ≡ Down → SlotStands on n ch.life' ch.disk' (record { life = plain.Life.Down next; disk = records })
    stands_down next records holds down = subst (λ l. SlotStands on n l ch.disk' (record { life = plain.Life.Down next; disk = records })) (sym down)
        (next, refl, holds.fit, wherever (on.seen ch.disk') (MayHold on ch.disk' n records next) holds)

    still_down : (w : machine.World) (f : Found w) → MayHold on ch.disk' n f.slot.disk f.pending → ch.life' ≡ Down → SlotStands on n ch.life' ch.disk' f.slot
    still_down w f holds down = subst (λ s. SlotStands on n ch.life' ch.disk' s) (sym f.whole) (stands_down f.pending f.slot.disk holds down)

    all_there : (w : machine.World) (f : Found w) → all_records f.slot ≡ f.slot.disk ++ f.pending
    all_there w f = ap (λ l. f.slot.disk ++ plain.pending_of l) f.is

    booked : booked_by book' ≡ booked_by book ++ entries_seen (entries_of_start n started)
    booked = ap entries_seen wrote ∙ entries_more (entries_of book) (entries_of_start n started)

    did_fail : (why : NodeFault) → started ≡ Err why → ch.life' ≡ Down → NodeStarts on old.plan n ch.disk ch.disk' (Err why) → StepDid on (said_of_start n (Err why)) (step.Start n) before behind
    did_fail Disk e down st = down_did Disk down (sym fit) refl falls_here (λ m. refl)
        (λ known w stands.
        let f = found w stands in
        let (so, rose) = over (λ records pending. StoppedOver on old.plan n ch.disk ch.disk' records pending × Rose (on.faults ch.disk) (on.faults ch.disk')) known w f st in
        leads_so (Ok (said.Faulted n)) (entries_seen (written.Down n ∷ [])) (booked ∙ ap (λ r. booked_by book ++ entries_seen (entries_of_start n r)) e) w stands f
        (record { life = plain.Life.Down so.next; disk = so.new }) (stands_down so.next so.new so.holds down) (keeps_so w f (record { life = plain.Life.Down so.next; disk = so.new }) (so.new ++ so.next) refl so.stops_keep)
        (start_goes_now w stands f, StartsUp.FailsStarting f.slot.disk f.pending so.next so.new (f.here ∙ ap Some f.whole) so.stops refl refl)
        (λ v seen maps. start_fails n P old new ch v maps old.plan (tells_in on.seen before) w seen f.slot.disk f.pending (slot_down w f) so.next so.new so.stops (never_up down) (start_goes_now w stands f)))
        (λ w stands d d' e e'.
        let f = found w stands in
        let d_is : ch.disk ≡ d = some_same ch.disk d (sym ch.held ∙ e) in
        let d'_is : ch.disk' ≡ d' = some_same ch.disk' d' (sym (Rattle.cluster_world.proofs.Turned.disk_there n P old new ch) ∙ e') in
        subst (λ x. Rose (on.faults d) (on.faults x) ⊎ ((on.seen d ≡ None) × MayMisread flying.flights (step.Start n))) d'_is
        (subst (λ x. Rose (on.faults x) (on.faults ch.disk') ⊎ ((on.seen x ≡ None) × MayMisread flying.flights (step.Start n))) d_is (caused f.slot.disk f.pending (on.seen ch.disk) refl f.holds)))
        tt
      where
        caused : (records pending : List Record) (o : Option (List ℕ)) → on.seen ch.disk ≡ o → IfSome (on.seen ch.disk) (λ _. MayHold on ch.disk n records pending)
            → Rose (on.faults ch.disk) (on.faults ch.disk') ⊎ ((on.seen ch.disk ≡ None) × MayMisread flying.flights (step.Start n))
        caused records pending None o holds = inr (o, tt)
        caused records pending (Some held) o holds = inl (where_told (on.seen ch.disk) (Rose (on.faults ch.disk) (on.faults ch.disk')) (ap (λ (x : Option (List ℕ)). is_some x) o)
            (if_both (on.seen ch.disk) _ _ _ (λ (h : MayHold on ch.disk n records pending) all. (all records pending h).1) holds st))
    did_fail Worn e down st = down_did Worn down (sym fit) tt tt stays
        (λ known w stands.
        let f = found w stands in
        let so = over (WornOver on old.plan n ch.disk ch.disk') known w f st in
        leads_so (Err fault.Worn) [] (booked ∙ ap (λ r. booked_by book ++ entries_seen (entries_of_start n r)) e) w stands f
        f.slot (still_down w f so.holds down) (keeps_so w f f.slot (f.slot.disk ++ f.pending) (all_there w f) so.stops_keep)
        (inl (inr (worn w stands f so)), unchanged w f)
        (whole_stays fault.Worn (record { step_is = refl; said_is = refl; sees = tt }) (λ done. done) down w f (inl (inr (worn w stands f so)), refl)))
        (λ w stands. tt)
        (left_down down (booked ∙ ap (λ r. booked_by book ++ entries_seen (entries_of_start n r)) e ∙ append-nil (booked_by book)))
    did_fail (NoMemory true) e down st = down_did (NoMemory true) down tt tt falls_here (λ m. refl)
        (λ known w stands.
        let f = found w stands in
        let so = over (StoppedOver on old.plan n ch.disk ch.disk') known w f st in
        leads_so (Err (fault.NoMemory (Some n))) (entries_seen (written.Down n ∷ [])) (booked ∙ ap (λ r. booked_by book ++ entries_seen (entries_of_start n r)) e) w stands f
        (record { life = plain.Life.Down so.next; disk = so.new }) (stands_down so.next so.new so.holds down) (keeps_so w f (record { life = plain.Life.Down so.next; disk = so.new }) (so.new ++ so.next) refl so.stops_keep)
        (RunsShort.Starting f.slot.disk f.pending so.next so.new refl (f.here ∙ ap Some f.whole) so.stops refl)
        (λ v seen maps. start_short n P old new ch v maps old.plan (tells_in on.seen before) w seen f.slot.disk f.pending (slot_down w f) so.next so.new so.stops (never_up down)))
        (λ w stands. tt)
        tt
    did_fail (NoMemory false) e down st = down_did (NoMemory false) down tt tt tt stays
        (λ known w stands.
        let f = found w stands in
        let (holds, so) = over (λ records pending. MayHold on ch.disk' n records pending × StartKeeps on old.plan n ch.disk ch.disk' records pending (records ++ pending)) known w f st in
        leads_so (Err (fault.NoMemory None)) [] (booked ∙ ap (λ r. booked_by book ++ entries_seen (entries_of_start n r)) e) w stands f
        f.slot (still_down w f holds down) (keeps_so w f f.slot (f.slot.disk ++ f.pending) (all_there w f) so) (unchanged w f)
        (whole_stays (fault.NoMemory None) (record { step_is = refl; said_is = refl; sees = tt }) (λ done. done) down w f refl))
        (λ w stands. tt)
        (left_down down (booked ∙ ap (λ r. booked_by book ++ entries_seen (entries_of_start n r)) e ∙ append-nil (booked_by book)))

    did_start : (boot : ℕ) → started ≡ Ok boot → is_settled ch.disk' → (node : WholeNode) → IsUpIn boot node ch.life' → WholeNodeStarted on old.plan n ch.disk ch.disk' node → StepDid on (Ok (said.NodeUp boot)) (step.Start n) before behind
    did_start boot e settled node up st = record {
      plan = ch.plan;
      handed = as_many n P old new ch;
      refused = sym fit;
      kind = tt;
      falls = tt;
      lives = λ m. lives_turned n P old new ch m ∙ ap (λ l. turned n l m (life_among old m)) (ap life_seen up.is ∙ ap life.Up (sym up.boot_is));
      told = told_by n P old new ch flying flying seconds seconds book book' on.seen ch.does.told;
      quiet = quiet_by n P old new ch flying flying seconds seconds book book' on.faults ch.does.faults (λ boot _. st.mail.quiet);
      clock = refl;
      passed = tt;
      books = longer_by book book' (entries_of_start n started) wrote;
      kept = tt;
      leads = λ known ended. lift on _ _ _ _ (even_of old) (even_of new) tt (λ v stands done. tt) (alone_keeps n P old new ch fresh_by) (λ w stands.
          let f = found w stands in
          let whole_so = over (WholeStartedOver on old.plan n ch.disk ch.disk' node) known w f st.over in
          let so = whole_so.mail in
          let slot' : Slot = slot_up (node_seen node.mail) so.new in
          let images : IfSome (on.seen ch.disk') (λ _. (c : List ℕ) → on.clock.is_image ch.disk' c → EndsAt n c (payloads_of so.new) (end_in node.mail)) =
          both_held (on.seen ch.disk') (λ held. IsOnly on.clock ch.disk' held) (λ held. EndsAt n held (payloads_of so.new) (end_in node.mail)) _
          (λ held alone ends c image. subst (λ x. EndsAt n x (payloads_of so.new) (end_in node.mail)) (sym (alone c image)) ends) (only ch.disk' settled) so.tells in
          let stands' : SlotStands on n ch.life' ch.disk' slot' = subst (λ l. SlotStands on n l ch.disk' slot') (sym up.is)
          (node_seen node.mail, refl, record { seen_is = refl; keeps = so.keeps; tells = so.tells; images = images }) in
          leads_so (Ok (said.NodeUp boot)) (entries_seen (written.Up n boot ∷ [])) (booked ∙ ap (λ r. booked_by book ++ entries_seen (entries_of_start n r)) e) w stands f
          slot' stands' (keeps_so w f slot' so.new (append-nil so.new) so.stops_keep) (
            start_goes_now w stands f,
            StartsUp.Comes f.slot.disk f.pending (node_seen node.mail) so.new (f.here ∙ ap Some f.whole) so.starts (subst (λ b. b ≤ greatest_boot) up.boot_is up.small) (ap steps.Said.NodeUp up.boot_is)
                (ap (λ (b : ℕ). record w { slots = with_slot w.slots n slot'; book = w.book ++ entries_seen (written.Up n b ∷ []) }) up.boot_is),
          ) (λ v seen maps.
          let boot_is : boot ≡ boot_of (f.slot.disk ++ so.starts.kept) + 1 = up.boot_is ∙ ap (λ (x : plain.Node). x.boot) so.starts.is in
          start_comes n P old new ch v maps old.plan (tells_in on.seen before) w seen f.slot.disk f.pending (slot_down w f) node so.starts.kept so.new boot up.is so.starts.pending_is so.starts.records
          whole_so.starts boot_is (subst (λ b. b ≤ greatest_boot) boot_is up.small) (start_goes_now w stands f)));
      cause = λ w stands. tt;
    }
      where
        fresh_by : (b : WholeNode) → ch.life' ≡ Up b → KeepsReads (joint_life ch.life) (joint_seen b)
        fresh_by b is = subst (λ l. KeepsReads (joint_life l) (joint_seen b)) (sym was_down) (subst (λ (x : WholeNode). KeepsReads (joint_life Down) (joint_seen x)) (up_same node b (sym up.is ∙ is)) up.fresh)

    pub start_did : (r : Result ℕ NodeFault) → started ≡ r → StepDid on (said_of_start n r) (step.Start n) before behind
    start_did (Ok boot) e =
        let comes : ComesToThis on old.plan n (Ok boot) ch.disk ch.life' ch.disk' = subst (λ (r : Result ℕ NodeFault). ComesToThis on old.plan n r ch.disk ch.life' ch.disk') e ch.does.comes in
        let settled : is_settled ch.disk' = subst (λ (r : Result ℕ NodeFault). IfOk r (λ _. is_settled ch.disk')) e ch.does.settled in
        let (node, up, st) = comes in
        did_start boot e settled node up st
    start_did (Err why) e =
        let comes : ComesToThis on old.plan n (Err why) ch.disk ch.life' ch.disk' = subst (λ (r : Result ℕ NodeFault). ComesToThis on old.plan n r ch.disk ch.life' ch.disk') e ch.does.comes in
        did_fail why e comes.0 comes.1

-- No letters can be sent any more: a start is refused.
module _ {D : Type 0} (on : View D) (n : ℕ) (old : Nodes D) (fit : node_refusal old.plan (life_among old) (step.Start n) ≡ None) (flying : InFlight) (seconds : ℕ) (book : Book)
    (late : nat_le letters_end flying.sent ≡ true) where
  here_down : (o : Option Life) → life_refusal (step.Start n) (seen_life o) ≡ None → o ≡ Some Down
  here_down None e = absurd (let never : Some fault.NodeLost ≡ None = e in cc)
  here_down (Some l) e = ap Some (start_down n l e)

  pub start_late : StepDid on (Err fault.Worn) (step.Start n) (state_with old flying seconds book) (state_with old flying seconds book)
  start_late = record {
    plan = refl;
    handed = refl;
    refused = sym fit;
    kind = tt;
    falls = tt;
    lives = λ m. refl;
    told = same_told on (state_with old flying seconds book);
    quiet = same_quiet on (state_with old flying seconds book);
    clock = refl;
    passed = tt;
    books = same_book (booked_by book);
    kept = same_unchanged on (state_with old flying seconds book) (step.Start n);
    leads = λ known ended story v st sound.
        let w = mail_world_of (whole_world_of v) in
        let down : of_node old.lives.items n ≡ Some Down =
        here_down (of_node old.lives.items n) (fit_of (list_all (is_node old.plan) (n ∷ [])) (life_refusal (step.Start n) (life_among old n)) fit).1 in
        let (disk, held) = Rattle.cluster_world.proofs.Asked.disk_of old.disks.items old.lives.items n Down (old.all ∙ sym old.disk_each) down in
        let (slot, here, stood) = slot_of on old.lives.items old.disks.items w.slots n Down disk st.mail.slots down held in
        let (pending, is, fit_all, holds) = stood in
        led_kept on (state_with old flying seconds book) (Err fault.Worn) (step.Start n) v st (record { step_is = refl; said_is = refl; sees = tt }) tt (λ done. done)
        (inl (inl (start_is_worn old.plan w n slot (named_of old.plan (life_among old) n fit) here pending is (ap (nat_le letters_end) (sym st.mail.sent) ∙ late))), refl);
    cause = λ w st. tt;
  }
