-- What a step does that gives a copy a target more.
use Rattle.std.proofs.Common.{◌≡◌, inl, ℕ, ◌≤◌, ◌||◌, nat_le, Bool, true, false, List, [], ◌∷◌, ◌++◌, length, drop, append-nil, Option, Some, None, Result, Ok, Err, refl, sym, ap, ◌∙◌, subst, arith, if◌then◌else◌}
use Rattle.std.specs.List.{list_all}
use Rattle.mail_model.specs.Identity.{Id}
use Rattle.mail_model.specs.Identity.Key.{Message}
use Rattle.mail_model.specs.Plan.{Plan}
use Rattle.cluster_model.specs.Cluster as plain
use Rattle.cluster_model.specs.Cluster.{Slot, slot_at, with_slot}
use Rattle.cluster_model.specs.Deeds.{slot_up}
use Rattle.cluster_model.specs.Room.{has_room}
use Rattle.cluster_model.specs.Rules.{widen}
use Rattle.cluster_model.specs.World as machine
use Rattle.cluster_model.specs.World.{put}
use Rattle.cluster_model.specs.Steps as steps
use Rattle.cluster_model.specs.Steps.{is_node, letters_end, slot_fault, is_worn_at, first_fault, step_fault}
use Rattle.cluster_model.specs.Makes.{Widens, RunsShort, cut_world}
use Rattle.whole_model.specs.Rules.{follows}
use Rattle.node_maps.specs.Nodes.{node_of, own_of}
use Rattle.node_store.specs.Disks.{View}
use Rattle.whole_node.specs.Following.{FollowsRule}
use Rattle.node_core.specs.Nodes.{node_seen}
use Rattle.node_core.specs.Pushing.{WidensCopy}
use Rattle.node_core.specs.Works.{Rule, LeavesUp}
use Rattle.node_core.specs.declared.fault.NodeFault.{NodeFault}
use Rattle.node_core.specs.declared.fault.NodeFault.TheVariants.{Disk, Worn, NoMemory}
use Rattle.whole_node.specs.Nodes.{WholeWorks, joint_seen}
use Rattle.whole_node.specs.declared.node.WholeNode.{WholeNode}
use Rattle.world_book.specs.Books.{entries_of}
use Rattle.world_book.specs.declared.book.Book.{Book}
use Rattle.world_book.specs.declared.entry.Entry.TheVariants as written
use Rattle.cluster_world.specs.Books.{entries_seen, booked_by}
use Rattle.cluster_world.specs.Flights.{InFlight}
use Rattle.cluster_world.specs.Lives.{life_seen, of_node, all_falls_left, CanWorkOn}
use Rattle.cluster_world.specs.Stands.{SlotsStand}
use Rattle.cluster_world.specs.Worlds.{WorldState, seen_life, life_among, state_with, StateStandsFor}
use Rattle.cluster_world.specs.Changes.{ChangesNode}
use Rattle.cluster_world.specs.Turning.{life_left}
use Rattle.cluster_world.specs.Turns.{life_refusal, node_refusal}
use Rattle.cluster_world.specs.Widens.{said_of_widening, entries_of_widening, WidensAt}
use Rattle.cluster_world.specs.Steps.{StepDid, AreSettled, WasToWork}
use Rattle.cluster_world.specs.declared.life.Life.TheVariants.{Up, Down}
use Rattle.cluster_world.specs.declared.nodes.Nodes.{Nodes}
use Rattle.cluster_world.specs.declared.step.Step.TheVariants as step
use Rattle.cluster_world.specs.declared.step.Said.TheVariants as said
use Rattle.cluster_world.specs.declared.fault.StepFault.TheVariants as fault
use Rattle.cluster_world.proofs.Same.{same_told, same_quiet, led_kept, same_unchanged}
use Rattle.cluster_world.proofs.Still.{nothing_read}
use Rattle.cluster_world.proofs.Turned.{as_many}
use Rattle.cluster_world.proofs.Refusing.{fit_of}
use Rattle.cluster_world.proofs.Falling.{entries_more}
use Rattle.cluster_world.proofs.Asked.{slot_same}
use Rattle.cluster_world.proofs.AfterWidening.{works_there, StaysUp, FallsDown, did_stay, read_stays, stopped_falls, stays_lives, stays_ready, stays_falls, stays_told, stays_quiet, stays_settled, down_lives, down_ready, down_falls, down_told, down_quiet, down_settled, FoundUp, found_up, did_there, CutThere, cut_there, read_there, within_first, caused, up_of, slot_up_of}
use Rattle.cluster_world.proofs.Unchanged.{unchanged_by, memory_kept}
use Rattle.cluster_world.proofs.Follows.{alone_follows, fall_follows, idle_follows, only_none, rule_follows}
use Rattle.cluster_world.proofs.Turning.{up_same}
use Rattle.cluster_world.proofs.Wholly.{led, even_of}
use Rattle.cluster_world.proofs.Longer.{same_book, longer_by}
use Rattle.cluster_world.proofs.Lifting.{lift}
use Rattle.cluster_world.proofs.Beside.{alone_keeps, turns_keep, turns_same}
use Rattle.joint_world.specs.World.{mail_world_of}
use Rattle.joint_world.specs.Staying.{KeepsReads}
use Rattle.cluster_world.specs.Keeping.{joint_life}

-- The machine refuses it only once no letters are sent any more.
module _ (plan : Plan) (w : machine.World) (n to : ℕ) (user : List ℕ) (id : Id) (slot : Slot) (node : plain.Node)
    (named : list_all (is_node plan) (n ∷ to ∷ []) ≡ true) (here : slot_at w.slots n ≡ Some slot) (up : slot.life ≡ plain.Life.Up node) where
  abbrev Worns : Bool → Option steps.StepFault
  Worns b = if b || is_worn_at plan w.seconds (steps.Step.Widen n user id to) (slot_at w.slots n) then Some steps.StepFault.Worn else None

  fault_is : (b : Bool) → nat_le letters_end w.sent ≡ b → step_fault plan (steps.Step.Widen n user id to) w ≡ first_fault (None ∷ None ∷ None ∷ Worns b ∷ None ∷ [])
  fault_is b e = firsts _ _ _
      (ap (λ x. if x then None else Some steps.StepFault.NoSuchNode) named)
      (ap (slot_fault (steps.Step.Widen n user id to)) here ∙ ap (steps.life_fault (steps.Step.Widen n user id to)) up)
      (ap Worns e)
    where
      firsts : (x y z : Option steps.StepFault) → x ≡ None → y ≡ None → z ≡ Worns b → first_fault (x ∷ y ∷ None ∷ z ∷ None ∷ []) ≡ first_fault (None ∷ None ∷ None ∷ Worns b ∷ None ∷ [])
      firsts x y z p q r = rw (p, q, r) refl

  widen_goes : nat_le letters_end w.sent ≡ false → step_fault plan (steps.Step.Widen n user id to) w ≡ None
  widen_goes early = fault_is false early ∙ ap (λ o. first_fault (None ∷ None ∷ None ∷ (if is_worn_at plan w.seconds (steps.Step.Widen n user id to) o then Some steps.StepFault.Worn else None) ∷ None ∷ [])) here

  widen_is_worn : nat_le letters_end w.sent ≡ true → step_fault plan (steps.Step.Widen n user id to) w ≡ Some steps.StepFault.Worn
  widen_is_worn late = fault_is true late

module _ {D : Type 0} (on : View D) (n to : ℕ) (user : List ℕ) (id : Id) (old : Nodes D)
    (fit : node_refusal old.plan (life_among old) (step.Widen n user id to) ≡ None) (ready : CanWorkOn on.seen old.plan old.lives.items old.disks.items) where
  named : list_all (is_node old.plan) (n ∷ to ∷ []) ≡ true
  named = (fit_of (list_all (is_node old.plan) (n ∷ to ∷ [])) (life_refusal (step.Widen n user id to) (life_among old n)) fit).0

  abbrev widens : Rule
  widens = λ node disk. widen n to (Message user id) node disk

  module _ (is_settled : D → Type 0) (new : Nodes D) (done : Result Bool NodeFault) (ch : ChangesNode n (WidensAt on is_settled n to (Message user id) done) old new) where
    abbrev P : Rattle.cluster_world.specs.declared.life.Life.Life → D → Rattle.cluster_world.specs.declared.life.Life.Life → D → Type 0
    P = WidensAt on is_settled n to (Message user id) done

    abbrev a : WholeNode
    a = ch.does.0.old

    abbrev b : WholeNode
    b = ch.does.0.new

    was : ch.life ≡ Up a
    was = ch.does.0.was

    own : (node : WholeNode) → ch.life' ≡ Up node → KeepsReads (joint_life ch.life) (joint_seen node)
    own = turns_keep on.seen (λ result old before new after. WidensCopy on n to (Message user id) old before new after result) (λ result old before new after. FollowsRule (λ node disk. widen n to (Message user id) node disk) result old new)
        done ch.life ch.disk ch.life' ch.disk' ch.does.0

    -- what came of it
    abbrev Comes : Result Bool NodeFault → Type 0
    Comes r = WidensCopy on n to (Message user id) a.mail ch.disk b.mail ch.disk' r × (ch.life' ≡ life_left r b) × (LeavesUp r → (is_settled ch.disk → is_settled ch.disk') × WholeWorks (on.seen ch.disk') b)

    comes : (r : Result Bool NodeFault) → done ≡ r → Comes r
    comes r e = subst Comes e (ch.does.0.did, ch.does.0.is, λ up. (ch.does.1 up, ch.does.0.works up))

    -- and of its maps
    follows_so : (r : Result Bool NodeFault) → done ≡ r → FollowsRule widens r a b
    follows_so r e = subst (λ (x : Result Bool NodeFault). FollowsRule widens x a b) e ch.does.0.maps

    own_here : own_of a.maps ≡ n
    own_here = let there = works_there on n P old new ch ready a was in there.1.maps.own ∙ there.0.own_is

    abbrev Stays : Type 0
    Stays = StaysUp on n P old new ch ready a was b

    abbrev Falls : Type 0
    Falls = FallsDown on n P old new ch ready a was

    stays_did : (did : Bool) → Comes (Ok did) → Stays
    stays_did did c = did_stay on n P old new ch ready a was widens b [] c.1 c.0.1 (c.2 tt).1

    stays_out : Comes (Err (NoMemory false)) → Stays
    stays_out c = read_stays on n P old new ch ready a was b c.1 c.0.0 (nothing_read on ch.disk ch.disk' c.0.1) (ap on.faults c.0.1) (c.2 tt).1

    falls_disk : Comes (Err Disk) → Falls
    falls_disk c = stopped_falls on n P old new ch ready a was widens c.1 c.0.1 c.0.2.0

    falls_out : Comes (Err (NoMemory true)) → Falls
    falls_out c = stopped_falls on n P old new ch ready a was widens c.1 c.0.1 c.0.2

    pub widened_ready : (r : Result Bool NodeFault) → done ≡ r → CanWorkOn on.seen new.plan new.lives.items new.disks.items
    widened_ready (Ok did) e = stays_ready on n P old new ch ready a was b (stays_did did (comes (Ok did) e))
    widened_ready (Err Disk) e = down_ready on n P old new ch ready a was (falls_disk (comes (Err Disk) e))
    widened_ready (Err Worn) e = absurd (comes (Err Worn) e).0
    widened_ready (Err (NoMemory true)) e = down_ready on n P old new ch ready a was (falls_out (comes (Err (NoMemory true)) e))
    widened_ready (Err (NoMemory false)) e = stays_ready on n P old new ch ready a was b (stays_out (comes (Err (NoMemory false)) e))

    pub widened_falls : (r : Result Bool NodeFault) → done ≡ r → all_falls_left new.lives.items ≤ all_falls_left old.lives.items
    widened_falls (Ok did) e = omega (arith, stays_falls on n P old new ch ready a was b (stays_did did (comes (Ok did) e)))
    widened_falls (Err Disk) e = omega (arith, down_falls on n P old new ch ready a was (falls_disk (comes (Err Disk) e)))
    widened_falls (Err Worn) e = absurd (comes (Err Worn) e).0
    widened_falls (Err (NoMemory true)) e = omega (arith, down_falls on n P old new ch ready a was (falls_out (comes (Err (NoMemory true)) e)))
    widened_falls (Err (NoMemory false)) e = omega (arith, stays_falls on n P old new ch ready a was b (stays_out (comes (Err (NoMemory false)) e)))

    module _ (flying : InFlight) (seconds : ℕ) (book book' : Book) where
      abbrev before : WorldState D
      before = state_with old flying seconds book

      abbrev behind : WorldState D
      behind = state_with new flying seconds book'

      pub widened_settled : (r : Result Bool NodeFault) → done ≡ r → AreSettled is_settled before → AreSettled is_settled behind
      widened_settled (Ok did) e =
          let c = comes (Ok did) e in
          stays_settled on n P old new ch ready a was b (stays_did did c) flying flying seconds seconds book book' is_settled (c.2 tt).0
      widened_settled (Err Disk) e = down_settled on n P old new ch ready a was (falls_disk (comes (Err Disk) e)) flying flying seconds seconds book book' is_settled
      widened_settled (Err Worn) e = absurd (comes (Err Worn) e).0
      widened_settled (Err (NoMemory true)) e = down_settled on n P old new ch ready a was (falls_out (comes (Err (NoMemory true)) e)) flying flying seconds seconds book book' is_settled
      widened_settled (Err (NoMemory false)) e =
          let c = comes (Err (NoMemory false)) e in
          stays_settled on n P old new ch ready a was b (stays_out c) flying flying seconds seconds book book' is_settled (c.2 tt).0

      module _ (early : nat_le letters_end flying.sent ≡ false) (wrote : entries_of book' ≡ entries_of book ++ entries_of_widening n done) where
        booked : (r : Result Bool NodeFault) → done ≡ r → booked_by book' ≡ booked_by book ++ entries_seen (entries_of_widening n r)
        booked r e = ap entries_seen wrote ∙ entries_more (entries_of book) (entries_of_widening n done) ∙ ap (λ x. booked_by book ++ entries_seen (entries_of_widening n x)) e

        goes : (w : machine.World) (st : StateStandsFor on before w) → (f : FoundUp on n P old new ch ready a was w.slots st.slots) → step_fault old.plan (steps.Step.Widen n user id to) w ≡ None
        goes w st f = widen_goes old.plan w n to user id (slot_up (node_seen a.mail) f.slot.disk) (node_seen a.mail) named f.up refl (ap (nat_le letters_end) (sym st.sent) ∙ early)

        -- It did its work.
        did_well : (did : Bool) → done ≡ Ok did → Comes (Ok did) → StepDid on (Ok (said.Widened did)) (step.Widen n user id to) before behind
        did_well did e c = let s = stays_did did c in record {
          plan = ch.plan;
          handed = as_many n P old new ch;
          refused = sym fit;
          kind = tt;
          falls = tt;
          lives = stays_lives on n P old new ch ready a was b s;
          told = stays_told on n P old new ch ready a was b s flying flying seconds seconds book book';
          quiet = stays_quiet on n P old new ch ready a was b s flying flying seconds seconds book book';
          clock = refl;
          passed = tt;
          books = longer_by book book' (entries_of_widening n done) wrote;
          kept = tt;
          leads = λ known ended. lift on _ _ _ _ (even_of old) (even_of new) tt (λ v stands done. tt) (alone_keeps n P old new ch own) (λ w st.
              let f = found_up on n P old new ch ready a was w.slots st.slots in
              let t = did_there on n P old new ch ready a was w.slots st.slots widens b [] c.1 c.0.1 f in
              led on (Ok (said.Widened did)) (step.Widen n user id to) before behind (even_of old) (even_of new) w st (record { step_is = refl; said_is = refl; sees = tt }) (λ v seen sound done_. tt) (record {
                next = record w { slots = with_slot w.slots n (slot_up (widens (node_seen a.mail) f.slot.disk).node (widens (node_seen a.mail) f.slot.disk).disk) };
                stands = record { slots = t.moved.stand; flying = st.flying; sent = st.sent; seconds = st.seconds; book = booked (Ok did) e ∙ append-nil (booked_by book) ∙ st.book };
                made = (
                  goes w st f,
                  Widens.Adds (node_seen a.mail) f.slot.disk f.up (ap steps.Said.Widened (c.0.0 f.slot.disk f.keeps))
                      (sym (ap (λ out. put has_room out (record w { slots = with_slot w.slots n (slot_up (widens (node_seen a.mail) f.slot.disk).node (widens (node_seen a.mail) f.slot.disk).disk) })) t.out)),
                );
                stops = record { each = t.moved.stops };
                follow = alone_follows on n P old new ch w.slots f.slot (slot_up (widens (node_seen a.mail) f.slot.disk).node (widens (node_seen a.mail) f.slot.disk).disk) f.here (λ x y was' is'.
                    ap (λ (z : WholeNode). node_of z.maps) (up_same y b (sym is' ∙ c.1))
                    ∙ rule_follows widens n a b f.slot.disk c.0.1.added own_here (follows_so (Ok did) e) f.keeps (c.0.1.disk f.slot.disk f.keeps)
                    ∙ ap (λ (z : WholeNode). follows n (node_of z.maps) f.slot.disk (drop (length f.slot.disk) (widens (node_seen a.mail) f.slot.disk).disk)) (up_same a x (sym was ∙ was')));
              }));
          cause = λ w st. tt;
        }

        -- It went down.
        cut_stands : (r : Result Bool NodeFault) → done ≡ r → entries_of_widening n r ≡ written.Down n ∷ [] → (w : machine.World) (st : StateStandsFor on before w) (f : FoundUp on n P old new ch ready a was w.slots st.slots)
            → (t : CutThere on n P old new ch ready a was w.slots st.slots widens f) → StateStandsFor on behind (cut_world w n f.slot.disk t.front t.pending)
        cut_stands r e down w st f t = record {
          slots = t.moved.stand;
          flying = st.flying;
          sent = st.sent;
          seconds = st.seconds;
          book = booked r e ∙ ap (λ x. booked_by book ++ entries_seen x) down ∙ ap (λ x. x ++ entries_seen (written.Down n ∷ [])) st.book;
        }

        fell : WasToWork old.plan.nodes (step.Widen n user id to) (life_among old n) n
        fell = let inside = within_first old.plan n to named in record { above = inside.0; within = inside.1; worked = inl ((node_seen a.mail).boot, ap seen_life ch.was ∙ ap life_seen was) }

        did_fail : done ≡ Err Disk → Comes (Err Disk) → StepDid on (Ok (said.Faulted n)) (step.Widen n user id to) before behind
        did_fail e c = let s = falls_disk c in record {
          plan = ch.plan;
          handed = as_many n P old new ch;
          refused = sym fit;
          kind = refl;
          falls = fell;
          lives = down_lives on n P old new ch ready a was s;
          told = down_told on n P old new ch ready a was s flying flying seconds seconds book book';
          quiet = down_quiet on n P old new ch ready a was s flying flying seconds seconds book book';
          clock = refl;
          passed = tt;
          books = longer_by book book' (entries_of_widening n done) wrote;
          kept = tt;
          leads = λ known ended. lift on _ _ _ _ (even_of old) (even_of new) tt (λ v stands done. tt) (alone_keeps n P old new ch own) (λ w st.
              let f = found_up on n P old new ch ready a was w.slots st.slots in
              let t = cut_there on n P old new ch ready a was w.slots st.slots widens c.1 c.0.1 f in
              led on (Ok (said.Faulted n)) (step.Widen n user id to) before behind (even_of old) (even_of new) w st (record { step_is = refl; said_is = refl; sees = tt }) (λ v seen sound done_. tt) (record {
                next = cut_world w n f.slot.disk t.front t.pending;
                stands = cut_stands (Err Disk) e refl w st f t;
                made = (goes w st f, Widens.FailsWidening (node_seen a.mail) f.slot.disk f.up refl (record { front = t.front; pending = t.pending; one = t.one; cut = t.cut; is = refl }));
                stops = record { each = t.moved.stops };
                follow = fall_follows on n P old new ch w.slots f.slot (record { life = plain.Life.Down t.pending; disk = f.slot.disk ++ t.front }) f.here (λ y up. let never : Down ≡ Up y = sym c.1 ∙ up in cc);
              }));
          cause = λ w st. caused on n P old new ch (step.Widen n user id to) flying flying seconds seconds book book' (inl c.0.2.1);
        }

        did_break : done ≡ Err (NoMemory true) → Comes (Err (NoMemory true)) → StepDid on (Err (fault.NoMemory (Some n))) (step.Widen n user id to) before behind
        did_break e c = let s = falls_out c in record {
          plan = ch.plan;
          handed = as_many n P old new ch;
          refused = tt;
          kind = tt;
          falls = fell;
          lives = down_lives on n P old new ch ready a was s;
          told = down_told on n P old new ch ready a was s flying flying seconds seconds book book';
          quiet = down_quiet on n P old new ch ready a was s flying flying seconds seconds book book';
          clock = refl;
          passed = tt;
          books = longer_by book book' (entries_of_widening n done) wrote;
          kept = tt;
          leads = λ known ended. lift on _ _ _ _ (even_of old) (even_of new) tt (λ v stands done. tt) (alone_keeps n P old new ch own) (λ w st.
              let f = found_up on n P old new ch ready a was w.slots st.slots in
              let t = cut_there on n P old new ch ready a was w.slots st.slots widens c.1 c.0.1 f in
              led on (Err (fault.NoMemory (Some n))) (step.Widen n user id to) before behind (even_of old) (even_of new) w st (record { step_is = refl; said_is = refl; sees = tt }) (λ v seen sound done_. tt) (record {
                next = cut_world w n f.slot.disk t.front t.pending;
                stands = cut_stands (Err (NoMemory true)) e refl w st f t;
                made = RunsShort.Widening user id to (node_seen a.mail) f.slot.disk refl f.up (record { front = t.front; pending = t.pending; one = t.one; cut = t.cut; is = refl });
                stops = record { each = t.moved.stops };
                follow = fall_follows on n P old new ch w.slots f.slot (record { life = plain.Life.Down t.pending; disk = f.slot.disk ++ t.front }) f.here (λ y up. let never : Down ≡ Up y = sym c.1 ∙ up in cc);
              }));
          cause = λ w st. tt;
        }

        -- It ran out of memory before it began.
        did_nothing : done ≡ Err (NoMemory false) → Comes (Err (NoMemory false)) → StepDid on (Err (fault.NoMemory None)) (step.Widen n user id to) before behind
        did_nothing e c = let s = stays_out c in record {
          plan = ch.plan;
          handed = as_many n P old new ch;
          refused = tt;
          kind = tt;
          falls = tt;
          lives = stays_lives on n P old new ch ready a was b s;
          told = stays_told on n P old new ch ready a was b s flying flying seconds seconds book book';
          quiet = stays_quiet on n P old new ch ready a was b s flying flying seconds seconds book book';
          clock = refl;
          passed = tt;
          books = longer_by book book' (entries_of_widening n done) wrote;
          kept = unchanged_by n P old new ch flying flying seconds seconds book book' on (step.Widen n user id to) (memory_kept ch.life ch.life' a b was c.1 c.0.0 (ap node_of (follows_so (Err (NoMemory false)) e)) (turns_same ch.life ch.life' own a b was c.1 (ap node_of (follows_so (Err (NoMemory false)) e))))
              (λ _. c.0.1) (λ _. (nothing_read on ch.disk ch.disk' c.0.1, ap on.faults c.0.1)) refl refl (booked (Err (NoMemory false)) e ∙ append-nil (booked_by book));
          leads = λ known ended. lift on _ _ _ _ (even_of old) (even_of new) tt (λ v stands done. tt) (alone_keeps n P old new ch own) (λ w st.
              let f = found_up on n P old new ch ready a was w.slots st.slots in
              let m = read_there on n P old new ch ready a was w.slots st.slots (nothing_read on ch.disk ch.disk' c.0.1) f b c.1 c.0.0 in
              let same : with_slot w.slots n f.slot ≡ w.slots = slot_same w.slots n f.slot f.here in
              led on (Err (fault.NoMemory None)) (step.Widen n user id to) before behind (even_of old) (even_of new) w st (record { step_is = refl; said_is = refl; sees = tt }) (λ v seen sound done_. tt) (record {
                next = w;
                stands = record {
                  slots = subst (λ slots. SlotsStand on new.lives.items new.disks.items slots) same m.stand;
                  flying = st.flying;
                  sent = st.sent;
                  seconds = st.seconds;
                  book = booked (Err (NoMemory false)) e ∙ append-nil (booked_by book) ∙ st.book;
                };
                made = refl;
                stops = record { each = λ k d d' x x' p q r t. m.stops k d d' x x' p q r (ap (λ slots. slot_at slots k) same ∙ t) };
                follow = idle_follows on n P old new new ch (λ slots. slots) (only_none on new) w.slots f.slot f.here w.slots (λ k. refl) a b was c.1 (ap node_of (follows_so (Err (NoMemory false)) e));
              }));
          cause = λ w st. tt;
        }

        pub widened_did : (r : Result Bool NodeFault) → done ≡ r → StepDid on (said_of_widening n r) (step.Widen n user id to) before behind
        widened_did (Ok did) e = did_well did e (comes (Ok did) e)
        widened_did (Err Disk) e = did_fail e (comes (Err Disk) e)
        widened_did (Err Worn) e = absurd (comes (Err Worn) e).0
        widened_did (Err (NoMemory true)) e = did_break e (comes (Err (NoMemory true)) e)
        widened_did (Err (NoMemory false)) e = did_nothing e (comes (Err (NoMemory false)) e)

  -- No letters are sent any more: it is refused.
  module _ (flying : InFlight) (seconds : ℕ) (book : Book) (late : nat_le letters_end flying.sent ≡ true) where
    pub widening_late : StepDid on (Err fault.Worn) (step.Widen n user id to) (state_with old flying seconds book) (state_with old flying seconds book)
    widening_late = record {
      plan = refl;
      handed = refl;
      refused = sym fit;
      kind = tt;
      falls = tt;
      lives = λ m. refl;
      told = same_told on (state_with old flying seconds book);
      quiet = same_quiet on (state_with old flying seconds book);
      clock = refl;
      passed = tt;
      books = same_book (booked_by book);
      kept = same_unchanged on (state_with old flying seconds book) (step.Widen n user id to);
      leads = λ known ended story v st sound.
          let w = mail_world_of v in
          let (node, here) = up_of (step.Widen n user id to) (of_node old.lives.items n) tt (fit_of (list_all (is_node old.plan) (n ∷ to ∷ [])) (life_refusal (step.Widen n user id to) (life_among old n)) fit).1 in
          let (slot, found, (seen, up)) = slot_up_of on old n node here w.slots st.mail.slots in
          led_kept on (state_with old flying seconds book) (Err fault.Worn) (step.Widen n user id to) v st (record { step_is = refl; said_is = refl; sees = tt }) tt (λ done. done)
          (inl (inl (widen_is_worn old.plan w n to user id slot seen named found up (ap (nat_le letters_end) (sym st.mail.sent) ∙ late))), refl);
      cause = λ w st. tt;
    }
