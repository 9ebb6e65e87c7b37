-- What a step leaves in which one node worked, and after which tickets may have changed: the node did its work, or stopped in it, or went down after it.
use Rattle.std.proofs.Common.{◌≡◌, ◌≢◌, ℕ, zero, suc, ◌+◌, ◌≤◌, List, [], ◌∷◌, ◌++◌, length, drop, append-nil, Option, Some, Result, refl, sym, ap, ◌∙◌, subst, arith}
use Rattle.std.specs.Prelude.{slice_set, IfSome, IfOk}
use Rattle.mail_model.specs.Plan.{Plan}
use Rattle.mail_model.specs.Record.{Record, payloads_of}
use Rattle.mail_model.specs.Book.{BookEntry}
use Rattle.mail_model.specs.Book.BookEntry.{WentDown}
use Rattle.object_model.specs.Letters.{Letter}
use Rattle.object_model.specs.Mishaps.MishapKind.{Crowded}
use Rattle.session_model.specs.Events.{NodeLife as life, turned}
use Rattle.io_edge.specs.Octets.{IsToldAlike}
use Rattle.cluster_model.specs.Cluster as plain
use Rattle.cluster_model.specs.Cluster.{Slot, slot_at, with_slot}
use Rattle.cluster_model.specs.Deeds.{slot_up}
use Rattle.cluster_model.specs.Room.{Flight}
use Rattle.cluster_model.specs.World as machine
use Rattle.cluster_model.specs.Makes.{IsUp, IsWorkCut, after}
use Rattle.disk_journal.specs.Journal.{EndsAt, TellsJournal}
use Rattle.whole_model.specs.Rules.{follows}
use Rattle.node_maps.specs.Nodes.{node_of, own_of}
use Rattle.node_store.specs.Disks.{View}
use Rattle.whole_node.specs.Following as node_follows
use Rattle.node_core.specs.Nodes.{node_seen, NodeKeeps, IsAsBefore, IsNodeOf}
use Rattle.node_core.specs.Works.{Rule, NodeDid, NodeStopped}
use Rattle.whole_node.specs.Nodes.{WholeWorks, joint_seen}
use Rattle.whole_node.specs.declared.node.WholeNode.{WholeNode}
use Rattle.world_book.specs.declared.book.Book.{Book}
use Rattle.cluster_world.specs.Books.{booked_by, IsLongerBook}
use Rattle.cluster_world.specs.Flights.{InFlight, PutDown, put_down, flights_without, taken_out}
use Rattle.cluster_world.specs.Lives.{life_seen, of_node, with_node_at, falls_left, all_falls_left, CanWorkOn}
use Rattle.cluster_world.specs.Stands.{SlotStands, SlotsStand}
use Rattle.cluster_world.specs.Worlds.{WorldState, seen_life, life_among, state_with, StateStandsFor}
use Rattle.cluster_world.specs.Changes.{ChangesNode, IsTurnedTo}
use Rattle.cluster_world.specs.Missing.{all_missed, OnlyTickets, SentOff}
use Rattle.cluster_world.specs.Moments.{StopsKeep}
use Rattle.cluster_world.specs.Works.{slot_after, SlotTurned, SlotCut}
use Rattle.cluster_world.specs.Turns.{node_refusal, life_after_step, seconds_after_step}
use Rattle.cluster_world.specs.Steps.{AreToldAlike, IsQuiet, AreSettled, EveryStopKeeps, StepDid, FaultHasCause, IsRefusedRight, SaysSo, FallsSo, ChangesNothing, LeadsMail, HasPassed}
use Rattle.cluster_world.specs.declared.step.Step.{Step}
use Rattle.cluster_world.specs.declared.step.Said.{Said}
use Rattle.cluster_world.specs.declared.fault.StepFault.{StepFault}
use Rattle.cluster_world.specs.declared.life.Life.{Life}
use Rattle.cluster_world.specs.declared.life.Life.TheVariants.{Up, Down}
use Rattle.cluster_world.specs.declared.nodes.Nodes.{Nodes}
use Rattle.cluster_world.proofs.Still.{some_same, untouched}
use Rattle.cluster_world.proofs.Turning.{up_same}
use Rattle.cluster_world.proofs.Follows.{MapsFollow, disk_at, all_disk, one_follows, rule_follows, idle_follows}
use Rattle.cluster_world.proofs.Worked.{did_turned, cut_down}
use Rattle.cluster_world.proofs.Turned.{slot_of, slots_stand, stops_kept, lives_turned, disk_there, as_many, told_by, quiet_by, settled_by, still_ready, falls_now}
use Rattle.cluster_world.proofs.Asked.{slot_same}
use Rattle.cluster_world.proofs.Befallen.{turned_still}
use Rattle.cluster_world.proofs.Falling.{fallen}
use Rattle.cluster_world.proofs.Kept.{kept_at, all_kept, stops_on}
use Rattle.cluster_world.proofs.Putting.{with_put, put_is}
use Rattle.cluster_world.proofs.SameReads.{same_reads}
use Rattle.cluster_world.proofs.Lifting.{IsNoAsk, IsDoneWhole, lift}
use Rattle.cluster_world.proofs.Beside.{one_keeps}
use Rattle.cluster_world.proofs.Wholly.{even_of}
use Rattle.joint_world.specs.World as joint_world
use Rattle.joint_world.specs.Staying.{KeepsReads, IsForWhole}
use Rattle.cluster_world.specs.Keeping.{joint_life}
use Rattle.cluster_world.specs.Maps.{StandsForAll}
use Rattle.cluster_world.specs.Seen.{whole_step, whole_outcome}

same_maps : (a b : WholeNode) → Up a ≡ Up b → b.maps ≡ a.maps
same_maps a b e = ap (λ (x : WholeNode). x.maps) (sym (up_same a b e))

-- Nothing else changed after the node worked.
pub nothing_else : {D : Type 0} (on : View D) (nodes : Nodes D) → OnlyTickets on (λ slots. slots) nodes nodes
nothing_else on nodes = record { plan = refl; disks = refl; lives = λ n. refl; maps = λ n a b e f. same_maps a b (some_same (Up a) (Up b) (sym e ∙ f)); beside = λ n a b e f. same_reads a b (up_same b a (some_same (Up b) (Up a) (sym f ∙ e))); falls = refl; slots = λ slots s. s }

set_again : {X : Type 0} (xs : List X) (k : ℕ) (x y : X) → slice_set (slice_set xs k x) k y ≡ slice_set xs k y
set_again [] k x y = refl
set_again (z ∷ xs) zero x y = refl
set_again {X} (z ∷ xs) (suc k) x y = ap (λ (zs : List X). z ∷ zs) (set_again xs k x y)

with_again : {X : Type 0} (xs : List X) (n : ℕ) (x y : X) → with_node_at (with_node_at xs n x) n y ≡ with_node_at xs n y
with_again xs zero x y = refl
with_again xs (suc k) x y = set_again xs k x y

-- a life and a disk are these now
pub record AreThese {D : Type 0} (one now : Life) (held kept : D) (life : Life) (disk : D) (life' : Life) (disk' : D) : Type 0 where
  pub life_was : life ≡ one
  pub disk_was : disk ≡ held
  pub life_is : life' ≡ now
  pub disk_is : disk' ≡ kept

-- A node that was changed is then put down, say: both together are one change.
pub turned_after : {D : Type 0} (n : ℕ) (P : Life → D → Life → D → Type 0) (now : Life) (old mid new : Nodes D) (ch : ChangesNode n P old mid) → ChangesNode n (IsTurnedTo now) mid new
    → ChangesNode n (AreThese ch.life now ch.disk ch.disk') old new
turned_after n P now old mid new a b =
    let disk_is : b.disk ≡ a.disk' = some_same b.disk a.disk' (sym b.held ∙ disk_there n P old mid a) in
    record {
      life = a.life;
      disk = a.disk;
      life' = b.life';
      disk' = b.disk';
      plan = b.plan ∙ a.plan;
      was = a.was;
      held = a.held;
      lives_are = b.lives_are ∙ ap (λ xs. with_node_at xs n b.life') a.lives_are ∙ with_again old.lives.items n a.life' b.life';
      disks_are = b.disks_are ∙ ap (λ xs. with_node_at xs n b.disk') a.disks_are ∙ with_again old.disks.items n a.disk' b.disk';
      does = record { life_was = refl; disk_was = refl; life_is = b.does.0; disk_is = b.does.1 ∙ disk_is };
    }

-- The parts of what a step does.
module _ {D : Type 0} (on : View D) (n : ℕ) (P : Life → D → Life → D → Type 0) (old mid new : Nodes D) (ch : ChangesNode n P old mid)
    (change : List Slot → List Slot) (only : OnlyTickets on change mid new) where
  pub work_plan : new.plan ≡ old.plan
  work_plan = only.plan ∙ ch.plan

  pub work_handed : length new.disks.items ≡ length old.disks.items
  work_handed = ap length only.disks ∙ as_many n P old mid ch

  pub work_lives : (m : ℕ) → life_among new m ≡ turned n (life_seen ch.life') m (life_among old m)
  work_lives m = only.lives m ∙ lives_turned n P old mid ch m

  pub work_falls : all_falls_left new.lives.items + falls_left ch.life ≡ all_falls_left old.lives.items + falls_left ch.life'
  work_falls = ap (λ k. k + falls_left ch.life) only.falls ∙ falls_now n P old mid ch

  -- the node goes on in its boot, as all others do
  pub work_goes_on : life_seen ch.life' ≡ life_seen ch.life → (m : ℕ) → life_among new m ≡ life_among old m
  work_goes_on same m = work_lives m ∙ turned_still n m (life_among old) (life_seen ch.life') (same ∙ sym (ap seen_life ch.was))

  module _ (flying flying' : InFlight) (seconds : ℕ) (book book' : Book) where
    abbrev before : WorldState D
    before = state_with old flying seconds book

    abbrev behind : WorldState D
    behind = state_with new flying' seconds book'

    of_mid : (m : ℕ) (d : D) → of_node new.disks.items m ≡ Some d → of_node mid.disks.items m ≡ Some d
    of_mid m d e = ap (λ ds. of_node ds m) (sym only.disks) ∙ e

    pub work_told : (seen : D → Option (List ℕ)) → IsToldAlike (seen ch.disk) (seen ch.disk') → AreToldAlike seen before behind
    work_told seen here =
        let told = told_by n P old mid ch flying flying' seconds seconds book book' seen here in
        record { each = λ m d d' e f. told.each m d d' e (of_mid m d' f) }

    pub work_quiet : (faults : D → ℕ) → faults ch.disk ≤ faults ch.disk' → ((boot : ℕ) → life_seen ch.life' ≡ life.Up boot → faults ch.disk' ≡ faults ch.disk)
        → IsQuiet faults before behind
    work_quiet faults later same =
        let quiet = quiet_by n P old mid ch flying flying' seconds seconds book book' faults later same in
        record {
          later = λ m d d' e f. quiet.later m d d' e (of_mid m d' f);
          same = λ m boot d d' b e f. quiet.same m boot d d' (sym (only.lives m) ∙ b) e (of_mid m d' f);
        }

    pub work_settled : (is_settled : D → Type 0) → ((boot : ℕ) → life_seen ch.life' ≡ life.Up boot → (life_seen ch.life ≡ life.Up boot → is_settled ch.disk) → is_settled ch.disk')
        → AreSettled is_settled before → AreSettled is_settled behind
    work_settled is_settled here s =
        let settled = settled_by n P old mid ch flying flying' seconds seconds book book' is_settled here s in
        record { each = λ m boot d a e. settled.each m boot d (sym (only.lives m) ∙ a) (of_mid m d e) }

    -- whatever the slots are then, as long as they have these records
    pub work_stops : (slots after : List Slot) (slot slot' : Slot) → SlotsStand on old.lives.items old.disks.items slots → slot_at slots n ≡ Some slot
        → StopsKeep on n ch.disk ch.disk' slot slot' → ((m : ℕ) → kept_at (slot_at after m) ≡ kept_at (slot_at (with_slot slots n slot') m)) → EveryStopKeeps on before behind slots after
    work_stops slots after slot slot' st here keeps kept =
        stops_on on before (state_with mid flying' seconds book') behind slots (with_slot slots n slot') after only.disks kept
        (record { each = stops_kept n P old mid ch on slots slot slot' st here (λ _. keeps) })

    -- the world of the machine, with its slot written and the mishaps of letters noted
    pub work_stands : (w : machine.World) → StateStandsFor on before w → (slot' : Slot) → SlotStands on n ch.life' ch.disk' slot' → (flying_is : List Flight) → flying'.flights ≡ flying_is
        → (sent_is : ℕ) → flying'.sent ≡ sent_is → (booked : List BookEntry) → booked_by book' ≡ booked
        → StateStandsFor on behind (record w { slots = change (with_slot w.slots n slot'); flying = flying_is; sent = sent_is; book = booked })
    work_stands w st slot' stands flying_is f sent_is s booked b = record {
      slots = only.slots (with_slot w.slots n slot') (slots_stand n P old mid ch on w.slots slot' st.slots stands);
      flying = f;
      sent = s;
      seconds = st.seconds;
      book = b;
    }

    -- All of what the step does, of what is said of this node.
    pub work_did : (result : Result Said StepFault) (step : Step) → seconds ≡ seconds_after_step step result seconds → IsRefusedRight result (node_refusal old.plan (life_among old) step) → IfOk result (SaysSo step)
        → FallsSo result old.plan.nodes step (life_among old) → ((m : ℕ) → life_among new m ≡ life_after_step result step m (life_among old m))
        → IsToldAlike (on.seen ch.disk) (on.seen ch.disk') → on.faults ch.disk ≤ on.faults ch.disk'
        → ((boot : ℕ) → life_seen ch.life' ≡ life.Up boot → on.faults ch.disk' ≡ on.faults ch.disk) → HasPassed result step before behind → IsLongerBook (booked_by book) (booked_by book')
        → ChangesNothing on result step before behind
        → IsNoAsk step → ((v : joint_world.World) → StandsForAll on before v → IsDoneWhole (whole_outcome result) → IsForWhole v (whole_step step))
        → ((b : WholeNode) → ch.life' ≡ Up b → KeepsReads (joint_life ch.life) (joint_seen b))
        → ((w : machine.World) → StateStandsFor on before w → LeadsMail on result step before behind w) → FaultHasCause on result step before behind → StepDid on result step before behind
    work_did result step clock refused kind falls lives told later same passed books kept asks for own leads cause = record {
      plan = work_plan;
      handed = work_handed;
      refused = refused;
      kind = kind;
      falls = falls;
      lives = lives;
      told = work_told on.seen told;
      quiet = work_quiet on.faults later same;
      clock = clock;
      passed = passed;
      books = books;
      kept = kept;
      leads = λ known ended. lift on result step before behind (even_of old) (even_of new) asks for (one_keeps n P old mid ch own on change new only) leads;
      cause = λ w st. cause;
    }

-- each node that is up can work, once this one does
pub work_ready : {D : Type 0} (n : ℕ) (P : Life → D → Life → D → Type 0) (old mid : Nodes D) (ch : ChangesNode n P old mid) (seen : D → Option (List ℕ))
    → CanWorkOn seen old.plan old.lives.items old.disks.items → ((node : WholeNode) → ch.life' ≡ Up node → IsNodeOf old.plan n node.mail × WholeWorks (seen ch.disk') node)
    → CanWorkOn seen mid.plan mid.lives.items mid.disks.items
work_ready n P old mid ch seen works here = subst (λ p. CanWorkOn seen p mid.lives.items mid.disks.items) (sym ch.plan) (still_ready n P old mid ch seen old.plan works here)

up_plain : (x y : plain.Node) → plain.Life.Up x ≡ plain.Life.Up y → x ≡ y
up_plain x y e = cc

no_more : (xs : List Record) → (xs ++ []) ++ [] ≡ xs
no_more xs = append-nil (xs ++ []) ∙ append-nil xs

-- The node was up. How the machine finds it, and what it makes of it.
module _ {D : Type 0} (on : View D) (n : ℕ) (P : Life → D → Life → D → Type 0) (old mid new : Nodes D) (ch : ChangesNode n P old mid) (rule : Rule) (a : WholeNode) (was : ch.life ≡ Up a)
    (flying flying' : InFlight) (seconds : ℕ) (book book' : Book) where
  abbrev start : WorldState D
  start = state_with old flying seconds book

  abbrev final : WorldState D
  final = state_with new flying' seconds book'

  pub up_slot : (w : machine.World) → StateStandsFor on start w → (slot : Slot) × (slot_at w.slots n ≡ Some slot) × SlotStands on n (Up a) ch.disk slot
  up_slot w st =
      let (slot, here, stood) = slot_of on old.lives.items old.disks.items w.slots n ch.life ch.disk st.slots ch.was ch.held in
      (slot, here, subst (λ l. SlotStands on n l ch.disk slot) was stood)

  pub up_is : (slot : Slot) → SlotStands on n (Up a) ch.disk slot → slot ≡ slot_up (node_seen a.mail) slot.disk
  up_is slot (seen, life_is, st) = ap (λ l. record { life = l; disk = slot.disk }) (life_is ∙ ap plain.Life.Up (sym st.seen_is))

  -- as the machine has the node, so the code has it
  seen_of : (slot : Slot) (node : plain.Node) → slot ≡ slot_up node slot.disk → SlotStands on n (Up a) ch.disk slot → node ≡ node_seen a.mail
  seen_of slot node is (seen, life_is, st) = up_plain node seen (sym (ap (λ (x : Slot). x.life) is) ∙ life_is) ∙ sym st.seen_is

  -- The node did its work, and what it sent is in flight.
  pub record WorkSent (letters : List Letter) (left : List Flight) (booked : List BookEntry) (w : machine.World) : Type 0 where
    pub node : plain.Node
    pub disk : List Record
    pub up : IsUp w n node disk
    pub node_is : node ≡ node_seen a.mail
    pub out : (rule node disk).out ≡ letters
    pub stands : StateStandsFor on final (after (record w { flying = left; book = booked }) n (rule node disk))
    pub stops : EveryStopKeeps on start final w.slots (after (record w { flying = left; book = booked }) n (rule node disk)).slots
    pub disks : (m : ℕ) → disk_at (slot_at (after (record w { flying = left; book = booked }) n (rule node disk)).slots m) ≡ disk_at (slot_at (with_slot w.slots n (slot_after rule node disk)) m)
    pub keeps : NodeKeeps disk a.mail
    pub added : List Record
    pub grew : (rule (node_seen a.mail) disk).disk ≡ disk ++ added

  pub work_sent : (b : WholeNode) → ch.life' ≡ Up b → (letters : List Letter) → NodeDid on rule a.mail ch.disk b.mail ch.disk' letters → (plan : Plan) (posted : Option ℕ)
      → SentOff on plan letters posted flying flying' mid new → (w : machine.World) → StateStandsFor on start w → (left : List Flight) → flights_without posted w.flying ≡ left
      → (booked : List BookEntry) → booked_by book' ≡ booked → WorkSent letters left booked w
  work_sent b is letters did plan posted off w st left left_is booked booked_is =
      let (slot, here, stood) = up_slot w st in
      let t : SlotTurned on n rule (Up a) ch.disk (Up b) ch.disk' letters slot = did_turned on n rule a ch.disk ch.disk' slot b letters did stood in
      let slot' : Slot = slot_after rule t.node slot.disk in
      let written : List Slot = with_slot w.slots n slot' in
      let q : PutDown = put_down letters (taken_out posted flying) in
      let base : machine.World = record w { slots = written; flying = left; book = booked } in
      let q_is : q ≡ put_down (rule t.node slot.disk).out (record { flights = left; sent = w.sent }) =
      ap (λ f. put_down letters (record { flights = f; sent = flying.sent })) (ap (flights_without posted) st.flying ∙ left_is)
      ∙ ap (λ s. put_down letters (record { flights = left; sent = s })) st.sent
      ∙ ap (λ ls. put_down ls (record { flights = left; sent = w.sent })) (sym t.out) in
      let next : machine.World = after (record w { flying = left; book = booked }) n (rule t.node slot.disk) in
      let eq : with_put written base q ≡ next = ap (λ p. with_put written base p) q_is ∙ sym (put_is (rule t.node slot.disk).out base) in
      let change : List Slot → List Slot = λ slots. all_missed Crowded slots q.left in
      let only : OnlyTickets on change mid new = off.noticed.only in
      let stands : StateStandsFor on final (with_put written base q) =
      work_stands on n P old mid new ch change only flying flying' seconds book book' w st slot' (subst (λ l. SlotStands on n l ch.disk' slot') (sym is) t.stands)
      q.flying.flights (ap (λ (x : InFlight). x.flights) off.flies) q.flying.sent (ap (λ (x : InFlight). x.sent) off.flies) booked booked_is in
      record {
        node = t.node;
        disk = slot.disk;
        up = here ∙ ap Some t.was;
        node_is = seen_of slot t.node t.was stood;
        out = t.out;
        stands = subst (λ x. StateStandsFor on final x) eq stands;
        stops = work_stops on n P old mid new ch change only flying flying' seconds book book' w.slots next.slots slot slot' st.slots here t.keeps
            (λ m. ap (λ (x : machine.World). kept_at (slot_at x.slots m)) (sym eq) ∙ all_kept Crowded written m q.left);
        disks = λ m. ap (λ (x : machine.World). disk_at (slot_at x.slots m)) (sym eq) ∙ all_disk Crowded written m q.left;
        keeps = (stood.2).keeps;
        added = did.added;
        grew = did.disk slot.disk (stood.2).keeps;
      }

  -- its maps follow it
  pub sent_follows : (letters : List Letter) (left : List Flight) (booked : List BookEntry) (w : machine.World) (s : WorkSent letters left booked w) (b : WholeNode) → ch.life' ≡ Up b
      → node_follows.MapsFollow rule a b → own_of a.maps ≡ n → (change : List Slot → List Slot) → OnlyTickets on change mid new
      → MapsFollow old.lives.items new.lives.items w.slots (after (record w { flying = left; book = booked }) n (rule s.node s.disk)).slots
  sent_follows letters left booked w s b is follow own change only =
      one_follows n P old mid new ch on change only w.slots (slot_up s.node s.disk) (slot_after rule s.node s.disk) s.up (after (record w { flying = left; book = booked }) n (rule s.node s.disk)).slots s.disks
      (λ x y was' is'.
      ap (λ (z : WholeNode). node_of z.maps) (up_same y b (sym is' ∙ is))
      ∙ rule_follows rule n a b s.disk s.added own follow s.keeps s.grew
      ∙ ap (λ (m : plain.Node). follows n (node_of a.maps) s.disk (drop (length s.disk) (rule m s.disk).disk)) (sym s.node_is)
      ∙ ap (λ (z : WholeNode). follows n (node_of z.maps) s.disk (drop (length s.disk) (rule s.node s.disk).disk)) (up_same a x (sym was ∙ was')))

  -- The node went down in its work, or after it: these of its records stand, and what is pending may.
  pub record CutSlot (w : machine.World) : Type 0 where
    pub node : plain.Node
    pub disk : List Record
    pub up : IsUp w n node disk
    pub node_is : node ≡ node_seen a.mail
    pub front : List Record
    pub pending : List Record
    pub one : length pending ≤ 1
    pub cut : IsWorkCut disk (rule node disk).disk front pending
    pub stands : SlotStands on n Down ch.disk' (record { life = plain.Life.Down pending; disk = disk ++ front })
    pub keeps : StopsKeep on n ch.disk ch.disk' (slot_up node disk) (record { life = plain.Life.Down pending; disk = disk ++ front })

  pub work_stopped : NodeStopped on rule a.mail ch.disk ch.disk' → (w : machine.World) → StateStandsFor on start w → CutSlot w
  work_stopped stopped w st =
      let (slot, here, stood) = up_slot w st in
      let c : SlotCut on n rule (Up a) ch.disk Down ch.disk' slot = cut_down on n rule a ch.disk ch.disk' slot stopped stood in
      record {
        node = c.node;
        disk = slot.disk;
        up = here ∙ ap Some c.was;
        node_is = seen_of slot c.node c.was stood;
        front = c.front;
        pending = c.pending;
        one = c.one;
        cut = c.cut;
        stands = c.stands;
        keeps = subst (λ s. StopsKeep on n ch.disk ch.disk' s (record { life = plain.Life.Down c.pending; disk = slot.disk ++ c.front })) c.was c.keeps;
      }

  pub work_undone : (b : WholeNode) (letters : List Letter) → NodeDid on rule a.mail ch.disk b.mail ch.disk' letters → (w : machine.World) → StateStandsFor on start w → CutSlot w
  work_undone b letters did w st =
      let (slot, here, stood) = up_slot w st in
      let t : SlotTurned on n rule (Up a) ch.disk (Up b) ch.disk' letters slot = did_turned on n rule a ch.disk ch.disk' slot b letters did stood in
      let (_, fit, holds) = fallen on n ch.disk' (slot_after rule t.node slot.disk) b t.stands in
      let node_is : t.node ≡ node_seen a.mail = seen_of slot t.node t.was stood in
      let grew : (rule t.node slot.disk).disk ≡ slot.disk ++ did.added = ap (λ x. (rule x slot.disk).disk) node_is ∙ did.disk slot.disk (stood.2).keeps in
      let k = t.keeps in
      record {
        node = t.node;
        disk = slot.disk;
        up = here ∙ ap Some t.was;
        node_is = node_is;
        front = did.added;
        pending = [];
        one = omega arith;
        cut = record { missing = []; is = grew ∙ ap (λ xs. slot.disk ++ xs) (sym (no_more did.added)) };
        stands = subst (λ xs. SlotStands on n Down ch.disk' (record { life = plain.Life.Down []; disk = xs })) grew ([], refl, fit, holds);
        keeps = subst (λ xs. StopsKeep on n ch.disk ch.disk' (slot_up t.node slot.disk) (record { life = plain.Life.Down []; disk = xs })) grew
            (subst (λ s. StopsKeep on n ch.disk ch.disk' s (record { life = plain.Life.Down []; disk = (rule t.node slot.disk).disk })) t.was
            (record { kept = k.kept; pending_is = k.pending_is; added = k.added; grew = k.grew; stops = k.stops }));
      }

  -- and its world: the book has it, nothing is sent, and the mishaps of letters may be noted
  module _ (down : ch.life' ≡ Down) (change : List Slot → List Slot) (only : OnlyTickets on change mid new) where
    pub cut_stands : (w : machine.World) → StateStandsFor on start w → (c : CutSlot w) → (left : List Flight) → flying'.flights ≡ left → flying'.sent ≡ flying.sent
        → (booked : List BookEntry) → booked_by book' ≡ booked ++ WentDown n ∷ []
        → StateStandsFor on final (record w { slots = change (with_slot w.slots n (record { life = plain.Life.Down c.pending; disk = c.disk ++ c.front })); flying = left; book = booked ++ WentDown n ∷ [] })
    cut_stands w st c left flies sent booked booked_is =
        work_stands on n P old mid new ch change only flying flying' seconds book book' w st (record { life = plain.Life.Down c.pending; disk = c.disk ++ c.front })
        (subst (λ l. SlotStands on n l ch.disk' (record { life = plain.Life.Down c.pending; disk = c.disk ++ c.front })) (sym down) c.stands)
        left flies w.sent (sent ∙ st.sent) (booked ++ WentDown n ∷ []) booked_is

    pub cut_stops : (w : machine.World) → StateStandsFor on start w → (c : CutSlot w) (slots : List Slot)
        → ((m : ℕ) → kept_at (slot_at slots m) ≡ kept_at (slot_at (with_slot w.slots n (record { life = plain.Life.Down c.pending; disk = c.disk ++ c.front })) m))
        → EveryStopKeeps on start final w.slots slots
    cut_stops w st c slots kept =
        work_stops on n P old mid new ch change only flying flying' seconds book book' w.slots slots (slot_up c.node c.disk) (record { life = plain.Life.Down c.pending; disk = c.disk ++ c.front })
        st.slots c.up c.keeps kept

    pub cut_follows : (w : machine.World) (c : CutSlot w) (slots : List Slot)
        → ((m : ℕ) → disk_at (slot_at slots m) ≡ disk_at (slot_at (with_slot w.slots n (record { life = plain.Life.Down c.pending; disk = c.disk ++ c.front })) m))
        → MapsFollow old.lives.items new.lives.items w.slots slots
    cut_follows w c slots kept =
        one_follows n P old mid new ch on change only w.slots (slot_up c.node c.disk) (record { life = plain.Life.Down c.pending; disk = c.disk ++ c.front }) c.up slots kept
        (λ x y was' is'. absurd (let never : Down ≡ Up y = sym down ∙ is' in cc))

  -- The node did nothing, and is as it was.
  module _ (b : WholeNode) (is : ch.life' ≡ Up b) (same : IsAsBefore a.mail b.mail) (untold : ch.disk' ≡ ch.disk) where
    same_slot : (slot : Slot) → SlotStands on n (Up a) ch.disk slot → SlotStands on n (Up b) ch.disk slot
    same_slot slot (seen, life_is, st) = (
      seen,
      life_is,
      record {
        seen_is = same.seen ∙ st.seen_is;
        keeps = same.keeps slot.disk st.keeps;
        tells = subst (λ e. TellsJournal (on.seen ch.disk) n (payloads_of slot.disk) e) (sym same.end_is) st.tells;
        images = subst (λ e. IfSome (on.seen ch.disk) (λ _. (c : List ℕ) → on.clock.is_image ch.disk c → EndsAt n c (payloads_of slot.disk) e)) (sym same.end_is) st.images;
      },
    )

    not_lost : (slot : Slot) → SlotStands on n (Up a) ch.disk slot → slot.life ≢ plain.Life.Lost
    not_lost slot (seen, life_is, st) lost = let never : plain.Life.Up seen ≡ plain.Life.Lost = sym life_is ∙ lost in cc

    module _ (change : List Slot → List Slot) (only : OnlyTickets on change mid new) where
      pub idle_stands : (w : machine.World) → StateStandsFor on start w → (left : List Flight) → flying'.flights ≡ left → flying'.sent ≡ flying.sent → booked_by book' ≡ booked_by book
          → StateStandsFor on final (record w { slots = change w.slots; flying = left })
      idle_stands w st left flies sent booked_is =
          let (slot, here, stood) = up_slot w st in
          let now : SlotStands on n ch.life' ch.disk' slot =
          subst (λ d. SlotStands on n ch.life' d slot) (sym untold) (subst (λ l. SlotStands on n l ch.disk slot) (sym is) (same_slot slot stood)) in
          subst (λ slots. StateStandsFor on final (record w { slots = change slots; flying = left })) (slot_same w.slots n slot here)
          (work_stands on n P old mid new ch change only flying flying' seconds book book' w st slot now left flies w.sent (sent ∙ st.sent) w.book (booked_is ∙ st.book))

      pub idle_stops : (w : machine.World) → StateStandsFor on start w → (slots : List Slot) → ((m : ℕ) → kept_at (slot_at slots m) ≡ kept_at (slot_at w.slots m)) → EveryStopKeeps on start final w.slots slots
      idle_stops w st slots kept =
          let (slot, here, stood) = up_slot w st in
          work_stops on n P old mid new ch change only flying flying' seconds book book' w.slots slots slot slot st.slots here
          (subst (λ d. StopsKeep on n ch.disk d slot slot) (sym untold) (untouched on n (Up a) ch.disk slot (not_lost slot stood) stood))
          (λ m. kept m ∙ ap (λ (xs : List Slot). kept_at (slot_at xs m)) (sym (slot_same w.slots n slot here)))

      pub idle_maps : node_of b.maps ≡ node_of a.maps → (w : machine.World) → StateStandsFor on start w → (slots : List Slot) → ((m : ℕ) → disk_at (slot_at slots m) ≡ disk_at (slot_at w.slots m))
          → MapsFollow old.lives.items new.lives.items w.slots slots
      idle_maps same w st slots kept =
          let (slot, here, stood) = up_slot w st in
          idle_follows on n P old mid new ch change only w.slots slot here slots kept a b was is same
