-- What the step does that begins a call.
use Rattle.std.proofs.Common.{◌≡◌, inl, ℕ, ◌+◌, ◌≤◌, nat_le, true, false, List, [], ◌∷◌, ◌++◌, append-nil, Option, Some, None, Result, Ok, Err, refl, sym, ap, ◌∙◌, subst, arith}
use Rattle.std.specs.Prelude.{is_some}
use Rattle.std.specs.List.{list_all}
use Rattle.object_model.specs.Letters.{Number, Letter}
use Rattle.session_model.specs.Events.{NodeLife as life}
use Rattle.cluster_model.specs.Cluster as plain
use Rattle.cluster_model.specs.Rules.{idle}
use Rattle.cluster_model.specs.World as machine
use Rattle.cluster_model.specs.Steps as steps
use Rattle.cluster_model.specs.Steps.{is_node, letters_end, is_worn_for, nodes_of_call}
use Rattle.cluster_model.specs.Makes.{MakesStep}
use Rattle.node_maps.specs.Nodes.{node_of}
use Rattle.node_store.specs.Disks.{View}
use Rattle.node_core.specs.Beginning.{call_seen}
use Rattle.node_core.specs.Nodes.{node_seen, IsAsBefore}
use Rattle.node_core.specs.Works.{IsOnlyRead}
use Rattle.node_core.specs.declared.fault.NodeFault.{NodeFault}
use Rattle.node_core.specs.declared.fault.NodeFault.TheVariants.{Disk, Worn, NoMemory}
use Rattle.whole_node.specs.declared.node.WholeNode.{WholeNode}
use Rattle.node_core.specs.declared.outbox.Outbox.{Outbox}
use Rattle.call_tickets.specs.declared.call.Call.{Call}
use Rattle.world_book.specs.Books.{entries_of}
use Rattle.world_book.specs.declared.book.Book.{Book}
use Rattle.world_book.specs.declared.entry.Entry.{Entry}
use Rattle.world_book.specs.declared.entry.Entry.TheVariants as written
use Rattle.cluster_world.specs.Begins.{BeginsAt, strikes_of_call, GoesOn, Fails, Concludes}
use Rattle.cluster_world.specs.Books.{entries_seen, booked_by}
use Rattle.cluster_world.specs.Changes.{ChangesNode, IsTurnedTo}
use Rattle.cluster_world.specs.Flights.{InFlight}
use Rattle.cluster_world.specs.Lives.{life_seen, of_node, falls_left, all_falls_left, CanWorkOn}
use Rattle.cluster_world.specs.Seen.{outcome_seen}
use Rattle.cluster_world.specs.Steps.{StepDid, AreSettled, IsRefusedRight, FallsSo}
use Rattle.cluster_world.specs.Turns.{node_refusal, life_after_step}
use Rattle.cluster_world.specs.Worlds.{WorldState, seen_life, life_among, state_with, tells_in, StateStandsFor}
use Rattle.cluster_world.specs.declared.life.Life.{Life}
use Rattle.cluster_world.specs.declared.life.Life.TheVariants.{Up, Down}
use Rattle.cluster_world.specs.declared.nodes.Nodes.{Nodes}
use Rattle.cluster_world.specs.declared.step.Step.TheVariants as step
use Rattle.cluster_world.specs.declared.step.Said.{Said}
use Rattle.cluster_world.specs.declared.step.Said.TheVariants as said
use Rattle.cluster_world.specs.declared.fault.StepFault.{StepFault}
use Rattle.cluster_world.specs.declared.fault.StepFault.TheVariants as fault
use Rattle.cluster_world.proofs.Same.{same_told, same_quiet, led_kept, same_unchanged}
use Rattle.cluster_world.proofs.Asked.{disk_of}
use Rattle.cluster_world.proofs.Kept.{only_settled}
use Rattle.cluster_world.proofs.Refusing.{fit_of}
use Rattle.cluster_world.proofs.Turned.{slot_of, settled_by, still_ready, falls_now}
use Rattle.cluster_world.proofs.AfterWork.{nothing_else, work_handed, work_goes_on, work_told, work_quiet, up_slot}
use Rattle.cluster_world.proofs.Beginning.{begin_is_late, begin_is_worn}
use Rattle.cluster_world.proofs.BeginIdle.{read_stands, read_stops}
use Rattle.cluster_world.proofs.BeginSteps.{begun_step}
use Rattle.cluster_world.proofs.BeginFalls.{unsent_step, stopped_step, failed_step}
use Rattle.cluster_world.proofs.BeginParts.{begin_ready, begin_settles, begin_falls, begin_up, not_up, Began, begin_named, begin_life, begin_did, begin_maps, read_none, begin_keeps}
use Rattle.cluster_world.proofs.Follows.{idle_follows}
use Rattle.cluster_world.proofs.Told.{IsOfMail}
use Rattle.cluster_world.proofs.Wholly.{led, even_of}
use Rattle.cluster_world.proofs.Unchanged.{unchanged_by, memory_kept, changes_none}
use Rattle.cluster_world.proofs.Longer.{same_book, longer_by}
use Rattle.cluster_world.proofs.Lifting.{lift}
use Rattle.cluster_world.proofs.Beside.{alone_keeps, turns_same}
use Rattle.joint_world.specs.Staying.{IsMailCall}
use Rattle.joint_world.specs.World.{mail_world_of}

-- where the numbers of letters are used up
module _ {D : Type 0} (on : View D) (n : ℕ) (call : Call) (seconds : ℕ) (old : Nodes D) (fit : node_refusal old.plan (life_among old) (step.Begin n call) ≡ None) (flying : InFlight) (book : Book)
    (late : nat_le letters_end flying.sent ≡ true) where
  here_up : (o : Option Life) → Rattle.cluster_world.specs.Turns.life_refusal (step.Begin n call) (seen_life o) ≡ None → (node : WholeNode) × (o ≡ Some (Up node))
  here_up None e = absurd (let never : Some fault.NodeLost ≡ None = e in cc)
  here_up (Some l) e = let (node, up) = begin_up n call (Some l) l refl e in (node, ap Some up)

  pub begin_late : StepDid on (Err fault.Worn) (step.Begin n call) (state_with old flying seconds book) (state_with old flying seconds book)
  begin_late = record {
    plan = refl;
    handed = refl;
    refused = sym fit;
    kind = tt;
    falls = tt;
    lives = λ m. refl;
    told = same_told on (state_with old flying seconds book);
    quiet = same_quiet on (state_with old flying seconds book);
    clock = refl;
    passed = tt;
    books = same_book (booked_by book);
    kept = same_unchanged on (state_with old flying seconds book) (step.Begin n call);
    leads = λ known ended story v st sound.
        let w = mail_world_of v in
        let (node, up) = here_up (of_node old.lives.items n) (fit_of (list_all (is_node old.plan) (n ∷ nodes_of_call (call_seen call))) (Rattle.cluster_world.specs.Turns.life_refusal (step.Begin n call) (life_among old n)) fit).1 in
        let (disk, held) = disk_of old.disks.items old.lives.items n (Up node) (old.all ∙ sym old.disk_each) up in
        let (slot, here, stood) = slot_of on old.lives.items old.disks.items w.slots n (Up node) disk st.mail.slots up held in
        let (seen, is, s) = stood in
        led_kept on (state_with old flying seconds book) (Err fault.Worn) (step.Begin n call) v st (record { step_is = refl; said_is = refl; sees = tt }) tt (λ done. done)
        (inl (inl (begin_is_late old.plan w n (call_seen call) slot seen (begin_named n call old fit) here is (ap (nat_le letters_end) (sym st.mail.sent) ∙ late))), refl);
    cause = λ w st. tt;
  }

module _ {D : Type 0} (on : View D) (is_settled : D → Type 0) (n : ℕ) (call : Call) (seconds : ℕ) (old mid : Nodes D)
    (fit : node_refusal old.plan (life_among old) (step.Begin n call) ≡ None) (ready : CanWorkOn on.seen old.plan old.lives.items old.disks.items) (began : Began)
    (ch : ChangesNode n (BeginsAt on is_settled old.plan n seconds (call_seen call) began) old mid) where
  abbrev B : Life → D → Life → D → Type 0
  B = BeginsAt on is_settled old.plan n seconds (call_seen call) began

  abbrev a : WholeNode
  a = ch.does.0.old

  abbrev b : WholeNode
  b = ch.does.0.new

  module _ (flying : InFlight) (book : Book) (early : nat_le letters_end flying.sent ≡ false) (mail : IsMailCall (call_seen call)) where
    -- The node is as it was.
    module _ (book' : Book) (wrote : entries_of book' ≡ entries_of book ++ []) where
      abbrev start : WorldState D
      start = state_with old flying seconds book

      abbrev final : WorldState D
      final = state_with mid flying seconds book'

      booked : (w : machine.World) → StateStandsFor on start w → booked_by book' ≡ w.book
      booked w st = ap entries_seen (wrote ∙ append-nil (entries_of book)) ∙ st.book

      idle_did : (why : StepFault) → IsOfMail (Err why) (step.Begin n call) → b.maps ≡ a.maps → IsRefusedRight (Err why) (node_refusal old.plan (life_among old) (step.Begin n call)) → FallsSo (Err why) old.plan.nodes (step.Begin n call) (life_among old)
          → ((m : ℕ) → life_after_step (Err why) (step.Begin n call) m (life_among old m) ≡ life_among old m) → ch.life' ≡ Up b → IsAsBefore a.mail b.mail → IsOnlyRead on ch.disk ch.disk'
          → on.faults ch.disk' ≡ on.faults ch.disk
          → ((w : machine.World) → StateStandsFor on start w → MakesStep old.plan (tells_in on.seen start) w (steps.Step.Begin n (call_seen call)) (outcome_seen (Err why)) w)
          → StepDid on (Err why) (step.Begin n call) start final
      idle_did why of_mail stay refused falls lives is same read quiet made = record {
        plan = ch.plan;
        handed = work_handed on n B old mid mid ch (λ slots. slots) (nothing_else on mid);
        refused = refused;
        kind = tt;
        falls = falls;
        lives = λ m. work_goes_on on n B old mid mid ch (λ slots. slots) (nothing_else on mid)
            (ap life_seen is ∙ ap (λ (x : plain.Node). life.Up x.boot) same.seen ∙ sym (ap life_seen ch.does.0.was)) m ∙ sym (lives m);
        told = work_told on n B old mid mid ch (λ slots. slots) (nothing_else on mid) flying flying seconds book book' on.seen (ap (λ (o : Option (List ℕ)). is_some o) read.seen);
        quiet = work_quiet on n B old mid mid ch (λ slots. slots) (nothing_else on mid) flying flying seconds book book' on.faults (omega (arith, quiet)) (λ boot now. quiet);
        clock = refl;
        passed = tt;
        books = longer_by book book' [] wrote;
        kept = changes_none on why (step.Begin n call) start final (unchanged_by n B old mid ch flying flying seconds seconds book book' on (step.Begin n call)
            (memory_kept ch.life ch.life' a b ch.does.0.was is same (ap node_of stay) (turns_same ch.life ch.life' (begin_keeps on is_settled n call seconds old mid fit ready began ch) a b ch.does.0.was is (ap node_of stay))) (λ away. absurd (away refl)) (λ _. (read, quiet)) refl refl (ap entries_seen (wrote ∙ append-nil (entries_of book))));
        leads = λ known ended. lift on _ _ _ _ (even_of old) (even_of mid) tt (λ v stands done. mail) (alone_keeps n B old mid ch (begin_keeps on is_settled n call seconds old mid fit ready began ch)) (λ w st.
            let (slot, here, stood) = up_slot on n B old mid mid ch (λ x d. idle x d) a ch.does.0.was flying flying seconds book book w st in
            led on (Err why) (step.Begin n call) start final (even_of old) (even_of mid) w st of_mail (λ v seen sound done. tt) (record {
              next = w;
              stands = read_stands on n B old mid mid ch (nothing_else on mid) a ch.does.0.was read flying flying seconds book book' b is same refl w st (booked w st);
              made = made w st;
              stops = read_stops on n B old mid mid ch (nothing_else on mid) a ch.does.0.was read flying flying seconds book book' b is same refl w st (booked w st);
              follow = idle_follows on n B old mid mid ch (λ slots. slots) (nothing_else on mid) w.slots slot here w.slots (λ m. refl) a b ch.does.0.was is (ap node_of stay);
            }));
        cause = λ w st. tt;
      }

      worn_made : is_worn_for old.plan seconds (node_seen a.mail) (call_seen call) ≡ true → (w : machine.World) → StateStandsFor on start w
          → MakesStep old.plan (tells_in on.seen start) w (steps.Step.Begin n (call_seen call)) (outcome_seen (Err fault.Worn)) w
      worn_made worn w st =
          let (slot, here, stood) = up_slot on n B old mid mid ch (λ x d. idle x d) a ch.does.0.was flying flying seconds book book w st in
          let (seen, is, s) = stood in (
            inl (inl (begin_is_worn old.plan w n (call_seen call) slot (node_seen a.mail) (begin_named n call old fit) here (is ∙ ap plain.Life.Up (sym s.seen_is)) (ap (nat_le letters_end) (sym st.sent) ∙ early)
                (ap (λ x. is_worn_for old.plan x (node_seen a.mail) (call_seen call)) (sym st.seconds) ∙ worn))),
            refl,
          )

      pub worn_step : began ≡ Err Worn → StepDid on (Err fault.Worn) (step.Begin n call) start final
      worn_step e =
          let did = begin_did on is_settled n call seconds old mid fit ready began ch (Err Worn) e in
          idle_did fault.Worn (record { step_is = refl; said_is = refl; sees = tt }) (begin_maps on is_settled n call seconds old mid fit ready began ch (Err Worn) e) (sym fit) tt (λ m. refl) (begin_life on is_settled n call seconds old mid fit ready began ch (Err Worn) e) did.1 (read_none on ch.disk ch.disk' did.2) (ap on.faults did.2) (worn_made did.0)

      pub none_step : began ≡ Err (NoMemory false) → StepDid on (Err (fault.NoMemory None)) (step.Begin n call) start final
      none_step e =
          let did = begin_did on is_settled n call seconds old mid fit ready began ch (Err (NoMemory false)) e in
          idle_did (fault.NoMemory None) (record { step_is = refl; said_is = refl; sees = tt }) (begin_maps on is_settled n call seconds old mid fit ready began ch (Err (NoMemory false)) e) tt tt (λ m. refl) (begin_life on is_settled n call seconds old mid fit ready began ch (Err (NoMemory false)) e) did.0 did.1 did.2 (λ w st. refl)

    -- Whatever the node did, and whatever came of it.
    module _ (entries : List Entry) (struck : entries_seen entries ≡ strikes_of_call (call_seen call)) (roomy : Book) (same_book : entries_of roomy ≡ entries_of book)
        (new : Nodes D) (flying' : InFlight) (book' : Book) (result : Result Said StepFault) where
      abbrev Done : Type 0
      Done = StepDid on result (step.Begin n call) (state_with old flying seconds book) (state_with new flying' seconds book')

      also : (xs : List Entry) → entries_of book' ≡ entries_of roomy ++ xs → entries_of book' ≡ entries_of book ++ xs
      also xs wrote = wrote ∙ ap (λ ys. ys ++ xs) same_book

      moved : (said_is : Result Said StepFault) → result ≡ said_is → new ≡ mid → flying' ≡ flying
          → StepDid on said_is (step.Begin n call) (state_with old flying seconds book) (state_with mid flying seconds book') → Done
      moved said_is e nodes_are flies did =
          subst (λ r. StepDid on r (step.Begin n call) (state_with old flying seconds book) (state_with new flying' seconds book')) (sym e)
          (subst (λ (x : Nodes D). StepDid on said_is (step.Begin n call) (state_with old flying seconds book) (state_with x flying' seconds book')) (sym nodes_are)
          (subst (λ (f : InFlight). StepDid on said_is (step.Begin n call) (state_with old flying seconds book) (state_with mid f seconds book')) (sym flies) did))

      by_going : (begun : Option Number × Outbox) → began ≡ Ok begun → GoesOn on n entries result mid flying roomy new flying' book' begun.0 begun.1.letters → Done
      by_going begun e (GoesOn.Flies said_is off wrote) =
          subst (λ r. StepDid on r (step.Begin n call) (state_with old flying seconds book) (state_with new flying' seconds book')) (sym said_is)
          (begun_step on is_settled n call seconds old mid fit ready began ch flying book early mail new flying' book' entries struck (also entries wrote) begun e off)
      by_going begun e (GoesOn.Falls said_is some flies fall wrote) =
          subst (λ r. StepDid on r (step.Begin n call) (state_with old flying seconds book) (state_with new flying' seconds book')) (sym said_is)
          (subst (λ (f : InFlight). StepDid on (Err (fault.NoMemory (Some n))) (step.Begin n call) (state_with old flying seconds book) (state_with new f seconds book')) (sym flies)
          (unsent_step on is_settled n call seconds old mid fit ready began ch mail flying book book' entries struck (also (entries ++ written.Down n ∷ []) wrote) new fall begun e some))

      by_failing : (why : NodeFault) → began ≡ Err why → Fails on n entries result mid flying roomy new flying' book' why → Done
      by_failing Disk e f = moved (Ok (said.Faulted n)) f.said_is f.nodes_are f.flies
          (failed_step on is_settled n call seconds old mid fit ready began ch mail flying book book' entries struck (also (entries ++ written.Down n ∷ []) f.wrote) early e)
      by_failing Worn e f = moved (Err fault.Worn) f.said_is f.nodes_are f.flies (worn_step book' (also [] f.wrote) e)
      by_failing (NoMemory true) e f = moved (Err (fault.NoMemory (Some n))) f.said_is f.nodes_are f.flies
          (stopped_step on is_settled n call seconds old mid fit ready began ch mail flying book book' entries struck (also (entries ++ written.Down n ∷ []) f.wrote) early e)
      by_failing (NoMemory false) e f = moved (Err (fault.NoMemory None)) f.said_is f.nodes_are f.flies (none_step book' (also [] f.wrote) e)

      done_by : (r : Began) → began ≡ r → Concludes on n entries result mid flying roomy new flying' book' r → Done
      done_by (Ok begun) e con = by_going begun e con
      done_by (Err why) e con = by_failing why e con

      pub begun_did : Concludes on n entries result mid flying roomy new flying' book' began → Done
      begun_did con = done_by began refl con

  -- and what else holds of it
  module _ (entries : List Entry) (result : Result Said StepFault) (flying : InFlight) (roomy : Book) (new : Nodes D) (flying' : InFlight) (book' : Book) where
    mid_ready : CanWorkOn on.seen mid.plan mid.lives.items mid.disks.items
    mid_ready = begin_ready on is_settled n call seconds old mid fit ready began ch

    fall_ready : ChangesNode n (IsTurnedTo Down) mid new → CanWorkOn on.seen new.plan new.lives.items new.disks.items
    fall_ready fall = subst (λ p. CanWorkOn on.seen p new.lives.items new.disks.items) (sym fall.plan)
        (still_ready n (IsTurnedTo Down) mid new fall on.seen mid.plan mid_ready (λ node up. absurd (not_up node (sym fall.does.0 ∙ up))))

    going_ready : (ticket : Option Number) (letters : List Letter) → GoesOn on n entries result mid flying roomy new flying' book' ticket letters → CanWorkOn on.seen new.plan new.lives.items new.disks.items
    going_ready ticket letters (GoesOn.Flies said_is off wrote) = subst (λ p. CanWorkOn on.seen p new.lives.items new.disks.items) (sym off.noticed.only.plan) off.noticed.works
    going_ready ticket letters (GoesOn.Falls said_is some flies fall wrote) = fall_ready fall

    ready_by : (r : Began) → Concludes on n entries result mid flying roomy new flying' book' r → CanWorkOn on.seen new.plan new.lives.items new.disks.items
    ready_by (Ok begun) con = going_ready begun.0 begun.1.letters con
    ready_by (Err why) con = subst (λ (x : Nodes D). CanWorkOn on.seen x.plan x.lives.items x.disks.items) (sym con.nodes_are) mid_ready

    pub concluded_ready : Concludes on n entries result mid flying roomy new flying' book' began → CanWorkOn on.seen new.plan new.lives.items new.disks.items
    concluded_ready con = ready_by began con

    -- the book has room for what may come
    fall_falls : ChangesNode n (IsTurnedTo Down) mid new → all_falls_left new.lives.items ≤ all_falls_left mid.lives.items + 1
    fall_falls fall =
        let same : all_falls_left new.lives.items + falls_left fall.life ≡ all_falls_left mid.lives.items + falls_left fall.life' = falls_now n (IsTurnedTo Down) mid new fall in
        omega (arith, same, ap falls_left fall.does.0)

    going_falls : (ticket : Option Number) (letters : List Letter) → GoesOn on n entries result mid flying roomy new flying' book' ticket letters → all_falls_left new.lives.items ≤ all_falls_left mid.lives.items + 1
    going_falls ticket letters (GoesOn.Flies said_is off wrote) = omega (arith, off.noticed.only.falls)
    going_falls ticket letters (GoesOn.Falls said_is some flies fall wrote) = fall_falls fall

    falls_by : (r : Began) → Concludes on n entries result mid flying roomy new flying' book' r → all_falls_left new.lives.items ≤ all_falls_left mid.lives.items + 1
    falls_by (Ok begun) con = going_falls begun.0 begun.1.letters con
    falls_by (Err why) con = omega (arith, ap (λ (x : Nodes D). all_falls_left x.lives.items) con.nodes_are)

    pub concluded_room : Concludes on n entries result mid flying roomy new flying' book' began → (most spare : ℕ) → all_falls_left old.lives.items ≤ most → most + 1 ≤ spare → all_falls_left new.lives.items ≤ spare
    concluded_room con most spare few room = omega (arith, falls_by began con, begin_falls on is_settled n call seconds old mid fit ready began ch, few, room)

    -- the disks of nodes that are up are settled
    module _ (book : Book) where
      abbrev Settles : Nodes D → Type 0
      Settles x = AreSettled is_settled (state_with old flying seconds book) → AreSettled is_settled (state_with x flying' seconds book')

      mid_settles : Settles mid
      mid_settles = settled_by n B old mid ch flying flying' seconds seconds book book' is_settled (begin_settles on is_settled n call seconds old mid fit ready began ch)

      going_settles : (ticket : Option Number) (letters : List Letter) → GoesOn on n entries result mid flying roomy new flying' book' ticket letters → Settles new
      going_settles ticket letters (GoesOn.Flies said_is off wrote) s =
          only_settled on _ mid new off.noticed.only flying' flying' seconds seconds book' book' is_settled (mid_settles s)
      going_settles ticket letters (GoesOn.Falls said_is some flies fall wrote) s =
          settled_by n (IsTurnedTo Down) mid new fall flying' flying' seconds seconds book' book' is_settled
          (λ boot up _. absurd (let never : life.Down ≡ life.Up boot = sym (ap life_seen fall.does.0) ∙ up in cc)) (mid_settles s)

      settles_by : (r : Began) → Concludes on n entries result mid flying roomy new flying' book' r → Settles new
      settles_by (Ok begun) con = going_settles begun.0 begun.1.letters con
      settles_by (Err why) con = subst Settles (sym con.nodes_are) mid_settles

      pub concluded_settled : Concludes on n entries result mid flying roomy new flying' book' began → Settles new
      concluded_settled con = settles_by began con
