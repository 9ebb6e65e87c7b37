-- What a step does in which a node pushes to another.
use Rattle.std.proofs.Common.{◌≡◌, inl, inr, ⊎_elim, ℕ, ◌≤◌, ◌&&◌, nat_le, Bool, true, false, List, [], ◌∷◌, ◌++◌, length, All, append-nil, Option, Some, None, Result, Ok, Err, refl, sym, ap, ◌∙◌, subst, arith}
use Rattle.std.specs.Prelude.{IfOk, IfErr, is_some, nat_lt, nat_eq}
use Rattle.std.specs.List.{list_all}
use Rattle.std.specs.FinMap as fin
use Rattle.mail_model.specs.Record.{Record, payloads_of}
use Rattle.object_model.specs.Letters.{Letter}
use Rattle.object_model.specs.Mishaps.MishapKind.{Crowded}
use Rattle.session_model.specs.Events.{NodeLife as life}
use Rattle.cluster_model.specs.Cluster as plain
use Rattle.cluster_model.specs.Cluster.{Slot, slot_at, with_slot, epoch_of}
use Rattle.cluster_model.specs.Deeds.{slot_up}
use Rattle.cluster_model.specs.Room.{Flight, has_room, due_to, keys_pushed}
use Rattle.cluster_model.specs.Rules.{push, push_of}
use Rattle.cluster_model.specs.World as machine
use Rattle.cluster_model.specs.World.{put}
use Rattle.cluster_model.specs.Steps as steps
use Rattle.cluster_model.specs.Steps.{is_node, letters_end, is_crowded_slot, step_fault}
use Rattle.cluster_model.specs.Makes.{Pushes, cut_world}
use Rattle.disk_journal.specs.Journal.{TellsJournal}
use Rattle.node_maps.specs.Nodes.{node_of}
use Rattle.node_store.specs.Disks.{View}
use Rattle.node_core.specs.Nodes.{node_seen, NodeKeeps, end_in, IsAsBefore}
use Rattle.node_core.specs.Pushing.{first_within, keys_within, PushesOut}
use Rattle.node_core.specs.Works.{IsOnlyRead, LeavesUp}
use Rattle.node_core.specs.declared.fault.NodeFault.{NodeFault}
use Rattle.node_core.specs.declared.fault.NodeFault.TheVariants.{Disk, Worn, NoMemory}
use Rattle.node_core.specs.declared.outbox.Outbox.{Outbox}
use Rattle.node_core.specs.declared.node.Node.{Node}
use Rattle.whole_node.specs.Nodes.{WholeWorks, joint_seen}
use Rattle.whole_node.specs.declared.node.WholeNode.{WholeNode}
use Rattle.whole_node.specs.Hearing.{FitsMaps}
use Rattle.world_book.specs.Books.{entries_of}
use Rattle.world_book.specs.declared.book.Book.{Book}
use Rattle.world_book.specs.declared.entry.Entry.TheVariants as written
use Rattle.cluster_world.specs.Books.{entries_seen, booked_by}
use Rattle.cluster_world.specs.Flights.{InFlight, put_down, taken_out}
use Rattle.cluster_world.specs.Hears.{AllCanBeHeard}
use Rattle.cluster_world.proofs.FlightLaws.{all_heard}
use Rattle.cluster_world.specs.Lives.{life_seen, of_node, all_falls_left, CanWorkOn}
use Rattle.cluster_world.specs.Stands.{SlotsStand}
use Rattle.cluster_world.specs.Worlds.{WorldState, seen_life, life_among, state_with, StateStandsFor}
use Rattle.cluster_world.specs.Asking.{IsUpWhole}
use Rattle.cluster_world.specs.Changes.{ChangesNode}
use Rattle.cluster_world.specs.Missing.{all_missed, SentOff}
use Rattle.cluster_world.specs.Turning.{life_left}
use Rattle.cluster_world.specs.Turns.{life_refusal, node_refusal}
use Rattle.cluster_world.specs.Unfinished.{said_of_fault}
use Rattle.cluster_world.specs.Unfinished.{entries_of_fault}
use Rattle.cluster_world.specs.Pushes.{letters_left_by, octets_left_by, IsCrowdedAt, PushesAt}
use Rattle.cluster_world.specs.Steps.{StepDid, AreSettled, WasToWork, StepIsKnown, EveryStopKeeps, LeadsMail}
use Rattle.cluster_world.specs.declared.life.Life.{Life}
use Rattle.cluster_world.specs.declared.life.Life.TheVariants.{Up, Down}
use Rattle.cluster_world.specs.declared.nodes.Nodes.{Nodes}
use Rattle.cluster_world.specs.declared.step.Step.TheVariants as step
use Rattle.cluster_world.specs.declared.step.Said.{Said}
use Rattle.cluster_world.specs.declared.step.Said.TheVariants as said
use Rattle.cluster_world.specs.declared.fault.StepFault.{StepFault}
use Rattle.cluster_world.specs.declared.fault.StepFault.TheVariants as fault
use Rattle.cluster_world.proofs.Still.{some_same}
use Rattle.cluster_world.proofs.Same.{same_told, same_quiet, led_kept, same_unchanged}
use Rattle.cluster_world.proofs.Kept.{all_kept, stops_on, only_settled}
use Rattle.cluster_world.proofs.Putting.{with_put, put_is}
use Rattle.cluster_world.proofs.Turned.{slot_of, as_many}
use Rattle.cluster_world.proofs.Refusing.{fit_of}
use Rattle.cluster_world.proofs.Falling.{entries_more}
use Rattle.cluster_world.proofs.Asked.{ready_of, disk_of, slot_same}
use Rattle.cluster_world.proofs.AfterWidening.{StaysUp, FallsDown, read_stays, stays_lives, stays_ready, stays_falls, stays_told, stays_quiet, stays_settled, down_lives, down_ready, down_falls, down_told, down_quiet, down_settled, found_up, read_there, read_down, within_first, within_second, told_there, when_told, caused, up_of}
use Rattle.cluster_world.proofs.PushRoom.{keys_same, push_goes, push_is_crowded, push_is_worn, alone, none_long}
use Rattle.cluster_world.proofs.Unchanged.{unchanged_by, memory_kept}
use Rattle.cluster_world.proofs.Follows.{all_disk, fall_follows, idle_follows, only_none}
use Rattle.cluster_world.proofs.Wholly.{led, even_of}
use Rattle.cluster_world.proofs.Longer.{same_book, as_long, longer_by}
use Rattle.cluster_world.proofs.Lifting.{lift}
use Rattle.cluster_world.proofs.Beside.{alone_keeps, one_keeps, turns_keep, turns_same}
use Rattle.joint_world.specs.World.{mail_world_of}
use Rattle.joint_world.specs.Staying.{KeepsReads}
use Rattle.cluster_world.specs.Keeping.{joint_life}

module _ {D : Type 0} (on : View D) (n to : ℕ) (old : Nodes D) (fit : node_refusal old.plan (life_among old) (step.Push n to) ≡ None) (ready : CanWorkOn on.seen old.plan old.lives.items old.disks.items) where
  named : list_all (is_node old.plan) (n ∷ to ∷ []) ≡ true
  named = (fit_of (list_all (is_node old.plan) (n ∷ to ∷ [])) (life_refusal (step.Push n to) (life_among old n)) fit).0

  pub push_up : (node : WholeNode) × (of_node old.lives.items n ≡ Some (Up node))
  push_up = up_of (step.Push n to) (of_node old.lives.items n) tt (fit_of (list_all (is_node old.plan) (n ∷ to ∷ [])) (life_refusal (step.Push n to) (life_among old n)) fit).1

  -- how the machine finds the node
  module _ (node : WholeNode) (up : of_node old.lives.items n ≡ Some (Up node)) where
    record Here (slots : List Slot) : Type 0 where
      disk : List Record
      at : slot_at slots n ≡ Some (slot_up (node_seen node.mail) disk)
      keeps : NodeKeeps disk node.mail
      own : node.mail.store.own ≡ n

    here : (slots : List Slot) → SlotsStand on old.lives.items old.disks.items slots → Here slots
    here slots st =
        let (disk, held) = disk_of old.disks.items old.lives.items n (Up node) (old.all ∙ sym old.disk_each) up in
        let (slot, there, stood) = slot_of on old.lives.items old.disks.items slots n (Up node) disk st up held in
        let (seen, is, s) = stood in
        record {
          disk = slot.disk;
          at = there ∙ ap (λ l. Some (record { life = l; disk = slot.disk })) (is ∙ ap plain.Life.Up (sym s.seen_is));
          keeps = s.keeps;
          own = (ready_of on.seen old.plan old.lives.items old.disks.items ready n node disk up held).0.own_is;
        }

    -- whether it is crowded, as the machine finds it
    crowds : (flights : List Flight) (crowded : Bool) (life : Life) → of_node old.lives.items n ≡ Some life → IsCrowdedAt to (letters_left_by flights) (octets_left_by flights) crowded life
        → (records : List Record) → NodeKeeps records node.mail → node.mail.store.own ≡ n → is_crowded_slot flights n to (slot_up (node_seen node.mail) records) (plain.Life.Up (node_seen node.mail)) ≡ crowded
    crowds flights crowded life there c records keeps own =
        let same : node ≡ c.node = the_node node c.node (some_same (Up node) (Up c.node) (sym up ∙ there ∙ ap Some c.up)) in
        let is : crowded ≡ (nat_lt 0 (length (due_to node.mail.store.own to (node_seen node.mail))) && nat_eq (length (keys_within (letters_left_by flights) (octets_left_by flights) node.mail.store.own to (node_seen node.mail) records)) 0) =
        subst (λ (m : WholeNode). crowded ≡ (nat_lt 0 (length (due_to m.mail.store.own to (node_seen m.mail))) && nat_eq (length (keys_within (letters_left_by flights) (octets_left_by flights) m.mail.store.own to (node_seen m.mail) records)) 0)) (sym same)
        (c.is records (subst (λ (m : WholeNode). NodeKeeps records m.mail) same keeps)) in
        sym (
        is ∙ ap (λ o. nat_lt 0 (length (due_to o to (node_seen node.mail))) && nat_eq (length (keys_within (letters_left_by flights) (octets_left_by flights) o to (node_seen node.mail) records)) 0) own
        ∙ ap (λ ks. nat_lt 0 (length (due_to n to (node_seen node.mail))) && nat_eq (length ks) 0) (keys_same flights n to (node_seen node.mail) records)
        )
      where
        the_node : (x y : WholeNode) → Up x ≡ Up y → x ≡ y
        the_node x y e = cc

  -- It is refused before it begins.
  module _ (flying : InFlight) (seconds : ℕ) (book : Book) where
    abbrev before : WorldState D
    before = state_with old flying seconds book

    pub push_late : nat_le letters_end flying.sent ≡ true → StepDid on (Err fault.Worn) (step.Push n to) before before
    push_late late = record {
      plan = refl;
      handed = refl;
      refused = sym fit;
      kind = tt;
      falls = tt;
      lives = λ m. refl;
      told = same_told on before;
      quiet = same_quiet on before;
      clock = refl;
      passed = tt;
      books = same_book (booked_by book);
      kept = same_unchanged on before (step.Push n to);
      leads = λ known ended story v st sound.
          let w = mail_world_of v in
          let (node, up) = push_up in
          let h = here node up w.slots st.mail.slots in
          led_kept on before (Err fault.Worn) (step.Push n to) v st (record { step_is = refl; said_is = refl; sees = tt }) tt (λ done. done)
          (inl (inl (push_is_worn old.plan w n to (node_seen node.mail) h.disk named h.at _ (ap (nat_le letters_end) (sym st.mail.sent) ∙ late) refl)), refl);
      cause = λ w st. tt;
    }

    pub push_crowded : (life : Life) → of_node old.lives.items n ≡ Some life → nat_le letters_end flying.sent ≡ false → IsCrowdedAt to (letters_left_by flying.flights) (octets_left_by flying.flights) true life
        → StepDid on (Err fault.NoRoom) (step.Push n to) before before
    push_crowded life there early crowded = record {
      plan = refl;
      handed = refl;
      refused = sym fit;
      kind = tt;
      falls = tt;
      lives = λ m. refl;
      told = same_told on before;
      quiet = same_quiet on before;
      clock = refl;
      passed = tt;
      books = same_book (booked_by book);
      kept = same_unchanged on before (step.Push n to);
      leads = λ known ended story v st sound.
          let w = mail_world_of v in
          let (node, up) = push_up in
          let h = here node up w.slots st.mail.slots in
          led_kept on before (Err fault.NoRoom) (step.Push n to) v st (record { step_is = refl; said_is = refl; sees = tt }) tt (λ done. done) (
            inl (inl (push_is_crowded old.plan w n to (node_seen node.mail) h.disk named h.at (ap (nat_le letters_end) (sym st.mail.sent) ∙ early)
                (ap (λ fs. is_crowded_slot fs n to (slot_up (node_seen node.mail) h.disk) (plain.Life.Up (node_seen node.mail))) (sym st.mail.flying) ∙ crowds node up flying.flights true life there crowded h.disk h.keeps h.own))),
            refl,
          );
      cause = λ w st. tt;
    }

  -- It works.
  module _ (is_settled : D → Type 0) (flying : InFlight) (mid : Nodes D) (pushed : Result Outbox NodeFault)
      (ch : ChangesNode n (PushesAt on is_settled n to (letters_left_by flying.flights) (octets_left_by flying.flights) pushed) old mid) where
    abbrev P : Life → D → Life → D → Type 0
    P = PushesAt on is_settled n to (letters_left_by flying.flights) (octets_left_by flying.flights) pushed

    abbrev a : WholeNode
    a = ch.does.0.old

    abbrev b : WholeNode
    b = ch.does.0.new

    was : ch.life ≡ Up a
    was = ch.does.0.was

    own : (node : WholeNode) → ch.life' ≡ Up node → KeepsReads (joint_life ch.life) (joint_seen node)
    own = turns_keep on.seen (λ result old before new after. PushesOut on n to (letters_left_by flying.flights) (octets_left_by flying.flights) old before new after result) (λ result old before new after. new.maps ≡ old.maps)
        pushed ch.life ch.disk ch.life' ch.disk' ch.does.0

    -- what came of it
    abbrev Comes : Result Outbox NodeFault → Type 0
    Comes r = PushesOut on n to (letters_left_by flying.flights) (octets_left_by flying.flights) a.mail ch.disk b.mail ch.disk' r × (ch.life' ≡ life_left r b) × (is_settled ch.disk → is_settled ch.disk') × (LeavesUp r → WholeWorks (on.seen ch.disk') b)

    comes : (r : Result Outbox NodeFault) → pushed ≡ r → Comes r
    comes r e = subst Comes e (ch.does.0.did, ch.does.0.is, ch.does.1, ch.does.0.works)

    -- The node is as it was, and its disk was read alone.
    record ReadAlone : Type 0 where
      is : ch.life' ≡ Up b
      as_before : IsAsBefore a.mail b.mail
      read : IsOnlyRead on ch.disk ch.disk'
      quiet : on.faults ch.disk' ≡ on.faults ch.disk
      settled : is_settled ch.disk → is_settled ch.disk'
      works : WholeWorks (on.seen ch.disk') b

    read_well : (outbox : Outbox) → Comes (Ok outbox) → ReadAlone
    read_well outbox c = record { is = c.1; as_before = c.0.1.as_before; read = c.0.1.read; quiet = c.0.1.quiet; settled = c.2; works = c.3 tt }

    read_out : Comes (Err (NoMemory false)) → ReadAlone
    read_out c = record { is = c.1; as_before = c.0.0; read = c.0.1; quiet = c.0.2; settled = c.2; works = c.3 tt }

    abbrev Stays : Type 0
    Stays = StaysUp on n P old mid ch ready a was b

    stays : ReadAlone → Stays
    stays r = read_stays on n P old mid ch ready a was b r.is r.as_before r.read r.quiet r.works

    abbrev Falls : Type 0
    Falls = FallsDown on n P old mid ch ready a was

    falls_so : Comes (Err Disk) → Falls
    falls_so c = record { is = c.1; told = ap (λ (o : Option (List ℕ)). is_some o) c.0.read.seen; later = c.0.later }

    -- what it sends can be heard
    pub pushed_heard : (outbox : Outbox) → pushed ≡ Ok outbox → IfOk pushed (λ o. All FitsMaps o.letters) → AllCanBeHeard outbox.letters
    pushed_heard outbox e fits = all_heard outbox.letters (comes (Ok outbox) e).0.1.fits (subst (λ (r : Result Outbox NodeFault). IfOk r (λ o. All FitsMaps o.letters)) e fits)

    pub pushed_ready : (r : Result Outbox NodeFault) → pushed ≡ r → CanWorkOn on.seen mid.plan mid.lives.items mid.disks.items
    pushed_ready (Ok outbox) e = stays_ready on n P old mid ch ready a was b (stays (read_well outbox (comes (Ok outbox) e)))
    pushed_ready (Err Disk) e = down_ready on n P old mid ch ready a was (falls_so (comes (Err Disk) e))
    pushed_ready (Err Worn) e = absurd (comes (Err Worn) e).0
    pushed_ready (Err (NoMemory true)) e = absurd (comes (Err (NoMemory true)) e).0
    pushed_ready (Err (NoMemory false)) e = stays_ready on n P old mid ch ready a was b (stays (read_out (comes (Err (NoMemory false)) e)))

    pub pushed_falls : (r : Result Outbox NodeFault) → pushed ≡ r → all_falls_left mid.lives.items ≤ all_falls_left old.lives.items
    pushed_falls (Ok outbox) e = omega (arith, stays_falls on n P old mid ch ready a was b (stays (read_well outbox (comes (Ok outbox) e))))
    pushed_falls (Err Disk) e = omega (arith, down_falls on n P old mid ch ready a was (falls_so (comes (Err Disk) e)))
    pushed_falls (Err Worn) e = absurd (comes (Err Worn) e).0
    pushed_falls (Err (NoMemory true)) e = absurd (comes (Err (NoMemory true)) e).0
    pushed_falls (Err (NoMemory false)) e = omega (arith, stays_falls on n P old mid ch ready a was b (stays (read_out (comes (Err (NoMemory false)) e))))

    module _ (seconds : ℕ) (book book' : Book) where
      abbrev first : WorldState D
      first = state_with old flying seconds book

      abbrev between : WorldState D
      between = state_with mid flying seconds book'

      pub pushed_settled : (r : Result Outbox NodeFault) → pushed ≡ r → AreSettled is_settled first → AreSettled is_settled between
      pushed_settled (Ok outbox) e =
          let r = read_well outbox (comes (Ok outbox) e) in
          stays_settled on n P old mid ch ready a was b (stays r) flying flying seconds seconds book book' is_settled r.settled
      pushed_settled (Err Disk) e = down_settled on n P old mid ch ready a was (falls_so (comes (Err Disk) e)) flying flying seconds seconds book book' is_settled
      pushed_settled (Err Worn) e = absurd (comes (Err Worn) e).0
      pushed_settled (Err (NoMemory true)) e = absurd (comes (Err (NoMemory true)) e).0
      pushed_settled (Err (NoMemory false)) e =
          let r = read_out (comes (Err (NoMemory false)) e) in
          stays_settled on n P old mid ch ready a was b (stays r) flying flying seconds seconds book book' is_settled r.settled

      -- The slots stand as they did.
      record Unmoved (w : machine.World) : Type 0 where
        found_slot : Slot
        disk : List Record
        up : slot_at w.slots n ≡ Some (slot_up (node_seen a.mail) disk)
        keeps : NodeKeeps disk a.mail
        tells : TellsJournal (on.seen ch.disk) n (payloads_of disk) (end_in a.mail)
        same : with_slot w.slots n (slot_up (node_seen a.mail) disk) ≡ w.slots
        slots : SlotsStand on mid.lives.items mid.disks.items w.slots
        stops : EveryStopKeeps on first between w.slots w.slots

      unmoved : ReadAlone → (w : machine.World) → StateStandsFor on first w → Unmoved w
      unmoved r w st =
          let f = found_up on n P old mid ch ready a was w.slots st.slots in
          let m = read_there on n P old mid ch ready a was w.slots st.slots r.read f b r.is r.as_before in
          let same : with_slot w.slots n f.slot ≡ w.slots = slot_same w.slots n f.slot f.here in
          record {
            found_slot = f.slot;
            disk = f.slot.disk;
            up = f.up;
            keeps = f.keeps;
            tells = f.tells;
            same = ap (with_slot w.slots n) (sym f.whole) ∙ same;
            slots = subst (λ slots. SlotsStand on mid.lives.items mid.disks.items slots) same m.stand;
            stops = record { each = λ k d d' x x' p q s t. m.stops k d d' x x' p q s (ap (λ slots. slot_at slots k) same ∙ t) };
          }

      -- Out of memory, and nothing has changed.
      read_nothing : entries_of book' ≡ entries_of book → ReadAlone → StepDid on (Err (fault.NoMemory None)) (step.Push n to) first between
      read_nothing wrote r = record {
        plan = ch.plan;
        handed = as_many n P old mid ch;
        refused = tt;
        kind = tt;
        falls = tt;
        lives = stays_lives on n P old mid ch ready a was b (stays r);
        told = stays_told on n P old mid ch ready a was b (stays r) flying flying seconds seconds book book';
        quiet = stays_quiet on n P old mid ch ready a was b (stays r) flying flying seconds seconds book book';
        clock = refl;
        passed = tt;
        books = as_long (booked_by book) (booked_by book') (ap entries_seen wrote);
        kept = unchanged_by n P old mid ch flying flying seconds seconds book book' on (step.Push n to) (memory_kept ch.life ch.life' a b was r.is r.as_before (ap node_of ch.does.0.maps) (turns_same ch.life ch.life' own a b was r.is (ap node_of ch.does.0.maps)))
            (λ away. absurd (away refl)) (λ _. (r.read, r.quiet)) refl refl (ap entries_seen wrote);
        leads = λ known ended. lift on _ _ _ _ (even_of old) (even_of mid) tt (λ v stands done. tt) (alone_keeps n P old mid ch own) (λ w st.
            let u = unmoved r w st in
            led on (Err (fault.NoMemory None)) (step.Push n to) first between (even_of old) (even_of mid) w st (record { step_is = refl; said_is = refl; sees = tt }) (λ v seen sound done. tt) (record {
              next = w;
              stands = record { slots = u.slots; flying = st.flying; sent = st.sent; seconds = st.seconds; book = ap entries_seen wrote ∙ st.book };
              made = refl;
              stops = u.stops;
              follow = idle_follows on n P old mid mid ch (λ slots. slots) (only_none on mid) w.slots (slot_up (node_seen a.mail) u.disk) u.up w.slots (λ m. refl) a b was r.is (ap node_of ch.does.0.maps);
            }));
        cause = λ w st. tt;
      }

      -- its letters found no room in memory
      pub unsent_did : (outbox : Outbox) → pushed ≡ Ok outbox → entries_of book' ≡ entries_of book → StepDid on (Err (fault.NoMemory None)) (step.Push n to) first between
      unsent_did outbox e wrote = read_nothing wrote (read_well outbox (comes (Ok outbox) e))

      module _ (life : Life) (there : of_node old.lives.items n ≡ Some life) (early : nat_le letters_end flying.sent ≡ false)
          (room : IsCrowdedAt to (letters_left_by flying.flights) (octets_left_by flying.flights) false life) where
        goes : (w : machine.World) → StateStandsFor on first w → (disk : List Record) → slot_at w.slots n ≡ Some (slot_up (node_seen a.mail) disk) → NodeKeeps disk a.mail → step_fault old.plan (steps.Step.PushTo n to) w ≡ None
        goes w st disk up keeps =
            let a_up : of_node old.lives.items n ≡ Some (Up a) = ch.was ∙ ap Some was in
            let own : a.mail.store.own ≡ n = (ready_of on.seen old.plan old.lives.items old.disks.items ready n a ch.disk a_up ch.held).0.own_is in
            push_goes old.plan w n to (node_seen a.mail) disk named up (ap (nat_le letters_end) (sym st.sent) ∙ early)
            (ap (λ fs. is_crowded_slot fs n to (slot_up (node_seen a.mail) disk) (plain.Life.Up (node_seen a.mail))) (sym st.flying) ∙ crowds a a_up flying.flights false life there room disk keeps own)

        -- Its disk failed, and it is down.
        fell : WasToWork old.plan.nodes (step.Push n to) (life_among old n) n
        fell = let inside = within_first old.plan n to named in record { above = inside.0; within = inside.1; worked = inl ((node_seen a.mail).boot, ap seen_life ch.was ∙ ap life_seen was) }

        failed : entries_of book' ≡ entries_of book ++ written.Down n ∷ [] → Comes (Err Disk) → StepDid on (Ok (said.Faulted n)) (step.Push n to) first between
        failed wrote c = record {
          plan = ch.plan;
          handed = as_many n P old mid ch;
          refused = sym fit;
          kind = refl;
          falls = fell;
          lives = down_lives on n P old mid ch ready a was (falls_so c);
          told = down_told on n P old mid ch ready a was (falls_so c) flying flying seconds seconds book book';
          quiet = down_quiet on n P old mid ch ready a was (falls_so c) flying flying seconds seconds book book';
          clock = refl;
          passed = tt;
          books = longer_by book book' (written.Down n ∷ []) wrote;
          kept = tt;
          leads = λ known ended. lift on _ _ _ _ (even_of old) (even_of mid) tt (λ v stands done. tt) (alone_keeps n P old mid ch own) (λ w st.
              let f = found_up on n P old mid ch ready a was w.slots st.slots in
              let m = read_down on n P old mid ch ready a was w.slots st.slots c.0.read f c.1 in
              led on (Ok (said.Faulted n)) (step.Push n to) first between (even_of old) (even_of mid) w st (record { step_is = refl; said_is = refl; sees = tt }) (λ v seen sound done. tt) (record {
                next = cut_world w n f.slot.disk [] [];
                stands = record {
                  slots = m.stand;
                  flying = st.flying;
                  sent = st.sent;
                  seconds = st.seconds;
                  book = ap entries_seen wrote ∙ entries_more (entries_of book) (written.Down n ∷ []) ∙ ap (λ x. x ++ entries_seen (written.Down n ∷ [])) st.book;
                };
                made = (goes w st f.slot.disk f.up f.keeps, Pushes.FailsPushing (node_seen a.mail) f.slot.disk f.up refl refl);
                stops = record { each = m.stops };
                follow = fall_follows on n P old mid ch w.slots f.slot (record { life = plain.Life.Down []; disk = f.slot.disk ++ [] }) f.here (λ y up. let never : Down ≡ Up y = sym c.1 ∙ up in cc);
              }));
          cause = λ w st.
              let f = found_up on n P old mid ch ready a was w.slots st.slots in
              caused on n P old mid ch (step.Push n to) flying flying seconds seconds book book' (⊎_elim
              (λ untold. inr (untold, tt))
              (λ told. ⊎_elim (λ rose. inl rose) (λ never. absurd (never f.slot.disk f.keeps f.tells)) told)
              c.0.cause);
        }

        pub push_failed : (why : NodeFault) → pushed ≡ Err why → entries_of book' ≡ entries_of book ++ entries_of_fault n why → StepDid on (said_of_fault n why) (step.Push n to) first between
        push_failed Disk e wrote = failed wrote (comes (Err Disk) e)
        push_failed Worn e wrote = absurd (comes (Err Worn) e).0
        push_failed (NoMemory true) e wrote = absurd (comes (Err (NoMemory true)) e).0
        push_failed (NoMemory false) e wrote = read_nothing (wrote ∙ append-nil (entries_of book)) (read_out (comes (Err (NoMemory false)) e))

        -- Its letters are sent.
        module _ (outbox : Outbox) (e : pushed ≡ Ok outbox) (wrote : entries_of book' ≡ entries_of book) (new : Nodes D) (flying' : InFlight)
            (off : SentOff on mid.plan outbox.letters None flying flying' mid new) where
          abbrev letters : List Letter
          letters = outbox.letters

          abbrev change : List Slot → List Slot
          change slots = all_missed Crowded slots (put_down letters (taken_out None flying)).left

          abbrev last : WorldState D
          last = state_with new flying' seconds book'

          abbrev r : ReadAlone
          r = read_well outbox (comes (Ok outbox) e)

          same_disk : (k : ℕ) (d : D) → of_node new.disks.items k ≡ Some d → of_node mid.disks.items k ≡ Some d
          same_disk k d f = ap (λ ds. of_node ds k) (sym off.noticed.only.disks) ∙ f

          -- what the machine has it send
          out_is : (w : machine.World) → StateStandsFor on first w → StepIsKnown on.seen first (step.Push n to) → (disk : List Record) → NodeKeeps disk a.mail → TellsJournal (on.seen ch.disk) n (payloads_of disk) (end_in a.mail)
              → (push n to (keys_pushed w.flying n to (node_seen a.mail) disk) (node_seen a.mail) disk).out ≡ letters
          out_is w st known disk keeps tells =
              let c = (comes (Ok outbox) e).0.1 in
              let keys : keys_within (letters_left_by flying.flights) (octets_left_by flying.flights) n to (node_seen a.mail) disk ≡ keys_pushed w.flying n to (node_seen a.mail) disk =
              keys_same flying.flights n to (node_seen a.mail) disk ∙ ap (λ fs. keys_pushed fs n to (node_seen a.mail) disk) st.flying in
              ⊎_elim
              (λ all.
              let told = told_there on.seen old.disks.items n ch.disk all ch.held in
              ap (λ ks. (push n to ks (node_seen a.mail) disk).out) (sym keys) ∙ when_told (on.seen ch.disk) _ told c.told disk keeps tells)
              (λ (blind : old.plan.nodes ≡ 1).
              let inside = within_first old.plan n to named in
              let beside = within_second old.plan n to named in
              let none : due_to n to (node_seen a.mail) ≡ [] = alone n to (node_seen a.mail) (omega (arith, blind, inside.0, inside.1, beside.0, beside.1)) in
              let nothing : keys_within (letters_left_by flying.flights) (octets_left_by flying.flights) n to (node_seen a.mail) disk ≡ [] =
              ap (λ ks. first_within (λ key. push_of n to (epoch_of (node_seen a.mail)) disk key (fin.get (node_seen a.mail).log key)) (letters_left_by flying.flights) (octets_left_by flying.flights) ks) none in
              ap (λ ks. (push n to ks (node_seen a.mail) disk).out) (sym keys ∙ nothing) ∙ sym (none_long letters (c.count disk keeps ∙ ap length nothing)))
              known

          sent_leads : StepIsKnown on.seen first (step.Push n to) → (w : machine.World) → StateStandsFor on first w → LeadsMail on (Ok (said.Sent (length letters))) (step.Push n to) first last w
          sent_leads known w st =
              let u = unmoved r w st in
              let out : (push n to (keys_pushed w.flying n to (node_seen a.mail) u.disk) (node_seen a.mail) u.disk).out ≡ letters = out_is w st known u.disk u.keeps u.tells in
              let flying_is : ◌≡◌ {A = InFlight} (taken_out None flying) (record { flights = w.flying; sent = w.sent }) = λ i. record { flights = st.flying i; sent = st.sent i } in
              let next : machine.World = with_put w.slots w (put_down letters (record { flights = w.flying; sent = w.sent })) in
              led on (Ok (said.Sent (length letters))) (step.Push n to) first last (even_of old) (even_of new) w st (record { step_is = refl; said_is = refl; sees = tt }) (λ v seen sound done. tt) (record {
                next = next;
                stands = record {
                  slots = subst (λ fl. SlotsStand on new.lives.items new.disks.items (all_missed Crowded w.slots (put_down letters fl).left)) flying_is (off.noticed.only.slots w.slots u.slots);
                  flying = ap (λ x. x.flights) off.flies ∙ ap (λ fl. (put_down letters fl).flying.flights) flying_is;
                  sent = ap (λ x. x.sent) off.flies ∙ ap (λ fl. (put_down letters fl).flying.sent) flying_is;
                  seconds = st.seconds;
                  book = ap entries_seen wrote ∙ st.book;
                };
                made = (
                  goes w st u.disk u.up u.keeps,
                  Pushes.Sends (node_seen a.mail) u.disk u.up (ap (λ ls. steps.Said.Sent (length ls)) (sym out))
                      (sym (
                      ap (λ ls. put has_room ls (record w { slots = with_slot w.slots n (slot_up (node_seen a.mail) u.disk) })) out
                      ∙ ap (λ slots. put has_room letters (record w { slots = slots })) u.same
                      ∙ put_is letters w
                      )),
                );
                stops = stops_on on first between last w.slots w.slots next.slots off.noticed.only.disks (λ k. all_kept Crowded w.slots k (put_down letters (record { flights = w.flying; sent = w.sent })).left) u.stops;
                follow = idle_follows on n P old mid new ch change off.noticed.only w.slots (slot_up (node_seen a.mail) u.disk) u.up next.slots
                    (λ k. all_disk Crowded w.slots k (put_down letters (record { flights = w.flying; sent = w.sent })).left) a b was r.is (ap node_of ch.does.0.maps);
              })

          pub sent_did : StepDid on (Ok (said.Sent (length letters))) (step.Push n to) first last
          sent_did =
              let told = stays_told on n P old mid ch ready a was b (stays r) flying flying seconds seconds book book' in
              let quiet = stays_quiet on n P old mid ch ready a was b (stays r) flying flying seconds seconds book book' in
              record {
                plan = off.noticed.only.plan ∙ ch.plan;
                handed = ap length off.noticed.only.disks ∙ as_many n P old mid ch;
                refused = sym fit;
                kind = tt;
                falls = tt;
                lives = λ m. off.noticed.only.lives m ∙ stays_lives on n P old mid ch ready a was b (stays r) m;
                told = record { each = λ k d d' p q. told.each k d d' p (same_disk k d' q) };
                quiet = record {
                  later = λ k d d' p q. quiet.later k d d' p (same_disk k d' q);
                  same = λ k boot d d' y p q. quiet.same k boot d d' (sym (off.noticed.only.lives k) ∙ y) p (same_disk k d' q);
                };
                clock = refl;
                passed = tt;
                books = as_long (booked_by book) (booked_by book') (ap entries_seen wrote);
                kept = tt;
                leads = λ known ended. lift on _ _ _ _ (even_of old) (even_of new) tt (λ v stands done. tt) (one_keeps n P old mid ch own on change new off.noticed.only) (sent_leads known);
                cause = λ w st. tt;
              }

      -- and each node that is up can work, with as much room in the book
      module _ (outbox : Outbox) (e : pushed ≡ Ok outbox) (new : Nodes D) (flying' : InFlight) (off : SentOff on mid.plan outbox.letters None flying flying' mid new) where
        pub sent_ready : CanWorkOn on.seen new.plan new.lives.items new.disks.items
        sent_ready = subst (λ p. CanWorkOn on.seen p new.lives.items new.disks.items) (sym off.noticed.only.plan) off.noticed.works

        pub sent_falls : all_falls_left new.lives.items ≤ all_falls_left old.lives.items
        sent_falls = omega (arith, off.noticed.only.falls, pushed_falls (Ok outbox) e)

        pub sent_settled : AreSettled is_settled first → AreSettled is_settled (state_with new flying' seconds book')
        sent_settled s = only_settled on (λ slots. all_missed Crowded slots (put_down outbox.letters (taken_out None flying)).left) mid new off.noticed.only flying flying' seconds seconds book' book' is_settled (pushed_settled (Ok outbox) e s)

      -- what the sending came to
      module _ (outbox : Outbox) (e : pushed ≡ Ok outbox) (items : List Letter) (same : items ≡ outbox.letters) (new : Nodes D) (flying' : InFlight) where
        abbrev Sends : Result Said StepFault → Type 0
        Sends r = IfOk r (λ s. (s ≡ said.Sent (length items)) × SentOff on mid.plan items None flying flying' mid new)

        abbrev Keeps_all : Result Said StepFault → Type 0
        Keeps_all r = IfErr r (λ why. (why ≡ fault.NoMemory None) × (flying' ≡ flying) × (new ≡ mid))

        off_is : SentOff on mid.plan items None flying flying' mid new → SentOff on mid.plan outbox.letters None flying flying' mid new
        off_is off = subst (λ ls. SentOff on mid.plan ls None flying flying' mid new) same off

        pub sending_ready : (r : Result Said StepFault) → Sends r → Keeps_all r → CanWorkOn on.seen new.plan new.lives.items new.disks.items
        sending_ready (Ok s) ok err = sent_ready outbox e new flying' (off_is ok.1)
        sending_ready (Err why) ok err = subst (λ (x : Nodes D). CanWorkOn on.seen x.plan x.lives.items x.disks.items) (sym err.2) (pushed_ready (Ok outbox) e)

        pub sending_falls : (r : Result Said StepFault) → Sends r → Keeps_all r → all_falls_left new.lives.items ≤ all_falls_left old.lives.items
        sending_falls (Ok s) ok err = sent_falls outbox e new flying' (off_is ok.1)
        sending_falls (Err why) ok err = subst (λ (x : Nodes D). all_falls_left x.lives.items ≤ all_falls_left old.lives.items) (sym err.2) (pushed_falls (Ok outbox) e)

        pub sending_settled : (r : Result Said StepFault) → Sends r → Keeps_all r → AreSettled is_settled first → AreSettled is_settled (state_with new flying' seconds book')
        sending_settled (Ok s) ok err = sent_settled outbox e new flying' (off_is ok.1)
        sending_settled (Err why) ok err = λ h.
            subst (λ (fl : InFlight). AreSettled is_settled (state_with new fl seconds book')) (sym err.1)
            (subst (λ (x : Nodes D). AreSettled is_settled (state_with x flying seconds book')) (sym err.2) (pushed_settled (Ok outbox) e h))

        pub sending_did : (life : Life) (there : of_node old.lives.items n ≡ Some life) (early : nat_le letters_end flying.sent ≡ false)
            (room : IsCrowdedAt to (letters_left_by flying.flights) (octets_left_by flying.flights) false life) (wrote : entries_of book' ≡ entries_of book)
            → (r : Result Said StepFault) → Sends r → Keeps_all r → StepDid on r (step.Push n to) first (state_with new flying' seconds book')
        sending_did life there early room wrote (Ok s) ok err =
            subst (λ (x : Said). StepDid on (Ok x) (step.Push n to) first (state_with new flying' seconds book')) (sym (ok.0 ∙ ap (λ (ls : List Letter). said.Sent (length ls)) same))
            (sent_did life there early room outbox e wrote new flying' (off_is ok.1))
        sending_did life there early room wrote (Err why) ok err =
            subst (λ (x : StepFault). StepDid on (Err x) (step.Push n to) first (state_with new flying' seconds book')) (sym err.0)
            (subst (λ (fl : InFlight). StepDid on (Err (fault.NoMemory None)) (step.Push n to) first (state_with new fl seconds book')) (sym err.1)
            (subst (λ (x : Nodes D). StepDid on (Err (fault.NoMemory None)) (step.Push n to) first (state_with x flying seconds book')) (sym err.2) (unsent_did outbox e wrote)))

-- the room as it was counted
pub counted_room : {D : Type 0} (on : View D) (is_settled : D → Type 0) (n to most room most' room' : ℕ) (pushed : Result Outbox NodeFault) (old mid : Nodes D) → most ≡ most' → room ≡ room'
    → ChangesNode n (PushesAt on is_settled n to most room pushed) old mid → ChangesNode n (PushesAt on is_settled n to most' room' pushed) old mid
counted_room on is_settled n to most room most' room' pushed old mid p q ch =
    subst (λ r. ChangesNode n (PushesAt on is_settled n to most' r pushed) old mid) q (subst (λ m. ChangesNode n (PushesAt on is_settled n to m room pushed) old mid) p ch)

pub counted_crowd : (to most room most' room' : ℕ) (crowded : Bool) (life : Life) → most ≡ most' → room ≡ room' → IsCrowdedAt to most room crowded life → IsCrowdedAt to most' room' crowded life
counted_crowd to most room most' room' crowded life p q c = subst (λ r. IsCrowdedAt to most' r crowded life) q (subst (λ m. IsCrowdedAt to m room crowded life) p c)

-- a node that is to push is up, and has its tickets as they have to be
pub push_whole : {D : Type 0} (on : View D) (n to : ℕ) (nodes : Nodes D) → node_refusal nodes.plan (life_among nodes) (step.Push n to) ≡ None → CanWorkOn on.seen nodes.plan nodes.lives.items nodes.disks.items
    → (l : Life) → of_node nodes.lives.items n ≡ Some l → IsUpWhole l
push_whole on n to nodes fit ready l there =
    let (node, up) = push_up on n to nodes fit ready in
    let is : l ≡ Up node = some_same l (Up node) (sym there ∙ up) in
    let (disk, held) = disk_of nodes.disks.items nodes.lives.items n (Up node) (nodes.all ∙ sym nodes.disk_each) up in
    record { node = node; up = is; whole = (ready_of on.seen nodes.plan nodes.lives.items nodes.disks.items ready n node disk up held).1.mail.whole }

pub crowded_at : {E : Type 0} (to most room : ℕ) (life : Life) (node : WholeNode) → life ≡ Up node → (mail : Node) → mail ≡ node.mail → (r : Result Bool E)
    → IfOk r (λ crowded. (records : List Record) → NodeKeeps records mail
    → crowded ≡ (nat_lt 0 (length (due_to mail.store.own to (node_seen mail))) && nat_eq (length (keys_within most room mail.store.own to (node_seen mail) records)) 0))
    → IfOk r (λ crowded. IsCrowdedAt to most room crowded life)
crowded_at to most room life node up mail mail_is (Ok crowded) is = record {
  node = node;
  up = up;
  is = λ records keeps. subst (λ (m : Node). crowded ≡ (nat_lt 0 (length (due_to m.store.own to (node_seen m))) && nat_eq (length (keys_within most room m.store.own to (node_seen m) records)) 0)) mail_is
      (is records (subst (NodeKeeps records) (sym mail_is) keeps));
}
crowded_at to most room life node up mail mail_is (Err why) is = tt
