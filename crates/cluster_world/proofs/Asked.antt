-- What an ask of a ticket does.
use Rattle.std.proofs.Common.{◌≡◌, ◌≢◌, inl, ℕ, zero, suc, ◌+◌, ◌≤◌, Bool, true, false, List, [], ◌∷◌, ◌++◌, length, append-nil, Option, Some, None, Result, Ok, refl, sym, ap, ◌∙◌, subst, arith, nat_eq, nat_le, if◌then◌else◌}
use Rattle.std.specs.Prelude.{IfSome, is_some, MatchBool}
use Rattle.std.specs.List.{list_all}
use Rattle.std.specs.FinMap as fin
use Rattle.mail_model.specs.Plan.{Plan}
use Rattle.mail_model.specs.Record.{payloads_of}
use Rattle.mail_model.specs.Book.{BookEntry}
use Rattle.object_model.specs.Letters.{Number}
use Rattle.session_model.specs.Events.{NodeLife, NodeLife as life, turned}
use Rattle.cluster_model.specs.Cluster as plain
use Rattle.cluster_model.specs.Cluster.{Slot, slot_at, with_slot}
use Rattle.cluster_model.specs.Deeds.{slot_up}
use Rattle.cluster_model.specs.Rules.{ticket_at}
use Rattle.cluster_model.specs.World as machine
use Rattle.cluster_model.specs.Steps as steps
use Rattle.cluster_model.specs.Steps.{is_node, stands_at, letters_end}
use Rattle.cluster_model.specs.Progress as progress
use Rattle.cluster_model.specs.Progress.{ask_of, entries_with, wants_entries}
use Rattle.cluster_model.specs.Makes.{AnswersAsk, after}
use Rattle.cluster_model.specs.Rules.{end_ticket}
use Rattle.disk_journal.specs.Journal.{TellsJournal, EndsAt}
use Rattle.call_tickets.specs.declared.answer.Ask as code
use Rattle.node_tickets.specs.Seen.{ask_seen}
use Rattle.node_tickets.specs.Standing.{is_done, asks_seen, asks_at, asked_out, wants_at, ticket_taken_out, done_at}
use Rattle.node_maps.specs.Nodes.{node_of}
use Rattle.node_store.specs.Disks.{View}
use Rattle.whole_world.specs.Makes.{IsForMessages}
use Rattle.whole_world.specs.World as whole_world
use Rattle.node_core.specs.Nodes.{node_seen, IsNodeOf}
use Rattle.node_core.specs.Standing.{ticket_standing}
use Rattle.node_core.specs.declared.node.Node.{Node}
use Rattle.whole_node.specs.Nodes.{WholeWorks, joint_seen}
use Rattle.whole_node.specs.declared.node.WholeNode.{WholeNode}
use Rattle.world_book.specs.Books.{entries_of, spare_of}
use Rattle.world_book.specs.declared.book.Book.{Book}
use Rattle.world_book.specs.declared.entry.Entry.{Entry}
use Rattle.cluster_world.specs.Books.{entries_seen, booked_by}
use Rattle.cluster_world.specs.Flights.{InFlight}
use Rattle.cluster_world.specs.Lives.{life_seen, of_node, falls_left, all_falls_left, CanWorkOn}
use Rattle.cluster_world.specs.Stands.{SlotStands}
use Rattle.cluster_world.specs.Worlds.{seen_life, life_among, state_with, StateStandsFor, node_of_life}
use Rattle.cluster_world.specs.Changes.{ChangesNode}
use Rattle.cluster_world.specs.Asking.{IsUpWhole, AreForTicket, confirms, IsAskedOn, IsRetold, IsRetoldOn, tickets_without, IsDoneAt}
use Rattle.cluster_world.specs.Turns.{life_refusal, node_refusal}
use Rattle.cluster_world.specs.Moments.{StopsKeep}
use Rattle.cluster_world.specs.Steps.{StepDid, AreSettled, AreToldAlike, IsQuiet, LeadsMail}
use Rattle.cluster_world.specs.declared.life.Life.{Life}
use Rattle.cluster_world.specs.declared.life.Life.TheVariants.{Up, Down, Lost}
use Rattle.cluster_world.specs.declared.nodes.Nodes.{Nodes}
use Rattle.cluster_world.specs.Seen.{step_seen}
use Rattle.cluster_world.specs.declared.step.Step.{Step}
use Rattle.cluster_world.specs.declared.step.Step.TheVariants as step
use Rattle.cluster_world.specs.declared.step.Said.TheVariants.{Asked, Done}
use Rattle.cluster_world.specs.declared.fault.StepFault.{StepFault}
use Rattle.cluster_world.specs.declared.fault.StepFault.TheVariants as fault
use Rattle.cluster_world.proofs.Still.{some_same, both_at}
use Rattle.cluster_world.proofs.Changing.{set_same}
use Rattle.cluster_world.proofs.Turned.{slot_of, lives_turned, as_many, told_by, quiet_by, settled_by, still_ready, falls_now, stops_kept, stands_now}
use Rattle.cluster_world.proofs.Refusing.{fit_of, ask_goes, give_up_goes}
use Rattle.cluster_world.proofs.Falling.{falls_kept, entries_more}
use Rattle.cluster_world.proofs.Unchanged.{unchanged_by}
use Rattle.cluster_world.specs.Sure.{is_done_in, is_done_of}
use Rattle.cluster_world.specs.Telling.{standing_on, reading_on}
use Rattle.cluster_world.proofs.Longer.{as_long}
use Rattle.cluster_world.proofs.Follows.{alone_follows, follows_none}
use Rattle.cluster_world.proofs.Told.{IsOfMail, IsDone}
use Rattle.cluster_world.proofs.Turning.{up_same}
use Rattle.cluster_world.proofs.Wholly.{led, even_of}
use Rattle.cluster_world.proofs.Lifting.{lifted}
use Rattle.cluster_world.proofs.Beside.{alone_keeps}
use Rattle.cluster_world.proofs.WholeFaults.{ask_alike, give_up_alike}
use Rattle.joint_world.specs.Steps.{is_mail_ticket}
use Rattle.joint_world.specs.World.{whole_world_of}
use Rattle.whole_world.specs.World.{mail_world_of}
use Rattle.joint_world.specs.Staying.{KeepsReads}
use Rattle.cluster_world.specs.Keeping.{joint_life, ReadsKept}
use Rattle.login_model.specs.Readings.{ReadTicket}
use Rattle.std.proofs.lemmas.Bool.{false≢true}

when_done : (b : Bool) (X Y : Type 0) → b ≡ true → MatchBool b X Y → X
when_done true X Y e m = m
when_done false X Y e m = absurd (let never : false ≡ true = e in cc)

-- where a node turns to what it was, nothing has changed
pub turned_same : (f : ℕ → NodeLife) (n m : ℕ) → turned n (f n) m (f m) ≡ f m
turned_same f n m = by (nat_eq n m) refl
  where
    by : (b : Bool) → nat_eq n m ≡ b → turned n (f n) m (f m) ≡ f m
    by true e = ap (λ b. if b then f n else f m) e ∙ ap f (grind arith)
    by false e = ap (λ b. if b then f n else f m) e

-- what was there is written again
pub slot_same : (slots : List Slot) (n : ℕ) (slot : Slot) → slot_at slots n ≡ Some slot → with_slot slots n slot ≡ slots
slot_same slots zero slot e = refl
slot_same slots (suc k) slot e = set_same slots k slot e

pub ready_of : {D : Type 0} (seen : D → Option (List ℕ)) (plan : Plan) (lives : List Life) (disks : List D) → CanWorkOn seen plan lives disks
    → (n : ℕ) (node : WholeNode) (disk : D) → of_node lives n ≡ Some (Up node) → of_node disks n ≡ Some disk → IsNodeOf plan n node.mail × WholeWorks (seen disk) node
ready_of seen plan lives disks works zero node disk a b = absurd (let never : None ≡ Some (Up node) = a in cc)
ready_of seen plan lives disks works (suc k) node disk a b = works.each k node disk a b

no_answer : (confirm : ℕ) (st : Option plain.Ticket) → None ≡ asks_at confirm st → st ≡ None
no_answer confirm None e = refl
no_answer confirm (Some t) e = absurd (let never : None ≡ Some (ask_of confirm t) = e in cc)

an_answer : (confirm : ℕ) (st : Option plain.Ticket) (ask : progress.Ask) → Some ask ≡ asks_at confirm st → (t : plain.Ticket) × (st ≡ Some t) × (ask_of confirm t ≡ ask)
an_answer confirm None ask e = absurd (let never : Some ask ≡ None = e in cc)
an_answer confirm (Some t) ask e = (t, refl, some_same (ask_of confirm t) ask (sym e))

-- what an answer adds to the book is what the entries say that were made beforehand
entered : (confirm : ℕ) (t : plain.Ticket) (answer : progress.NodeAnswer) (items : List Entry) → (is_done (ask_of confirm t) ≡ true → entries_seen items ≡ wants_entries t.wants)
    → ask_of confirm t ≡ progress.Ask.Done answer → entries_seen (if confirms (progress.Ask.Done answer) then items else []) ≡ entries_with answer t
entered confirm t (progress.NodeAnswer.Stored id confirmers) items made e = made (ap is_done e)
entered confirm t (progress.NodeAnswer.Dropped confirmers) items made e = made (ap is_done e)
entered confirm t (progress.NodeAnswer.Read found) items made e = refl
entered confirm t (progress.NodeAnswer.Failed mishaps) items made e = refl

module _ {D : Type 0} (on : View D) (ticket : Number) (left_of : Node → plain.Tickets) (old new : Nodes D)
    (named : list_all (is_node old.plan) (ticket.node ∷ []) ≡ true) (ready : CanWorkOn on.seen old.plan old.lives.items old.disks.items)
    (ch : ChangesNode ticket.node (IsRetoldOn left_of) old new) where
  abbrev a : IsRetold left_of ch.life ch.life'
  a = ch.does.0

  works : IsNodeOf old.plan ticket.node a.old.mail × WholeWorks (on.seen ch.disk) a.old
  works = ready_of on.seen old.plan old.lives.items old.disks.items ready ticket.node a.old ch.disk (ch.was ∙ ap Some a.was) ch.held

  abbrev left : plain.Tickets
  left = left_of a.old.mail

  abbrev slot_then : Slot → Slot
  slot_then slot = slot_up (record (node_seen a.old.mail) { tickets = left }) slot.disk

  retold_life : life_seen ch.life' ≡ life_seen ch.life
  retold_life = ap life_seen a.is ∙ ap (λ (m : plain.Node). life.Up m.boot) a.tickets.mail.seen ∙ sym (ap life_seen a.was)

  retold_lives : (m : ℕ) → life_among new m ≡ life_among old m
  retold_lives m = lives_turned ticket.node (IsRetoldOn left_of) old new ch m
      ∙ ap (λ l. turned ticket.node l m (life_among old m)) (retold_life ∙ sym (ap seen_life ch.was))
      ∙ turned_same (life_among old) ticket.node m

  pub retold_room : (book book' : Book) → all_falls_left old.lives.items ≤ spare_of book' → all_falls_left new.lives.items ≤ spare_of book'
  retold_room book book' room =
      let same : all_falls_left new.lives.items + falls_left ch.life ≡ all_falls_left old.lives.items + falls_left ch.life' = falls_now ticket.node (IsRetoldOn left_of) old new ch in
      omega (arith, same, ap falls_left a.was, ap falls_left a.is, room)

  pub retold_ready : CanWorkOn on.seen new.plan new.lives.items new.disks.items
  retold_ready = subst (λ p. CanWorkOn on.seen p new.lives.items new.disks.items) (sym ch.plan)
      (still_ready ticket.node (IsRetoldOn left_of) old new ch on.seen old.plan ready (λ node up.
      let is : a.new ≡ node = the_node a.new node (sym a.is ∙ up) in (
        subst (λ (m : WholeNode). IsNodeOf old.plan ticket.node m.mail) is (a.tickets.mail.same old.plan ticket.node works.0),
        subst (λ d. WholeWorks (on.seen d) node) (sym ch.does.1) (subst (λ m. WholeWorks (on.seen ch.disk) m) is (a.tickets.works (on.seen ch.disk) works.1)),
      )))
    where
      the_node : (x y : WholeNode) → Up x ≡ Up y → x ≡ y
      the_node x y e = cc

  stands_then : (slot : Slot) → SlotStands on ticket.node ch.life ch.disk slot → SlotStands on ticket.node ch.life' ch.disk' (slot_then slot)
  stands_then slot stood =
      let up : SlotStands on ticket.node (Up a.old) ch.disk slot = subst (λ l. SlotStands on ticket.node l ch.disk slot) a.was stood in
      let (seen, is, st) = up in
      let now : SlotStands on ticket.node (Up a.new) ch.disk (slot_then slot) = (
        record (node_seen a.old.mail) { tickets = left },
        refl,
        record {
          seen_is = a.tickets.mail.seen;
          keeps = a.tickets.mail.keeps slot.disk st.keeps;
          tells = subst (λ e. TellsJournal (on.seen ch.disk) ticket.node (payloads_of slot.disk) e) (sym a.tickets.mail.end_is) st.tells;
          images = subst (λ e. IfSome (on.seen ch.disk) (λ _. (c : List ℕ) → on.clock.is_image ch.disk c → EndsAt ticket.node c (payloads_of slot.disk) e)) (sym a.tickets.mail.end_is) st.images;
        },
      ) in
      subst (λ d. SlotStands on ticket.node ch.life' d (slot_then slot)) (sym ch.does.1) (subst (λ l. SlotStands on ticket.node l ch.disk (slot_then slot)) (sym a.is) now)

  seen_there : (slot : Slot) → SlotStands on ticket.node ch.life ch.disk slot → slot ≡ slot_up (node_seen a.old.mail) slot.disk
  seen_there slot stood =
      let up : SlotStands on ticket.node (Up a.old) ch.disk slot = subst (λ l. SlotStands on ticket.node l ch.disk slot) a.was stood in
      let (seen, is, st) = up in
      ap (λ l. record { life = l; disk = slot.disk }) (is ∙ ap plain.Life.Up (sym st.seen_is))

  alive : (slot : Slot) → slot ≡ slot_up (node_seen a.old.mail) slot.disk → slot.life ≢ plain.Life.Lost
  alive slot e lost = let never : plain.Life.Up (node_seen a.old.mail) ≡ plain.Life.Lost = sym (ap (λ (s : Slot). s.life) e) ∙ lost in cc

  kept : (slot : Slot) → SlotStands on ticket.node ch.life ch.disk slot → StopsKeep on ticket.node ch.disk ch.disk' slot (slot_then slot)
  kept slot stood = subst (λ d. StopsKeep on ticket.node ch.disk d slot (slot_then slot)) (sym ch.does.1)
      (falls_kept on ticket.node ch.disk slot ch.life (plain.Life.Up (record (node_seen a.old.mail) { tickets = left })) refl (alive slot (seen_there slot stood)) stood)

  -- the ticket as the machine finds it
  standing : ticket_at ticket.node (node_seen a.old.mail) (Some ticket) ≡ ticket_standing a.old.mail ticket
  standing = ap (λ own. ticket_at own (node_seen a.old.mail) (Some ticket)) (sym works.0.own_is)

  module _ (flying : InFlight) (seconds : ℕ) (book book' : Book) where
    abbrev before : Rattle.cluster_world.specs.Worlds.WorldState D
    before = state_with old flying seconds book

    abbrev behind : Rattle.cluster_world.specs.Worlds.WorldState D
    behind = state_with new flying seconds book'

    retold_told : AreToldAlike on.seen before behind
    retold_told = told_by ticket.node (IsRetoldOn left_of) old new ch flying flying seconds seconds book book' on.seen (ap (λ d. is_some (on.seen d)) ch.does.1)

    retold_quiet : IsQuiet on.faults before behind
    retold_quiet = quiet_by ticket.node (IsRetoldOn left_of) old new ch flying flying seconds seconds book book' on.faults
        (subst (λ d. on.faults ch.disk ≤ on.faults d) (sym ch.does.1) (omega arith))
        (λ boot _. ap on.faults ch.does.1)

    pub retold_settled : (is_settled : D → Type 0) → AreSettled is_settled before → AreSettled is_settled behind
    retold_settled is_settled = settled_by ticket.node (IsRetoldOn left_of) old new ch flying flying seconds seconds book book' is_settled
        (λ boot up was. subst is_settled (sym ch.does.1) (was (sym retold_life ∙ up)))

    -- a step that leaves the machine so
    leads_so : (s : Step) (outcome : Result Rattle.cluster_world.specs.declared.step.Said.Said StepFault) (entries : List BookEntry) → booked_by book' ≡ booked_by book ++ entries → (w : machine.World) → StateStandsFor on before w
        → (slot : Slot) → slot_at w.slots ticket.node ≡ Some slot → SlotStands on ticket.node ch.life ch.disk slot
        → Rattle.cluster_model.specs.Makes.MakesStep old.plan (Rattle.cluster_world.specs.Worlds.tells_in on.seen before) w (step_seen s) (Rattle.cluster_world.specs.Seen.outcome_seen outcome)
        (record w { slots = with_slot w.slots ticket.node (slot_then slot); book = w.book ++ entries })
        → IsOfMail outcome s → ((v : whole_world.World) → IsDone (Rattle.cluster_world.specs.Seen.outcome_seen outcome) → IsForMessages v (step_seen s)) → LeadsMail on outcome s before behind w
    leads_so s outcome entries wrote w st slot here stood made is for = led on outcome s before behind (even_of old) (even_of new) w st is (λ v seen sound done. for v done) (record {
      next = record w { slots = with_slot w.slots ticket.node (slot_then slot); book = w.book ++ entries };
      stands = stands_now ticket.node (IsRetoldOn left_of) old new ch on flying seconds book book' entries wrote w st (slot_then slot) (stands_then slot stood);
      made = made;
      stops = record { each = stops_kept ticket.node (IsRetoldOn left_of) old new ch on w.slots slot (slot_then slot) st.slots here (λ _. kept slot stood) };
      follow = alone_follows on ticket.node (IsRetoldOn left_of) old new ch w.slots slot (slot_then slot) here (λ x y was is.
          follows_none ticket.node x y slot.disk slot.disk
          (ap (λ (z : WholeNode). node_of z.maps) (up_same y a.new (sym is ∙ a.is)) ∙ ap node_of a.tickets.maps ∙ ap (λ (z : WholeNode). node_of z.maps) (up_same a.old x (sym a.was ∙ was))) refl);
    })

    unchanged : (w : machine.World) (slot : Slot) → slot_at w.slots ticket.node ≡ Some slot → slot_then slot ≡ slot
        → ◌≡◌ {A = machine.World} (record w { slots = with_slot w.slots ticket.node (slot_then slot); book = w.book ++ [] }) w
    unchanged w slot here same =
        let slots_are : with_slot w.slots ticket.node (slot_then slot) ≡ w.slots = ap (with_slot w.slots ticket.node) same ∙ slot_same w.slots ticket.node slot here in
        let book_is : w.book ++ [] ≡ w.book = append-nil w.book in
        λ i. record w { slots = slots_are i; book = book_is i }

    same_slot : (slot : Slot) → slot ≡ slot_up (node_seen a.old.mail) slot.disk → left ≡ (node_seen a.old.mail).tickets → slot_then slot ≡ slot
    same_slot slot is e = ap (λ (t : plain.Tickets). slot_up (record (node_seen a.old.mail) { tickets = t }) slot.disk) e ∙ sym is

    stands_here : (w : machine.World) (slot : Slot) → slot_at w.slots ticket.node ≡ Some slot → slot ≡ slot_up (node_seen a.old.mail) slot.disk
        → stands_at ticket (slot_at w.slots ticket.node) ≡ is_some (ticket_standing a.old.mail ticket)
    stands_here w slot here is = ap (stands_at ticket) (here ∙ ap Some is) ∙ ap (λ (o : Option plain.Ticket). is_some o) standing

    -- so of each world
    stands_in : (w : machine.World) → StateStandsFor on before w → stands_at ticket (slot_at w.slots ticket.node) ≡ is_some (ticket_standing a.old.mail ticket)
    stands_in w st =
        let (slot, here, stood) = slot_of on old.lives.items old.disks.items w.slots ticket.node ch.life ch.disk st.slots ch.was ch.held in
        stands_here w slot here (seen_there slot stood)

    retold_keeps : ReadsKept old.lives.items new.lives.items
    retold_keeps = alone_keeps ticket.node (IsRetoldOn left_of) old new ch (λ b is.
        subst (λ l. KeepsReads (joint_life l) (joint_seen b)) (sym a.was)
        (subst (λ (x : WholeNode). KeepsReads (joint_life (Up a.old)) (joint_seen x)) (up_same a.new b (sym a.is ∙ is)) a.tickets.beside))

    -- A ticket is asked.
    module _ (result : Option code.Ask) (fit : node_refusal old.plan (life_among old) (step.Ask ticket) ≡ None)
        (answered : asks_seen result ≡ asks_at a.old.mail.shape.confirm (ticket_standing a.old.mail ticket))
        (left_out : left ≡ asked_out a.old.mail.shape.confirm ticket.seq (ticket_standing a.old.mail ticket) (node_seen a.old.mail).tickets) where
      -- it stood
      module _ (ask : code.Ask) (some : result ≡ Some ask) (items : List Entry) (for : AreForTicket ticket (Up a.old) items)
          (wrote : entries_of book' ≡ entries_of book ++ (if confirms (ask_seen ask) then items else [])) where
        abbrev Found : Type 0
        Found = (t : plain.Ticket) × (ticket_standing a.old.mail ticket ≡ Some t) × (ask_of a.old.mail.shape.confirm t ≡ ask_seen ask)

        found : Found
        found = an_answer a.old.mail.shape.confirm (ticket_standing a.old.mail ticket) (ask_seen ask) (sym (ap asks_seen some) ∙ answered)

        booked : booked_by book' ≡ booked_by book ++ entries_seen (if confirms (ask_seen ask) then items else [])
        booked = ap entries_seen wrote ∙ entries_more (entries_of book) (if confirms (ask_seen ask) then items else [])

        ask_leads : (x : progress.Ask) → ask_seen ask ≡ x → (w : machine.World) → StateStandsFor on before w → LeadsMail on (Ok (Asked ask)) (step.Ask ticket) before behind w
        ask_leads (progress.Ask.Pending got wanted) e w st =
            let (slot, here, stood) = slot_of on old.lives.items old.disks.items w.slots ticket.node ch.life ch.disk st.slots ch.was ch.held in
            let is = seen_there slot stood in
            let (t, stands, answer) = found in
            let left_is : left ≡ (node_seen a.old.mail).tickets =
            left_out ∙ ap (λ o. asked_out a.old.mail.shape.confirm ticket.seq o (node_seen a.old.mail).tickets) stands
            ∙ ap (λ x. if is_done x then fin.remove (node_seen a.old.mail).tickets ticket.seq else (node_seen a.old.mail).tickets) (answer ∙ e) in
            leads_so (step.Ask ticket) (Ok (Asked ask)) [] (booked ∙ ap (λ x. booked_by book ++ entries_seen (if confirms x then items else [])) e) w st slot here stood (
              ask_goes old.plan w ticket slot (node_seen a.old.mail) named here (ap (λ (s : Slot). s.life) is),
              inl (AnswersAsk.Waits (node_seen a.old.mail) slot.disk t (here ∙ ap Some is) (standing ∙ stands) got wanted
                  (ap (λ c. ask_of c t) (sym works.0.confirm) ∙ answer ∙ e) (ap steps.Said.Asked e) (unchanged w slot here (same_slot slot is left_is))),
            ) (record { step_is = refl; said_is = refl; sees = tt }) (λ v done. tt)
        ask_leads (progress.Ask.Done given) e w st =
            let (slot, here, stood) = slot_of on old.lives.items old.disks.items w.slots ticket.node ch.life ch.disk st.slots ch.was ch.held in
            let is = seen_there slot stood in
            let (t, stands, answer) = found in
            let left_is : left ≡ fin.remove (node_seen a.old.mail).tickets ticket.seq =
            left_out ∙ ap (λ o. asked_out a.old.mail.shape.confirm ticket.seq o (node_seen a.old.mail).tickets) stands
            ∙ ap (λ x. if is_done x then fin.remove (node_seen a.old.mail).tickets ticket.seq else (node_seen a.old.mail).tickets) (answer ∙ e) in
            let made_for : is_done (ask_of a.old.mail.shape.confirm t) ≡ true → entries_seen items ≡ wants_entries t.wants =
            λ done. when_done (done_at a.old.mail.shape.confirm (ticket_standing a.old.mail ticket)) _ _ (ap (done_at a.old.mail.shape.confirm) stands ∙ done) for ∙ ap (λ o. wants_entries (wants_at o)) stands in
            let says : entries_seen (if confirms (ask_seen ask) then items else []) ≡ entries_with given t =
            ap (λ x. entries_seen (if confirms x then items else [])) e ∙ entered a.old.mail.shape.confirm t given items made_for (answer ∙ e) in
            leads_so (step.Ask ticket) (Ok (Asked ask)) (entries_with given t) (booked ∙ ap (λ x. booked_by book ++ x) says) w st slot here stood (
              ask_goes old.plan w ticket slot (node_seen a.old.mail) named here (ap (λ (s : Slot). s.life) is),
              inl (AnswersAsk.Ends (node_seen a.old.mail) slot.disk t (here ∙ ap Some is) (standing ∙ stands) given
                  (ap (λ c. ask_of c t) (sym works.0.confirm) ∙ answer ∙ e) (ap steps.Said.Asked e)
                  (ap (λ (l : plain.Tickets). record w { slots = with_slot w.slots ticket.node (slot_up (record (node_seen a.old.mail) { tickets = l }) slot.disk); book = w.book ++ entries_with given t }) left_is)),
            ) (record { step_is = refl; said_is = refl; sees = tt }) (λ v done. tt)

        pub ask_done : StepDid on (Ok (Asked ask)) (step.Ask ticket) before behind
        ask_done = record {
          plan = ch.plan;
          handed = as_many ticket.node (IsRetoldOn left_of) old new ch;
          refused = sym fit;
          kind = tt;
          falls = tt;
          lives = retold_lives;
          told = retold_told;
          quiet = retold_quiet;
          clock = refl;
          passed = tt;
          books = (entries_seen (if confirms (ask_seen ask) then items else []), booked);
          kept = tt;
          leads = λ known ended story v st sound.
              let stands : is_mail_ticket v ticket ≡ true = stands_in (mail_world_of (whole_world_of v)) st.mail ∙ ap (λ (o : Option plain.Ticket). is_some o) found.1 in
              lifted on (Ok (Asked ask)) (step.Ask ticket) before behind (even_of old) (even_of new) retold_keeps story v st sound (ask_leads (ask_seen ask) refl (mail_world_of (whole_world_of v)) st.mail)
              (ask_alike on old.plan before (even_of old) old.all v st.mail ticket fit stands) (λ done. stands);
          cause = λ w st. tt;
        }

    -- A ticket is given up.
    module _ (fit : node_refusal old.plan (life_among old) (step.GiveUp ticket) ≡ None) (stood : is_some (ticket_standing a.old.mail ticket) ≡ true) (early : nat_le letters_end flying.sent ≡ false)
        (left_out : left ≡ tickets_without ticket a.old.mail) (same : booked_by book' ≡ booked_by book) where
      some_ticket : (o : Option plain.Ticket) → is_some o ≡ true → (t : plain.Ticket) × (o ≡ Some t)
      some_ticket None e = absurd (let never : false ≡ true = e in cc)
      some_ticket (Some t) e = (t, refl)

      ended : (o : Option plain.Ticket) → is_some o ≡ true → ticket_taken_out ticket.seq o (node_seen a.old.mail).tickets ≡ fin.remove (node_seen a.old.mail).tickets ticket.seq
      ended None e = absurd (let never : false ≡ true = e in cc)
      ended (Some t) e = refl

      give_up_leads : (w : machine.World) → StateStandsFor on before w → LeadsMail on (Ok Done) (step.GiveUp ticket) before behind w
      give_up_leads w st =
          let (slot, here, stands) = slot_of on old.lives.items old.disks.items w.slots ticket.node ch.life ch.disk st.slots ch.was ch.held in
          let is = seen_there slot stands in
          let (t, t_is) = some_ticket (ticket_standing a.old.mail ticket) stood in
          let left_is : left ≡ fin.remove (node_seen a.old.mail).tickets ticket.seq = left_out ∙ ended (ticket_standing a.old.mail ticket) stood in
          let book_is : w.book ++ [] ≡ w.book = append-nil w.book in
          let next_is : ◌≡◌ {A = machine.World} (record w { slots = with_slot w.slots ticket.node (slot_then slot); book = w.book ++ [] }) (after w ticket.node (end_ticket ticket.seq (node_seen a.old.mail) slot.disk)) =
          λ i. record w { slots = with_slot w.slots ticket.node (slot_up (record (node_seen a.old.mail) { tickets = left_is i }) slot.disk); book = book_is i } in
          leads_so (step.GiveUp ticket) (Ok Done) [] (same ∙ sym (append-nil (booked_by book))) w st slot here stands (
            give_up_goes old.plan w ticket slot (node_seen a.old.mail) named here (ap (λ (s : Slot). s.life) is) (ap (nat_le letters_end) (sym st.sent) ∙ early),
            inl (record { node = node_seen a.old.mail; disk = slot.disk; ticket = t; up = here ∙ ap Some is; stands = standing ∙ t_is; said_is = refl; new_world = next_is }),
          ) (record { step_is = refl; said_is = refl; sees = tt }) (λ v done. tt)

      pub give_up_done : StepDid on (Ok Done) (step.GiveUp ticket) before behind
      give_up_done = record {
        plan = ch.plan;
        handed = as_many ticket.node (IsRetoldOn left_of) old new ch;
        refused = sym fit;
        kind = tt;
        falls = tt;
        lives = retold_lives;
        told = retold_told;
        quiet = retold_quiet;
        clock = refl;
        passed = tt;
        books = as_long (booked_by book) (booked_by book') same;
        kept = tt;
        leads = λ known ended story v st sound.
            let stands : is_mail_ticket v ticket ≡ true = stands_in (mail_world_of (whole_world_of v)) st.mail ∙ stood in
            lifted on (Ok Done) (step.GiveUp ticket) before behind (even_of old) (even_of new) retold_keeps story v st sound (give_up_leads (mail_world_of (whole_world_of v)) st.mail)
            (give_up_alike on old.plan before (even_of old) old.all v st.mail ticket fit stands) (λ done. stands);
        cause = λ w st. tt;
      }

-- a node that was asked has other tickets, and nothing else is changed
abbrev pub left_once_asked : Number → Node → plain.Tickets
left_once_asked ticket node = asked_out node.shape.confirm ticket.seq (ticket_standing node ticket) (node_seen node).tickets

module _ {D : Type 0} (on : View D) (ticket : Number) (result : Option code.Ask) (old new : Nodes D)
    (fit : node_refusal old.plan (life_among old) (step.Ask ticket) ≡ None) (ready : CanWorkOn on.seen old.plan old.lives.items old.disks.items)
    (ch : ChangesNode ticket.node (IsAskedOn ticket result) old new) where
  named_asked : list_all (is_node old.plan) (ticket.node ∷ []) ≡ true
  named_asked = (fit_of (list_all (is_node old.plan) (ticket.node ∷ [])) (life_refusal (step.Ask ticket) (life_among old ticket.node)) fit).0

  abbrev re : ChangesNode ticket.node (IsRetoldOn (left_once_asked ticket)) old new
  re = record {
    life = ch.life;
    disk = ch.disk;
    life' = ch.life';
    disk' = ch.disk';
    plan = ch.plan;
    was = ch.was;
    held = ch.held;
    lives_are = ch.lives_are;
    disks_are = ch.disks_are;
    does = (record { old = ch.does.0.old; new = ch.does.0.new; was = ch.does.0.was; is = ch.does.0.is; tickets = ch.does.0.tickets }, ch.does.1);
  }

  pub asked_room : (book book' : Book) → all_falls_left old.lives.items ≤ spare_of book' → all_falls_left new.lives.items ≤ spare_of book'
  asked_room = retold_room on ticket (left_once_asked ticket) old new named_asked ready re

  pub asked_ready : CanWorkOn on.seen new.plan new.lives.items new.disks.items
  asked_ready = retold_ready on ticket (left_once_asked ticket) old new named_asked ready re

  module _ (flying : InFlight) (seconds : ℕ) (book book' : Book) where
    pub asked_settled : (is_settled : D → Type 0) → AreSettled is_settled (state_with old flying seconds book) → AreSettled is_settled (state_with new flying seconds book')
    asked_settled = retold_settled on ticket (left_once_asked ticket) old new named_asked ready re flying seconds book book'

    pub asked_did : (ask : code.Ask) → result ≡ Some ask → (items : List Entry) → AreForTicket ticket (Up ch.does.0.old) items
        → entries_of book' ≡ entries_of book ++ (if confirms (ask_seen ask) then items else []) → StepDid on (Ok (Asked ask)) (step.Ask ticket) (state_with old flying seconds book) (state_with new flying seconds book')
    asked_did = ask_done on ticket (left_once_asked ticket) old new named_asked ready re flying seconds book book' result fit ch.does.0.answer refl

-- a node that may be asked is up
ask_up : (ticket : Number) (o : Option Life) (l : Life) → o ≡ Some l → life_refusal (step.Ask ticket) (seen_life o) ≡ None → (node : WholeNode) × (l ≡ Up node)
ask_up ticket None l e h = absurd (let never : None ≡ Some l = e in cc)
ask_up ticket (Some (Up node)) l e h = (node, some_same l (Up node) (sym e))
ask_up ticket (Some Down) l e h = absurd (let never : Some fault.NodeDown ≡ None = h in cc)
ask_up ticket (Some Lost) l e h = absurd (let never : Some fault.NodeLost ≡ None = h in cc)

pub disk_of : {X Y : Type 0} (xs : List X) (ys : List Y) (n : ℕ) (y : Y) → length ys ≡ length xs → of_node ys n ≡ Some y → (x : X) × (of_node xs n ≡ Some x)
disk_of xs ys zero y count e = absurd (let never : None ≡ Some y = e in cc)
disk_of xs ys (suc k) y count e = both_at xs ys k y count e

pub up_whole : {D : Type 0} (seen : D → Option (List ℕ)) (ticket : Number) (nodes : Nodes D) → node_refusal nodes.plan (life_among nodes) (step.Ask ticket) ≡ None
    → CanWorkOn seen nodes.plan nodes.lives.items nodes.disks.items → (l : Life) → of_node nodes.lives.items ticket.node ≡ Some l → IsUpWhole l
up_whole seen ticket nodes fit ready l here =
    let fits : life_refusal (step.Ask ticket) (life_among nodes ticket.node) ≡ None =
    (fit_of (list_all (is_node nodes.plan) (ticket.node ∷ [])) (life_refusal (step.Ask ticket) (life_among nodes ticket.node)) fit).1 in
    let (node, up) = ask_up ticket (of_node nodes.lives.items ticket.node) l here fits in
    let (disk, held) = disk_of nodes.disks.items nodes.lives.items ticket.node l (nodes.all ∙ sym nodes.disk_each) here in
    let (of, works) = ready_of seen nodes.plan nodes.lives.items nodes.disks.items ready ticket.node node disk (here ∙ ap Some up) held in
    record { node = node; up = up; whole = works.mail.whole }

pub if_there : (o : Option Life) (l : Life) → o ≡ Some l → IsUpWhole l → IfSome o (λ life. IsUpWhole life)
if_there o l e up = subst (λ o. IfSome o (λ life. IsUpWhole life)) (sym e) up

-- a book with more room
pub same_book : {D : Type 0} (on : View D) (outcome : Result Rattle.cluster_world.specs.declared.step.Said.Said StepFault) (s : Rattle.cluster_world.specs.declared.step.Step.Step) (old new : Nodes D)
    (flying : InFlight) (seconds : ℕ) (book book' : Book) → entries_of book' ≡ entries_of book → StepDid on outcome s (state_with old flying seconds book) (state_with new flying seconds book)
    → StepDid on outcome s (state_with old flying seconds book) (state_with new flying seconds book')
same_book {D} on outcome s old new flying seconds book book' e did =
    subst (λ (b : List Entry). StepDid on outcome s (state_with old flying seconds book) (record { plan = new.plan; lives = new.lives.items; disks = new.disks.items; flying = flying; seconds = seconds; book = entries_seen b })) (sym e) did

pub none_of : {X : Type 0} (o : Option X) → ((x : X) → o ≡ Some x → ⊥) → o ≡ None
none_of None h = refl
none_of (Some x) h = absurd (h x refl)

mail_done : (confirm : ℕ) (o : Option plain.Ticket) (r : Option ReadTicket) → done_at confirm o ≡ true → is_done_of confirm o r ≡ true
mail_done confirm (Some t) r e = e
mail_done confirm None r e = absurd (false≢true e)

-- a ticket whose call is done at its node is done in the world
pub done_in_world : {D : Type 0} (seen : D → Option (List ℕ)) (ticket : Number) (nodes : Nodes D) (flying : InFlight) (seconds : ℕ) (book : Book) → CanWorkOn seen nodes.plan nodes.lives.items nodes.disks.items
    → (life : Life) → of_node nodes.lives.items ticket.node ≡ Some life → IsDoneAt ticket life → is_done_in (state_with nodes flying seconds book) ticket ≡ true
done_in_world seen ticket nodes flying seconds book ready (Up node) here done =
    let (disk, held) = disk_of nodes.disks.items nodes.lives.items ticket.node (Up node) (nodes.all ∙ sym nodes.disk_each) here in
    let (of, works) = ready_of seen nodes.plan nodes.lives.items nodes.disks.items ready ticket.node node disk here held in
    ap (λ o. is_done_of nodes.plan.confirm (standing_on o ticket) (reading_on o ticket)) here
    ∙ ap (λ c. is_done_of c (ticket_standing node.mail ticket) (reading_on (Some (Up node)) ticket)) (sym of.confirm)
    ∙ mail_done node.mail.shape.confirm (ticket_standing node.mail ticket) (reading_on (Some (Up node)) ticket) done
done_in_world seen ticket nodes flying seconds book ready Down here done = absurd done
done_in_world seen ticket nodes flying seconds book ready Lost here done = absurd done

-- where there are entries the call is done
pub entries_done : (ticket : Number) (life : Life) (entries : List Entry) → AreForTicket ticket life entries → 1 ≤ length entries → IsDoneAt ticket life
entries_done ticket (Up node) entries for some = by _ (done_at node.mail.shape.confirm (ticket_standing node.mail ticket)) for
  where
    by : (X : Type 0) (b : Bool) → MatchBool b X (entries ≡ []) → b ≡ true
    by X true m = refl
    by X false m = absurd (omega (arith, some, ap length m))
entries_done ticket Down entries none some = absurd (omega (arith, some, ap length none))
entries_done ticket Lost entries none some = absurd (omega (arith, some, ap length none))

-- a call of messages that stands has an answer
pub asked_some : (confirm : ℕ) (o : Option plain.Ticket) (result : Option code.Ask) → is_some o ≡ true → asks_seen result ≡ asks_at confirm o → result ≡ None → ⊥
asked_some confirm None result stands answer none = false≢true stands
asked_some confirm (Some ticket) result stands answer none = let never : None ≡ Some (ask_of confirm ticket) = sym (ap asks_seen none) ∙ answer in cc
