-- A world that was driven stands for a sound world of the machine, and so has what each of these has.
use Rattle.std.proofs.Common.{◌≡◌, ◌≢◌, ⊎_elim, inl, inr, ℕ, zero, suc, ◌≤◌, Bool, true, false, ◌&&◌, nat_eq, eq-eqb, List, [], ◌∷◌, ◌++◌, length, Option, Some, None, refl, sym, ap, ◌∙◌, subst, arith, if◌then◌else◌}
use Rattle.std.specs.Prelude.{IfSome, Result}
use Rattle.std.specs.FinMap as fin
use Rattle.io_edge.specs.Moments.{Passed}
use Rattle.io_edge.proofs.Passing.{weaker}
use Rattle.mail_model.specs.Identity.Key.{Message}
use Rattle.mail_model.specs.Plan.{Plan}
use Rattle.mail_model.specs.Record.{Record, SaysGone}
use Rattle.object_model.specs.Letters.{Number, Letter}
use Rattle.object_model.specs.Lists.{Among}
use Rattle.session_model.specs.Events.{NodeLife as life}
use Rattle.cluster_model.specs.Cluster as plain
use Rattle.cluster_model.specs.Cluster.{Slot, slot_at}
use Rattle.cluster_model.specs.Deeds.{slot_up}
use Rattle.cluster_model.specs.Rules.{ticket_at}
use Rattle.cluster_model.specs.Room.{Flight}
use Rattle.cluster_model.specs.Progress.{ask_of}
use Rattle.cluster_model.specs.Progress.Ask.{Pending}
use Rattle.cluster_model.specs.StepLaws.{HasCopyIn, IsFrontOf}
use Rattle.cluster_model.specs.World as machine
use Rattle.cluster_model.specs.World.{letters_of, cluster_of}
use Rattle.cluster_model.specs.Makes as mail_makes
use Rattle.cluster_model.proofs.Waiting.{pending_letter}
use Rattle.cluster_model.proofs.Midst.{keep_in_midst}
use Rattle.whole_world.specs.Seen as whole_seen
use Rattle.whole_world.proofs.Projecting.{makes_seen}
use Rattle.login_model.specs.Cluster as login
use Rattle.login_model.specs.Progress.{ask_read}
use Rattle.login_model.specs.Progress.ReadAsk.{Pending as ReadPending}
use Rattle.login_model.specs.Readings.{ReadTicket}
use Rattle.login_model.specs.Rules.{read_at}
use Rattle.joint_model.specs.Joint.{read_node}
use Rattle.joint_world.specs.Laws.{Stands}
use Rattle.joint_world.specs.Makes.{MakesStep}
use Rattle.joint_world.specs.World as joint_world
use Rattle.joint_world.specs.World.{whole_world_of, mail_world_of}
use Rattle.joint_world.proofs.SameStep.{makes_same}
use Rattle.joint_world.proofs.Standing.{pending_flies as read_has_letter}
use Rattle.node_store.specs.Disks.{View}
use Rattle.node_core.specs.Nodes.{node_seen}
use Rattle.whole_node.specs.Nodes.{joint_seen}
use Rattle.whole_node.specs.declared.node.WholeNode.{WholeNode}
use Rattle.cluster_world.specs.Ended.{IsEnded}
use Rattle.cluster_world.specs.Lives.{life_seen, of_node}
use Rattle.cluster_world.specs.Stands.{SlotStands, SlotsStand}
use Rattle.cluster_world.specs.Moments.{IsStopOf, StopsKeep}
use Rattle.cluster_world.specs.Sound.{IsWhole}
use Rattle.cluster_world.specs.Steps.{IsStep}
use Rattle.cluster_world.specs.Worlds.{seen_life, state_of, disks_of, lives_of, disks_tell, StandsFor, disk_of_node}
use Rattle.cluster_world.specs.Telling.{standing_on, standing_in, reading_on, reading_in}
use Rattle.cluster_world.specs.Seen.{step_seen, outcome_seen, whole_step, whole_outcome}
use Rattle.cluster_world.specs.Outcomes.{Outcome, Awaited}
use Rattle.cluster_world.specs.Owing.{AllBlind}
use Rattle.cluster_world.specs.Lasting.{WasDriven, HasLetter, AllHaveLetters, PendingHasLetter, IsJournalWith, ConfirmedInEveryImage}
use Rattle.cluster_world.specs.declared.life.Life.{Life}
use Rattle.cluster_world.specs.declared.life.Life.TheVariants.{Up, Down, Lost}
use Rattle.cluster_world.specs.declared.world.World.{World}
use Rattle.cluster_world.specs.declared.step.Step.{Step}
use Rattle.cluster_world.specs.declared.step.Said.{Said}
use Rattle.cluster_world.specs.declared.fault.StepFault.{StepFault}
use Rattle.cluster_world.proofs.Still.{both_at, if_some}
use Rattle.cluster_world.proofs.Chained.{stays}
use Rattle.cluster_world.proofs.Leading.{step_alike, outcome_alike}
use Rattle.cluster_world.proofs.Owed.{mirror_all, opened_so}
use Rattle.cluster_world.proofs.ReadSlots.{up_for}

-- the letter of a number flies
flight_of : (letter : Letter) (flights : List Flight) → Among letter (letters_of flights) → (flight : Flight) × Among flight flights × (flight.letter ≡ letter)
flight_of letter [] m = absurd m
flight_of letter (flight ∷ flights) (inl same) = (flight, inl refl, same)
flight_of letter (flight ∷ flights) (inr m) = let (one, inside, is) = flight_of letter flights m in (one, inr inside, is)

-- a ticket that a node finds is one of its own
found_own : (own : ℕ) (node : plain.Node) (number : Number) (ticket : plain.Ticket) → ticket_at own node (Some number) ≡ Some ticket → ticket_at number.node node (Some number) ≡ Some ticket
found_own own node number ticket e = by (nat_eq number.node own) refl e
  where
    by : (a : Bool) → nat_eq number.node own ≡ a → (if a && nat_eq number.boot node.boot then fin.get node.tickets number.seq else None) ≡ Some ticket → ticket_at number.node node (Some number) ≡ Some ticket
    by true same f = ap (λ a. if a && nat_eq number.boot node.boot then fin.get node.tickets number.seq else None) (eq-eqb number.node number.node refl) ∙ f
    by false other f = absurd (let never : None ≡ Some ticket = f in cc)

-- messages see the step as their own
seen_by_mail : (plan : Plan) (tells : Bool) (story : List (List login.Slot)) (v next : joint_world.World) (result : Result Said StepFault) (step : Step) → Stands plan tells story v
    → MakesStep plan tells v (whole_step step) (whole_outcome result) next → mail_makes.MakesStep plan tells (mail_world_of v) (step_seen step) (outcome_seen result) (mail_world_of next)
seen_by_mail plan tells story v next result step sound made =
    subst (λ o. mail_makes.MakesStep plan tells (mail_world_of v) (step_seen step) o (mail_world_of next)) (outcome_alike result)
    (subst (λ x. mail_makes.MakesStep plan tells (mail_world_of v) x (whole_seen.outcome_seen (whole_outcome result)) (mail_world_of next)) (step_alike step)
    (makes_seen plan tells (whole_world_of v) (whole_world_of next) (whole_step step) (whole_outcome result) (makes_same plan tells story v sound (whole_step step) (whole_outcome result) next made)))

module _ {D : Type 0} (on : View D) where
  -- a sound world of the machine for which it stands
  pub driven_whole : (plan : Plan) (lines : List (List ℕ)) (outcomes : List Outcome) (left : List Awaited) (start last : World D) → WasDriven on plan lines outcomes left start last → IsWhole on plan last
  driven_whole plan lines outcomes left start last d =
      let s = stays on outcomes [] left start last d.makes in
      let told = disks_tell on.seen last in
      let few : plan.nodes ≤ 64 = omega (arith, start.nodes.few, ap (λ (p : Plan). p.nodes) d.begins.plan_is) in
      (mirror_all on plan told lines d.begins.some few outcomes [] [] left start last (record { plan_is = d.begins.plan_is; told_is = sym s.told }) (opened_so on plan told start d.begins)
      (⊎_elim (λ t. inl (s.told ∙ t)) (λ b. inr (subst (λ (p : Plan). AllBlind p.nodes outcomes) d.begins.plan_is b)) d.known) d.sessions d.makes).whole

  -- the slot of a node that is up
  pub up_there : (n : ℕ) (node : WholeNode) (lives : List Life) (disks : List D) (slots : List Slot) → length disks ≡ length lives → SlotsStand on lives disks slots → of_node lives n ≡ Some (Up node)
      → (disk : List Record) × (slot_at slots n ≡ Some (slot_up (node_seen node.mail) disk))
  up_there zero node lives disks slots even s e = absurd (let never : None ≡ Some (Up node) = e in cc)
  up_there (suc k) node lives disks slots even s e =
      let (slot, here) = both_at slots lives k (Up node) (sym s.count) e in
      let (d, held) = both_at disks lives k (Up node) (sym even) e in
      let (seen, is, stood) = s.each k (Up node) d slot e held here in
      (slot.disk, here ∙ ap (λ l. Some (record { life = l; disk = slot.disk })) (is ∙ ap plain.Life.Up (sym stood.seen_is)))

  module _ (plan : Plan) (last : World D) (h : IsWhole on plan last) where
    abbrev even : length (disks_of last) ≡ length (lives_of last)
    even = last.nodes.disk_each ∙ sym last.nodes.all

    in_flight : (number : Number) (letter : Letter) → Among letter (letters_of h.v.flying) → letter.ticket ≡ Some number → HasLetter last number
    in_flight number letter inside is =
        let (flight, flies, same) = flight_of letter h.v.flying inside in
        (flight, subst (Among flight) (sym h.stands.mail.flying) flies, ap (λ (l : Letter). l.ticket) same ∙ is)

    mail_letter : (number : Number) (ticket : plain.Ticket) → standing_in last number ≡ Some ticket → (got wanted : ℕ) → ask_of plan.confirm ticket ≡ Pending got wanted → HasLetter last number
    mail_letter number ticket stands got wanted e = by (of_node (lives_of last) number.node) refl stands
      where
        by : (o : Option Life) → of_node (lives_of last) number.node ≡ o → standing_on o number ≡ Some ticket → HasLetter last number
        by None here f = absurd (let never : None ≡ Some ticket = f in cc)
        by (Some Down) here f = absurd (let never : None ≡ Some ticket = f in cc)
        by (Some Lost) here f = absurd (let never : None ≡ Some ticket = f in cc)
        by (Some (Up node)) here f =
            let up = up_there number.node node (lives_of last) (disks_of last) (mail_world_of h.v).slots even h.stands.mail.slots here in
            let (letter, inside, is) = pending_letter plan.confirm (cluster_of (mail_world_of h.v)) h.sound.whole.sound.mail number (node_seen node.mail) up.0 ticket up.1 (found_own node.mail.store.own (node_seen node.mail) number ticket f) got wanted e in
            in_flight number letter inside is

    read_letter : (number : Number) (ticket : ReadTicket) → reading_in last number ≡ Some ticket → (got wanted : ℕ) → ask_read ticket ticket.reading ≡ ReadPending got wanted → HasLetter last number
    read_letter number ticket stands got wanted e = by number.node (of_node (lives_of last) number.node) refl stands
      where
        up_case : (node : WholeNode) → of_node (lives_of last) number.node ≡ Some (Up node) → read_at number.node (read_node true (joint_seen node)) (Some number) ≡ Some ticket → (disk : D) → of_node (disks_of last) number.node ≡ Some disk
            → HasLetter last number
        up_case node here f disk held =
            let up = up_for on (lives_of last) (disks_of last) h.v.slots (record { mail = h.stands.mail.slots; maps = h.stands.maps; reads = h.stands.reads }) number.node node disk here held in
            let (letter, inside, is) = read_has_letter plan (disks_tell on.seen last) h.story h.v h.sound number (record { node = joint_seen node; disk = up.records; up = up.here; ticket = ticket; here = f }) got wanted e in
            in_flight number letter inside is

        with_disk : (n : ℕ) (node : WholeNode) → of_node (lives_of last) n ≡ Some (Up node) → (disk : D) × (of_node (disks_of last) n ≡ Some disk)
        with_disk zero node here = absurd (let never : None ≡ Some (Up node) = here in cc)
        with_disk (suc k) node here = both_at (disks_of last) (lives_of last) k (Up node) (sym even) here

        by : (n : ℕ) (o : Option Life) → of_node (lives_of last) number.node ≡ o → reading_on o number ≡ Some ticket → HasLetter last number
        by n None here f = absurd (let never : None ≡ Some ticket = f in cc)
        by n (Some Down) here f = absurd (let never : None ≡ Some ticket = f in cc)
        by n (Some Lost) here f = absurd (let never : None ≡ Some ticket = f in cc)
        by n (Some (Up node)) here f = let (disk, held) = with_disk number.node node here in up_case node here f disk held

    pub all_have_letters : AllHaveLetters plan.confirm last
    all_have_letters = record { mails = mail_letter; reads = read_letter }

  pub pending_has_letter : PendingHasLetter on
  pending_has_letter plan lines outcomes left start last d = all_have_letters plan last (driven_whole plan lines outcomes left start last d)

  -- a node that is not lost has a slot that is not
  alive : (n : ℕ) (one : Life) (disk : D) (slot : Slot) → SlotStands on n one disk slot → (life_seen one ≡ life.Lost → ⊥) → slot.life ≢ plain.Life.Lost
  alive n (Up node) disk slot (seen, is, st) here lost = let never : plain.Life.Up seen ≡ plain.Life.Lost = sym is ∙ lost in cc
  alive n Down disk slot (pending, is, fit, holds) here lost = let never : plain.Life.Down pending ≡ plain.Life.Lost = sym is ∙ lost in cc
  alive n Lost disk slot st here lost = here refl

  module _ (old new : World D) (w next : machine.World) (before : StandsFor on old w) (after : StandsFor on new next) where
    -- the slots of a node, before and after
    record Both (m : ℕ) (disk : D) : Type 0 where
      slot : Slot
      slot' : Slot
      here : slot_at w.slots m ≡ Some slot
      there : slot_at next.slots m ≡ Some slot'
      alive_is : slot.life ≢ plain.Life.Lost

    both_slots : (m : ℕ) (disk disk' : D) → disk_of_node old m ≡ Some disk → disk_of_node new m ≡ Some disk' → (seen_life (of_node (lives_of old) m) ≡ life.Lost → ⊥) → Both m disk
    both_slots zero disk disk' e f not_lost = absurd (let never : None ≡ Some disk = e in cc)
    both_slots (suc k) disk disk' e f not_lost =
        let (one, l) = both_at (lives_of old) (disks_of old) k disk (old.nodes.disk_each ∙ sym old.nodes.all) e in
        let (slot, here) = both_at w.slots (lives_of old) k one (sym before.slots.count) l in
        let (other, l') = both_at (lives_of new) (disks_of new) k disk' (new.nodes.disk_each ∙ sym new.nodes.all) f in
        let (slot', there) = both_at next.slots (lives_of new) k other (sym after.slots.count) l' in
        record {
          slot = slot;
          slot' = slot';
          here = here;
          there = there;
          alive_is = alive (suc k) one disk slot (before.slots.each k one disk slot l e here) (λ lost. not_lost (ap seen_life l ∙ lost));
        }

    -- what a stop leaves is such a front
    front_of : (m : ℕ) (disk disk' : D) (slot slot' : Slot) (k : StopsKeep on m disk disk' slot slot') (P : List Record → Type 0) → ((records : List Record) → IsFrontOf slot slot' records → P records)
        → IfSome (on.seen disk) (λ _. Passed on.clock disk disk' (IsJournalWith m P))
    front_of m disk disk' slot slot' k P fits = if_some (on.seen disk) _ _ (λ _ passed. weaker on.clock disk disk' (IsStopOf m slot k.added) (IsJournalWith m P) (λ c stop. (
      (slot.disk ++ stop.kept) ++ stop.front,
      stop.is,
      fits ((slot.disk ++ stop.kept) ++ stop.front) (record {
        kept = stop.kept;
        pending_is = stop.pending_is;
        front = stop.front;
        rest = stop.rest;
        before = k.kept;
        grew = k.grew ∙ ap (λ xs. (slot.disk ++ k.kept) ++ xs) (sym stop.split);
        is = refl;
      }),
    )) passed) k.stops

  pub confirmed_in_every_image : ConfirmedInEveryImage on
  confirmed_in_every_image plan lines outcomes left start mid last d result step known ended is =
      let h = driven_whole plan lines outcomes left start mid d in
      let tells = disks_tell on.seen mid in
      let plan_is = (stays on outcomes [] left start mid d.makes).plan ∙ d.begins.plan_is in
      let l = is.did.leads known ended h.story h.v h.stands (subst (λ (p : Plan). Stands p tells h.story h.v) (sym plan_is) h.sound) in
      let made : MakesStep plan tells h.v (whole_step step) (whole_outcome result) l.next = subst (λ (p : Plan). MakesStep p tells h.v (whole_step step) (whole_outcome result) l.next) plan_is l.made in
      let k = keep_in_midst plan tells (mail_world_of h.v) (mail_world_of l.next) (step_seen step) (outcome_seen result) (seen_by_mail plan tells h.story h.v l.next result step h.sound made) h.sound.whole.in_plan h.sound.whole.sound.mail in
      record {
        acknowledged = λ copy acked unstruck m counts not_lost disk disk' e f.
            let b = both_slots mid last (mail_world_of h.v) (mail_world_of l.next) h.stands.mail l.stands.mail m disk disk' e f not_lost in
            front_of mid last (mail_world_of h.v) (mail_world_of l.next) h.stands.mail l.stands.mail m disk disk' b.slot b.slot' (l.stops.each m disk disk' b.slot b.slot' e f b.here b.there b.alive_is) (HasCopyIn copy)
            (k.acknowledged copy (subst (Among _) l.stands.mail.book acked) (λ struck. unstruck (subst (Among _) (sym l.stands.mail.book) struck)) m counts b.slot b.slot' b.here b.there);
        dropped = λ user id confirmers dropped m counts not_lost disk disk' e f.
            let b = both_slots mid last (mail_world_of h.v) (mail_world_of l.next) h.stands.mail l.stands.mail m disk disk' e f not_lost in
            front_of mid last (mail_world_of h.v) (mail_world_of l.next) h.stands.mail l.stands.mail m disk disk' b.slot b.slot' (l.stops.each m disk disk' b.slot b.slot' e f b.here b.there b.alive_is) (SaysGone (Message user id))
            (k.dropped user id confirmers (subst (Among _) l.stands.mail.book dropped) m counts b.slot b.slot' b.here b.there);
      }
