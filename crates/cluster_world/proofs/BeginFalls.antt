-- A call that begins takes its node down: its disk failed, or memory ran out.
use Rattle.std.proofs.Common.{◌≡◌, ◌⊎◌, inl, inr, ⊎_elim, ℕ, ◌≤◌, nat_le, true, false, List, [], ◌∷◌, ◌++◌, length, append-nil, append_assoc, Option, Some, None, Result, Ok, Err, refl, sym, ap, ◌∙◌, subst, arith}
use Rattle.std.specs.Prelude.{IfOk, is_some}
use Rattle.io_edge.specs.Causes.{Rose}
use Rattle.io_edge.specs.Octets.{IsToldAlike}
use Rattle.mail_model.specs.Record.{Record, payloads_of}
use Rattle.mail_model.specs.Book.{BookEntry}
use Rattle.mail_model.specs.Book.BookEntry.{WentDown}
use Rattle.mail_base.specs.Bodies.{proof_seen}
use Rattle.object_model.specs.Letters.{Number, Letter}
use Rattle.session_model.specs.Events.{NodeLife as life, turned}
use Rattle.cluster_model.specs.Cluster.{CallKind}
use Rattle.cluster_model.specs.Deeds.{slot_up}
use Rattle.cluster_model.specs.Rules.{Reaction, idle}
use Rattle.cluster_model.specs.World as machine
use Rattle.cluster_model.specs.Steps as steps
use Rattle.cluster_model.specs.Steps.{NodeCall, letters_end, fails_at_once, is_worn_for}
use Rattle.cluster_model.specs.Steps.NodeCall.{Deliver, Login, Fetch, Strike, Leave}
use Rattle.cluster_model.specs.Makes.{IsUp, IsFiled, IsWorkCut, NodeGoesDown, BeginsCall, RunsShort, MakesStep, with_struck, cut_world, begun_by, kind_of_call}
use Rattle.disk_journal.specs.Journal.{TellsJournal}
use Rattle.node_store.specs.Disks.{View}
use Rattle.node_store.specs.declared.fault.KeepFault.TheVariants as keep
use Rattle.node_core.specs.Beginning.{call_seen, at_second, CallDid, CallStopped}
use Rattle.node_core.specs.Nodes.{node_seen, NodeKeeps, end_in}
use Rattle.node_core.specs.Works.{Rule, NodeDid, IsOnlyRead}
use Rattle.node_core.specs.declared.fault.NodeFault.TheVariants.{Disk, NoMemory}
use Rattle.whole_node.specs.declared.node.WholeNode.{WholeNode}
use Rattle.node_core.specs.declared.outbox.Outbox.{Outbox}
use Rattle.call_tickets.specs.declared.call.Call.{Call}
use Rattle.call_tickets.specs.declared.call.Call.TheVariants as kind
use Rattle.world_book.specs.Books.{entries_of}
use Rattle.world_book.specs.declared.book.Book.{Book}
use Rattle.world_book.specs.declared.entry.Entry.{Entry}
use Rattle.world_book.specs.declared.entry.Entry.TheVariants as written
use Rattle.cluster_world.specs.Begins.{BeginsAt, strikes_of_call}
use Rattle.cluster_world.specs.Books.{entries_seen, booked_by}
use Rattle.cluster_world.specs.Changes.{ChangesNode, IsTurnedTo}
use Rattle.cluster_world.specs.Flights.{InFlight}
use Rattle.cluster_world.specs.Lives.{life_seen, CanWorkOn}
use Rattle.cluster_world.specs.Seen.{outcome_seen}
use Rattle.cluster_world.specs.Steps.{StepDid, FaultHasCause, WasToWork, IsRefusedRight, SaysSo, FallsSo, MayMisread, ChangesNothing, LeadsMail, HasPassed}
use Rattle.cluster_world.specs.Turns.{node_refusal, life_after_step}
use Rattle.cluster_world.specs.Worlds.{WorldState, life_among, state_with, tells_in, StateStandsFor}
use Rattle.cluster_world.specs.declared.life.Life.{Life}
use Rattle.cluster_world.specs.declared.life.Life.TheVariants.{Up, Down}
use Rattle.cluster_world.specs.declared.nodes.Nodes.{Nodes}
use Rattle.cluster_world.specs.declared.step.Step.TheVariants as step
use Rattle.cluster_world.specs.declared.step.Said.{Said}
use Rattle.cluster_world.specs.declared.step.Said.TheVariants as said
use Rattle.cluster_world.specs.declared.fault.StepFault.{StepFault}
use Rattle.cluster_world.specs.declared.fault.StepFault.TheVariants as fault
use Rattle.cluster_world.proofs.Still.{some_same}
use Rattle.cluster_world.proofs.Turned.{disk_there, as_many, lives_turned, told_by, quiet_by}
use Rattle.cluster_world.proofs.Falling.{entries_more}
use Rattle.cluster_world.proofs.AfterWork.{AreThese, nothing_else, turned_after, up_slot, CutSlot, work_stopped, work_undone, cut_stands, cut_stops, cut_follows}
use Rattle.cluster_world.proofs.Beginning.{struck_world, with_struck_is, filed_in, begun_in, filed_kind, fault_so, begin_goes}
use Rattle.cluster_world.proofs.BeginIdle.{read_fell}
use Rattle.cluster_world.proofs.BeginParts.{Began, begin_named, begin_life, begin_did, StaysUp, begin_stays, begin_worked}
use Rattle.cluster_world.proofs.Longer.{longer_by}
use Rattle.cluster_world.proofs.Told.{IsOfMail}
use Rattle.cluster_world.proofs.Wholly.{led, even_of}
use Rattle.cluster_world.proofs.Lifting.{lift}
use Rattle.cluster_world.proofs.Beside.{alone_keeps}
use Rattle.joint_world.specs.Staying.{IsMailCall}

-- The node goes down, with these of its records on its disk.
module _ {D : Type 0} (on : View D) (n : ℕ) (call : Call) (seconds : ℕ) (old new : Nodes D) (fit : node_refusal old.plan (life_among old) (step.Begin n call) ≡ None)
    (P : Life → D → Life → D → Type 0) (ch : ChangesNode n P old new) (a : WholeNode) (was : ch.life ≡ Up a) (down : ch.life' ≡ Down) (worked : WasToWork old.plan.nodes (step.Begin n call) (life_among old n) n) (mail : IsMailCall (call_seen call))
    (told : IsToldAlike (on.seen ch.disk) (on.seen ch.disk')) (later : on.faults ch.disk ≤ on.faults ch.disk')
    (flying : InFlight) (book book' : Book) (entries : List Entry) (struck : entries_seen entries ≡ strikes_of_call (call_seen call)) (wrote : entries_of book' ≡ entries_of book ++ (entries ++ written.Down n ∷ [])) where
  abbrev c : NodeCall
  c = call_seen call

  abbrev start : WorldState D
  start = state_with old flying seconds book

  abbrev final : WorldState D
  final = state_with new flying seconds book'

  abbrev Cut : Rule → machine.World → Type 0
  Cut rule w = CutSlot on n P old new new ch rule a was flying flying seconds book book' w

  booked : (w : machine.World) → StateStandsFor on start w → booked_by book' ≡ (w.book ++ strikes_of_call c) ++ WentDown n ∷ []
  booked w st =
      ap entries_seen wrote
      ∙ entries_more (entries_of book) (entries ++ written.Down n ∷ [])
      ∙ ap (λ xs. booked_by book ++ xs) (entries_more entries (written.Down n ∷ []))
      ∙ ap (λ xs. booked_by book ++ (xs ++ WentDown n ∷ [])) struck
      ∙ sym (append_assoc (booked_by book) (strikes_of_call c) (WentDown n ∷ []))
      ∙ ap (λ xs. (xs ++ strikes_of_call c) ++ WentDown n ∷ []) st.book

  -- the machine's world, once it went down
  abbrev down_world : (w : machine.World) (disk front pending : List Record) → machine.World
  down_world w disk front pending = cut_world (struck_world w c) n disk front pending

  fell_leads : (result : Result Said StepFault) (rule : Rule) (w : machine.World) → StateStandsFor on start w → (k : Cut rule w)
      → MakesStep old.plan (tells_in on.seen start) w (steps.Step.Begin n c) (outcome_seen result) (down_world w k.disk k.front k.pending) → IsOfMail result (step.Begin n call) → LeadsMail on result (step.Begin n call) start final w
  fell_leads result rule w st k made of_mail = led on result (step.Begin n call) start final (even_of old) (even_of new) w st of_mail (λ v seen sound done. tt) (record {
    next = down_world w k.disk k.front k.pending;
    stands = cut_stands on n P old new new ch rule a was flying flying seconds book book' down (λ slots. slots) (nothing_else on new) w st k w.flying st.flying refl (w.book ++ strikes_of_call c) (booked w st);
    made = made;
    stops = cut_stops on n P old new new ch rule a was flying flying seconds book book' down (λ slots. slots) (nothing_else on new) w st k (down_world w k.disk k.front k.pending).slots (λ m. refl);
    follow = cut_follows on n P old new new ch rule a was flying flying seconds book book' down (λ slots. slots) (nothing_else on new) w k (down_world w k.disk k.front k.pending).slots (λ m. refl);
  })

  -- what the call had the node do, as far as it came
  abbrev begin_rule : List ℕ → Rule
  begin_rule octets = λ x d. begun_by old.plan (at_second seconds) n x d c octets

  goes_down : (octets : List ℕ) (w : machine.World) → StateStandsFor on start w → (k : Cut (begin_rule octets) w)
      → NodeGoesDown (with_struck w c) n k.disk (begun_by old.plan w n (node_seen a.mail) k.disk c octets).disk (down_world w k.disk k.front k.pending)
  goes_down octets w st k = record {
    front = k.front;
    pending = k.pending;
    one = k.one;
    cut = subst (λ xs. IsWorkCut k.disk xs k.front k.pending)
        (ap (λ x. (begun_by old.plan (at_second seconds) n x k.disk c octets).disk) k.node_is
        ∙ ap (λ s. (begun_by old.plan (at_second s) n (node_seen a.mail) k.disk c octets).disk) st.seconds
        ∙ ap (λ (r : Reaction). r.disk) (sym (begun_in old.plan w n (node_seen a.mail) k.disk c octets))) k.cut;
    is = ap (λ x. cut_world x n k.disk k.front k.pending) (sym (with_struck_is w c));
  }

  filed_now : (octets : List ℕ) (w : machine.World) → StateStandsFor on start w → IsFiled (at_second seconds) n (node_seen a.mail) c octets → IsFiled w n (node_seen a.mail) c octets
  filed_now octets w st filed = filed_in w n (node_seen a.mail) c octets (subst (λ s. IsFiled (at_second s) n (node_seen a.mail) c octets) st.seconds filed)

  up_now : (rule : Rule) (w : machine.World) (k : Cut rule w) → IsUp w n (node_seen a.mail) k.disk
  up_now rule w k = subst (λ x. IsUp w n x k.disk) k.node_is k.up

  goes_now : nat_le letters_end flying.sent ≡ false → is_worn_for old.plan seconds (node_seen a.mail) c ≡ false → (w : machine.World) → StateStandsFor on start w → (disk : List Record) → IsUp w n (node_seen a.mail) disk
      → steps.step_fault old.plan (steps.Step.Begin n c) w ≡ None
  goes_now early fresh w st disk up =
      begin_goes old.plan w n c (slot_up (node_seen a.mail) disk) (node_seen a.mail) (begin_named n call old fit) up refl (ap (nat_le letters_end) (sym st.sent) ∙ early)
      (ap (λ s. is_worn_for old.plan s (node_seen a.mail) c) (sym st.seconds) ∙ fresh)

  fell_did : (result : Result Said StepFault) → IsRefusedRight result (node_refusal old.plan (life_among old) (step.Begin n call)) → IfOk result (SaysSo (step.Begin n call))
      → FallsSo result old.plan.nodes (step.Begin n call) (life_among old) → ((m : ℕ) → life_after_step result (step.Begin n call) m (life_among old m) ≡ turned n life.Down m (life_among old m))
      → HasPassed result (step.Begin n call) start final → ChangesNothing on result (step.Begin n call) start final → ((w : machine.World) → StateStandsFor on start w → LeadsMail on result (step.Begin n call) start final w)
      → ((w : machine.World) → StateStandsFor on start w → FaultHasCause on result (step.Begin n call) start final) → StepDid on result (step.Begin n call) start final
  fell_did result refused kind_so falls lives passed kept leads cause = record {
    plan = ch.plan;
    handed = as_many n P old new ch;
    refused = refused;
    kind = kind_so;
    falls = falls;
    lives = λ m. lives_turned n P old new ch m ∙ ap (λ l. turned n (life_seen l) m (life_among old m)) down ∙ sym (lives m);
    told = told_by n P old new ch flying flying seconds seconds book book' on.seen told;
    quiet = quiet_by n P old new ch flying flying seconds seconds book book' on.faults later (λ boot now. absurd (let never : life.Down ≡ life.Up boot = sym (ap life_seen down) ∙ now in cc));
    clock = refl;
    passed = passed;
    books = longer_by book book' (entries ++ written.Down n ∷ []) wrote;
    kept = kept;
    leads = λ known ended. lift on result (step.Begin n call) start final (even_of old) (even_of new) tt (λ v stands done. mail)
        (alone_keeps n P old new ch (λ b up. absurd (let never : Down ≡ Up b = sym down ∙ up in cc))) leads;
    cause = cause;
  }

  -- Memory ran out once its work had begun.
  pub short_did : ((w : machine.World) → StateStandsFor on start w → (octets : List ℕ) × IsFiled (at_second seconds) n (node_seen a.mail) c octets × Cut (begin_rule octets) w)
      → StepDid on (Err (fault.NoMemory (Some n))) (step.Begin n call) start final
  short_did cuts = fell_did (Err (fault.NoMemory (Some n))) tt tt worked (λ m. refl) tt tt
      (λ w st.
      let (octets, filed, k) = cuts w st in
      fell_leads (Err (fault.NoMemory (Some n))) (begin_rule octets) w st k
      (RunsShort.Beginning c (node_seen a.mail) k.disk octets refl (up_now (begin_rule octets) w k) (filed_now octets w st filed) (goes_down octets w st k)) (record { step_is = refl; said_is = refl; sees = tt }))
      (λ w st. tt)

  caused : (risen : Rose (on.faults ch.disk) (on.faults ch.disk') ⊎ ((on.seen ch.disk ≡ None) × MayMisread flying.flights (step.Begin n call))) → FaultHasCause on (Ok (said.Faulted n)) (step.Begin n call) start final
  caused risen = λ d d' e e'.
      let d_is : ch.disk ≡ d = some_same ch.disk d (sym ch.held ∙ e) in
      let d'_is : ch.disk' ≡ d' = some_same ch.disk' d' (sym (disk_there n P old new ch) ∙ e') in
      subst (λ x. Rose (on.faults d) (on.faults x) ⊎ ((on.seen d ≡ None) × MayMisread flying.flights (step.Begin n call))) d'_is
      (subst (λ x. Rose (on.faults x) (on.faults ch.disk') ⊎ ((on.seen x ≡ None) × MayMisread flying.flights (step.Begin n call))) d_is risen)

  -- Its disk failed as it wrote.
  pub failed_did : nat_le letters_end flying.sent ≡ false → is_worn_for old.plan seconds (node_seen a.mail) c ≡ false → Rose (on.faults ch.disk) (on.faults ch.disk')
      → (octets : List ℕ) → IsFiled (at_second seconds) n (node_seen a.mail) c octets → ((w : machine.World) → StateStandsFor on start w → Cut (begin_rule octets) w)
      → StepDid on (Ok (said.Faulted n)) (step.Begin n call) start final
  failed_did early fresh rose octets filed cuts = fell_did (Ok (said.Faulted n)) (sym fit) (fault_so call n (λ none. filed_kind (at_second seconds) n (node_seen a.mail) c octets filed none)) worked (λ m. refl) tt tt
      (λ w st.
      let k = cuts w st in
      let up = up_now (begin_rule octets) w k in
      fell_leads (Ok (said.Faulted n)) (begin_rule octets) w st k
      (goes_now early fresh w st k.disk up, inl (BeginsCall.FailsInIt (node_seen a.mail) k.disk octets up (filed_now octets w st filed) refl (goes_down octets w st k))) (record { step_is = refl; said_is = refl; sees = tt }))
      (λ w st. caused (inl rose))

-- Its letters found no memory.
module _ {D : Type 0} (on : View D) (is_settled : D → Type 0) (n : ℕ) (call : Call) (seconds : ℕ) (old mid : Nodes D)
    (fit : node_refusal old.plan (life_among old) (step.Begin n call) ≡ None) (ready : CanWorkOn on.seen old.plan old.lives.items old.disks.items) (began : Began)
    (ch : ChangesNode n (BeginsAt on is_settled old.plan n seconds (call_seen call) began) old mid) (mail : IsMailCall (call_seen call))
    (flying : InFlight) (book book' : Book) (entries : List Entry) (struck : entries_seen entries ≡ strikes_of_call (call_seen call)) (wrote : entries_of book' ≡ entries_of book ++ (entries ++ written.Down n ∷ [])) where
  abbrev B : Life → D → Life → D → Type 0
  B = BeginsAt on is_settled old.plan n seconds (call_seen call) began

  abbrev a : WholeNode
  a = ch.does.0.old

  abbrev b : WholeNode
  b = ch.does.0.new

  module _ (new : Nodes D) (fall : ChangesNode n (IsTurnedTo Down) mid new) where
    abbrev both : ChangesNode n (AreThese ch.life Down ch.disk ch.disk') old new
    both = turned_after n B Down old mid new ch fall

    both_was : both.life ≡ Up a
    both_was = both.does.life_was ∙ ch.does.0.was

    on_both : (Q : D → D → Type 0) → Q ch.disk ch.disk' → Q both.disk both.disk'
    on_both Q q = subst (λ d. Q both.disk d) (sym both.does.disk_is) (subst (λ d. Q d ch.disk') (sym both.does.disk_was) q)

    no_letters : (letters : List Letter) → [] ≡ letters → 1 ≤ length letters → ⊥
    no_letters letters e some = omega (arith, some, ap length e)

    abbrev Short : machine.World → Type 0
    Short w = (octets : List ℕ) × IsFiled (at_second seconds) n (node_seen a.mail) (call_seen call) octets
        × CutSlot on n (AreThese ch.life Down ch.disk ch.disk') old new new both (λ x d. begun_by old.plan (at_second seconds) n x d (call_seen call) octets) a both_was flying flying seconds book book' w

    unsent_cut : (ticket : Option Number) (letters : List Letter) → 1 ≤ length letters → (w : machine.World) → StateStandsFor on (state_with old flying seconds book) w
        → CallDid on old.plan n seconds (call_seen call) a.mail ch.disk b.mail ch.disk' ticket letters → Short w
    unsent_cut ticket letters some w st (CallDid.AtOnce kind of_kind fails t did) =
        let (slot, here, stood) = up_slot on n B old mid mid ch (λ x d. idle x d) a ch.does.0.was flying flying seconds book book w st in
        absurd (no_letters letters (did.out slot.disk (stood.2).keeps) some)
    unsent_cut ticket letters some w st (CallDid.Goes octets fails filed t did) = (
      octets,
      filed,
      work_undone on n (AreThese ch.life Down ch.disk ch.disk') old new new both (λ x d. begun_by old.plan (at_second seconds) n x d (call_seen call) octets) a both_was flying flying seconds book book' b letters
          (on_both (λ d d'. NodeDid on (λ x r. begun_by old.plan (at_second seconds) n x r (call_seen call) octets) a.mail d b.mail d' letters) did) w st,
    )

    pub unsent_step : (begun : Option Number × Outbox) → began ≡ Ok begun → 1 ≤ length begun.1.letters
        → StepDid on (Err (fault.NoMemory (Some n))) (step.Begin n call) (state_with old flying seconds book) (state_with new flying seconds book')
    unsent_step begun e some =
        let s : StaysUp on is_settled n call seconds old mid fit ready began ch = begin_stays on is_settled n call seconds old mid fit ready began ch begun e in
        short_did on n call seconds old new fit (AreThese ch.life Down ch.disk ch.disk') both a both_was both.does.life_is (begin_worked on is_settled n call seconds old mid fit ready began ch) mail
        (on_both (λ d d'. IsToldAlike (on.seen d) (on.seen d')) s.told)
        (on_both (λ d d'. on.faults d ≤ on.faults d') (omega (arith, s.quiet)))
        flying book book' entries struck wrote
        (λ w st. unsent_cut begun.0 begun.1.letters some w st (begin_did on is_settled n call seconds old mid fit ready began ch (Ok begun) e).did)

  -- the node stopped, or its disk was not read
  module _ (early : nat_le letters_end flying.sent ≡ false) where
    pub stopped_step : began ≡ Err (NoMemory true) → StepDid on (Err (fault.NoMemory (Some n))) (step.Begin n call) (state_with old flying seconds book) (state_with mid flying seconds book')
    stopped_step e =
        let s : CallStopped on old.plan n seconds (call_seen call) a.mail ch.disk b.mail ch.disk' keep.NoMemory = begin_did on is_settled n call seconds old mid fit ready began ch (Err (NoMemory true)) e in
        short_did on n call seconds old mid fit B ch a ch.does.0.was (begin_life on is_settled n call seconds old mid fit ready began ch (Err (NoMemory true)) e)
        (begin_worked on is_settled n call seconds old mid fit ready began ch) mail s.stopped.stops.told s.fails
        flying book book' entries struck wrote
        (λ w st. (s.octets, s.filed, work_stopped on n B old mid mid ch (λ x d. begun_by old.plan (at_second seconds) n x d (call_seen call) s.octets) a ch.does.0.was flying flying seconds book book' s.stopped w st))

    pub failed_step : began ≡ Err Disk → StepDid on (Ok (said.Faulted n)) (step.Begin n call) (state_with old flying seconds book) (state_with mid flying seconds book')
    failed_step e =
        let s : CallStopped on old.plan n seconds (call_seen call) a.mail ch.disk b.mail ch.disk' keep.Disk = begin_did on is_settled n call seconds old mid fit ready began ch (Err Disk) e in
        failed_did on n call seconds old mid fit B ch a ch.does.0.was (begin_life on is_settled n call seconds old mid fit ready began ch (Err Disk) e)
        (begin_worked on is_settled n call seconds old mid fit ready began ch) mail s.stopped.stops.told s.fails.0
        flying book book' entries struck wrote early s.fresh s.fails.1 s.octets s.filed
        (λ w st. work_stopped on n B old mid mid ch (λ x d. begun_by old.plan (at_second seconds) n x d (call_seen call) s.octets) a ch.does.0.was flying flying seconds book book' s.stopped w st)
