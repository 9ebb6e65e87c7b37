-- A call that begins at a node that is up, as a step of the machine.
use Rattle.std.proofs.Common.{◌≡◌, ℕ, zero, suc, nat_le, Bool, true, false, ◌&&◌, List, [], ◌∷◌, ◌++◌, length, append-nil, Option, Some, None, Ok, refl, sym, ap, ◌∙◌, subst, arith, inl}
use Rattle.std.specs.Prelude.{is_some}
use Rattle.std.specs.List.{list_all}
use Rattle.mail_model.specs.Plan.{Plan}
use Rattle.mail_model.specs.Record.{Record, payloads_of}
use Rattle.object_model.specs.Letters.{Number, Letter}
use Rattle.session_model.specs.Events.{NodeLife}
use Rattle.cluster_model.specs.Cluster as plain
use Rattle.cluster_model.specs.Deeds.{slot_up}
use Rattle.cluster_model.specs.Reads.{Found}
use Rattle.cluster_model.specs.Rules.{idle, refuse, new_number}
use Rattle.cluster_model.specs.World as machine
use Rattle.cluster_model.specs.Steps as steps
use Rattle.cluster_model.specs.Steps.{NodeCall, is_node, letters_end, is_worn_for, mishaps_of_call, ids_drawn, nodes_of_call}
use Rattle.cluster_model.specs.Steps.NodeCall.{Deliver, Login, Fetch, Strike, Leave}
use Rattle.cluster_model.specs.Makes.{IsUp, BeginsCall, after, with_struck, begun_by}
use Rattle.disk_journal.specs.Journal.{TellsJournal}
use Rattle.node_maps.specs.Nodes.{node_of}
use Rattle.node_store.specs.Disks.{View}
use Rattle.whole_node.specs.Following as node_follows
use Rattle.whole_node.specs.Following.{CallFollowed}
use Rattle.node_core.specs.Beginning.{call_seen, at_second, CallDid, CallBegun}
use Rattle.node_core.specs.Nodes.{node_seen, NodeKeeps, end_in, IsAsBefore}
use Rattle.node_core.specs.Works.{Rule, NodeDid, IsOnlyRead}
use Rattle.whole_node.specs.declared.node.WholeNode.{WholeNode}
use Rattle.node_core.specs.declared.outbox.Outbox.{Outbox}
use Rattle.call_tickets.specs.declared.call.Call.{Call}
use Rattle.world_book.specs.Books.{entries_of}
use Rattle.world_book.specs.declared.book.Book.{Book}
use Rattle.world_book.specs.declared.entry.Entry.{Entry}
use Rattle.cluster_world.specs.Begins.{BeginsAt, strikes_of_call, said_of_begin}
use Rattle.cluster_world.specs.Books.{entries_seen, booked_by}
use Rattle.cluster_world.specs.Changes.{ChangesNode}
use Rattle.cluster_world.specs.Flights.{InFlight}
use Rattle.cluster_world.specs.Lives.{of_node, CanWorkOn}
use Rattle.cluster_world.specs.Missing.{SentOff}
use Rattle.cluster_world.specs.Seen.{said_seen}
use Rattle.cluster_world.specs.Stands.{SlotStands}
use Rattle.cluster_world.specs.Steps.{StepDid, FaultHasCause, FallsSo, BeginsSo, LeadsMail}
use Rattle.cluster_world.specs.Turns.{node_refusal, life_after_step}
use Rattle.cluster_world.specs.Worlds.{WorldState, life_among, state_with, tells_in, StateStandsFor}
use Rattle.cluster_world.specs.declared.life.Life.{Life}
use Rattle.cluster_world.specs.declared.life.Life.TheVariants.{Up}
use Rattle.cluster_world.specs.declared.nodes.Nodes.{Nodes}
use Rattle.cluster_world.specs.declared.step.Step.TheVariants as step
use Rattle.cluster_world.proofs.Still.{some_same}
use Rattle.cluster_world.proofs.Falling.{entries_more}
use Rattle.cluster_world.proofs.AfterWork.{sent_follows, work_handed, work_goes_on, work_told, work_quiet, up_slot, WorkSent, work_sent}
use Rattle.cluster_world.proofs.Beginning.{struck_world, with_struck_is, filed_in, begun_in, filed_kind, begun_so, begin_goes, begin_is_worn}
use Rattle.cluster_world.proofs.BeginIdle.{read_stands, read_stops}
use Rattle.cluster_world.proofs.BeginParts.{Began, begin_named, begin_did, begin_maps, begin_own, StaysUp, begin_stays, begin_seen, read_none, begin_keeps}
use Rattle.cluster_world.proofs.Longer.{longer_by}
use Rattle.cluster_world.proofs.Follows.{idle_follows, stay_follows}
use Rattle.cluster_world.proofs.Told.{IsOfMail}
use Rattle.cluster_world.proofs.Wholly.{led, even_of}
use Rattle.cluster_world.proofs.Lifting.{lift}
use Rattle.cluster_world.proofs.Beside.{one_keeps}
use Rattle.joint_world.specs.Staying.{IsMailCall}

-- what is said of a call is of messages
begin_mail : (n : ℕ) (call : Call) (ticket : Option Number) → IsOfMail (Ok (said_of_begin ticket)) (step.Begin n call)
begin_mail n call (Some ticket) = record { step_is = refl; said_is = refl; sees = tt }
begin_mail n call None = record { step_is = refl; said_is = refl; sees = tt }

-- what is said of a call that has begun
pub said_goes : (ticket : Option Number) (nodes n : ℕ) (call : Call) (lives : ℕ → NodeLife) → FallsSo (Ok (said_of_begin ticket)) nodes (step.Begin n call) lives
said_goes (Some ticket) nodes n call lives = tt
said_goes None nodes n call lives = tt

pub said_stays : (ticket : Option Number) (n : ℕ) (call : Call) (m : ℕ) (was : NodeLife) → life_after_step (Ok (said_of_begin ticket)) (step.Begin n call) m was ≡ was
said_stays (Some ticket) n call m was = refl
said_stays None n call m was = refl

pub said_causes : {D : Type 0} (on : View D) (ticket : Option Number) (n : ℕ) (call : Call) (old new : WorldState D) → FaultHasCause on (Ok (said_of_begin ticket)) (step.Begin n call) old new
said_causes on (Some ticket) n call old new = tt
said_causes on None n call old new = tt

module _ {D : Type 0} (on : View D) (is_settled : D → Type 0) (n : ℕ) (call : Call) (seconds : ℕ) (old mid : Nodes D)
    (fit : node_refusal old.plan (life_among old) (step.Begin n call) ≡ None) (ready : CanWorkOn on.seen old.plan old.lives.items old.disks.items) (began : Began)
    (ch : ChangesNode n (BeginsAt on is_settled old.plan n seconds (call_seen call) began) old mid) where
  abbrev B : Life → D → Life → D → Type 0
  B = BeginsAt on is_settled old.plan n seconds (call_seen call) began

  abbrev c : NodeCall
  c = call_seen call

  abbrev a : WholeNode
  a = ch.does.0.old

  abbrev b : WholeNode
  b = ch.does.0.new

  named : list_all (is_node old.plan) (n ∷ nodes_of_call c) ≡ true
  named = begin_named n call old fit

  was : ch.life ≡ Up a
  was = ch.does.0.was

  -- how the machine has the node, and what it does at the seconds of its world
  module _ (flying : InFlight) (book : Book) (early : nat_le letters_end flying.sent ≡ false) (mail : IsMailCall c) where
    abbrev start : WorldState D
    start = state_with old flying seconds book

    abbrev tells : Bool
    tells = tells_in on.seen start

    fresh_in : (w : machine.World) → StateStandsFor on start w → (worn : Bool) → is_worn_for old.plan seconds (node_seen a.mail) c ≡ worn → is_worn_for old.plan w.seconds (node_seen a.mail) c ≡ worn
    fresh_in w st worn e = ap (λ s. is_worn_for old.plan s (node_seen a.mail) c) (sym st.seconds) ∙ e

    goes : (w : machine.World) → StateStandsFor on start w → (disk : List Record) → IsUp w n (node_seen a.mail) disk → is_worn_for old.plan seconds (node_seen a.mail) c ≡ false
        → steps.step_fault old.plan (steps.Step.Begin n c) w ≡ None
    goes w st disk up fresh =
        begin_goes old.plan w n c (slot_up (node_seen a.mail) disk) (node_seen a.mail) named up refl (ap (nat_le letters_end) (sym st.sent) ∙ early) (fresh_in w st false fresh)

    is_worn : (w : machine.World) → StateStandsFor on start w → (disk : List Record) → IsUp w n (node_seen a.mail) disk → is_worn_for old.plan seconds (node_seen a.mail) c ≡ true
        → steps.step_fault old.plan (steps.Step.Begin n c) w ≡ Some steps.StepFault.Worn
    is_worn w st disk up worn =
        begin_is_worn old.plan w n c (slot_up (node_seen a.mail) disk) (node_seen a.mail) named up refl (ap (nat_le letters_end) (sym st.sent) ∙ early) (fresh_in w st true worn)

    up_as : (w : machine.World) (node : plain.Node) (disk : List Record) → IsUp w n node disk → node ≡ node_seen a.mail → IsUp w n (node_seen a.mail) disk
    up_as w node disk up e = subst (λ x. IsUp w n x disk) e up

    -- It has begun, and its letters are in flight.
    module _ (new : Nodes D) (flying' : InFlight) (book' : Book) (entries : List Entry) (struck : entries_seen entries ≡ strikes_of_call c)
        (wrote : entries_of book' ≡ entries_of book ++ entries) where
      abbrev final : WorldState D
      final = state_with new flying' seconds book'

      booked_more : (w : machine.World) → StateStandsFor on start w → booked_by book' ≡ w.book ++ strikes_of_call c
      booked_more w st = ap entries_seen wrote ∙ entries_more (entries_of book) entries ∙ ap (λ xs. booked_by book ++ xs) struck ∙ ap (λ xs. xs ++ strikes_of_call c) st.book

      -- a call that has a rule, as what it is said to be
      went : (ticket : Option Number) (letters : List Letter) (r : Rule) → ch.life' ≡ Up b → is_worn_for old.plan seconds (node_seen a.mail) c ≡ false → NodeDid on r a.mail ch.disk b.mail ch.disk' letters
          → SentOff on mid.plan letters None flying flying' mid new → (w : machine.World) → StateStandsFor on start w
          → ((node : plain.Node) (disk : List Record) → node ≡ node_seen a.mail → IsUp w n node disk
          → BeginsCall old.plan tells w n c (said_seen (said_of_begin ticket)) (after (struck_world w c) n (r node disk)))
          → node_follows.MapsFollow r a b → LeadsMail on (Ok (said_of_begin ticket)) (step.Begin n call) start final w
      went ticket letters r is fresh did off w st made follow =
          let s : WorkSent on n B old mid new ch r a was flying flying' seconds book book' letters w.flying (w.book ++ strikes_of_call c) w =
          work_sent on n B old mid new ch r a was flying flying' seconds book book' b is letters did mid.plan None off w st w.flying refl (w.book ++ strikes_of_call c) (booked_more w st) in
          led on (Ok (said_of_begin ticket)) (step.Begin n call) start final (even_of old) (even_of new) w st (begin_mail n call ticket) (λ v seen sound done. tt) (record {
            next = after (struck_world w c) n (r s.node s.disk);
            stands = s.stands;
            made = (goes w st s.disk (up_as w s.node s.disk s.up s.node_is) fresh, inl (made s.node s.disk s.node_is s.up));
            stops = s.stops;
            follow = sent_follows on n B old mid new ch r a was flying flying' seconds book book' letters w.flying (w.book ++ strikes_of_call c) w s b is follow
                (begin_own on is_settled n call seconds old mid fit ready began ch) _ off.noticed.only;
          })

      did_leads : (ticket : Option Number) (letters : List Letter) → ch.life' ≡ Up b → is_worn_for old.plan seconds (node_seen a.mail) c ≡ false → (w : machine.World) → StateStandsFor on start w
          → CallDid on old.plan n w.seconds c a.mail ch.disk b.mail ch.disk' ticket letters
          → CallFollowed on old.plan n w.seconds c a ch.disk b ch.disk'
          → SentOff on mid.plan letters None flying flying' mid new → LeadsMail on (Ok (said_of_begin ticket)) (step.Begin n call) start final w
      did_leads ticket letters is fresh w st (CallDid.AtOnce kind of_kind fails t did) fol off =
          went ticket letters (refuse kind (mishaps_of_call old.plan w.seconds (node_seen a.mail) c) (ids_drawn c)) is fresh did off w st (λ node records node_is up.
          BeginsCall.FailsAtOnce (node_seen a.mail) records kind (up_as w node records up node_is) of_kind fails (ap (λ x. said_seen (said_of_begin x)) t)
          (ap (λ x. after (struck_world w c) n (refuse kind (mishaps_of_call old.plan w.seconds (node_seen a.mail) c) (ids_drawn c) x records)) node_is
          ∙ ap (λ x. after x n (refuse kind (mishaps_of_call old.plan w.seconds (node_seen a.mail) c) (ids_drawn c) (node_seen a.mail) records)) (sym (with_struck_is w c))))
          (stay_follows (refuse kind (mishaps_of_call old.plan w.seconds (node_seen a.mail) c) (ids_drawn c)) a b (λ x d. refl) (fol.at_once fails))
      did_leads ticket letters is fresh w st (CallDid.Goes octets fails filed t did) fol off =
          went ticket letters (λ x d. begun_by old.plan (at_second w.seconds) n x d c octets) is fresh did off w st (λ node records node_is up.
          BeginsCall.Goes (node_seen a.mail) records octets (up_as w node records up node_is) fails (filed_in w n (node_seen a.mail) c octets filed) (ap (λ x. said_seen (said_of_begin x)) t)
          (ap (λ x. after (struck_world w c) n (begun_by old.plan (at_second w.seconds) n x records c octets)) node_is
          ∙ ap (λ x. after x n (begun_by old.plan (at_second w.seconds) n (node_seen a.mail) records c octets)) (sym (with_struck_is w c))
          ∙ ap (λ x. after (with_struck w c) n x) (sym (begun_in old.plan w n (node_seen a.mail) records c octets))))
          (fol.goes fails octets letters did)

      says : (ticket : Option Number) (letters : List Letter) → CallDid on old.plan n seconds c a.mail ch.disk b.mail ch.disk' ticket letters → BeginsSo call n (said_of_begin ticket)
      says ticket letters (CallDid.AtOnce kind of_kind fails t did) =
          subst (λ x. BeginsSo call n (said_of_begin x)) (sym t) (begun_so call n (new_number n (node_seen a.mail)) refl (λ none. let never : Some kind ≡ None = sym of_kind ∙ none in cc))
      says ticket letters (CallDid.Goes octets fails filed t did) =
          subst (λ x. BeginsSo call n (said_of_begin x)) (sym t) (begun_so call n (new_number n (node_seen a.mail)) refl (λ none. filed_kind (at_second seconds) n (node_seen a.mail) c octets filed none))

      pub begun_step : (begun : Option Number × Outbox) → began ≡ Ok begun → SentOff on mid.plan begun.1.letters None flying flying' mid new
          → StepDid on (Ok (said_of_begin begun.0)) (step.Begin n call) start final
      begun_step begun e off =
          let s : StaysUp on is_settled n call seconds old mid fit ready began ch = begin_stays on is_settled n call seconds old mid fit ready began ch begun e in
          let did : CallBegun on old.plan n seconds c a.mail ch.disk b.mail ch.disk' begun.0 begun.1 = begin_did on is_settled n call seconds old mid fit ready began ch (Ok begun) e in
          let only = off.noticed.only in
          record {
            plan = only.plan ∙ ch.plan;
            handed = work_handed on n B old mid new ch _ only;
            refused = sym fit;
            kind = says begun.0 begun.1.letters did.did;
            falls = said_goes begun.0 old.plan.nodes n call (life_among old);
            lives = λ m. work_goes_on on n B old mid new ch _ only (begin_seen on is_settled n call seconds old mid fit ready began ch s) m ∙ sym (said_stays begun.0 n call m (life_among old m));
            told = work_told on n B old mid new ch _ only flying flying' seconds book book' on.seen s.told;
            quiet = work_quiet on n B old mid new ch _ only flying flying' seconds book book' on.faults (omega (arith, s.quiet)) (λ boot now. s.quiet);
            clock = refl;
            passed = tt;
            books = longer_by book book' entries wrote;
            kept = tt;
            leads = λ known ended. lift on _ _ _ _ (even_of old) (even_of new) tt (λ v stands done. mail)
                (one_keeps n B old mid ch (begin_keeps on is_settled n call seconds old mid fit ready began ch) on _ new only) (λ w st. did_leads begun.0 begun.1.letters s.is did.fresh w st (subst (λ x. CallDid on old.plan n x c a.mail ch.disk b.mail ch.disk' begun.0 begun.1.letters) st.seconds did.did)
                (subst (λ x. CallFollowed on old.plan n x c a ch.disk b ch.disk') st.seconds (begin_maps on is_settled n call seconds old mid fit ready began ch (Ok begun) e)) off);
            cause = λ w st. said_causes on begun.0 n call start final;
          }
