-- A call that reads begins at a node: what comes of it, as worlds have it with all that nodes keep.
use Rattle.std.proofs.Common.{◌≡◌, ◌≢◌, ◌⊎◌, inl, inr, ⊎_elim, ℕ, zero, suc, ◌+◌, ◌≤◌, nat_le, Bool, true, false, List, [], ◌∷◌, ◌++◌, append-nil, length, map, Option, Some, None, Result, Ok, Err, refl, sym, ap, ◌∙◌, subst, arith}
use Rattle.std.specs.Prelude.{is_some, slice_get, slice_set, IfOk}
use Rattle.std.specs.List.{list_all}
use Rattle.std.specs.Option.{option_map}
use Rattle.io_edge.specs.Causes.{Rose}
use Rattle.mail_model.specs.Plan.{Plan}
use Rattle.mail_model.specs.Book.BookEntry.{WentDown}
use Rattle.mail_model.specs.Identity.{Id}
use Rattle.mail_model.specs.Record.{Record, payloads_of}
use Rattle.object_model.specs.Letters.{Number, Letter}
use Rattle.session_model.specs.Events.{NodeLife as life, turned}
use Rattle.cluster_model.specs.Cluster as plain
use Rattle.cluster_model.specs.Cluster.{slot_at, with_slot}
use Rattle.cluster_model.specs.Cluster.CallKind.{LoggingIn, Fetching}
use Rattle.cluster_model.specs.Claims.{all_records}
use Rattle.cluster_model.specs.Deeds.{slot_up}
use Rattle.cluster_model.specs.Rules.{new_number}
use Rattle.cluster_model.specs.Steps as mail_steps
use Rattle.cluster_model.specs.Steps.{NodeCall, letters_end, is_node, nodes_of_call, is_worn_for}
use Rattle.cluster_model.specs.Steps.NodeCall.{Deliver, Login, Fetch, Strike, Leave}
use Rattle.cluster_model.specs.World as machine
use Rattle.cluster_model.specs.Makes.{kind_of_call}
use Rattle.cluster_model.proofs.Slots.{at_same}
use Rattle.whole_model.specs.Whole.{mail_slot}
use Rattle.whole_world.specs.Steps as whole_steps
use Rattle.joint_model.specs.Joint as joint
use Rattle.joint_model.specs.Joint.{whole_slot}
use Rattle.joint_world.specs.World.{World, mail_world_of}
use Rattle.joint_world.specs.Rules.{Reaction, left}
use Rattle.joint_world.specs.Steps.{step_fault}
use Rattle.joint_world.specs.Makes as joint_makes
use Rattle.joint_world.specs.Makes.{refused, BeginsRead}
use Rattle.joint_world.specs.Putting.{Puts, put}
use Rattle.disk_journal.specs.Journal.{TellsJournal, EndsAt}
use Rattle.node_store.specs.Disks.{View}
use Rattle.node_maps.specs.Nodes.{node_of}
use Rattle.node_core.specs.Beginning.{call_seen}
use Rattle.node_core.specs.Nodes.{node_seen, end_in, IsNodeOf}
use Rattle.node_core.specs.Works.{LeavesUp, IsOnlyRead}
use Rattle.node_core.specs.declared.fault.NodeFault.{NodeFault}
use Rattle.node_core.specs.declared.fault.NodeFault.TheVariants.{Disk, Worn, NoMemory}
use Rattle.node_core.specs.declared.outbox.Outbox.{Outbox}
use Rattle.call_tickets.specs.declared.call.Call.{Call}
use Rattle.call_tickets.specs.declared.call.Call.TheVariants as kind
use Rattle.whole_node.specs.Nodes.{WholeWorks, joint_seen}
use Rattle.whole_node.specs.Reading.{BeginsBy, FetchesBy, KeepsMail, IsUnchanged}
use Rattle.whole_node.specs.declared.node.WholeNode.{WholeNode}
use Rattle.world_book.specs.Books.{entries_of, spare_of}
use Rattle.world_book.specs.declared.book.Book.{Book}
use Rattle.world_book.specs.declared.entry.Entry.TheVariants as written
use Rattle.cluster_world.specs.BeginningReads.{BeginsAs, ReadsOwnDisk, ticket_of_call, BeganReading, BeginsReading, BeginsReadAt, CanBePut, GoesOut, FellShort, ConcludesReading}
use Rattle.cluster_world.specs.Begins.{said_of_begin}
use Rattle.cluster_world.specs.Books.{entries_seen, booked_by, IsLongerBook}
use Rattle.cluster_world.specs.Changes.{ChangesNode}
use Rattle.cluster_world.specs.Flights.{InFlight}
use Rattle.cluster_world.specs.Lives.{life_seen, of_node, falls_left, all_falls_left, CanWorkOn}
use Rattle.cluster_world.specs.Maps.{StandsForAll}
use Rattle.cluster_world.specs.Moments.{StopsKeep}
use Rattle.cluster_world.specs.Reading.{AllStand, PutsQueue}
use Rattle.cluster_world.specs.Seen.{whole_step, whole_said}
use Rattle.cluster_world.specs.Stands.{StandsUp, SlotStands}
use Rattle.cluster_world.specs.Steps.{StepDid, LeadsTo, AreSettled, EveryStopKeeps, IsRefusedRight, FallsSo, BeginsSo, SaysSo, MayReadAmiss, FaultHasCause}
use Rattle.cluster_world.specs.Turning.{life_left}
use Rattle.cluster_world.specs.Turns.{node_refusal, life_after_step}
use Rattle.cluster_world.specs.Unfinished.{said_of_fault, entries_of_fault}
use Rattle.cluster_world.specs.Worlds.{WorldState, seen_life, life_among, memory_of_life, state_with, tells_in, StateStandsFor}
use Rattle.cluster_world.specs.declared.life.Life.{Life}
use Rattle.cluster_world.specs.declared.life.Life.TheVariants.{Up, Down}
use Rattle.cluster_world.specs.declared.nodes.Nodes.{Nodes}
use Rattle.cluster_world.specs.declared.step.Step.TheVariants as step
use Rattle.cluster_world.specs.declared.step.Said.{Said}
use Rattle.cluster_world.specs.declared.step.Said.TheVariants as said
use Rattle.cluster_world.specs.declared.fault.StepFault.{StepFault}
use Rattle.cluster_world.specs.declared.fault.StepFault.TheVariants as fault
use Rattle.cluster_world.proofs.AfterWidening.{told_there}
use Rattle.cluster_world.proofs.Asked.{turned_same}
use Rattle.cluster_world.proofs.BeginIdle.{read_down, read_cut}
use Rattle.cluster_world.proofs.Beginning.{begin_goes, begin_is_worn, begun_so, fault_so}
use Rattle.cluster_world.proofs.BeginParts.{Began, begin_named, within_of, not_up, up_same}
use Rattle.cluster_world.proofs.BeginSteps.{said_goes, said_stays, said_causes}
use Rattle.cluster_world.proofs.Changing.{set_same}
use Rattle.cluster_world.proofs.Falling.{entries_more}
use Rattle.cluster_world.proofs.Kept.{kept_at}
use Rattle.cluster_world.proofs.Longer.{longer_by}
use Rattle.cluster_world.proofs.ReadSlots.{HasUp, up_for, mail_of, mail_slots, mail_there, mail_set, all_changed, stands_kept, FitsLife, fits_seen}
use Rattle.cluster_world.proofs.ReadSteps.{GoesOnReading, goes_beside, read_did, read_stops, stands_all, puts_same, beside_settled}
use Rattle.cluster_world.proofs.ReadTurns.{unchanged_seen, unchanged_mail}
use Rattle.cluster_world.proofs.Still.{some_same, if_some, nothing_read}
use Rattle.cluster_world.proofs.Turned.{same_or, slot_of, slot_other, as_many, lives_turned, each_disk, stops_kept, still_ready, falls_now, told_by, quiet_by, settled_by, disk_there}
use Rattle.cluster_world.proofs.Unchanged.{unchanged_by, changes_none}
use Rattle.cluster_world.proofs.Untold.{fetches_untold}
use Rattle.cluster_world.proofs.Worked.{if_told}

-- a slot that is written with what it was
again : (slots : List joint.Slot) (n : ℕ) (slot : joint.Slot) → joint.slot_at slots n ≡ Some slot → joint.with_slot slots n slot ≡ slots
again slots zero slot e = refl
again slots (suc k) slot e = set_same slots k slot e

-- a node keeps its records where its slot has the same
records_kept : (slots : List plain.Slot) (n : ℕ) (was now : plain.Slot) → slot_at slots n ≡ Some was → all_records now ≡ all_records was → (m : ℕ) → kept_at (slot_at (with_slot slots n now) m) ≡ kept_at (slot_at slots m)
records_kept slots n was now here same m = ⊎_elim
    (λ (e : m ≡ n).
    ap (λ k. kept_at (slot_at (with_slot slots n now) k)) e ∙ ap kept_at (at_same slots n was now here) ∙ ap Some same ∙ sym (ap kept_at here) ∙ ap (λ k. kept_at (slot_at slots k)) (sym e))
    (λ (e : m ≢ n). ap kept_at (slot_other slots n m now e))
    (same_or m n)

-- a call that fails at once sends nothing
none_put : (tells : Bool) (letters : List Letter) (w next : World) → letters ≡ [] → Puts tells letters w next → next ≡ w
none_put tells letters w next none (fuel, e) = by fuel (ap (λ (l : List Letter). put tells fuel l w) (sym none) ∙ e)
  where
    some_world : (x y : World) → Some x ≡ Some y → y ≡ x
    some_world x y p = sym (some_same x y p)

    by : (k : ℕ) → put tells k [] w ≡ Some next → next ≡ w
    by zero p = some_world w next p
    by (suc k) p = some_world w next p

-- what the rule is where disks tell, it is where one does not
module _ (own : ℕ) (user : List ℕ) (id : Id) (at most holders : ℕ) (node : joint.Node) (records : List Record) (did : Reaction) where
  untold : (tells : Bool) → FetchesBy own user id at most holders true node records did → FetchesBy own user id at most holders tells node records did
  untold tells (FetchesBy.HasNoHolder none is) = FetchesBy.HasNoHolder none is
  untold tells (FetchesBy.Fetches f) = FetchesBy.Fetches (fetches_untold tells own node records user id at most holders did f)

  at_flag : (told tells : Bool) → (tells ≡ true → told ≡ true) → FetchesBy own user id at most holders told node records did → FetchesBy own user id at most holders tells node records did
  at_flag true tells h f = untold tells f
  at_flag false false h f = f
  at_flag false true h f = absurd (let never : false ≡ true = h refl in cc)

-- The machine begins the call: of a node that is up, in a world that is then so.
module _ (plan : Plan) (tells told : Bool) (flag : tells ≡ true → told ≡ true) (v : World) (n : ℕ) (node : joint.Node) (records : List Record) (up : joint.slot_at v.slots n ≡ Some (joint.slot_up node records))
    (now : joint.Node) (letters : List Letter) (next : World) (puts : Puts tells letters (record v { slots = joint.with_slot v.slots n (joint.slot_up now records) }) next) where
  abbrev done : Reaction
  done = record { node = now; out = letters }

  at_once : (k : plain.CallKind) → done ≡ record { node = refused k node records; out = [] } → next ≡ record v { slots = joint.with_slot v.slots n (joint.slot_up (refused k node records) records) }
  at_once k is =
      none_put tells letters (record v { slots = joint.with_slot v.slots n (joint.slot_up now records) }) next (ap (λ (r : Reaction). r.out) is) puts
      ∙ ap (λ (x : joint.Node). record v { slots = joint.with_slot v.slots n (joint.slot_up x records) }) (ap (λ (r : Reaction). r.node) is)

  abbrev Says : Option Number → Type 0
  Says ticket = (whole_said (said_of_begin ticket) ≡ whole_steps.Said.Told (mail_steps.Said.Begun (new_number n node.whole.mail)))

  begun_is : (ticket : Option Number) → ticket ≡ Some (new_number n node.whole.mail) → Says ticket
  begun_is ticket is = ap (λ t. whole_said (said_of_begin t)) is

  by_login : (user : List ℕ) (proof : Rattle.mail_model.specs.Plan.Proof) (ticket : Option Number) → ticket ≡ Some (new_number n node.whole.mail) → BeginsBy plan n user proof tells node records done
      → BeginsRead plan tells v n (Login user proof) (whole_said (said_of_begin ticket)) next
  by_login user proof ticket is (BeginsBy.HasNoManager none did) = BeginsRead.FailsAtOnce node records LoggingIn up (none, refl) (begun_is ticket is) (at_once LoggingIn did)
  by_login user proof ticket is (BeginsBy.LogsIn did) = BeginsRead.BeginsLogin node records user proof up refl done did (begun_is ticket is) puts

  by_fetch : (user : List ℕ) (id : Id) (at most holders : ℕ) (ticket : Option Number) → ticket ≡ Some (new_number n node.whole.mail) → FetchesBy n user id at most holders tells node records done
      → BeginsRead plan tells v n (Fetch user id at most holders) (whole_said (said_of_begin ticket)) next
  by_fetch user id at most holders ticket is (FetchesBy.HasNoHolder none did) = BeginsRead.FailsAtOnce node records Fetching up (none, refl) (begun_is ticket is) (at_once Fetching did)
  by_fetch user id at most holders ticket is (FetchesBy.Fetches did) = BeginsRead.BeginsFetch node records user id at most holders up refl done did (begun_is ticket is) puts

  pub made_by : (c : NodeCall) (ticket : Option Number) → ticket ≡ ticket_of_call (new_number n node.whole.mail) c → BeginsAs plan n c told node records done → BeginsRead plan tells v n c (whole_said (said_of_begin ticket)) next
  made_by (Deliver mail) ticket is did = absurd did
  made_by (Login user proof) ticket is did = by_login user proof ticket is (did tells)
  made_by (Fetch user id at most holders) ticket is did = by_fetch user id at most holders ticket is (at_flag n user id at most holders node records done told tells flag did)
  made_by (Strike user items) ticket is did = absurd did
  made_by (Leave user login manager) ticket is did = BeginsRead.Leaves node records user login manager up refl (ap (λ t. whole_said (said_of_begin t)) is)
      (subst (λ (r : Reaction). joint_makes.Does tells v n records r next) (did tells) puts)

-- it was a fetch where the own disk was read
fails_made : (plan : Plan) (tells : Bool) (v : World) (n : ℕ) (a : WholeNode) (records : List Record) (c : NodeCall) → joint.slot_at v.slots n ≡ Some (joint.slot_up (joint_seen a) records) → ReadsOwnDisk n a c
    → BeginsRead plan tells v n c (whole_steps.Said.Told (mail_steps.Said.Faulted n)) (joint_makes.fallen v n records)
fails_made plan tells v n a records (Deliver mail) up reads = absurd reads
fails_made plan tells v n a records (Login user proof) up reads = absurd reads
fails_made plan tells v n a records (Fetch user id at most holders) up reads = BeginsRead.FailsReading (joint_seen a) records user id at most holders up refl reads refl refl
fails_made plan tells v n a records (Strike user items) up reads = absurd reads
fails_made plan tells v n a records (Leave user login manager) up reads = absurd reads

reads_amiss : (n : ℕ) (a : WholeNode) (call : Call) → ReadsOwnDisk n a (call_seen call) → MayReadAmiss call
reads_amiss n a (kind.Deliver deliver) reads = absurd reads
reads_amiss n a (kind.Login user proof) reads = absurd reads
reads_amiss n a (kind.Fetch user id holders from most) reads = tt
reads_amiss n a (kind.Strike user items) reads = absurd reads
reads_amiss n a (kind.Leave user login manager) reads = absurd reads

reads_kind : (n : ℕ) (a : WholeNode) (c : NodeCall) → ReadsOwnDisk n a c → kind_of_call c ≡ None → ⊥
reads_kind n a (Deliver mail) reads none = reads
reads_kind n a (Login user proof) reads none = reads
reads_kind n a (Fetch user id at most holders) reads none = let never : Some Fetching ≡ None = none in cc
reads_kind n a (Strike user items) reads none = reads
reads_kind n a (Leave user login manager) reads none = reads

-- what is said of a call that has begun
says_so : (plan : Plan) (tells : Bool) (call : Call) (n : ℕ) (mail : plain.Node) (node : joint.Node) (records : List Record) (did : Reaction) (ticket : Option Number)
    → ticket ≡ ticket_of_call (new_number n mail) (call_seen call) → Rattle.cluster_world.specs.BeginningReads.IsReadCall (call_seen call) → BeginsSo call n (said_of_begin ticket)
says_so plan tells (kind.Deliver deliver) n mail node records did ticket is read = absurd read
says_so plan tells (kind.Login user proof) n mail node records did ticket is read = subst (λ x. BeginsSo (kind.Login user proof) n (said_of_begin x)) (sym is) (refl, refl)
says_so plan tells (kind.Fetch user id holders from most) n mail node records did ticket is read = subst (λ x. BeginsSo (kind.Fetch user id holders from most) n (said_of_begin x)) (sym is) (refl, refl)
says_so plan tells (kind.Strike user items) n mail node records did ticket is read = absurd read
says_so plan tells (kind.Leave user login manager) n mail node records did ticket is read = subst (λ x. BeginsSo (kind.Leave user login manager) n (said_of_begin x)) (sym is) tt

-- The disk of a node was read, and it stands as it did.
stands_read : {D : Type 0} (on : View D) (own : ℕ) (b : WholeNode) (before after : D) (records : List Record) → IsOnlyRead on before after → StandsUp on own b.mail before (node_seen b.mail) records
    → StandsUp on own b.mail after (node_seen b.mail) records
stands_read on own b before after records read st = record {
  seen_is = refl;
  keeps = st.keeps;
  tells = subst (λ (o : Option (List ℕ)). TellsJournal o own (payloads_of records) (end_in b.mail)) (sym read.seen) st.tells;
  images = if_told (on.seen before) (on.seen after) _ (ap (λ (o : Option (List ℕ)). is_some o) read.seen) (if_some (on.seen before) _ _ (λ _ images d image. images d (read.images.now d image)) st.images);
}

module _ {D : Type 0} (on : View D) (is_settled : D → Type 0) (n : ℕ) (call : Call) (old mid : Nodes D) (fit : node_refusal old.plan (life_among old) (step.Begin n call) ≡ None)
    (ready : CanWorkOn on.seen old.plan old.lives.items old.disks.items) (began : Began) (ch : ChangesNode n (BeginsReadAt on is_settled (call_seen call) began old.plan n) old mid) where
  abbrev P : Life → D → Life → D → Type 0
  P = BeginsReadAt on is_settled (call_seen call) began old.plan n

  abbrev c : NodeCall
  c = call_seen call

  abbrev a : WholeNode
  a = ch.does.old

  abbrev b : WholeNode
  b = ch.does.new

  did_by : (seconds : ℕ) (r : Began) → began ≡ r → BeginsReading on old.plan n seconds c a ch.disk b ch.disk' r
  did_by seconds r e = subst (λ (x : Began). BeginsReading on old.plan n seconds c a ch.disk b ch.disk' x) e (ch.does.did seconds)

  life_by : (r : Began) → began ≡ r → ch.life' ≡ life_left r b
  life_by r e = ch.does.is ∙ ap (λ (x : Began). life_left x b) e

  works_by : (r : Began) → began ≡ r → LeavesUp r → WholeWorks (on.seen ch.disk') b
  works_by r e up = subst (λ (x : Began). LeavesUp x → WholeWorks (on.seen ch.disk') b) e ch.does.works up

  settles_by : (r : Began) → began ≡ r → LeavesUp r → is_settled ch.disk → is_settled ch.disk'
  settles_by r e up = subst (λ (x : Began). LeavesUp x → is_settled ch.disk → is_settled ch.disk') e ch.does.settled up

  -- the node is up, and its disk was read at most
  record Stays : Type 0 where
    is : ch.life' ≡ Up b
    kept : KeepsMail a.mail b.mail
    boot : (node_seen b.mail).boot ≡ (node_seen a.mail).boot
    read : IsOnlyRead on ch.disk ch.disk'
    quiet : on.faults ch.disk' ≡ on.faults ch.disk
    works : WholeWorks (on.seen ch.disk') b
    settles : is_settled ch.disk → is_settled ch.disk'

  stays_so : (r : Began) → began ≡ r → LeavesUp r → ch.life' ≡ Up b → KeepsMail a.mail b.mail → b.maps ≡ a.maps → IsOnlyRead on ch.disk ch.disk' → on.faults ch.disk' ≡ on.faults ch.disk → Stays
  stays_so r e up is kept maps read quiet = record {
    is = is;
    kept = kept;
    boot = sym (works_by r e up).maps.boot ∙ ap (λ m. (node_of m).boot) maps ∙ ch.does.can.maps.boot;
    read = read;
    quiet = quiet;
    works = works_by r e up;
    settles = settles_by r e up;
  }

  begun_stays : (begun : Option Number × Outbox) → began ≡ Ok begun → Stays
  begun_stays begun e = let d = (did_by 0 (Ok begun) e).done in stays_so (Ok begun) e tt (life_by (Ok begun) e) d.mail d.maps d.read d.quiet

  worn_stays : began ≡ Err Worn → Stays
  worn_stays e =
      let d = did_by 0 (Err Worn) e in
      stays_so (Err Worn) e tt (life_by (Err Worn) e) (unchanged_mail a b d.1) d.1.maps (nothing_read on ch.disk ch.disk' d.2) (ap on.faults d.2)

  short_stays : began ≡ Err (NoMemory false) → Stays
  short_stays e =
      let d = did_by 0 (Err (NoMemory false)) e in
      stays_so (Err (NoMemory false)) e tt (life_by (Err (NoMemory false)) e) (unchanged_mail a b d.unchanged) d.unchanged.maps d.read d.quiet

  here : of_node old.lives.items n ≡ Some (Up a)
  here = ch.was ∙ ap Some ch.does.was

  module _ (s : Stays) where
    as_before : life_seen ch.life' ≡ life_seen ch.life
    as_before = ap life_seen s.is ∙ ap life.Up s.boot ∙ sym (ap life_seen ch.does.was)

    goes : GoesOnReading on old mid
    goes = record {
      plan = ch.plan;
      count = as_many n P old mid ch;
      lives = λ m. lives_turned n P old mid ch m ∙ ap (λ l. turned n l m (life_among old m)) (as_before ∙ sym (ap seen_life ch.was)) ∙ turned_same (life_among old) n m;
      read = each_disk n P old mid ch (λ x x'. IsOnlyRead on x x') (λ x. nothing_read on x x refl) s.read;
      quiet = each_disk n P old mid ch (λ x x'. on.faults x' ≡ on.faults x) (λ x. refl) s.quiet;
    }

    mid_ready : CanWorkOn on.seen mid.plan mid.lives.items mid.disks.items
    mid_ready = subst (λ p. CanWorkOn on.seen p mid.lives.items mid.disks.items) (sym ch.plan)
        (still_ready n P old mid ch on.seen old.plan ready (λ node up. subst (λ (x : WholeNode). IsNodeOf old.plan n x.mail × WholeWorks (on.seen ch.disk') x) (up_same b node (sym s.is ∙ up)) (s.kept.same old.plan n ch.does.of, s.works)))

    mid_falls : all_falls_left mid.lives.items ≡ all_falls_left old.lives.items
    mid_falls =
        let now = falls_now n P old mid ch in
        let before = ap falls_left ch.does.was in
        let after = ap falls_left s.is in
        omega (arith, now, before, after)

    mid_settles : (flying flying' : InFlight) (seconds : ℕ) (book book' : Book) → AreSettled is_settled (state_with old flying seconds book) → AreSettled is_settled (state_with mid flying' seconds book')
    mid_settles flying flying' seconds book book' = settled_by n P old mid ch flying flying' seconds seconds book book' is_settled (λ boot now was. s.settles (was (sym as_before ∙ now)))

    mid_stand : (slots : List joint.Slot) → AllStand on old.lives.items old.disks.items slots → (up : HasUp on n a ch.disk slots) → AllStand on mid.lives.items mid.disks.items (joint.with_slot slots n (joint.slot_up (joint_seen b) up.records))
    mid_stand slots all up = all_changed n P old mid ch on slots (joint.slot_up (joint_seen a) up.records) (joint.slot_up (joint_seen b) up.records) all up.here
        (subst (λ l. SlotStands on n l ch.disk' (mail_of (joint.slot_up (joint_seen b) up.records))) (sym s.is)
        (node_seen b.mail, refl, stands_read on n b ch.disk ch.disk' up.records s.read (stands_kept on n a b ch.disk up.records s.kept up.stands)))
        (subst (λ l. FitsLife l (joint.slot_up (joint_seen b) up.records)) (sym s.is) (fits_seen b up.records))

  module _ (flying : InFlight) (early : nat_le letters_end flying.sent ≡ false) (seconds : ℕ) (book : Book) where
    abbrev start : WorldState D
    start = state_with old flying seconds book

    -- a world that these nodes stand for
    module _ (v : World) (st : StandsForAll on start v) where
      abbrev tells : Bool
      tells = tells_in on.seen start

      all : AllStand on old.lives.items old.disks.items v.slots
      all = record { mail = st.mail.slots; maps = st.maps; reads = st.reads }

      up : HasUp on n a ch.disk v.slots
      up = up_for on old.lives.items old.disks.items v.slots all n a ch.disk here ch.held

      mail_up : slot_at (mail_world_of v).slots n ≡ Some (slot_up (node_seen a.mail) up.records)
      mail_up = mail_there v.slots n (joint.slot_up (joint_seen a) up.records) up.here

      flag : tells ≡ true → is_some (on.seen ch.disk) ≡ true
      flag e = told_there on.seen old.disks.items n ch.disk e ch.held

      step_goes : is_worn_for old.plan v.seconds (node_seen a.mail) c ≡ false → step_fault old.plan (whole_step (step.Begin n call)) v ≡ None
      step_goes fresh = ap (option_map whole_steps.StepFault.Fault)
          (begin_goes old.plan (mail_world_of v) n c (slot_up (node_seen a.mail) up.records) (node_seen a.mail) (begin_named n call old fit) mail_up refl (ap (nat_le letters_end) (sym st.mail.sent) ∙ early) fresh)

      step_is_worn : is_worn_for old.plan v.seconds (node_seen a.mail) c ≡ true → step_fault old.plan (whole_step (step.Begin n call)) v ≡ Some (whole_steps.StepFault.Fault mail_steps.StepFault.Worn)
      step_is_worn worn = ap (option_map whole_steps.StepFault.Fault)
          (begin_is_worn old.plan (mail_world_of v) n c (slot_up (node_seen a.mail) up.records) (node_seen a.mail) (begin_named n call old fit) mail_up refl (ap (nat_le letters_end) (sym st.mail.sent) ∙ early) worn)

      -- it has begun, and its letters are in flight
      module _ (begun : Option Number × Outbox) (e : began ≡ Ok begun) (new : Nodes D) (flying' : InFlight) (puts : PutsQueue on begun.1.letters mid flying new flying') (book' : Book) (booked : booked_by book' ≡ booked_by book) where
        s : Stays
        s = begun_stays begun e

        w : World
        w = record v { slots = joint.with_slot v.slots n (joint.slot_up (joint_seen b) up.records) }

        begun_leads : LeadsTo on (Ok (said_of_begin begun.0)) (step.Begin n call) start (state_with new flying' seconds book') v
        unfolding w
        begun_leads =
            let d = did_by v.seconds (Ok begun) e in
            let (next, now, puts_so) = puts.each tells w (record { all = mid_stand s v.slots all up; flies = st.mail.flying; sent = st.mail.sent }) in
            let (slots, sec, bk) = puts_same on tells begun.1.letters w next puts_so in
            let seen : (mail_world_of next).slots ≡ with_slot (mail_world_of v).slots n (slot_up (node_seen b.mail) up.records) =
            ap (map mail_slot) slots ∙ mail_set v.slots n (joint.slot_up (joint_seen b) up.records) in
            record {
              next = next;
              stands = stands_all on new flying' seconds book' next now (st.mail.seconds ∙ sym sec) (booked ∙ st.mail.book ∙ sym bk);
              made = (
                step_goes d.fresh,
                joint_makes.DoesStep.Begins n c refl (made_by old.plan tells (is_some (on.seen ch.disk)) flag v n (joint_seen a) up.records up.here (joint_seen b) begun.1.letters next puts_so c begun.0 d.ticket_is
                    (d.done.did up.records up.stands.keeps (subst (λ k. TellsJournal (on.seen ch.disk) k (payloads_of up.records) (end_in a.mail)) (sym ch.does.of.own_is) up.stands.tells))),
              );
              stops = read_stops on old new (goes_beside on old mid new (goes s) puts.beside) flying flying' seconds book book' (mail_world_of v).slots (mail_world_of next).slots st.mail.slots
                  (λ m. ap (λ (xs : List plain.Slot). kept_at (slot_at xs m)) seen ∙ records_kept (mail_world_of v).slots n (slot_up (node_seen a.mail) up.records) (slot_up (node_seen b.mail) up.records) mail_up refl m);
            }

      -- nothing was changed
      module _ (s : Stays) (same : IsUnchanged a b) (book' : Book) (booked : booked_by book' ≡ booked_by book) where
        all_again : AllStand on mid.lives.items mid.disks.items v.slots
        all_again = subst (λ slots. AllStand on mid.lives.items mid.disks.items slots)
            (ap (λ (node : joint.Node). joint.with_slot v.slots n (joint.slot_up node up.records)) (unchanged_seen a b same) ∙ again v.slots n (joint.slot_up (joint_seen a) up.records) up.here)
            (mid_stand s v.slots all up)

        same_leads : (why : StepFault) → joint_makes.MakesStep old.plan tells v (whole_step (step.Begin n call)) (Rattle.cluster_world.specs.Seen.whole_outcome (Err why)) v
            → LeadsTo on (Err why) (step.Begin n call) start (state_with mid flying seconds book') v
        same_leads why made = record {
          next = v;
          stands = record {
            mail = record { slots = all_again.mail; flying = st.mail.flying; sent = st.mail.sent; seconds = st.mail.seconds; book = booked ∙ st.mail.book };
            maps = all_again.maps;
            reads = all_again.reads;
          };
          made = made;
          stops = read_stops on old mid (goes s) flying flying seconds book book' (mail_world_of v).slots (mail_world_of v).slots st.mail.slots (λ m. refl);
        }

      -- the node fell
      module _ (down : ch.life' ≡ Down) (read : IsOnlyRead on ch.disk ch.disk') (book' : Book) (booked : booked_by book' ≡ booked_by book ++ WentDown n ∷ []) where
        slot : joint.Slot
        slot = record { life = joint.Life.Down []; disk = up.records }

        seen : plain.Slot
        seen = slot_up (node_seen a.mail) up.records

        no_more : (record { life = plain.Life.Down []; disk = up.records ++ [] }) ≡ mail_of slot
        unfolding slot
        no_more = ap (λ xs. record { life = plain.Life.Down []; disk = xs }) (append-nil up.records)

        all_fallen : AllStand on mid.lives.items mid.disks.items (joint.with_slot v.slots n slot)
        unfolding slot seen
        all_fallen = all_changed n P old mid ch on v.slots (joint.slot_up (joint_seen a) up.records) slot all up.here
            (subst (λ l. SlotStands on n l ch.disk' (mail_of slot)) (sym down) (subst (λ (x : plain.Slot). SlotStands on n Down ch.disk' x) no_more (read_down on n a ch.disk ch.disk' read seen (node_seen a.mail, refl, up.stands))))
            (λ node is. absurd (not_up node (sym down ∙ is)))

        fell_leads : is_worn_for old.plan v.seconds (node_seen a.mail) c ≡ false → ReadsOwnDisk n a c → LeadsTo on (Ok (said.Faulted n)) (step.Begin n call) start (state_with mid flying seconds book') v
        unfolding slot seen
        fell_leads fresh reads = record {
          next = joint_makes.fallen v n up.records;
          stands = record {
            mail = record { slots = all_fallen.mail; flying = st.mail.flying; sent = st.mail.sent; seconds = st.mail.seconds; book = booked ∙ ap (λ xs. xs ++ WentDown n ∷ []) st.mail.book };
            maps = all_fallen.maps;
            reads = all_fallen.reads;
          };
          made = (step_goes fresh, joint_makes.DoesStep.Begins n c refl (fails_made old.plan tells v n a up.records c up.here reads));
          stops = record {
            each = λ m d d' x x' e f p q alive.
                stops_kept n P old mid ch on (mail_world_of v).slots seen (mail_of slot) st.mail.slots mail_up
                (λ _. subst (λ (y : plain.Slot). StopsKeep on n ch.disk ch.disk' seen y) no_more (read_cut on n a ch.disk ch.disk' read seen (node_seen a.mail, refl, up.stands)))
                m d d' x x' e f p (sym (ap (λ (ys : List plain.Slot). slot_at ys m) (mail_set v.slots n slot)) ∙ q) alive;
          };
        }

    -- what is done, whatever the world is
    module _ (book' : Book) where
      begun_did : (begun : Option Number × Outbox) → began ≡ Ok begun → Rattle.cluster_world.specs.BeginningReads.IsReadCall c → (new : Nodes D) (flying' : InFlight) → PutsQueue on begun.1.letters mid flying new flying' → entries_of book' ≡ entries_of book
          → StepDid on (Ok (said_of_begin begun.0)) (step.Begin n call) start (state_with new flying' seconds book')
      begun_did begun e reads new flying' puts wrote =
          let d = did_by seconds (Ok begun) e in
          read_did on old new (goes_beside on old mid new (goes (begun_stays begun e)) puts.beside) flying flying' seconds book book' (Ok (said_of_begin begun.0)) (step.Begin n call) refl (sym fit)
          (says_so old.plan true call n (node_seen a.mail) (joint_seen a) [] (record { node = joint_seen a; out = [] }) begun.0 d.ticket_is reads) (said_goes begun.0 old.plan.nodes n call (life_among old))
          (λ m. sym (said_stays begun.0 n call m (life_among old m))) tt (longer_by book book' [] (wrote ∙ sym (append-nil (entries_of book)))) tt
          (λ known ended story v st sound. begun_leads v st begun e new flying' puts book' (ap entries_seen wrote))
          (said_causes on begun.0 n call start (state_with new flying' seconds book'))

      kept_did : (why : StepFault) (s : Stays) → IsUnchanged a b → IsRefusedRight (Err why) (node_refusal old.plan (life_among old) (step.Begin n call)) → FallsSo (Err why) old.plan.nodes (step.Begin n call) (life_among old)
          → ((m : ℕ) → life_after_step (Err why) (step.Begin n call) m (life_among old m) ≡ life_among old m) → entries_of book' ≡ entries_of book
          → ((v : World) → StandsForAll on start v → joint_makes.MakesStep old.plan (tells_in on.seen start) v (whole_step (step.Begin n call)) (Rattle.cluster_world.specs.Seen.whole_outcome (Err why)) v)
          → StepDid on (Err why) (step.Begin n call) start (state_with mid flying seconds book')
      kept_did why s same refused falls lives wrote made =
          read_did on old mid (goes s) flying flying seconds book book' (Err why) (step.Begin n call) refl refused tt falls (λ m. sym (lives m)) tt (longer_by book book' [] (wrote ∙ sym (append-nil (entries_of book))))
          (changes_none on why (step.Begin n call) start (state_with mid flying seconds book') (unchanged_by n P old mid ch flying flying seconds seconds book book' on (step.Begin n call)
          (ap (λ (x : Life). memory_of_life (Some x)) s.is ∙ ap Some (unchanged_seen a b same) ∙ sym (ap (λ (x : Life). memory_of_life (Some x)) ch.does.was))
          (λ away. absurd (away refl)) (λ _. (s.read, s.quiet)) refl refl (ap entries_seen wrote)))
          (λ known ended story v st sound. same_leads v st s same book' (ap entries_seen wrote) why (made v st))
          tt

      worn_did : began ≡ Err Worn → entries_of book' ≡ entries_of book → StepDid on (Err fault.Worn) (step.Begin n call) start (state_with mid flying seconds book')
      worn_did e wrote = kept_did fault.Worn (worn_stays e) (did_by 0 (Err Worn) e).1 (sym fit) tt (λ m. refl) wrote (λ v st. (inl (step_is_worn v st (did_by v.seconds (Err Worn) e).0), refl))

      short_did : began ≡ Err (NoMemory false) → entries_of book' ≡ entries_of book → StepDid on (Err (fault.NoMemory None)) (step.Begin n call) start (state_with mid flying seconds book')
      short_did e wrote = kept_did (fault.NoMemory None) (short_stays e) (did_by 0 (Err (NoMemory false)) e).unchanged tt tt (λ m. refl) wrote (λ v st. refl)

      fell_did : began ≡ Err Disk → entries_of book' ≡ entries_of book ++ written.Down n ∷ [] → StepDid on (Ok (said.Faulted n)) (step.Begin n call) start (state_with mid flying seconds book')
      fell_did e wrote =
          let d = did_by seconds (Err Disk) e in
          let down = life_by (Err Disk) e in
          let (above, within) = within_of old.plan n (nodes_of_call c) (begin_named n call old fit) in
          record {
            plan = ch.plan;
            handed = as_many n P old mid ch;
            refused = sym fit;
            kind = fault_so call n (reads_kind n a c d.reads);
            falls = record { above = above; within = within; worked = inl ((node_seen a.mail).boot, ap seen_life here) };
            lives = λ m. lives_turned n P old mid ch m ∙ ap (λ l. turned n (life_seen l) m (life_among old m)) down;
            told = told_by n P old mid ch flying flying seconds seconds book book' on.seen (ap (λ (o : Option (List ℕ)). is_some o) d.failed.read.seen);
            quiet = quiet_by n P old mid ch flying flying seconds seconds book book' on.faults d.failed.later (λ boot now. absurd (let never : life.Down ≡ life.Up boot = sym (ap life_seen down) ∙ now in cc));
            clock = refl;
            passed = tt;
            books = longer_by book book' (written.Down n ∷ []) wrote;
            kept = tt;
            leads = λ known ended story v st sound. fell_leads v st down d.failed.read book' (ap entries_seen wrote ∙ entries_more (entries_of book) (written.Down n ∷ [])) (did_by v.seconds (Err Disk) e).fresh d.reads;
            cause = λ w st x x' p q. by_cause w st x x' p q d.reads d.failed.cause;
          }
        where
          risen : (x x' : D) → of_node old.disks.items n ≡ Some x → of_node mid.disks.items n ≡ Some x' → Rose (on.faults ch.disk) (on.faults ch.disk') ⊎ ((on.seen ch.disk ≡ None) × MayReadAmiss call)
              → Rose (on.faults x) (on.faults x') ⊎ ((on.seen x ≡ None) × MayReadAmiss call)
          risen x x' p q r =
              let x_is : ch.disk ≡ x = some_same ch.disk x (sym ch.held ∙ p) in
              let x'_is : ch.disk' ≡ x' = some_same ch.disk' x' (sym (disk_there n P old mid ch) ∙ q) in
              subst (λ y. Rose (on.faults x) (on.faults y) ⊎ ((on.seen x ≡ None) × MayReadAmiss call)) x'_is
              (subst (λ y. Rose (on.faults y) (on.faults ch.disk') ⊎ ((on.seen y ≡ None) × MayReadAmiss call)) x_is r)

          told_wrong : (w : machine.World) → StateStandsFor on start w
              → ((records : List Record) → Rattle.node_core.specs.Nodes.NodeKeeps records a.mail → TellsJournal (on.seen ch.disk) n (payloads_of records) (end_in a.mail) → ⊥) → ⊥
          told_wrong w st never =
              let (slot, there, stood) = slot_of on old.lives.items old.disks.items w.slots n (Up a) ch.disk st.slots here ch.held in
              let (seen, is, s) = stood in
              never slot.disk s.keeps s.tells

          by_cause : (w : machine.World) → StateStandsFor on start w → (x x' : D) → of_node old.disks.items n ≡ Some x → of_node mid.disks.items n ≡ Some x' → ReadsOwnDisk n a c
              → (on.seen ch.disk ≡ None) ⊎ Rose (on.faults ch.disk) (on.faults ch.disk') ⊎ ((records : List Record) → Rattle.node_core.specs.Nodes.NodeKeeps records a.mail → TellsJournal (on.seen ch.disk) n (payloads_of records) (end_in a.mail) → ⊥)
              → Rose (on.faults x) (on.faults x') ⊎ ((on.seen x ≡ None) × MayReadAmiss call)
          by_cause w st x x' p q reads (inl none) = risen x x' p q (inr (none, reads_amiss n a call reads))
          by_cause w st x x' p q reads (inr (inl rose)) = risen x x' p q (inl rose)
          by_cause w st x x' p q reads (inr (inr never)) = absurd (told_wrong w st never)

  -- What comes of it, and what else holds of it.
  module _ (flying : InFlight) (book roomy : Book) (same_book : entries_of roomy ≡ entries_of book) (new : Nodes D) (flying' : InFlight) (book' : Book) (result : Result Said StepFault) where
    abbrev Done : ℕ → Type 0
    Done seconds = StepDid on result (step.Begin n call) (state_with old flying seconds book) (state_with new flying' seconds book')

    moved : (seconds : ℕ) (said_is : Result Said StepFault) → result ≡ said_is → new ≡ mid → flying' ≡ flying
        → StepDid on said_is (step.Begin n call) (state_with old flying seconds book) (state_with mid flying seconds book') → Done seconds
    moved seconds said_is e nodes_are flies did =
        subst (λ r. StepDid on r (step.Begin n call) (state_with old flying seconds book) (state_with new flying' seconds book')) (sym e)
        (subst (λ (x : Nodes D). StepDid on said_is (step.Begin n call) (state_with old flying seconds book) (state_with x flying' seconds book')) (sym nodes_are)
        (subst (λ (f : InFlight). StepDid on said_is (step.Begin n call) (state_with old flying seconds book) (state_with mid f seconds book')) (sym flies) did))

    module _ (early : nat_le letters_end flying.sent ≡ false) (reads : Rattle.cluster_world.specs.BeginningReads.IsReadCall c) (seconds : ℕ) where
      by_failing : (why : NodeFault) → began ≡ Err why → FellShort on n result mid flying roomy new flying' book' why → Done seconds
      by_failing Disk e f = moved seconds (Ok (said.Faulted n)) f.said_is f.nodes_are f.flies (fell_did flying early seconds book book' e (f.wrote ∙ ap (λ ys. ys ++ written.Down n ∷ []) same_book))
      by_failing Worn e f = moved seconds (Err fault.Worn) f.said_is f.nodes_are f.flies (worn_did flying early seconds book book' e (f.wrote ∙ append-nil (entries_of roomy) ∙ same_book))
      by_failing (NoMemory true) e f = absurd (did_by 0 (Err (NoMemory true)) e)
      by_failing (NoMemory false) e f = moved seconds (Err (fault.NoMemory None)) f.said_is f.nodes_are f.flies (short_did flying early seconds book book' e (f.wrote ∙ append-nil (entries_of roomy) ∙ same_book))

      done_by : (r : Began) → began ≡ r → ConcludesReading on n result mid flying roomy new flying' book' r → Done seconds
      done_by (Ok begun) e con =
          subst (λ r. StepDid on r (step.Begin n call) (state_with old flying seconds book) (state_with new flying' seconds book')) (sym con.said_is)
          (begun_did flying early seconds book book' begun e reads new flying' con.puts (ap entries_of con.same ∙ same_book))
      done_by (Err why) e con = by_failing why e con

      pub read_begun : ConcludesReading on n result mid flying roomy new flying' book' began → Done seconds
      read_begun con = done_by began refl con

    -- the nodes can work
    fell_ready : ch.life' ≡ Down → CanWorkOn on.seen mid.plan mid.lives.items mid.disks.items
    fell_ready down = subst (λ p. CanWorkOn on.seen p mid.lives.items mid.disks.items) (sym ch.plan) (still_ready n P old mid ch on.seen old.plan ready (λ node up. absurd (not_up node (sym down ∙ up))))

    ready_of : (r : Began) → began ≡ r → CanWorkOn on.seen mid.plan mid.lives.items mid.disks.items
    ready_of (Ok begun) e = mid_ready (begun_stays begun e)
    ready_of (Err Disk) e = fell_ready (life_by (Err Disk) e)
    ready_of (Err Worn) e = mid_ready (worn_stays e)
    ready_of (Err (NoMemory true)) e = absurd (did_by 0 (Err (NoMemory true)) e)
    ready_of (Err (NoMemory false)) e = mid_ready (short_stays e)

    new_ready : (r : Began) → began ≡ r → ConcludesReading on n result mid flying roomy new flying' book' r → CanWorkOn on.seen new.plan new.lives.items new.disks.items
    new_ready (Ok begun) e con = con.puts.beside.works (ready_of (Ok begun) e)
    new_ready (Err why) e con = subst (λ (x : Nodes D). CanWorkOn on.seen x.plan x.lives.items x.disks.items) (sym con.nodes_are) (ready_of (Err why) e)

    pub read_ready : ConcludesReading on n result mid flying roomy new flying' book' began → CanWorkOn on.seen new.plan new.lives.items new.disks.items
    read_ready con = new_ready began refl con

    -- the book has room for what may come
    falls_of : (r : Began) → began ≡ r → all_falls_left mid.lives.items ≤ all_falls_left old.lives.items
    falls_of (Ok begun) e = let same = mid_falls (begun_stays begun e) in omega (arith, same)
    falls_of (Err Disk) e =
        let now = falls_now n P old mid ch in
        let before = ap falls_left ch.does.was in
        let after = ap falls_left (life_by (Err Disk) e) in
        omega (arith, now, before, after)
    falls_of (Err Worn) e = let same = mid_falls (worn_stays e) in omega (arith, same)
    falls_of (Err (NoMemory true)) e = absurd (did_by 0 (Err (NoMemory true)) e)
    falls_of (Err (NoMemory false)) e = let same = mid_falls (short_stays e) in omega (arith, same)

    new_falls : (r : Began) → began ≡ r → ConcludesReading on n result mid flying roomy new flying' book' r → all_falls_left new.lives.items ≤ all_falls_left old.lives.items
    new_falls (Ok begun) e con = let f = con.puts.beside.falls in omega (arith, f, falls_of (Ok begun) e)
    new_falls (Err why) e con = let f = ap (λ (x : Nodes D). all_falls_left x.lives.items) con.nodes_are in omega (arith, f, falls_of (Err why) e)

    pub read_falls : ConcludesReading on n result mid flying roomy new flying' book' began → all_falls_left new.lives.items ≤ all_falls_left old.lives.items
    read_falls con = new_falls began refl con

    -- the disks of nodes that are up are settled
    module _ (seconds : ℕ) where
      abbrev Settles : Nodes D → InFlight → Type 0
      Settles x f = AreSettled is_settled (state_with old flying seconds book) → AreSettled is_settled (state_with x f seconds book')

      settles_of : (r : Began) → began ≡ r → Settles mid flying
      settles_of (Ok begun) e = mid_settles (begun_stays begun e) flying flying seconds book book'
      settles_of (Err Disk) e = settled_by n P old mid ch flying flying seconds seconds book book' is_settled
          (λ boot now was. absurd (let never : life.Down ≡ life.Up boot = sym (ap life_seen (life_by (Err Disk) e)) ∙ now in cc))
      settles_of (Err Worn) e = mid_settles (worn_stays e) flying flying seconds book book'
      settles_of (Err (NoMemory true)) e = absurd (did_by 0 (Err (NoMemory true)) e)
      settles_of (Err (NoMemory false)) e = mid_settles (short_stays e) flying flying seconds book book'

      new_settles : (r : Began) → began ≡ r → ConcludesReading on n result mid flying roomy new flying' book' r → Settles new flying'
      new_settles (Ok begun) e con = λ was. beside_settled on mid new con.puts.beside flying flying' seconds book' book' is_settled (settles_of (Ok begun) e was)
      new_settles (Err why) e con = subst (λ (x : Nodes D). Settles x flying') (sym con.nodes_are) (subst (λ (f : InFlight). Settles mid f) (sym con.flies) (settles_of (Err why) e))

      pub read_settled : ConcludesReading on n result mid flying roomy new flying' book' began → Settles new flying'
      read_settled con = new_settles began refl con

  -- what it needs of the node's answer
  pub read_mid_ready : CanWorkOn on.seen mid.plan mid.lives.items mid.disks.items
  read_mid_ready = mid_by began refl
    where
      mid_by : (r : Began) → began ≡ r → CanWorkOn on.seen mid.plan mid.lives.items mid.disks.items
      mid_by (Ok begun) e = mid_ready (begun_stays begun e)
      mid_by (Err Disk) e = subst (λ p. CanWorkOn on.seen p mid.lives.items mid.disks.items) (sym ch.plan)
          (still_ready n P old mid ch on.seen old.plan ready (λ node up. absurd (not_up node (sym (life_by (Err Disk) e) ∙ up))))
      mid_by (Err Worn) e = mid_ready (worn_stays e)
      mid_by (Err (NoMemory true)) e = absurd (did_by 0 (Err (NoMemory true)) e)
      mid_by (Err (NoMemory false)) e = mid_ready (short_stays e)

  pub read_sends : IfOk began (λ begun. CanBePut begun.1.letters)
  read_sends = sends_by began refl
    where
      sends_by : (r : Began) → began ≡ r → IfOk r (λ begun. CanBePut begun.1.letters)
      sends_by (Ok begun) e = Rattle.cluster_world.proofs.BeginReads.sent_put begun.1.letters (did_by 0 (Ok begun) e).done.letters
      sends_by (Err why) e = tt
