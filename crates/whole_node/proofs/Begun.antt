-- A call that has begun, and the maps after it.
use Rattle.std.proofs.Common.{◌≡◌, ◌≢◌, ℕ, zero, suc, ◌+◌, ◌<◌, ◌≤◌, Bool, true, false, ◌&&◌, cond, List, [], ◌∷◌, ◌++◌, map, Option, Some, None, refl, sym, ap, ◌∙◌, subst, true≢false, nat_eq, eq-eqb, arith, append-nil, if◌then◌else◌}
use Rattle.std.specs.Prelude.{All, flat_map, length, Result, Ok, Err, ⊤}
use Rattle.std.proofs.lemmas.List.Elements.{All-nil}
use Rattle.std.specs.Cmp.{nat_cmp_total}
use Rattle.std.specs.FinMap as fin
use Rattle.std.proofs.lemmas.Map.Lookups.{exact_unsigned}
use Rattle.mail_model.specs.Plan.{Plan}
use Rattle.mail_model.specs.Told.{Mail}
use Rattle.mail_model.specs.Record.{Record}
use Rattle.object_model.specs.Sets.{has, one_node}
use Rattle.object_model.specs.Letters.{Number, Letter}
use Rattle.object_model.specs.Mishaps.{no_mishaps}
use Rattle.object_model.proofs.SetLaws.{one_has}
use Rattle.object_model.proofs.MapLaws.{written}
use Rattle.cluster_model.specs.Cluster as plain
use Rattle.sha2.specs.Sha256.{sha256}
use Rattle.cluster_model.specs.Makes.{begun_by, asked_for, targets_for, IsFiled}
use Rattle.cluster_model.specs.Rules as rules
use Rattle.cluster_model.specs.Rules.{new_number}
use Rattle.cluster_model.specs.Steps.{Struck, NodeCall, mishaps_of_call, fails_at_once, ids_drawn, is_worn_for}
use Rattle.cluster_model.specs.Steps.NodeCall.{Deliver, Login, Fetch, Strike, Leave}
use Rattle.node_tickets.specs.Standing.{wants_at, tickets_in}
use Rattle.node_store.specs.Disks.{View}
use Rattle.node_store.specs.declared.fault.KeepFault.TheVariants as keep
use Rattle.node_core.specs.Nodes.{node_seen, NodeKeeps, IsNodeOf, IsShape, IsWhole, CanWork, IsAsBefore}
use Rattle.node_core.proofs.Going.{beginning_goes_on}
use Rattle.node_core.specs.Standing.{ticket_standing}
use Rattle.node_core.specs.Works.{NodeDid, LeavesUp}
use Rattle.node_core.specs.Beginning.{at_second, IsTextEnded, CallDid, CallBegun, CallStopped, NodeBegins}
use Rattle.node_core.specs.Beginning.CallDid.{AtOnce, Goes}
use Rattle.node_core.specs.declared.fault.NodeFault.{NodeFault}
use Rattle.node_core.specs.declared.fault.NodeFault.TheVariants.{Disk, Worn, NoMemory}
use Rattle.node_core.specs.declared.outbox.Outbox.{Outbox}
use Rattle.node_core.specs.declared.node.Node.{Node}
use Rattle.node_maps.specs.Nodes.{own_of}
use Rattle.joint_model.specs.Joint.Life.{Up}
use Rattle.joint_world.specs.Staying.{KeepsReads}
use Rattle.whole_node.specs.Nodes.{joint_seen, HasMaps, KeepsBeside, WholeWorks}
use Rattle.whole_node.specs.Noting.{Copy, NotesCopies, copies_confirmed, NotesBegun, WantsSome}
use Rattle.whole_node.specs.Following.{MapsFollow, MapsStay, CallFollowed, FollowsCall}
use Rattle.whole_node.specs.declared.node.WholeNode.{WholeNode}
use Rattle.whole_node.proofs.Led.{led_none}
use Rattle.whole_node.proofs.Taking.{Leads, leads_none}
use Rattle.whole_node.proofs.Ruled.{leads_delivered, leads_deleted}
use Rattle.whole_node.specs.Hearing.{FitsMaps}
use Rattle.whole_node.proofs.Mailing.{begins_mail}
use Rattle.whole_node.proofs.Beside.{Outlasts, works_on, beside_on}
use Rattle.whole_node.proofs.Called.{plan_of, is_of, done_stops, knows_any, follows_led, outlasts_after, outlasts_same}

-- the own node is one of itself
own_in : (own nodes : ℕ) → 0 < own → own ≤ nodes → nodes ≤ 16 → has (one_node own) own ≡ true
own_in zero nodes some within few = absurd (omega (arith, some))
own_in (suc k) nodes some within few = one_has k (omega (arith, within, few))

-- the ticket that was opened last
opened : (own : ℕ) (old new : Node) (ticket : plain.Ticket) → old.store.own ≡ own → new.store.own ≡ own → (node_seen new).boot ≡ (node_seen old).boot
    → (node_seen new).tickets ≡ fin.insert (node_seen old).tickets ((node_seen old).calls + 1) ticket → ticket_standing new (new_number own (node_seen old)) ≡ Some ticket
opened own old new ticket was is boot tickets =
    ap (λ (b : Bool). cond b (fin.get (node_seen new).tickets ((node_seen old).calls + 1)) None) (ap (λ (b : Bool). b && nat_eq (node_seen old).boot (node_seen new).boot) (eq-eqb own new.store.own (sym is)) ∙ eq-eqb (node_seen old).boot (node_seen new).boot (sym boot))
    ∙ ap (λ (t : plain.Tickets). fin.get t ((node_seen old).calls + 1)) tickets
    ∙ written nat_cmp_total exact_unsigned (node_seen old).tickets ((node_seen old).calls + 1) ticket

module _ {D : Type 0} (on : View D) (plan : Plan) (own seconds : ℕ) (old : WholeNode) (before : D) (new : WholeNode) (after : D) (is : IsNodeOf plan own old.mail) (holds : HasMaps old) (whole : IsWhole old.mail) where
  here : own_of old.maps ≡ own
  here = holds.own ∙ is.own_is

  one : has (one_node own) own ≡ true
  one = own_in own old.mail.shape.nodes (subst (λ (n : ℕ). 0 < n) is.own_is whole.shape.some) (subst (λ (n : ℕ). n ≤ old.mail.shape.nodes) is.own_is whole.shape.within) whole.shape.few

  -- what the node notes once the call has begun, under its ticket
  abbrev pub NotesUnder : Number → Type 0
  NotesUnder number = (records : List Record) → NodeKeeps records new.mail → NotesCopies records (flat_map (copies_confirmed new.mail.store.own) (wants_at (ticket_standing new.mail number))) old.maps new.maps

  -- with these wants
  noted_as : (number : Number) (wants : List plain.Want) → new.mail.store.own ≡ own → wants_at (ticket_standing new.mail number) ≡ wants → NotesUnder number
      → (records : List Record) → NodeKeeps records new.mail → NotesCopies records (flat_map (copies_confirmed own) wants) old.maps new.maps
  noted_as number wants mine are notes records keeps =
      subst (λ (n : ℕ). NotesCopies records (flat_map (copies_confirmed n) wants) old.maps new.maps) mine
      (subst (λ (w : List plain.Want). NotesCopies records (flat_map (copies_confirmed new.mail.store.own) w) old.maps new.maps) are (notes records keeps))

  -- whichever rule was done, it opened a ticket with these wants
  wants_of : (rule : plain.Node → List Record → rules.Reaction) (sent : List Letter) (ticket : plain.Ticket) → NodeDid on rule old.mail before new.mail after sent
      → ((rule (node_seen old.mail) holds.records).node).tickets ≡ fin.insert (node_seen old.mail).tickets ((node_seen old.mail).calls + 1) ticket
      → wants_at (ticket_standing new.mail (new_number own (node_seen old.mail))) ≡ ticket.wants
  wants_of rule sent ticket d opens = ap wants_at (opened own old.mail new.mail ticket is.own_is (d.same plan own is).own_is d.boot
      (sym (ap (λ (n : plain.Node). n.tickets) (d.node holds.records holds.keeps)) ∙ opens))

  -- a delivery
  delivery_leads : (mail : Mail) (octets : List ℕ) (sent : List Letter) → NodeDid on (λ node disk. begun_by plan (at_second seconds) own node disk (Deliver mail) octets) old.mail before new.mail after sent
      → NotesUnder (new_number own (node_seen old.mail)) → (records : List Record) → NodeKeeps records old.mail
      → Leads (own_of old.maps) records (begun_by plan (at_second seconds) own (node_seen old.mail) records (Deliver mail) octets).disk old.maps new.maps
  delivery_leads mail octets sent d notes records keeps =
      let node = node_seen old.mail in
      let targets = targets_for plan own node in
      let filing : plain.NodeFiling = record { id = record { node = own; boot = node.boot; seq = node.drawn + 1 }; users = mail.mailboxes; seconds = seconds; size = length octets; digest = sha256 octets } in
      let ticket : plain.Ticket = record { kind = plain.CallKind.Delivering; wants = rules.new_want own (plain.AskedOfNodes.Copies filing) targets ∷ []; mishaps = no_mishaps } in
      let are = wants_of (λ node disk. begun_by plan (at_second seconds) own node disk (Deliver mail) octets) sent ticket d refl in
      let n = noted_as (new_number own node) ticket.wants (d.same plan own is).own_is are notes (records ++ d.added) (d.keeps records keeps) in
      subst (λ (k : ℕ). Leads k records (begun_by plan (at_second seconds) own node records (Deliver mail) octets).disk old.maps new.maps) (sym here)
      (leads_delivered own records old.maps here (knows_any old holds records keeps) plan.nodes seconds node new.maps mail.mailboxes octets targets one filing refl refl
      (subst (λ (l : List Record). NotesCopies l (flat_map (copies_confirmed own) ticket.wants) old.maps new.maps) (sym (d.disk records keeps)) n))

  -- a deletion
  deletion_leads : (user : List ℕ) (items : List Struck) (octets : List ℕ) (sent : List Letter) → NodeDid on (λ node disk. begun_by plan (at_second seconds) own node disk (Strike user items) octets) old.mail before new.mail after sent
      → NotesUnder (new_number own (node_seen old.mail)) → (records : List Record) → NodeKeeps records old.mail
      → Leads (own_of old.maps) records (begun_by plan (at_second seconds) own (node_seen old.mail) records (Strike user items) octets).disk old.maps new.maps
  deletion_leads user items octets sent d notes records keeps =
      let node = node_seen old.mail in
      let asked = asked_for plan own node items in
      let ticket : plain.Ticket = record {
        kind = plain.CallKind.Striking;
        wants = map (λ (item : rules.StrikeItem). rules.new_want own (plain.AskedOfNodes.Deletion user item.mark.id) item.asks) (rules.dated own node node.count asked);
        mishaps = no_mishaps;
      } in
      let are = wants_of (λ node disk. begun_by plan (at_second seconds) own node disk (Strike user items) octets) sent ticket d refl in
      let n = noted_as (new_number own node) ticket.wants (d.same plan own is).own_is are notes (records ++ d.added) (d.keeps records keeps) in
      subst (λ (k : ℕ). Leads k records (begun_by plan (at_second seconds) own node records (Strike user items) octets).disk old.maps new.maps) (sym here)
      (leads_deleted own records old.maps here (knows_any old holds records keeps) plan.nodes node new.maps user asked one
      (subst (λ (l : List Record). NotesCopies l (flat_map (copies_confirmed own) ticket.wants) old.maps new.maps) (sym (d.disk records keeps)) n))

  -- a call that appends nothing leaves the maps as they are
  idle_leads : new.maps ≡ old.maps → (records : List Record) → NodeKeeps records old.mail → Leads (own_of old.maps) records records old.maps new.maps
  idle_leads same records keeps = subst (Leads (own_of old.maps) records records old.maps) (sym same) (leads_none (own_of old.maps) records old.maps refl (knows_any old holds records keeps))

  some_is : (a b : Number) → Some a ≡ Some b → a ≡ b
  some_is a b e = cc

  none_some : (a : Number) → None ≡ Some a → ⊥
  none_some a e = cc

  led_by : (call : NodeCall) (octets those : List ℕ) (sent : List Letter) → IsFiled (at_second seconds) own (node_seen old.mail) call those
      → NodeDid on (λ node disk. begun_by plan (at_second seconds) own node disk call octets) old.mail before new.mail after sent
      → NotesUnder (new_number own (node_seen old.mail)) → (records : List Record) → NodeKeeps records old.mail
      → Leads (own_of old.maps) records (begun_by plan (at_second seconds) own (node_seen old.mail) records call octets).disk old.maps new.maps
  led_by (Deliver mail) octets those sent filed d notes = delivery_leads mail octets sent d notes
  led_by (Strike user items) octets those sent filed d notes = deletion_leads user items octets sent d notes
  led_by (Login user proof) octets those sent filed d notes = absurd filed
  led_by (Fetch user id from most holders) octets those sent filed d notes = absurd filed
  led_by (Leave user login manager) octets those sent filed d notes = absurd filed

  module _ (call : NodeCall) where
    abbrev begun : List ℕ → plain.Node → List Record → rules.Reaction
    begun octets node disk = begun_by plan (at_second seconds) own node disk call octets

    abbrev refusing : plain.CallKind → plain.Node → List Record → rules.Reaction
    refusing kind = rules.refuse kind (mishaps_of_call plan seconds (node_seen old.mail) call) (ids_drawn call)

    abbrev Did : Option Number → List Letter → Type 0
    Did ticket sent = CallDid on plan own seconds call old.mail before new.mail after ticket sent

    refused : (kind : plain.CallKind) (sent : List Letter) → NodeDid on (refusing kind) old.mail before new.mail after sent
        → wants_at (ticket_standing new.mail (new_number own (node_seen old.mail))) ≡ []
    refused kind sent d = wants_of (refusing kind) sent (record { kind = kind; wants = []; mishaps = mishaps_of_call plan seconds (node_seen old.mail) call }) d refl

    -- where the ticket wants nothing, nothing was noted
    unchanged : (kind : plain.CallKind) (sent : List Letter) → NodeDid on (refusing kind) old.mail before new.mail after sent → NotesUnder (new_number own (node_seen old.mail)) → new.maps ≡ old.maps
    unchanged kind sent d notes = noted_as (new_number own (node_seen old.mail)) [] (d.same plan own is).own_is (refused kind sent d) notes (holds.records ++ d.added) (d.keeps holds.records holds.keeps)

    under_it : (ticket : Option Number) (number : Number) → ticket ≡ Some (new_number own (node_seen old.mail)) → ticket ≡ Some number → NotesUnder number → NotesUnder (new_number own (node_seen old.mail))
    under_it ticket number ticket_is it notes = subst NotesUnder (some_is number (new_number own (node_seen old.mail)) (sym it ∙ ticket_is)) notes

    pub noted_follows : (ticket : Option Number) (number : Number) (sent : List Letter) → Did ticket sent → ticket ≡ Some number → NotesUnder number → CallFollowed on plan own seconds call old before new after
    noted_follows ticket number sent (AtOnce kind kind_is fails ticket_is d) it notes = record {
      at_once = λ f. unchanged kind sent d (under_it ticket number ticket_is it notes);
      goes = λ g octets out e. absurd (true≢false (sym fails ∙ g));
    }
    noted_follows ticket number sent (Goes octets goes filed ticket_is d) it notes = record {
      at_once = λ f. absurd (true≢false (sym f ∙ goes));
      goes = λ g o out e. follows_led old holds (begun o) new (led_by call o octets out filed e (under_it ticket number ticket_is it notes));
    }

    pub noted_has : (ticket : Option Number) (number : Number) (sent : List Letter) → Did ticket sent → ticket ≡ Some number → NotesUnder number → Outlasts old new
    noted_has ticket number sent (AtOnce kind kind_is fails ticket_is d) it notes =
        outlasts_after old holds on (refusing kind) before new after sent d (λ records. refl) (idle_leads (unchanged kind sent d (under_it ticket number ticket_is it notes)))
    noted_has ticket number sent (Goes octets goes filed ticket_is d) it notes =
        outlasts_after old holds on (begun octets) before new after sent d (λ records. (begins_mail plan (at_second seconds) own (node_seen old.mail) records call octets).epoch)
        (led_by call octets octets sent filed d (under_it ticket number ticket_is it notes))

    -- whatever it sends fits
    begun_fits_by : (ticket : Option Number) (sent : List Letter) → Did ticket sent → All FitsMaps sent
    begun_fits_by ticket sent (AtOnce kind kind_is fails ticket_is d) = subst (All FitsMaps) (d.out holds.records holds.keeps) (All-nil FitsMaps)
    begun_fits_by ticket sent (Goes octets goes filed ticket_is d) =
        subst (All FitsMaps) (d.out holds.records holds.keeps) (begins_mail plan (at_second seconds) own (node_seen old.mail) holds.records call octets).fits

    -- memory ran out as its copies were noted
    pub noting_stops : (ticket : Option Number) (number : Number) (sent : List Letter) → is_worn_for plan seconds (node_seen old.mail) call ≡ false → Did ticket sent → ticket ≡ Some number
        → (wants_at (ticket_standing new.mail number) ≡ [] → ⊥) → CallStopped on plan own seconds call old.mail before new.mail after keep.NoMemory
    noting_stops ticket number sent fresh (AtOnce kind kind_is fails ticket_is d) it some =
        absurd (some (subst (λ (k : Number). wants_at (ticket_standing new.mail k) ≡ []) (sym (some_is number (new_number own (node_seen old.mail)) (sym it ∙ ticket_is))) (refused kind sent d)))
    noting_stops ticket number sent fresh (Goes octets goes filed ticket_is d) it some =
        let s = done_stops on (begun octets) old.mail before new.mail after sent d in
        record { fresh = fresh; octets = octets; filed = filed; stopped = s.0; fails = s.1 }

    -- each such call has a ticket
    never_ticketless : (ticket : Option Number) (sent : List Letter) → Did ticket sent → ticket ≡ None → ⊥
    never_ticketless ticket sent (AtOnce kind kind_is fails ticket_is d) it = none_some (new_number own (node_seen old.mail)) (sym it ∙ ticket_is)
    never_ticketless ticket sent (Goes octets goes filed ticket_is d) it = none_some (new_number own (node_seen old.mail)) (sym it ∙ ticket_is)

    -- its work failed
    pub failed_follows : (fault : NodeFault) → new.maps ≡ old.maps → FollowsCall on plan own seconds call (Err fault) old before new after
    failed_follows Disk maps = tt
    failed_follows Worn maps = maps
    failed_follows (NoMemory true) maps = tt
    failed_follows (NoMemory false) maps = maps

    pub failed_has : (fault : NodeFault) → NodeBegins on plan own seconds call old.mail before new.mail after (Err fault) → new.maps ≡ old.maps → LeavesUp {T = Option Number × Outbox} (Err fault) → Outlasts old new
    failed_has Disk begins maps up = absurd up
    failed_has Worn begins maps up = outlasts_same old holds new begins.1.same (ap (λ (n : plain.Node). n.boot) begins.1.seen) (ap (λ (n : plain.Node). n.installed) begins.1.seen) begins.1.keeps maps
    failed_has (NoMemory true) begins maps up = absurd up
    failed_has (NoMemory false) begins maps up = outlasts_same old holds new begins.0.same (ap (λ (n : plain.Node). n.boot) begins.0.seen) (ap (λ (n : plain.Node). n.installed) begins.0.seen) begins.0.keeps maps

    -- so whatever was begun
    pub begun_follows : (ticket : Option Number) (outbox : Outbox) → CallBegun on plan own seconds call old.mail before new.mail after ticket outbox → NotesBegun ticket new.mail old.maps new.maps
        → CallFollowed on plan own seconds call old before new after
    begun_follows None outbox b maps = absurd (never_ticketless None outbox.letters b.did refl)
    begun_follows (Some number) outbox b notes = noted_follows (Some number) number outbox.letters b.did refl notes

    pub begun_has : (ticket : Option Number) (outbox : Outbox) → CallBegun on plan own seconds call old.mail before new.mail after ticket outbox → NotesBegun ticket new.mail old.maps new.maps → Outlasts old new
    begun_has None outbox b maps = absurd (never_ticketless None outbox.letters b.did refl)
    begun_has (Some number) outbox b notes = noted_has (Some number) number outbox.letters b.did refl notes

    pub begun_fits : (ticket : Option Number) (outbox : Outbox) → CallBegun on plan own seconds call old.mail before new.mail after ticket outbox → All FitsMaps outbox.letters
    begun_fits ticket outbox b = begun_fits_by ticket outbox.letters b.did

    pub begun_stops : (ticket : Option Number) (outbox : Outbox) → CallBegun on plan own seconds call old.mail before new.mail after ticket outbox → WantsSome ticket new.mail
        → CallStopped on plan own seconds call old.mail before new.mail after keep.NoMemory
    begun_stops None outbox b some = absurd some
    begun_stops (Some number) outbox b some = noting_stops (Some number) number outbox.letters b.fresh b.did refl some

-- the node goes on, if it may
module _ {D : Type 0} (on : View D) (seconds : ℕ) (old : WholeNode) (before : D) (new : WholeNode) (after : D) (works : WholeWorks (on.seen before) old) (kept : KeepsBeside old new) (call : NodeCall) (ended : IsTextEnded call) where
  abbrev BeginsAny : Result (Option Number × Outbox) NodeFault → Type 0
  BeginsAny result = (plan : Plan) (own : ℕ) → IsNodeOf plan own old.mail → NodeBegins on plan own seconds call old.mail before new.mail after result

  begins_one : (result : Result (Option Number × Outbox) NodeFault) → BeginsAny result → NodeBegins on (plan_of old.mail) old.mail.store.own seconds call old.mail before new.mail after result
  begins_one result begins = begins (plan_of old.mail) old.mail.store.own (is_of old.mail)

  mail_works : (result : Result (Option Number × Outbox) NodeFault) → BeginsAny result → LeavesUp result → CanWork (on.seen after) new.mail
  mail_works result begins up = beginning_goes_on on old.mail before new.mail after works.mail seconds call ended result (λ plan own is e. begins plan own is) up

  failed_on : (fault : NodeFault) → BeginsAny (Err fault) → new.maps ≡ old.maps → LeavesUp {T = Option Number × Outbox} (Err fault) → Outlasts old new
  failed_on fault begins maps up = failed_has on (plan_of old.mail) old.mail.store.own seconds old before new after (is_of old.mail) works.maps works.mail.whole call fault (begins_one (Err fault) begins) maps up

  begun_on : (ticket : Option Number) (outbox : Outbox) → BeginsAny (Ok (ticket, outbox)) → NotesBegun ticket new.mail old.maps new.maps → Outlasts old new
  begun_on ticket outbox begins notes =
      begun_has on (plan_of old.mail) old.mail.store.own seconds old before new after (is_of old.mail) works.maps works.mail.whole call ticket outbox (begins_one (Ok (ticket, outbox)) begins) notes

  pub failed_works : (fault : NodeFault) → BeginsAny (Err fault) → new.maps ≡ old.maps → LeavesUp {T = Option Number × Outbox} (Err fault) → WholeWorks (on.seen after) new
  failed_works fault begins maps up = works_on old new (on.seen after) (failed_on fault begins maps up) works.reads kept (mail_works (Err fault) begins up)

  pub begun_works : (ticket : Option Number) (outbox : Outbox) → BeginsAny (Ok (ticket, outbox)) → NotesBegun ticket new.mail old.maps new.maps → WholeWorks (on.seen after) new
  begun_works ticket outbox begins notes = works_on old new (on.seen after) (begun_on ticket outbox begins notes) works.reads kept (mail_works (Ok (ticket, outbox)) begins tt)

  -- and has what it had of calls that read
  pub begun_beside : (ticket : Option Number) (outbox : Outbox) → BeginsAny (Ok (ticket, outbox)) → NotesBegun ticket new.mail old.maps new.maps → KeepsReads (Up (joint_seen old)) (joint_seen new)
  begun_beside ticket outbox begins notes = beside_on old new works.maps (begun_on ticket outbox begins notes) kept

  pub begun_all_fit : (ticket : Option Number) (outbox : Outbox) → BeginsAny (Ok (ticket, outbox)) → All FitsMaps outbox.letters
  begun_all_fit ticket outbox begins =
      begun_fits on (plan_of old.mail) old.mail.store.own seconds old before new after (is_of old.mail) works.maps works.mail.whole call ticket outbox (begins_one (Ok (ticket, outbox)) begins)
