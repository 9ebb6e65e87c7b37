-- A call that a node begins, for every plan whose node it is.
use Rattle.std.proofs.Common.{◌≡◌, ◌⊎◌, ◌<◌, ℕ, zero, suc, ◌+◌, max, List, [], ◌++◌, length, Bool, true, false, not, ◌&&◌, ◌||◌, nat_lt, nat_le, Option, Some, None, if◌then◌else◌, refl, sym, ap, subst, ◌∙◌, ⊎_elim, append-nil, lt-ltb, arith, true≢false}
use Rattle.std.proofs.Math.Nat.{le-max_left}
use Rattle.std.specs.Prelude.{Result, Ok, Err}
use Rattle.io_edge.specs.Moments.{Keeps as KeepsImages}
use Rattle.io_edge.proofs.Passing.{keeps_none}
use Rattle.mail_model.specs.Lines.{ends_in_crlf}
use Rattle.mail_model.specs.Identity.{Id}
use Rattle.mail_model.specs.Plan.{Plan}
use Rattle.mail_model.specs.Record.{Record}
use Rattle.mail_model.specs.Told.{Mail}
use Rattle.mail_model.specs.Mail.{IsStored, trace_lines}
use Rattle.mail_model.proofs.ShownFiled.{ends_front, trace_ends}
use Rattle.object_model.specs.Sets.{nodes_in}
use Rattle.object_model.specs.Letters.{Number}
use Rattle.object_model.specs.Mishaps.{Mishaps, mishaps_of}
use Rattle.cluster_model.specs.Cluster.{CallKind, members_of}
use Rattle.cluster_model.specs.Rules.{begin_deliver, refuse, new_number}
use Rattle.cluster_model.specs.Targets.{deliver_targets}
use Rattle.cluster_model.specs.Steps.{NodeCall, greatest, end_of_dates, mishaps_of_call, fails_at_once, ids_drawn, stamps_drawn, tickets_drawn, is_worn_for}
use Rattle.cluster_model.specs.Steps.NodeCall.{Deliver}
use Rattle.cluster_model.specs.Makes.{IsFiled, begun_by, kind_of_call}
use Rattle.node_store.specs.Disks.{View}
use Rattle.node_store.specs.declared.fault.KeepFault.{KeepFault}
use Rattle.node_store.specs.declared.fault.KeepFault.TheVariants as keep
use Rattle.node_core.specs.Nodes.{node_seen, CanWork, IsNodeOf}
use Rattle.node_core.specs.Spelling.{AllCanBeTaken}
use Rattle.node_core.specs.Works.{Rule, NodeDid, IsOnlyRead}
use Rattle.node_core.specs.Failing.{few_seen, late_seen, lacks_numbers, lacks_ids, CallRefused, RefusesCall}
use Rattle.node_core.specs.Delivering.{delivering, DeliveryBegun, DeliveryStopped, BeginsDelivery}
use Rattle.node_core.specs.Beginning.{at_second, CallDid, CallBegun, CallStopped, NodeBegins}
use Rattle.node_core.specs.declared.fault.NodeFault.{NodeFault}
use Rattle.node_core.specs.declared.fault.NodeFault.TheVariants.{Disk, Worn, NoMemory}
use Rattle.node_core.specs.declared.outbox.Outbox.{Outbox}
use Rattle.node_core.specs.declared.node.Node.{Node}
use Rattle.node_core.proofs.Doing.{did_none, did_same, stopped_same}
use Rattle.node_core.proofs.Sending.{none_fit}

-- the mishaps of a delivery
pub delivery_mishaps : (plan : Plan) (own seconds : ℕ) (old : Node) (members : List ℕ) (m : Mishaps) → IsNodeOf plan own old → members ≡ nodes_in (members_of (node_seen old)) old.shape.nodes
    → m ≡ late_seen (nat_le end_of_dates seconds) (nat_lt (length members) (max 1 old.shape.confirm)) → (mail : Mail) → m ≡ mishaps_of_call plan seconds (node_seen old) (Deliver mail)
delivery_mishaps plan own seconds old members m p are is mail =
    is ∙ ap (λ (l : List ℕ). late_seen (nat_le end_of_dates seconds) (nat_lt (length l) (max 1 old.shape.confirm))) are
    ∙ ap (λ (n : ℕ). late_seen (nat_le end_of_dates seconds) (nat_lt (length (nodes_in (members_of (node_seen old)) n)) (max 1 old.shape.confirm))) p.nodes
    ∙ ap (λ (f : ℕ). late_seen (nat_le end_of_dates seconds) (nat_lt (length (nodes_in (members_of (node_seen old)) plan.nodes)) (max 1 f))) p.confirm

-- a delivery that nothing befalls comes before the end of dates
none_is_late : (late few : Bool) → nat_lt 0 (mishaps_of (late_seen late few)) ≡ false → late ≡ false
none_is_late false few none = refl
none_is_late true false none = absurd (cc none)
none_is_late true true none = absurd (cc none)

pub comes_in_time : (late few : Bool) (m : Mishaps) → m ≡ late_seen late few → nat_lt 0 (mishaps_of m) ≡ false → late ≡ false
comes_in_time late few m is none = none_is_late late few (sym (ap (λ (x : Mishaps). nat_lt 0 (mishaps_of x)) is) ∙ none)

-- and one that nothing befalls has some members
none_is_few : (late few : Bool) → nat_lt 0 (mishaps_of (late_seen late few)) ≡ false → few ≡ false
none_is_few late false none = refl
none_is_few false true none = absurd (cc none)
none_is_few true true none = absurd (cc none)

none_is_fewer : (confirm : ℕ) → nat_lt 0 (max 1 confirm) ≡ true
none_is_fewer confirm = lt-ltb 0 (max 1 confirm) (omega (arith, le-max_left 1 confirm))

some_there : (length confirm : ℕ) → nat_lt length (max 1 confirm) ≡ false → 0 < length
some_there zero confirm few = absurd (true≢false (sym (none_is_fewer confirm) ∙ few))
some_there (suc length) confirm few = omega arith

pub has_some : (late : Bool) (length confirm : ℕ) (m : Mishaps) → m ≡ late_seen late (nat_lt length (max 1 confirm)) → nat_lt 0 (mishaps_of m) ≡ false → 0 < length
has_some late length confirm m is none =
    some_there length confirm (none_is_few late (nat_lt length (max 1 confirm)) (sym (ap (λ (x : Mishaps). nat_lt 0 (mishaps_of x)) is) ∙ none))

-- when a call is worn that fails at once, or one that does not
worn_failing : (a b c f : Bool) → f ≡ true → (a || b || (not f && c)) ≡ (a || b)
worn_failing true b c f is = refl
worn_failing false true c f is = refl
worn_failing false false c true is = refl
worn_failing false false c false is = absurd (cc is)

worn_going : (a b c f : Bool) → f ≡ false → (a || b || (not f && c)) ≡ (a || b || c)
worn_going a b c f is = ap (λ (g : Bool). a || b || (not g && c)) is

pub worn_at_once : (plan : Plan) (seconds ids : ℕ) (old : Node) (call : NodeCall) → ids_drawn call ≡ ids → tickets_drawn call ≡ 1 → fails_at_once plan seconds (node_seen old) call ≡ true
    → is_worn_for plan seconds (node_seen old) call ≡ lacks_ids ids old
worn_at_once plan seconds ids old call drawn tickets fails =
    worn_failing (nat_lt greatest (old.numbers.calls + tickets_drawn call)) (nat_lt greatest (old.numbers.drawn + ids_drawn call)) (nat_lt greatest (old.numbers.count + stamps_drawn call))
    (fails_at_once plan seconds (node_seen old) call) fails
    ∙ ap (λ (t : ℕ). nat_lt greatest (old.numbers.calls + t) || nat_lt greatest (old.numbers.drawn + ids_drawn call)) tickets
    ∙ ap (λ (i : ℕ). nat_lt greatest (old.numbers.calls + 1) || nat_lt greatest (old.numbers.drawn + i)) drawn

pub worn_goes : (plan : Plan) (seconds ids stamps : ℕ) (old : Node) (call : NodeCall) → ids_drawn call ≡ ids → tickets_drawn call ≡ 1 → stamps_drawn call ≡ stamps
    → fails_at_once plan seconds (node_seen old) call ≡ false → is_worn_for plan seconds (node_seen old) call ≡ lacks_numbers ids stamps old
worn_goes plan seconds ids stamps old call drawn tickets dated fails =
    worn_going (nat_lt greatest (old.numbers.calls + tickets_drawn call)) (nat_lt greatest (old.numbers.drawn + ids_drawn call)) (nat_lt greatest (old.numbers.count + stamps_drawn call))
    (fails_at_once plan seconds (node_seen old) call) fails
    ∙ ap (λ (t : ℕ). nat_lt greatest (old.numbers.calls + t) || nat_lt greatest (old.numbers.drawn + ids_drawn call) || nat_lt greatest (old.numbers.count + stamps_drawn call)) tickets
    ∙ ap (λ (i : ℕ). nat_lt greatest (old.numbers.calls + 1) || nat_lt greatest (old.numbers.drawn + i) || nat_lt greatest (old.numbers.count + stamps_drawn call)) drawn
    ∙ ap (λ (s : ℕ). nat_lt greatest (old.numbers.calls + 1) || nat_lt greatest (old.numbers.drawn + ids) || nat_lt greatest (old.numbers.count + s)) dated

-- a disk that was not touched
pub untouched : {D : Type 0} (on : View D) (before after : D) → after ≡ before → IsOnlyRead on before after × (on.faults after ≡ on.faults before)
untouched on before after is = (record { seen = ap on.seen is; images = subst (λ d. KeepsImages on.clock before d) (sym is) (keeps_none on.clock before) }, ap on.faults is)

module _ {D : Type 0} (on : View D) (plan : Plan) (own seconds : ℕ) (old : Node) (before : D) (p : IsNodeOf plan own old) (works : CanWork (on.seen before) old) where
  number_is : (new_number old.store.own (node_seen old)) ≡ new_number own (node_seen old)
  number_is = ap (λ (o : ℕ). new_number o (node_seen old)) p.own_is

  -- it fails at once
  module _ (call : NodeCall) (kind : CallKind) (mishaps : Mishaps) (ids : ℕ) (of_kind : kind_of_call call ≡ Some kind) (drawn : ids_drawn call ≡ ids) (tickets : tickets_drawn call ≡ 1)
      (are : mishaps ≡ mishaps_of_call plan seconds (node_seen old) call) (fails : fails_at_once plan seconds (node_seen old) call ≡ true) (new : Node) where
    refused_begun : (ticket : Option Number) (outbox : Outbox) → CallRefused kind mishaps ids ticket outbox old new → CallBegun on plan own seconds call old before new before ticket outbox
    refused_begun ticket outbox r = record {
      fresh = worn_at_once plan seconds ids old call drawn tickets fails ∙ r.fresh;
      none_thrown = r.none_thrown;
      did = CallDid.AtOnce kind of_kind fails (r.ticket_is ∙ ap Some number_is)
          (subst (λ (m : Mishaps). NodeDid on (refuse kind m (ids_drawn call)) old before new before outbox.letters) are
          (subst (λ (i : ℕ). NodeDid on (refuse kind mishaps i) old before new before outbox.letters) (sym drawn)
          (did_none on (refuse kind mishaps ids) old before new outbox.letters works r.store (λ records. refl) (λ records. r.seen) (λ records. sym r.none_sent) r.like
          (subst AllCanBeTaken (sym r.none_sent) none_fit))));
    }

    pub refuses : (result : Result (Option Number × Outbox) NodeFault) → RefusesCall kind mishaps ids result old new → NodeBegins on plan own seconds call old before new before result
    refuses (Ok begun) r = refused_begun begun.0 begun.1 r
    refuses (Err Disk) r = absurd r
    refuses (Err Worn) r = (worn_at_once plan seconds ids old call drawn tickets fails ∙ r.0, r.1, refl)
    refuses (Err (NoMemory true)) r = absurd r
    refuses (Err (NoMemory false)) r = let u = untouched on before before refl in (r, u.0, u.1)

  -- a delivery goes
  module _ (mail : Mail) (fails : fails_at_once plan seconds (node_seen old) (Deliver mail) ≡ false) (fresh : lacks_numbers 1 1 old ≡ false)
      (ended : (mail.text ≡ []) ⊎ (ends_in_crlf mail.text ≡ true)) (new : Node) (after : D) where
    stored_ended : (id : Id) (octets : List ℕ) → IsStored mail id seconds octets → ends_in_crlf octets ≡ true
    stored_ended id octets stored = ap ends_in_crlf stored.whole ∙ ⊎_elim
        (λ none. ap (λ (t : List ℕ). ends_in_crlf (trace_lines mail id stored.date ++ t)) none ∙ ap ends_in_crlf (append-nil (trace_lines mail id stored.date)) ∙ trace_ends mail id stored.date)
        (λ crlf. ends_front (trace_lines mail id stored.date) mail.text crlf)
        ended

    abbrev rule_of : List ℕ → Rule
    rule_of octets node disk = begun_by plan (at_second seconds) own node disk (Deliver mail) octets

    same_rule : (octets : List ℕ) (records : List Record) → delivering on mail seconds old before new after octets (node_seen old) records ≡ rule_of octets (node_seen old) records
    same_rule octets records =
        ap (λ (o : ℕ). begin_deliver o old.shape.nodes seconds (node_seen old) records mail.mailboxes octets (deliver_targets old.shape.copies o (old.numbers.drawn + 1) (nodes_in (members_of (node_seen old)) old.shape.nodes))) p.own_is
        ∙ ap (λ (n : ℕ). begin_deliver own n seconds (node_seen old) records mail.mailboxes octets (deliver_targets old.shape.copies own (old.numbers.drawn + 1) (nodes_in (members_of (node_seen old)) n))) p.nodes
        ∙ ap (λ (c : ℕ). begin_deliver own plan.nodes seconds (node_seen old) records mail.mailboxes octets (deliver_targets c own (old.numbers.drawn + 1) (nodes_in (members_of (node_seen old)) plan.nodes))) p.copies

    files : (octets : List ℕ) → IsStored mail (record { node = old.store.own; boot = old.numbers.boot; seq = old.numbers.drawn + 1 }) seconds octets → IsFiled (at_second seconds) own (node_seen old) (Deliver mail) octets
    files octets stored =
        let same = subst (λ (o : ℕ). IsStored mail (record { node = o; boot = old.numbers.boot; seq = old.numbers.drawn + 1 }) seconds octets) p.own_is stored in
        (same, stored_ended (record { node = own; boot = old.numbers.boot; seq = old.numbers.drawn + 1 }) octets same)

    not_worn : is_worn_for plan seconds (node_seen old) (Deliver mail) ≡ false
    not_worn = worn_goes plan seconds 1 1 old (Deliver mail) refl refl refl fails ∙ fresh

    went : (ticket : Option Number) (outbox : Outbox) → DeliveryBegun on mail seconds old before new after ticket outbox → CallBegun on plan own seconds (Deliver mail) old before new after ticket outbox
    went ticket outbox d = record {
      fresh = not_worn;
      none_thrown = d.none_thrown;
      did = CallDid.Goes d.octets fails (files d.octets d.stored) (d.ticket_is ∙ ap Some number_is)
          (did_same on (delivering on mail seconds old before new after d.octets) (rule_of d.octets) old before new after outbox.letters (same_rule d.octets) d.did);
    }

    stopped_in : (fault : KeepFault) → DeliveryStopped on mail seconds old before new after fault → CallStopped on plan own seconds (Deliver mail) old before new after fault
    stopped_in fault d = record {
      fresh = not_worn;
      octets = d.octets;
      filed = files d.octets d.stored;
      stopped = stopped_same on (delivering on mail seconds old before new after d.octets) (rule_of d.octets) old before after (same_rule d.octets) d.stopped;
      fails = d.fails;
    }

    pub delivers : (result : Result (Option Number × Outbox) NodeFault) → BeginsDelivery on mail seconds old before new after result → NodeBegins on plan own seconds (Deliver mail) old before new after result
    delivers (Ok begun) d = went begun.0 begun.1 d
    delivers (Err Disk) d = stopped_in keep.Disk d
    delivers (Err Worn) d = absurd d
    delivers (Err (NoMemory true)) d = stopped_in keep.NoMemory d
    delivers (Err (NoMemory false)) d = let u = untouched on before after d.1 in (d.0, u.0, u.1)
