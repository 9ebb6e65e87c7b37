-- Every step leaves tickets that each ask for one thing.
use Rattle.std.proofs.Common.{◌≡◌, ⊎_elim, ◌+◌, ℕ, zero, suc, Bool, List, [], ◌∷◌, map, Some, None, refl, sym, ap, ◌∙◌, subst}
use Rattle.std.specs.Ordering.{nat_cmp}
use Rattle.std.specs.FinMap as fin
use Rattle.mail_model.specs.Plan.{Plan}
use Rattle.mail_model.specs.Record.{Record}
use Rattle.mail_model.specs.Record.Record.{Boot, Promise}
use Rattle.object_model.specs.Letters.{Number, MapRow}
use Rattle.object_model.specs.Mishaps.{no_mishaps, counted}
use Rattle.object_model.specs.Mishaps.MishapKind.{FewMembers}
use Rattle.cluster_model.specs.Cluster.{AskedOfNodes, Want, Ticket, CallKind, Node, Slot, slot_at, with_slot}
use Rattle.cluster_model.specs.Cluster.AskedOfNodes.{Copies, Deletion}
use Rattle.cluster_model.specs.Parts.{Sound}
use Rattle.cluster_model.specs.Rules.{Reaction, StrikeItem, new_want, new_number, dated, refuse, end_ticket}
use Rattle.cluster_model.specs.Starts.{first_epoch, fresh_node}
use Rattle.cluster_model.specs.Deeds.{slot_up}
use Rattle.cluster_model.specs.World.{World, cluster_of}
use Rattle.cluster_model.specs.WorldLaws.{fresh_slot, fresh_slots, opening_world}
use Rattle.cluster_model.specs.Steps.{NodeCall, Step, Said, StepOutcome, mishaps_of_call, ids_drawn}
use Rattle.cluster_model.specs.Steps.NodeCall.{Deliver, Login, Fetch, Strike, Leave}
use Rattle.cluster_model.specs.Steps.Step.{Begin, AskFor, GiveUp, Post, DropLetter, PushTo, Widen, Form, Crash, Start, Lose, Tick}
use Rattle.cluster_model.specs.Steps.StepOutcome.{Says, Refused, NoMemory}
use Rattle.cluster_model.specs.Makes.{IsUp, after, with_struck, targets_for, asked_for, begun_by, IsFiled, BeginsCall, GoesOnReading, BeginsRead, AnswersAsk, AnswersRead, RunsShort, MakesStep}
use Rattle.cluster_model.specs.Makes.BeginsCall.{FailsAtOnce, Goes, FailsInIt}
use Rattle.cluster_model.specs.Makes.BeginsRead.{HasNoManager, Draws, FailsReading, Leaves}
use Rattle.cluster_model.specs.Makes.AnswersAsk.{Waits, Ends}
use Rattle.cluster_model.specs.Makes.RunsShort.{Beginning, Hearing, Widening, Forming, Starting}
use Rattle.cluster_model.proofs.Slots.{read_after}
use Rattle.cluster_owes.proofs.Standing.{StandsAs, SameWants, NoneNew, slot_quiet, same_up}
use Rattle.cluster_owes.proofs.NodeSteps.{end_goes}
use Rattle.cluster_owes.proofs.WorldSteps.{TicketsStep, OtherGoes, steps_so, cut_goes, goes_letters, other_goes}
use Rattle.cluster_owes.proofs.Began.{with_slots}
use Rattle.cluster_owes.proofs.Beginning.{begun_tickets, begun_stands}
use Rattle.desk_model.specs.Tickets.{IsDeletion, AreDeletions, MayStandBeside, AskOneThing, TicketsAskOneThing}

-- wants that ask the same
deletions_stay : (old new : List Want) → SameWants old new → AreDeletions old → AreDeletions new
deletions_stay [] [] same are = tt
deletions_stay [] (y ∷ ys) same are = absurd same
deletions_stay (x ∷ xs) [] same are = absurd same
deletions_stay (x ∷ xs) (y ∷ ys) same are = (subst IsDeletion same.0.asked are.0, deletions_stay xs ys same.1 are.1)

none_stays : (old new : List Want) → SameWants old new → old ≡ [] → new ≡ []
none_stays [] [] same none = refl
none_stays [] (y ∷ ys) same none = absurd same
none_stays (x ∷ xs) new same none = absurd (let never : x ∷ xs ≡ [] = none in cc)

beside_stays : (asked : AskedOfNodes) (old new : List Want) → SameWants old new → MayStandBeside asked old → MayStandBeside asked new
beside_stays (Copies filing) old new same none = none_stays old new same none
beside_stays (Deletion user id) old new same are = deletions_stay old new same are

pub one_thing_stays : (old new : List Want) → SameWants old new → AskOneThing old → AskOneThing new
one_thing_stays [] [] same one = tt
one_thing_stays [] (y ∷ ys) same one = absurd same
one_thing_stays (x ∷ xs) [] same one = absurd same
one_thing_stays (x ∷ xs) (y ∷ ys) same one = subst (λ asked. MayStandBeside asked ys) same.0.asked (beside_stays x.asked xs ys same.1 one)

-- tickets that stood, and new ones
step_keeps : (old new : List Slot) (New : Number → Ticket → Type 0) → TicketsStep old new New
    → ((number : Number) (ticket : Ticket) → StandsAs new number ticket → New number ticket → AskOneThing ticket.wants) → TicketsAskOneThing old → TicketsAskOneThing new
step_keeps old new New step fresh all n node disk up seq ticket here =
    let number : Number = record { node = n; boot = node.boot; seq = seq } in
    let stands : StandsAs new number ticket = record { node = node; disk = disk; up = up; boot = refl; here = here } in
    ⊎_elim
    (λ (before, was, same). one_thing_stays before.wants ticket.wants same.wants (all n was.node was.disk was.up seq before was.here))
    (λ is. fresh number ticket stands is)
    (step.came number ticket stands)

pub quiet_keeps : (old new : World) → OtherGoes old new → TicketsAskOneThing old.slots → TicketsAskOneThing new.slots
quiet_keeps old new goes all = step_keeps old.slots new.slots NoneNew goes.goes.tickets (λ number ticket stands none. absurd none) all

-- a slot is written, and its node has the tickets that it had
same_tickets_keep : (slots : List Slot) (own : ℕ) (node next : Node) (disk after : List Record) → slot_at slots own ≡ Some (slot_up node disk) → next.tickets ≡ node.tickets → TicketsAskOneThing slots
    → TicketsAskOneThing (with_slot slots own (slot_up next after))
same_tickets_keep slots own node next disk after here same all n other held up seq ticket stands = ⊎_elim
    (λ (at, is).
    let one : other ≡ next = same_up other next held after (ap Some is) in
    all own node disk here seq ticket (ap (λ t. fin.get t seq) (sym same) ∙ ap (λ (x : Node). fin.get x.tickets seq) (sym one) ∙ stands))
    (λ was. all n other held was seq ticket stands)
    (read_after slots own n (slot_up node disk) (slot_up next after) (slot_up other held) here up)

-- A call begins, and this ticket stands under the next number.
module _ (old w : World) (own : ℕ) (node : Node) (disk : List Record) (did : Reaction) (ticket : Ticket) (slots : w.slots ≡ old.slots) (up : IsUp old own node disk) (boot : did.node.boot ≡ node.boot)
    (calls : did.node.calls ≡ node.calls + 1) (tickets : did.node.tickets ≡ fin.insert node.tickets (node.calls + 1) ticket) where
  up_then : IsUp w own node disk
  up_then = ap (λ s. slot_at s own) slots ∙ up

  begun_keeps_one : AskOneThing ticket.wants → (new : World) → new ≡ after w own did → TicketsAskOneThing old.slots → TicketsAskOneThing new.slots
  begun_keeps_one one new is all = subst (λ (x : World). TicketsAskOneThing x.slots) (sym is)
      (step_keeps w.slots (after w own did).slots (λ n t. n ≡ new_number own node) (begun_tickets w own node disk did ticket up_then boot calls tickets)
      (λ number t stands same.
      let call = begun_stands w own node disk did ticket up_then boot calls tickets t (subst (λ n. StandsAs (after w own did).slots n t) same stands) in
      one_thing_stays ticket.wants t.wants call.wants one)
      (subst TicketsAskOneThing (sym slots) all))

  -- what then stands under that number is this ticket
  pub begun_wants : (new : World) → new ≡ after w own did → (t : Ticket) → StandsAs new.slots (new_number own node) t → SameWants ticket.wants t.wants
  begun_wants new is t stands = (begun_stands w own node disk did ticket up_then boot calls tickets t (subst (λ (x : World). StandsAs x.slots (new_number own node) t) is stands)).wants

all_deletions : (own : ℕ) (user : List ℕ) (items : List StrikeItem) → AreDeletions (map (λ item. new_want own (Deletion user item.mark.id) item.asks) items)
all_deletions own user [] = tt
all_deletions own user (item ∷ items) = (tt, all_deletions own user items)

deletions_ask_one : (own : ℕ) (user : List ℕ) (items : List StrikeItem) → AskOneThing (map (λ item. new_want own (Deletion user item.mark.id) item.asks) items)
deletions_ask_one own user [] = tt
deletions_ask_one own user (item ∷ items) = all_deletions own user items

module _ (plan : Plan) (tells : Bool) (old new : World) where
  -- the call goes on
  goes_keeps : (own : ℕ) (call : NodeCall) (node : Node) (disk : List Record) (octets : List ℕ) → IsUp old own node disk → IsFiled old own node call octets
      → new ≡ after (with_struck old call) own (begun_by plan old own node disk call octets) → TicketsAskOneThing old.slots → TicketsAskOneThing new.slots
  goes_keeps own (Deliver mail) node disk octets up filed is all =
      begun_keeps_one old old own node disk (begun_by plan old own node disk (Deliver mail) octets) (record {
        kind = CallKind.Delivering;
        wants = new_want own (Copies (record { id = record { node = own; boot = node.boot; seq = node.drawn + 1 }; users = mail.mailboxes; seconds = old.seconds; size = _; digest = _ })) (targets_for plan own node) ∷ [];
        mishaps = no_mishaps;
      }) refl up refl refl refl refl new is all
  goes_keeps own (Strike user items) node disk octets up filed is all =
      begun_keeps_one old (with_struck old (Strike user items)) own node disk (begun_by plan old own node disk (Strike user items) octets) (record {
        kind = CallKind.Striking;
        wants = map (λ item. new_want own (Deletion user item.mark.id) item.asks) (dated own node node.count (asked_for plan own node items));
        mishaps = no_mishaps;
      }) refl up refl refl refl (deletions_ask_one own user (dated own node node.count (asked_for plan own node items))) new is all
  goes_keeps own (Login user proof) node disk octets up filed is all = absurd filed
  goes_keeps own (Fetch user id from most holders) node disk octets up filed is all = absurd filed
  goes_keeps own (Leave user login manager) node disk octets up filed is all = absurd filed

  -- the node goes down in it
  falls_keeps : (own : ℕ) (call : NodeCall) (node : Node) (disk front pending : List Record) → IsUp old own node disk
      → OtherGoes (with_struck old call) new → TicketsAskOneThing old.slots → TicketsAskOneThing new.slots
  falls_keeps own call node disk front pending up goes all = quiet_keeps (with_struck old call) new goes (subst TicketsAskOneThing (sym (with_slots old call)) all)

  up_with : (own : ℕ) (call : NodeCall) (node : Node) (disk : List Record) → IsUp old own node disk → IsUp (with_struck old call) own node disk
  up_with own call node disk up = ap (λ s. slot_at s own) (with_slots old call) ∙ up

  begins_keep : (own : ℕ) (call : NodeCall) (said : Said) → BeginsCall plan tells old own call said new → TicketsAskOneThing old.slots → TicketsAskOneThing new.slots
  begins_keep own call said (FailsAtOnce node disk kind up of_kind fails is new_world) all =
      begun_keeps_one old (with_struck old call) own node disk (refuse kind (mishaps_of_call plan old.seconds node call) (ids_drawn call) node disk)
      (record { kind = kind; wants = []; mishaps = mishaps_of_call plan old.seconds node call }) (with_slots old call) up refl refl refl tt new new_world all
  begins_keep own call said (Goes node disk octets up fails filed is new_world) all = goes_keeps own call node disk octets up filed new_world all
  begins_keep own call said (FailsInIt node disk octets up filed is g) all =
      falls_keeps own call node disk g.front g.pending up (cut_goes (with_struck old call) new own node disk g.front g.pending (up_with own call node disk up) g.is) all

  -- Letters of calls that read change no ticket.
  reading_keeps : (mid : World) → GoesOnReading mid new → TicketsAskOneThing mid.slots → TicketsAskOneThing new.slots
  reading_keeps mid goes all = subst TicketsAskOneThing (sym (goes_letters mid new goes).slots) all

  -- A call that reads begins: a number is drawn, and no ticket of messages stands under it but where nobody manages the user.
  begins_read : (own : ℕ) (call : NodeCall) (said : Said) → BeginsRead plan old own call said new → TicketsAskOneThing old.slots → TicketsAskOneThing new.slots
  begins_read own call said (HasNoManager node disk user proof up is_call goes is new_world) all =
      begun_keeps_one old old own node disk (refuse CallKind.LoggingIn (counted FewMembers no_mishaps) 0 node disk) (record { kind = CallKind.LoggingIn; wants = []; mishaps = counted FewMembers no_mishaps })
      refl up refl refl refl tt new new_world all
  begins_read own call said (Draws node disk up draws goes is on) all =
      reading_keeps (record old { slots = with_slot old.slots own (slot_up (record node { calls = node.calls + 1 }) disk) }) on
      (same_tickets_keep old.slots own node (record node { calls = node.calls + 1 }) disk disk up refl all)
  begins_read own call said (FailsReading node disk user id from most holders up is_call reads is new_world) all = quiet_keeps old new (cut_goes old new own node disk [] [] up new_world) all
  begins_read own call said (Leaves node disk user login manager up is_call is on) all = reading_keeps old on all

  begins_short : (own : ℕ) (call : NodeCall) (n : ℕ) → RunsShort plan old (Begin own call) n new → TicketsAskOneThing old.slots → TicketsAskOneThing new.slots
  begins_short own call n (Beginning other node disk octets is up filed g) all =
      falls_keeps n other node disk g.front g.pending up (cut_goes (with_struck old other) new n node disk g.front g.pending (up_with n other node disk up) g.is) all
  begins_short own call n (Hearing number keep flies node disk is at up g) all = absurd (let never : Begin own call ≡ Post number keep = is in cc)
  begins_short own call n (Widening user id to node disk is up g) all = absurd (let never : Begin own call ≡ Widen n user id to = is in cc)
  begins_short own call n (Forming node disk promise up forms g) all = absurd forms
  begins_short own call n (Starting disk pending next records is here stops new_world) all = absurd (let never : Begin own call ≡ Start n = is in cc)

  answers_read : (number : Number) (said : Said) → AnswersRead old number said new → TicketsAskOneThing old.slots → TicketsAskOneThing new.slots
  answers_read number said r all = subst (λ (x : World). TicketsAskOneThing x.slots) (sym r.new_world) all

  answers_keep : (number : Number) (said : Said) → AnswersAsk plan old number said new → TicketsAskOneThing old.slots → TicketsAskOneThing new.slots
  answers_keep number said (Waits node disk stood up found got wanted e is new_world) all = subst (λ (x : World). TicketsAskOneThing x.slots) (sym new_world) all
  answers_keep number said (Ends node disk stood up found answer e is new_world) all = subst (λ (x : World). TicketsAskOneThing x.slots) (sym new_world)
      (step_keeps old.slots (with_slot old.slots number.node (slot_up (end_ticket number.seq node disk).node disk)) NoneNew
      (steps_so old.slots (with_slot old.slots number.node (slot_up (end_ticket number.seq node disk).node disk)) NoneNew
      (slot_quiet old.slots number.node node (end_ticket number.seq node disk).node disk disk up (end_goes number.seq node disk)))
      (λ n t stands none. absurd none) all)

  same_keeps : new ≡ old → TicketsAskOneThing old.slots → TicketsAskOneThing new.slots
  same_keeps is all = subst (λ (x : World). TicketsAskOneThing x.slots) (sym is) all

  pub steps_ask_one_thing : (step : Step) (outcome : StepOutcome) → MakesStep plan tells old step outcome new → Sound plan.confirm (cluster_of old)
      → TicketsAskOneThing old.slots → TicketsAskOneThing new.slots
  steps_ask_one_thing (Begin own call) (Says said) made sound all = ⊎_elim (λ d. begins_keep own call said d all) (λ d. begins_read own call said d all) made.1
  steps_ask_one_thing (Begin own call) (Refused fault) made sound all = same_keeps made.1 all
  steps_ask_one_thing (Begin own call) (NoMemory None) made sound all = same_keeps made all
  steps_ask_one_thing (Begin own call) (NoMemory (Some n)) made sound all = begins_short own call n made all
  steps_ask_one_thing (AskFor number) (Says said) made sound all = ⊎_elim (λ d. answers_keep number said d all) (λ d. answers_read number said d all) made.1
  steps_ask_one_thing (AskFor number) (Refused fault) made sound all = same_keeps made.1 all
  steps_ask_one_thing (AskFor number) (NoMemory down) made sound all = quiet_keeps old new (other_goes plan tells old new sound (AskFor number) (NoMemory down) tt made) all
  steps_ask_one_thing (Tick seconds) (Says said) made sound all = subst (λ (x : World). TicketsAskOneThing x.slots) (sym made.1.1) all
  steps_ask_one_thing (Tick seconds) (Refused fault) made sound all = same_keeps made.1 all
  steps_ask_one_thing (Tick seconds) (NoMemory down) made sound all = quiet_keeps old new (other_goes plan tells old new sound (Tick seconds) (NoMemory down) tt made) all
  steps_ask_one_thing (GiveUp number) outcome made sound all = quiet_keeps old new (other_goes plan tells old new sound (GiveUp number) outcome tt made) all
  steps_ask_one_thing (Post letter keep) outcome made sound all = quiet_keeps old new (other_goes plan tells old new sound (Post letter keep) outcome tt made) all
  steps_ask_one_thing (DropLetter letter) outcome made sound all = quiet_keeps old new (other_goes plan tells old new sound (DropLetter letter) outcome tt made) all
  steps_ask_one_thing (PushTo from to) outcome made sound all = quiet_keeps old new (other_goes plan tells old new sound (PushTo from to) outcome tt made) all
  steps_ask_one_thing (Widen at user id to) outcome made sound all = quiet_keeps old new (other_goes plan tells old new sound (Widen at user id to) outcome tt made) all
  steps_ask_one_thing (Form n) outcome made sound all = quiet_keeps old new (other_goes plan tells old new sound (Form n) outcome tt made) all
  steps_ask_one_thing (Crash n) outcome made sound all = quiet_keeps old new (other_goes plan tells old new sound (Crash n) outcome tt made) all
  steps_ask_one_thing (Start n) outcome made sound all = quiet_keeps old new (other_goes plan tells old new sound (Start n) outcome tt made) all
  steps_ask_one_thing (Lose n) outcome made sound all = quiet_keeps old new (other_goes plan tells old new sound (Lose n) outcome tt made) all

-- no ticket stands as a cluster opens
fresh_tickets : (nodes : ℕ) (managers : List MapRow) (k n : ℕ) (node : Node) (disk : List Record) → slot_at (fresh_slots nodes managers k) n ≡ Some (slot_up node disk) → (seq : ℕ) → fin.get node.tickets seq ≡ None
fresh_tickets nodes managers k zero node disk up seq = absurd (let never : None ≡ Some (slot_up node disk) = up in cc)
fresh_tickets nodes managers zero (suc n) node disk up seq = absurd (let never : None ≡ Some (slot_up node disk) = up in cc)
fresh_tickets nodes managers (suc k) (suc zero) node disk up seq = at_first up
  where
    at_first : Some (fresh_slot nodes managers) ≡ Some (slot_up node disk) → fin.get node.tickets seq ≡ None
    at_first e =
        let same : fresh_node nodes managers ≡ node = same_up (fresh_node nodes managers) node (Boot 1 ∷ Promise first_epoch ∷ []) disk e in
        ap (λ (x : Node). fin.get x.tickets seq) (sym same) ∙ fin.get-empty nat_cmp seq
fresh_tickets nodes managers (suc k) (suc (suc n)) node disk up seq = fresh_tickets nodes managers k (suc n) node disk up seq

pub opening_asks_one_thing : (nodes : ℕ) (managers : List MapRow) → TicketsAskOneThing (opening_world nodes managers).slots
opening_asks_one_thing nodes managers n node disk up seq ticket here =
    absurd (let never : None ≡ Some ticket = sym (fresh_tickets nodes managers nodes n node disk up seq) ∙ here in cc)
