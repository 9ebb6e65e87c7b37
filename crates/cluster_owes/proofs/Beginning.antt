-- A call that begins: what it does to tickets, and what is known then.
use Rattle.std.proofs.Common.{◌≡◌, inl, inr, ⊎_elim, ◌<◌, ◌≤◌, ◌+◌, ℕ, Bool, true, false, List, [], ◌∷◌, ◌++◌, Option, Some, None, refl, sym, ap, ◌∙◌, subst, arith, le_refl, le_trans, nat_eq, if◌then◌else◌}
use Rattle.std.specs.FinMap as fin
use Rattle.std.specs.Cmp.{nat_cmp_total}
use Rattle.std.proofs.lemmas.Map.Lookups.{exact_unsigned}
use Rattle.mail_model.specs.Identity.{Id}
use Rattle.mail_model.specs.Mail.{IsStored}
use Rattle.mail_model.specs.Plan.{Plan}
use Rattle.mail_model.specs.Record.{Record}
use Rattle.mail_model.specs.Stored.{IsOnClock}
use Rattle.mail_model.specs.Book.{BookEntry, acked_in, struck_in, dropped_in}
use Rattle.mail_model.specs.Told.{Mail}
use Rattle.object_model.specs.Lists.{Among}
use Rattle.object_model.specs.Letters.{Number, Letter}
use Rattle.object_model.specs.Mishaps.{MishapKind}
use Rattle.object_model.specs.Mishaps.MishapKind.{Crowded}
use Rattle.object_model.proofs.Lists.{among_either, same_some}
use Rattle.object_model.proofs.MapLaws.{written}
use Rattle.session_model.specs.Logs.{Asked, Answered}
use Rattle.session_model.specs.Books.{struck_by}
use Rattle.cluster_model.specs.Cluster.{Ticket, Node, Life, Slot, slot_at, with_slot}
use Rattle.cluster_model.specs.Cluster.Life.{Up, Down, Lost}
use Rattle.cluster_model.specs.Claims.{IsIdDrawn, DrawnIn}
use Rattle.cluster_model.specs.Parts.{IsHeldSomewhere}
use Rattle.cluster_model.specs.Rules.{Reaction, failed_at, mishap, new_number}
use Rattle.cluster_model.specs.Deeds.{slot_up}
use Rattle.cluster_model.specs.Room.{Flight, has_room}
use Rattle.cluster_model.specs.World.{World, letters_of, other_end, missed_by, missed_at, missed_under, missed, put}
use Rattle.cluster_model.specs.WorldLaws.{FiledBy}
use Rattle.cluster_model.specs.Makes.{IsUp, after}
use Rattle.cluster_model.proofs.Slots.{read_before, at_same}
use Rattle.cluster_owes.specs.Outcomes.{BegunCall}
use Rattle.cluster_owes.proofs.Standing.{StandsAs, IsWithinCalls, SameCall, NoneNew, TicketsGo, slot_goes, goes_through, put_goes, put_keeps, same_up}
use Rattle.cluster_owes.proofs.NodeSteps.{begin_goes}
use Rattle.cluster_owes.proofs.WorldSteps.{TicketsStep}
use Rattle.cluster_owes.proofs.Books.{IsBooked, AreMasked, masked_both, masked_none, book_begun}
use Rattle.cluster_owes.proofs.Known.{Filed, AreApart, TicketFits, FiledStands, BegunStands, Known, calls_still, tickets_still, numbered_still, filed_still, acks_still, answers_still}
use Rattle.cluster_owes.proofs.QuietSteps.{StepKept}

-- what was drawn is drawn, whatever befalls letters
abbrev DrawnStay : List Slot → List Slot → Type 0
DrawnStay old new = (id : Id) → IsIdDrawn old id → IsIdDrawn new id

slot_drawn : (slots : List Slot) (own : ℕ) (node next : Node) (disk after : List Record) → slot_at slots own ≡ Some (slot_up node disk) → next.boot ≡ node.boot → node.drawn ≤ next.drawn
    → DrawnStay slots (with_slot slots own (slot_up next after))
slot_drawn slots own node next disk after here boot drawn id d = ⊎_elim
    (λ (at, was, now). record {
      slot = slot_up next after;
      here = now;
      drawn = ⊎_elim
          (λ lt. inl (subst (λ b. id.boot < b) (sym boot) lt))
          (λ (same, le). inr (same ∙ sym boot, le_trans le drawn))
          (subst (λ (s : Slot). DrawnIn s.life s.disk id) was d.drawn);
    })
    (λ other. record { slot = d.slot; here = other; drawn = d.drawn })
    (read_before slots own id.node (slot_up node disk) (slot_up next after) d.slot here d.here)

missed_drawn : (kind : MishapKind) (slots : List Slot) (letter : Letter) → DrawnStay slots (missed kind slots letter)
missed_drawn kind slots letter = by letter.ticket
  where
    at_found : (at : ℕ) (number : Number) (node : Node) (disk : List Record) → slot_at slots number.node ≡ Some (slot_up node disk) → (stood : Option Ticket)
        → DrawnStay slots (with_slot slots number.node (slot_up (failed_at kind node disk number.seq at stood).node (failed_at kind node disk number.seq at stood).disk))
    at_found at number node disk here None = slot_drawn slots number.node node node disk disk here refl (le_refl node.drawn)
    at_found at number node disk here (Some ticket) = slot_drawn slots number.node node (failed_at kind node disk number.seq at (Some ticket)).node disk disk here refl (le_refl node.drawn)

    at_boot : (at : ℕ) (number : Number) (node : Node) (disk : List Record) → slot_at slots number.node ≡ Some (slot_up node disk) → (b : Bool)
        → DrawnStay slots (if b then with_slot slots number.node (slot_up (mishap kind number.seq at node disk).node (mishap kind number.seq at node disk).disk) else slots)
    at_boot at number node disk here true = at_found at number node disk here (fin.get node.tickets number.seq)
    at_boot at number node disk here false = λ id d. d

    at_life : (at : ℕ) (number : Number) (disk : List Record) (life : Life) → slot_at slots number.node ≡ Some (record { life = life; disk = disk }) → DrawnStay slots (missed_by kind slots at number disk life)
    at_life at number disk (Up node) here = at_boot at number node disk here (nat_eq number.boot node.boot)
    at_life at number disk (Down pending) here = λ id d. d
    at_life at number disk Lost here = λ id d. d

    at_slot : (at : ℕ) (number : Number) (found : Option Slot) → slot_at slots number.node ≡ found → DrawnStay slots (missed_at kind slots at number found)
    at_slot at number None e = λ id d. d
    at_slot at number (Some slot) e = at_life at number slot.disk slot.life e

    by : (ticket : Option Number) → DrawnStay slots (missed_under kind slots letter ticket)
    by None = λ id d. d
    by (Some number) = at_slot (other_end letter number) number (slot_at slots number.node) refl

put_drawn : (room : List Flight → Letter → Bool) (letters : List Letter) (w : World) → DrawnStay w.slots (put room letters w).slots
put_drawn room [] w = λ id d. d
put_drawn room (letter ∷ letters) w = by (λ (v : World). put_drawn room letters v) (room w.flying letter)
  where
    by : ((v : World) → DrawnStay v.slots (put room letters v).slots) → (b : Bool)
        → DrawnStay w.slots ((λ (x : World). x.slots) (if b
        then put room letters (record w { flying = w.flying ++ record { number = w.sent + 1; letter = letter } ∷ []; sent = w.sent + 1 })
        else put room letters (record w { slots = missed Crowded w.slots letter })))
    by rest true = rest (record w { flying = w.flying ++ record { number = w.sent + 1; letter = letter } ∷ []; sent = w.sent + 1 })
    by rest false = λ id d. rest (record w { slots = missed Crowded w.slots letter }) id (missed_drawn Crowded w.slots letter id d)

-- A call begins at a node, and this ticket stands under the next number.
module _ (w : World) (own : ℕ) (node : Node) (disk : List Record) (did : Reaction) (ticket : Ticket) (up : IsUp w own node disk) (boot : did.node.boot ≡ node.boot)
    (calls : did.node.calls ≡ node.calls + 1) (tickets : did.node.tickets ≡ fin.insert node.tickets (node.calls + 1) ticket) where
  abbrev mid : World
  mid = record w { slots = with_slot w.slots own (slot_up did.node did.disk) }

  abbrev number : Number
  number = new_number own node

  put_go : TicketsGo mid.slots (after w own did).slots NoneNew
  put_go = put_goes has_room did.out mid

  mid_up : slot_at mid.slots own ≡ Some (slot_up did.node did.disk)
  mid_up = at_same w.slots own (slot_up node disk) (slot_up did.node did.disk) up

  pub begun_tickets : TicketsStep w.slots (after w own did).slots (λ n t. n ≡ number)
  begun_tickets =
      let go = goes_through w.slots mid.slots (after w own did).slots _ (slot_goes w.slots own node did.node disk did.disk _ up (begin_goes node did.node ticket boot calls tickets)) put_go in
      record {
        calls = λ n drawn within. go.calls n within;
        came = λ n t s. ⊎_elim
            (λ before. inl before)
            (λ (first, (at, of_boot, of_seq), same). inr (λ i. record { node = at i; boot = of_boot i; seq = of_seq.0 i }))
            (go.came n t s);
      }

  pub begun_within : IsWithinCalls (after w own did).slots number
  begun_within = put_go.calls number (λ other others there same. let is : other ≡ did.node = same_up other did.node others did.disk (sym there ∙ mid_up) in
      subst (λ (n : Node). node.calls + 1 ≤ n.calls) (sym is) (let e = calls in omega (arith, e)))

  pub begun_stands : (t : Ticket) → StandsAs (after w own did).slots number t → SameCall ticket t
  begun_stands t s = ⊎_elim
      (λ (before, stood, same).
      let is : stood.node ≡ did.node = same_up stood.node did.node stood.disk did.disk (sym stood.up ∙ mid_up) in
      let at : Some ticket ≡ Some before = sym (ap (λ m. fin.get m (node.calls + 1)) tickets ∙ written nat_cmp_total exact_unsigned node.tickets (node.calls + 1) ticket)
      ∙ ap (λ (n : Node). fin.get n.tickets (node.calls + 1)) (sym is) ∙ stood.here in
      subst (λ (x : Ticket). SameCall x t) (sym (some_same ticket before at)) same)
      (λ none. absurd none)
      (put_go.came number t s)
    where
      some_same : (a b : Ticket) → Some a ≡ Some b → a ≡ b
      some_same a b e = cc

  pub begun_drawn : (id : Id) → id.node ≡ own → id.boot ≡ node.boot → id.seq ≤ did.node.drawn → IsIdDrawn (after w own did).slots id
  begun_drawn id at of_boot le = put_drawn has_room did.out mid id (record { slot = slot_up did.node did.disk; here = ap (slot_at mid.slots) at ∙ mid_up; drawn = inr (of_boot ∙ sym boot, le) })

  pub begun_keeps : ((after w own did).seconds ≡ w.seconds) × ((after w own did).book ≡ w.book)
  begun_keeps = put_keeps has_room did.out mid

-- the next id of a node is not drawn yet
pub not_drawn_yet : (w : World) (own : ℕ) (mail : Mail) (id : Id) (octets : List ℕ) → FiledBy w own mail id octets → IsIdDrawn w.slots id → ⊥
not_drawn_yet w own mail id octets f d = clash (ap (λ (i : Id). i.node) f.same_id) (ap (λ (i : Id). i.boot) f.same_id) (ap (λ (i : Id). i.seq) f.same_id)
  where
    clash : own ≡ id.node → f.node.boot ≡ id.boot → f.node.drawn + 1 ≡ id.seq → ⊥
    clash at boot seq =
        let slot : d.slot ≡ slot_up f.node f.disk = same_some (slot_at w.slots own) d.slot (slot_up f.node f.disk) (ap (slot_at w.slots) at ∙ d.here) f.up in
        ⊎_elim
        (λ lt. omega (arith, boot, lt))
        (λ (same, le). omega (arith, seq, le))
        (subst (λ (s : Slot). DrawnIn s.life s.disk id) slot d.drawn)

-- and the next number of a ticket is not drawn
pub not_called_yet : (slots : List Slot) (own : ℕ) (node : Node) (disk : List Record) → slot_at slots own ≡ Some (slot_up node disk) → (number : Number) → IsWithinCalls slots number → number ≡ new_number own node → ⊥
not_called_yet slots own node disk up number within same =
    let le = within node disk (ap (λ (n : Number). slot_at slots n.node) same ∙ up) (ap (λ (n : Number). n.boot) same) in
    let seq = ap (λ (n : Number). n.seq) same in
    omega (arith, le, seq)

-- What is known once a call began: these files more, and these calls that have begun.
module _ (plan : Plan) (tells : Bool) (lines : List (List ℕ)) (asked : List Asked) (answered : List Answered) (begun : List BegunCall) (old new : World)
    (known : Known plan tells lines asked answered begun old) (kept : StepKept plan old new) (one : Asked) (more : List BookEntry) (New : Number → Type 0)
    (seconds : new.seconds ≡ old.seconds) (book : new.book ≡ old.book ++ more)
    (struck : struck_in more ≡ struck_by one.call) (dropped : dropped_in more ≡ []) (acked : acked_in more ≡ [])
    (step : TicketsStep old.slots new.slots (λ number ticket. New number)) (fresh : (number : Number) → IsWithinCalls old.slots number → New number → ⊥)
    (held : (f : Filed) → Among f known.files → (octets : List ℕ) → IsHeldSomewhere new.slots (letters_of new.flying) f.id octets → IsStored f.mail f.id f.seconds octets)
    (files : List Filed) (apart : AreApart (known.files ++ files)) (filed : (f : Filed) → Among f files → FiledStands new f)
    (lasts : List BegunCall) (stand : (last : BegunCall) → Among last lasts → BegunStands new last)
    (fit : (last : BegunCall) (ticket : Ticket) → Among last lasts → StandsAs new.slots last.ticket ticket → TicketFits lines (known.files ++ files) last last.call ticket)
    (begins : (number : Number) → New number → IsWithinCalls new.slots number) where
  pub known_begun : Known plan tells lines (asked ++ one ∷ []) answered (begun ++ lasts) new
  known_begun = record {
    in_plan = kept.in_plan;
    sound = kept.sound;
    clock = subst (IsOnClock lines) (sym seconds) known.clock;
    told = known.told;
    told_are = known.told_are;
    book_is = subst (IsBooked lines (asked ++ one ∷ []) answered known.told) (sym book) (book_begun lines asked answered known.told old.book more one struck dropped acked known.book_is);
    masked = subst (λ b. AreMasked b) (sym book) (masked_both old.book more known.masked (masked_none more acked dropped));
    files = known.files ++ files;
    apart = apart;
    filed = λ f m. ⊎_elim
        (λ was. filed_still plan tells lines asked answered begun old new known kept.grew New step fresh f was (held f was))
        (λ is. filed f is)
        (among_either f known.files files m);
    calls = λ call m. ⊎_elim
        (λ was. calls_still plan tells lines asked answered begun old new known kept.grew New step fresh call was)
        (λ is. stand call is)
        (among_either call begun lasts m);
    tickets = λ call ticket m s. ⊎_elim
        (λ was. tickets_still plan tells lines asked answered begun old new known kept.grew New step fresh files call ticket was s)
        (λ is. fit call ticket is s)
        (among_either call begun lasts m);
    numbered = λ number ticket s. numbered_still plan tells lines asked answered begun old new known kept.grew New step fresh begins number ticket s;
    acks = λ ack m. acks_still plan tells lines asked answered begun old new known kept.grew New step fresh files ack m;
    other_ids = known.other_ids;
    answers = λ a m. answers_still plan tells lines asked answered begun old new known kept.grew New step fresh a m;
  }
