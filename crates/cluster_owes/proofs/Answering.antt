-- A ticket that is answered: what is known then.
use Rattle.std.proofs.Common.{◌≡◌, ◌⊎◌, inl, inr, ⊎_elim, ℕ, Bool, true, false, ◌&&◌, List, [], ◌∷◌, ◌++◌, Some, None, refl, sym, ap, ◌∙◌, subst, eqb-true, if◌then◌else◌}
use Rattle.std.specs.Prelude.{nat_eq}
use Rattle.std.specs.FinMap as fin
use Rattle.std.specs.List.{list_all}
use Rattle.std.proofs.lemmas.Bool.{and_parts}
use Rattle.mail_model.specs.Identity.{Id}
use Rattle.mail_model.specs.Plan.{Plan}
use Rattle.mail_model.specs.Record.{Record}
use Rattle.mail_model.specs.Book.{BookEntry}
use Rattle.mail_model.specs.Stored.{Ack, HaveOtherIds, IsOther, IsOnClock}
use Rattle.object_model.specs.Lists.{Among}
use Rattle.object_model.specs.Letters.{Number}
use Rattle.object_model.specs.Mishaps.{Mishaps}
use Rattle.session_model.specs.Calls.{Call, Answer}
use Rattle.session_model.specs.Logs.{Asked, Answered}
use Rattle.session_model.specs.Books.{acks_by, dropped_by, AreAcksOf}
use Rattle.cluster_model.specs.Cluster.{AskedOfNodes, Want, Ticket, Node, Slot, slot_at, with_slot}
use Rattle.cluster_model.specs.Cluster.AskedOfNodes.{Copies, Deletion}
use Rattle.cluster_model.specs.Rules.{ticket_at, end_ticket}
use Rattle.cluster_model.specs.Progress.{NodeAnswer, is_confirmed, has_failed, answer_once_confirmed, pending_of_call, ask_of_wants}
use Rattle.cluster_model.specs.Progress.NodeAnswer.{Failed}
use Rattle.cluster_model.specs.Progress.Ask.{Done}
use Rattle.cluster_model.specs.Deeds.{slot_up}
use Rattle.cluster_model.specs.World.{World}
use Rattle.cluster_model.specs.Makes.{IsUp}
use Rattle.cluster_model.proofs.Slots.{at_same}
use Rattle.cluster_owes.specs.Outcomes.{BegunCall}
use Rattle.cluster_owes.proofs.Standing.{StandsAs, NoneNew, TicketsGo, slot_quiet, same_up}
use Rattle.cluster_owes.proofs.NodeSteps.{end_goes, ended}
use Rattle.cluster_owes.proofs.WorldSteps.{AreLives, TicketsStep, steps_so}
use Rattle.cluster_owes.proofs.Books.{IsBooked, AreMasked, masked_both}
use Rattle.cluster_owes.proofs.Known.{Filed, AreApart, AnswerStands, TicketFits, AckStands, Known, HoldsNoMore, calls_still, tickets_still, numbered_still, filed_still, acks_still, answers_still}
use Rattle.cluster_owes.proofs.QuietSteps.{StepKept, known_quiet, known_answered, answers_either}

-- the ticket that is found stands
pub ticket_stands : (number : Number) (slots : List Slot) (node : Node) (disk : List Record) (ticket : Ticket) → slot_at slots number.node ≡ Some (slot_up node disk)
    → ticket_at number.node node (Some number) ≡ Some ticket → StandsAs slots number ticket
ticket_stands number slots node disk ticket up e = by (nat_eq number.node number.node && nat_eq number.boot node.boot) refl e
  where
    by : (b : Bool) → (nat_eq number.node number.node && nat_eq number.boot node.boot) ≡ b → (if b then fin.get node.tickets number.seq else None) ≡ Some ticket → StandsAs slots number ticket
    by true t g = record { node = node; disk = disk; up = up; boot = eqb-true number.boot node.boot (and_parts (nat_eq number.node number.node) (nat_eq number.boot node.boot) t).1; here = g }
    by false t g = absurd (cc g)

pub done_same : (a b : NodeAnswer) → Done a ≡ Done b → a ≡ b
done_same a b e = cc

pending_not : (confirm : ℕ) (wants : List Want) (want : Want) (asked : AskedOfNodes) (own : NodeAnswer) → pending_of_call confirm wants want asked ≡ Done own → ⊥
pending_not confirm wants want (Copies filing) own e = cc
pending_not confirm wants want (Deletion user id) own e = cc

-- it is confirmed, or has failed
pub answered_so : (confirm : ℕ) (mishaps : Mishaps) (wants : List Want) (want : Want) (more : List Want) (own : NodeAnswer) → wants ≡ want ∷ more → ask_of_wants confirm mishaps wants ≡ Done own
    → (own ≡ answer_once_confirmed (want ∷ more) want want.asked) ⊎ (own ≡ Failed mishaps)
answered_so confirm mishaps wants want more own is e =
    by (list_all (is_confirmed confirm) (want ∷ more)) (has_failed confirm (want ∷ more)) (sym (ap (ask_of_wants confirm mishaps) is) ∙ e)
  where
    by : (a b : Bool) → (if a then Done (answer_once_confirmed (want ∷ more) want want.asked) else (if b then Done (Failed mishaps) else pending_of_call confirm (want ∷ more) want want.asked)) ≡ Done own
        → (own ≡ answer_once_confirmed (want ∷ more) want want.asked) ⊎ (own ≡ Failed mishaps)
    by true b g = inl (sym (done_same (answer_once_confirmed (want ∷ more) want want.asked) own g))
    by false true g = inr (sym (done_same (Failed mishaps) own g))
    by false false g = absurd (pending_not confirm (want ∷ more) want want.asked own g)

pub failed_so : (confirm : ℕ) (mishaps : Mishaps) (wants : List Want) (own : NodeAnswer) → wants ≡ [] → ask_of_wants confirm mishaps wants ≡ Done own → own ≡ Failed mishaps
failed_so confirm mishaps wants own is e = sym (done_same (Failed mishaps) own (sym (ap (ask_of_wants confirm mishaps) is) ∙ e))

-- two files of one id are one
pub apart_same : (files : List Filed) → AreApart files → (f g : Filed) → Among f files → Among g files → f.id ≡ g.id → f ≡ g
apart_same [] apart f g m k same = absurd m
apart_same (one ∷ files) apart f g (inl p) (inl q) same = sym p ∙ q
apart_same (one ∷ files) apart f g (inl p) (inr k) same = absurd (apart.0 g k (sym same ∙ ap (λ (x : Filed). x.id) (sym p)))
apart_same (one ∷ files) apart f g (inr m) (inl q) same = absurd (apart.0 f m (same ∙ ap (λ (x : Filed). x.id) (sym q)))
apart_same (one ∷ files) apart f g (inr m) (inr k) same = apart_same files apart.1 f g m k same

-- an answer of another id more
is_other_push : (id : Id) (acks : List Ack) (ack : Ack) → IsOther id acks → (ack.id ≡ id → ⊥) → IsOther id (acks ++ ack ∷ [])
is_other_push id [] ack o new = (new, tt)
is_other_push id (first ∷ acks) ack o new = (o.0, is_other_push id acks ack o.1 new)

pub others_push : (acks : List Ack) (ack : Ack) → HaveOtherIds acks → ((one : Ack) → Among one acks → ack.id ≡ one.id → ⊥) → HaveOtherIds (acks ++ ack ∷ [])
others_push [] ack o new = (tt, tt)
others_push (first ∷ acks) ack o new = (is_other_push first.id acks ack o.0 (new first (inl refl)), others_push acks ack o.1 (λ one m. new one (inr m)))

module _ (plan : Plan) (tells : Bool) (lines : List (List ℕ)) (asked : List Asked) (answered : List Answered) (begun : List BegunCall) (old new : World)
    (known : Known plan tells lines asked answered begun old) (k : ℕ) (call : Call) (number : Number) (node : Node) (disk : List Record) (stood : Ticket) (up : IsUp old number.node node disk)
    (kept : StepKept plan old new) (holds : HoldsNoMore old new) (entries : List BookEntry)
    (is : new ≡ record old { slots = with_slot old.slots number.node (slot_up (end_ticket number.seq node disk).node disk); book = old.book ++ entries }) (stands : StandsAs old.slots number stood) where
  seconds : new.seconds ≡ old.seconds
  seconds = ap (λ (w : World). w.seconds) is

  book : new.book ≡ old.book ++ entries
  book = ap (λ (w : World). w.book) is

  slots : new.slots ≡ with_slot old.slots number.node (slot_up (end_ticket number.seq node disk).node disk)
  slots = ap (λ (w : World). w.slots) is

  go : TicketsGo old.slots new.slots NoneNew
  go = subst (λ s. TicketsGo old.slots s NoneNew) (sym slots) (slot_quiet old.slots number.node node (end_ticket number.seq node disk).node disk disk up (end_goes number.seq node disk))

  abbrev step : TicketsStep old.slots new.slots NoneNew
  step = steps_so old.slots new.slots NoneNew go

  pub stands_not : (ticket : Ticket) → StandsAs new.slots number ticket → ⊥
  stands_not ticket s =
      let now : slot_at new.slots number.node ≡ Some (slot_up (end_ticket number.seq node disk).node disk) = ap (λ l. slot_at l number.node) slots
      ∙ at_same old.slots number.node (slot_up node disk) (slot_up (end_ticket number.seq node disk).node disk) up in
      let same : s.node ≡ (end_ticket number.seq node disk).node = same_up s.node (end_ticket number.seq node disk).node s.disk disk (sym s.up ∙ now) in
      ended number.seq node disk ticket (ap (λ (n : Node). fin.get n.tickets number.seq) (sym same) ∙ s.here)

  -- an answer that the book does not tell of
  pub quiet_answer : (answer : Answer) → entries ≡ [] → dropped_by call answer ≡ [] → acks_by (record { session = k; call = call; answer = answer }) ≡ [] → AnswerStands tells new.slots call answer
      → Known plan tells lines asked (answered ++ record { session = k; call = call; answer = answer } ∷ []) begun new
  quiet_answer answer none no_drop no_ack stands_so = known_answered plan tells lines asked answered begun new k call answer no_drop no_ack stands_so
      (known_quiet plan tells lines asked answered begun old new known kept
      (record { entries = entries; lives = subst AreLives (sym none) (record { acked = refl; struck = refl; dropped = refl }); goes = record { seconds = seconds; book = book; tickets = step } }) holds)

  -- what is known in any case, with a book and answers of its own
  module _ (answer : Answer) (told : List Ack) (told_are : AreAcksOf (answered ++ record { session = k; call = call; answer = answer } ∷ []) told)
      (book_is : IsBooked lines asked (answered ++ record { session = k; call = call; answer = answer } ∷ []) told (old.book ++ entries)) (masked : AreMasked entries)
      (acks : (ack : Ack) → Among ack told → AckStands lines new known.files ack)
      (others : HaveOtherIds told) (stands_so : AnswerStands tells new.slots call answer) where
    pub told_answer : Known plan tells lines asked (answered ++ record { session = k; call = call; answer = answer } ∷ []) begun new
    told_answer = record {
      in_plan = kept.in_plan;
      sound = kept.sound;
      clock = subst (IsOnClock lines) (sym seconds) known.clock;
      told = told;
      told_are = told_are;
      book_is = subst (IsBooked lines asked (answered ++ record { session = k; call = call; answer = answer } ∷ []) told) (sym book) book_is;
      masked = subst (λ b. AreMasked b) (sym book) (masked_both old.book entries known.masked masked);
      files = known.files;
      apart = known.apart;
      filed = λ f m. filed_still plan tells lines asked answered begun old new known kept.grew (λ n. ⊥) step (λ n w none. none) f m (λ octets h. (known.filed f m).held octets (holds f.id octets h));
      calls = λ one m. calls_still plan tells lines asked answered begun old new known kept.grew (λ n. ⊥) step (λ n w none. none) one m;
      tickets = λ one ticket m s. subst (λ files. TicketFits lines files one one.call ticket) (same_files known.files)
          (tickets_still plan tells lines asked answered begun old new known kept.grew (λ n. ⊥) step (λ n w none. none) [] one ticket m s);
      numbered = λ number ticket s. numbered_still plan tells lines asked answered begun old new known kept.grew (λ n. ⊥) step (λ n w none. none) (λ n none. absurd none) number ticket s;
      acks = acks;
      other_ids = others;
      answers = λ one m. ⊎_elim
          (λ was. answers_still plan tells lines asked answered begun old new known kept.grew (λ n. ⊥) step (λ n w none. none) one was)
          (λ same. subst (λ (a : Answered). AnswerStands tells new.slots a.call a.answer) same stands_so)
          (answers_either one (record { session = k; call = call; answer = answer }) answered m);
    }
      where
        same_files : (files : List Filed) → files ++ [] ≡ files
        same_files [] = refl
        same_files (f ∷ files) = ap (λ (l : List Filed). f ∷ l) (same_files files)

  pub old_acks : (ack : Ack) → Among ack known.told → AckStands lines new known.files ack
  old_acks ack m = subst (λ files. AckStands lines new files ack) (same_files known.files)
      (acks_still plan tells lines asked answered begun old new known kept.grew (λ n. ⊥) step (λ n w none. none) [] ack m)
    where
      same_files : (files : List Filed) → files ++ [] ≡ files
      same_files [] = refl
      same_files (f ∷ files) = ap (λ (l : List Filed). f ∷ l) (same_files files)
