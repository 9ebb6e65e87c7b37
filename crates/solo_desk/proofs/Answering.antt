-- What a call that is asked for acknowledges.
use Rattle.std.proofs.Common.{◌≡◌, inr, ℕ, true, false, nat_eq, eqb-true, true≢false, List, [], ◌∷◌, Option, Some, None, refl, sym, ap, ◌∙◌, subst}
use Rattle.std.specs.Prelude.{Result, Ok, Err}
use Rattle.std.specs.Ordering.{eq_by_cmp}
use Rattle.std.specs.Cmp.Lexicographic.{pointwise, same_text}
use Rattle.std.proofs.lemmas.Map.Views.{tells_apart}
use Rattle.object_model.proofs.MapLaws.{id_exact}
use Rattle.std.proofs.lemmas.Bool.{and_parts}
use Rattle.mail_model.specs.Identity.{Id}
use Rattle.mail_model.specs.Book.{Acked, acked_in}
use Rattle.mail_base.specs.Orders.{id_cmp}
use Rattle.mail_base.specs.declared.filing.Begun.{Begun}
use Rattle.mail_base.specs.declared.filing.Filing.{Filing}
use Rattle.mail_base.specs.declared.filing.CallKind.{CallKind}
use Rattle.mail_base.specs.declared.filing.CallKind.TheVariants as kinds
use Rattle.call_tickets.specs.Seen.{answer_seen}
use Rattle.call_tickets.specs.Asks.{FitsKind}
use Rattle.call_tickets.specs.declared.answer.Answer.{Answer}
use Rattle.call_tickets.specs.declared.answer.Answer.TheVariants as answer
use Rattle.call_tickets.specs.declared.answer.Ask.{Ask}
use Rattle.call_tickets.specs.declared.answer.Ask.TheVariants.{Pending, Done}
use Rattle.call_tickets.specs.declared.desk.DeskFault.{DeskFault}
use Rattle.call_tickets.specs.declared.desk.DeskTicket.{DeskTicket}
use Rattle.cluster_model.specs.Cluster.{NodeFiling, Ticket}
use Rattle.joint_world.specs.World.{mail_world_of}
use Rattle.node_store.specs.Disks.{View}
use Rattle.node_tickets.specs.Seen.{filing_seen, progress_seen}
use Rattle.node_tickets.specs.Standing.{filed_seen, filing_at}
use Rattle.cluster_world.specs.Outcomes.{IsRefusal}
use Rattle.cluster_world.specs.Steps.{IsStep}
use Rattle.cluster_world.specs.Sure.{IsSurelyDone}
use Rattle.cluster_world.specs.Telling.{standing_in, kind_standing}
use Rattle.cluster_world.specs.Worlds.{state_of, plan_of, disks_tell}
use Rattle.cluster_world.specs.declared.world.World.{World}
use Rattle.cluster_world.specs.declared.step.Step.TheVariants as step
use Rattle.cluster_world.specs.declared.step.Said.{Said}
use Rattle.cluster_world.specs.declared.step.Said.TheVariants as said
use Rattle.cluster_world.specs.declared.fault.StepFault.{StepFault}
use Rattle.cluster_world.specs.declared.fault.StepFault.TheVariants as fault
use Rattle.desk_model.specs.Added.{copies_filed, AreCopiesOf, AcknowledgesFor, AreForAnswer}
use Rattle.desk_model.specs.Growing.{AnswersInKind}
use Rattle.desk_model.specs.Tickets.{StandsUnder, filing_in}
use Rattle.desk_model.proofs.Answered.{answers_acknowledge}
use Rattle.solo_desk.specs.Asking.{OwnAnswer, HandsOn}
use Rattle.desk_model.specs.Entries.{IsStoredAs, AckedBy, AsksWith}
use Rattle.solo_desk.specs.Serving.{CanServe, AddsTo}
use Rattle.solo_desk.specs.Standing.{fits_kind, same_filing, is_filed, may_file, stands_as_begun}
use Rattle.solo_desk.specs.Steps.{AsksBy, refusal_of}
use Rattle.solo_desk.proofs.Stepping.{led, booked, idle_adds, refused_adds}
use Rattle.solo_desk.proofs.Found.{stands_there, wanted_same, IsFound, as_found}

-- an answer that fits its kind
fits_so : (kind : CallKind) (given : Answer) → fits_kind kind given ≡ true → FitsKind kind (answer_seen given)
fits_so kinds.Deliver (answer.Stored id confirmers) e = tt
fits_so kinds.Deliver (answer.Listed login manager asked items) e = absurd (true≢false (sym e))
fits_so kinds.Deliver (answer.Wrong stamp) e = absurd (true≢false (sym e))
fits_so kinds.Deliver (answer.InUse by) e = absurd (true≢false (sym e))
fits_so kinds.Deliver (answer.NoProfile manager) e = absurd (true≢false (sym e))
fits_so kinds.Deliver (answer.Part octets whole) e = absurd (true≢false (sym e))
fits_so kinds.Deliver answer.GoneAlready e = absurd (true≢false (sym e))
fits_so kinds.Deliver (answer.Dropped confirmers) e = absurd (true≢false (sym e))
fits_so kinds.Deliver (answer.Failed mishaps) e = tt
fits_so kinds.Login (answer.Stored id confirmers) e = absurd (true≢false (sym e))
fits_so kinds.Login (answer.Listed login manager asked items) e = tt
fits_so kinds.Login (answer.Wrong stamp) e = tt
fits_so kinds.Login (answer.InUse by) e = tt
fits_so kinds.Login (answer.NoProfile manager) e = tt
fits_so kinds.Login (answer.Part octets whole) e = absurd (true≢false (sym e))
fits_so kinds.Login answer.GoneAlready e = absurd (true≢false (sym e))
fits_so kinds.Login (answer.Dropped confirmers) e = absurd (true≢false (sym e))
fits_so kinds.Login (answer.Failed mishaps) e = tt
fits_so kinds.Fetch (answer.Stored id confirmers) e = absurd (true≢false (sym e))
fits_so kinds.Fetch (answer.Listed login manager asked items) e = absurd (true≢false (sym e))
fits_so kinds.Fetch (answer.Wrong stamp) e = absurd (true≢false (sym e))
fits_so kinds.Fetch (answer.InUse by) e = absurd (true≢false (sym e))
fits_so kinds.Fetch (answer.NoProfile manager) e = absurd (true≢false (sym e))
fits_so kinds.Fetch (answer.Part octets whole) e = tt
fits_so kinds.Fetch answer.GoneAlready e = tt
fits_so kinds.Fetch (answer.Dropped confirmers) e = absurd (true≢false (sym e))
fits_so kinds.Fetch (answer.Failed mishaps) e = tt
fits_so kinds.Strike (answer.Stored id confirmers) e = absurd (true≢false (sym e))
fits_so kinds.Strike (answer.Listed login manager asked items) e = absurd (true≢false (sym e))
fits_so kinds.Strike (answer.Wrong stamp) e = absurd (true≢false (sym e))
fits_so kinds.Strike (answer.InUse by) e = absurd (true≢false (sym e))
fits_so kinds.Strike (answer.NoProfile manager) e = absurd (true≢false (sym e))
fits_so kinds.Strike (answer.Part octets whole) e = absurd (true≢false (sym e))
fits_so kinds.Strike answer.GoneAlready e = absurd (true≢false (sym e))
fits_so kinds.Strike (answer.Dropped confirmers) e = tt
fits_so kinds.Strike (answer.Failed mishaps) e = tt

some_same : {X : Type 0} (a b : X) → Some a ≡ Some b → a ≡ b
some_same a b e = cc

id_same : (a b : Id) → eq_by_cmp id_cmp a b ≡ true → a ≡ b
id_same a b e = tells_apart id_exact a b e

texts_same : (a b : List ℕ) → pointwise nat_eq a b ≡ true → a ≡ b
texts_same a b e = same_text a b (sym e)

names_same : (a b : List (List ℕ)) → pointwise (pointwise nat_eq) a b ≡ true → a ≡ b
names_same [] [] e = refl
names_same [] (y ∷ ys) e = absurd (true≢false (sym e))
names_same (x ∷ xs) [] e = absurd (true≢false (sym e))
names_same (x ∷ xs) (y ∷ ys) e =
    let both = and_parts (pointwise nat_eq x y) (pointwise (pointwise nat_eq) xs ys) e in
    rw (texts_same x y both.0, names_same xs ys both.1) refl

-- two filings that are the same
filing_same : (found : NodeFiling) (filing : Filing) → same_filing found filing ≡ true → found ≡ filing_seen filing
filing_same found filing e =
    let a = and_parts _ _ e in
    let b = and_parts _ _ a.0 in
    let c = and_parts _ _ b.0 in
    let d = and_parts _ _ c.0 in
    fields (id_same found.id filing.id d.0) (names_same found.users filing.users d.1) (eqb-true found.seconds filing.seconds c.1) (eqb-true found.size filing.length b.1)
    (texts_same found.digest filing.digest a.1)
  where
    fields : found.id ≡ filing.id → found.users ≡ filing.users → found.seconds ≡ filing.seconds → found.size ≡ filing.length → found.digest ≡ filing.digest → found ≡ filing_seen filing
    fields i u s l d = λ k. record { id = i k; users = u k; seconds = s k; size = l k; digest = d k }

-- what stands there was filed
filed_same : (found : Option NodeFiling) (filed : Option Filing) → is_filed found filed ≡ true → found ≡ filed_seen filed
filed_same None None e = refl
filed_same None (Some filing) e = absurd (true≢false (sym e))
filed_same (Some found) None e = absurd (true≢false (sym e))
filed_same (Some found) (Some filing) e = ap Some (filing_same found filing e)

-- a message that is stored was filed
stored_as : (filed : Option Filing) (id : Id) (acked : List Acked) → AreCopiesOf (filed_seen filed) id acked → IsStoredAs filed id acked
stored_as None id acked copies = absurd (let never : None ≡ Some copies.filing = copies.was in cc)
stored_as (Some filing) id acked copies =
    let same : filing_seen filing ≡ copies.filing = some_same (filing_seen filing) copies.filing copies.was in
    record {
      filing = filing;
      was = refl;
      is = ap (λ (f : NodeFiling). f.id) same ∙ copies.same_id;
      confirmers = copies.confirmers;
      are = copies.are ∙ ap (λ f. copies_filed f copies.confirmers) (sym same);
    }

acked_so : (filed : Option Filing) (given : Answer) (acked : List Acked) → AcknowledgesFor (filed_seen filed) (progress_seen given) acked → AckedBy filed (answer_seen given) acked
acked_so filed (answer.Stored id confirmers) acked for = stored_as filed id acked for
acked_so filed (answer.Listed login manager asked items) acked for = for
acked_so filed (answer.Wrong stamp) acked for = for
acked_so filed (answer.InUse by) acked for = for
acked_so filed (answer.NoProfile manager) acked for = for
acked_so filed (answer.Part octets whole) acked for = for
acked_so filed answer.GoneAlready acked for = for
acked_so filed (answer.Dropped confirmers) acked for = for
acked_so filed (answer.Failed mishaps) acked for = for

-- an answer of another kind acknowledges nothing
none_stored : (kind : CallKind) (filed : Option Filing) (id : Id) (acked : List Acked) → may_file kind filed ≡ true → (kind ≡ kinds.Deliver → ⊥) → AreCopiesOf (filed_seen filed) id acked → acked ≡ []
none_stored kind None id acked may other copies = absurd (let never : None ≡ Some copies.filing = copies.was in cc)
none_stored kinds.Deliver (Some filing) id acked may other copies = absurd (other refl)
none_stored kinds.Login (Some filing) id acked may other copies = absurd (true≢false (sym may))
none_stored kinds.Fetch (Some filing) id acked may other copies = absurd (true≢false (sym may))
none_stored kinds.Strike (Some filing) id acked may other copies = absurd (true≢false (sym may))

no_acks : (begun : Begun) (given : Answer) (acked : List Acked) → may_file begun.kind begun.filing ≡ true → fits_kind begun.kind given ≡ false → AcknowledgesFor (filed_seen begun.filing) (progress_seen given) acked → acked ≡ []
no_acks begun (answer.Stored id confirmers) acked may fits for = none_stored begun.kind begun.filing id acked may
    (λ same. true≢false (ap (λ k. fits_kind k (answer.Stored id confirmers)) (sym same) ∙ fits)) for
no_acks begun (answer.Listed login manager asked items) acked may fits for = for
no_acks begun (answer.Wrong stamp) acked may fits for = for
no_acks begun (answer.InUse by) acked may fits for = for
no_acks begun (answer.NoProfile manager) acked may fits for = for
no_acks begun (answer.Part octets whole) acked may fits for = for
no_acks begun answer.GoneAlready acked may fits for = for
no_acks begun (answer.Dropped confirmers) acked may fits for = for
no_acks begun (answer.Failed mishaps) acked may fits for = for

module _ {D : Type 0} (on : View D) (ticket : DeskTicket) (old new : World D) (serves : CanServe on old) (as_begun : stands_as_begun old ticket ≡ true) where
  found : IsFound (filing_at (standing_in old ticket.ticket)) ticket.begun
  found = as_found (kind_standing old ticket.ticket) (filing_at (standing_in old ticket.ticket)) ticket.begun as_begun

  -- what stands under its ticket among those of messages, if it stands there, filed what the call filed
  filed_there : (one : Ticket) → StandsUnder (mail_world_of serves.whole.v).slots ticket.ticket one → filing_in one.wants ≡ filed_seen ticket.begun.filing
  filed_there one under =
      sym (wanted_same one.wants) ∙ ap filing_at (sym (stands_there on old (mail_world_of serves.whole.v) serves.ready serves.whole.stands.mail ticket.ticket one under))
      ∙ filed_same (filing_at (standing_in old ticket.ticket)) ticket.begun.filing found.is

  -- it was answered
  answer_adds : (given : Answer) → IsStep on (Ok (said.Asked (Done given))) (step.Ask ticket.ticket) old new → AddsTo (AreForAnswer (filed_seen ticket.begun.filing) (progress_seen given)) old new
  answer_adds given is =
      let l = led on (Ok (said.Asked (Done given))) (step.Ask ticket.ticket) old new is (inr tt) tt serves in
      booked on (AreForAnswer (filed_seen ticket.begun.filing) (progress_seen given)) old new serves.whole l.whole
      (answers_acknowledge (plan_of old) (disks_tell on.seen old) (mail_world_of serves.whole.v) (mail_world_of l.whole.v) ticket.ticket (progress_seen given) l.seen serves.tickets
      (filed_seen ticket.begun.filing) filed_there)

  own_adds : (given : Answer) (result : Result Ask DeskFault) → OwnAnswer ticket.begun.kind given result → IsStep on (Ok (said.Asked (Done given))) (step.Ask ticket.ticket) old new
      → AddsTo (AsksWith ticket.begun result) old new
  own_adds given (Ok ask) (same, fits) is =
      let a = answer_adds given is in
      record {
        added = a.added;
        book = a.book;
        is = subst (λ r. AsksWith ticket.begun (Ok r) a.added) (sym same)
            (record { kind = fits_so ticket.begun.kind given fits; acked = acked_so ticket.begun.filing given (acked_in a.added) a.is.acked; struck = a.is.struck });
      }
  own_adds given (Err why) other is =
      let a = answer_adds given is in
      record { added = a.added; book = a.book; is = record { acked = no_acks ticket.begun given (acked_in a.added) found.may other a.is.acked; struck = a.is.struck } }

  pub handed_adds : (came : Result Said StepFault) (result : Result Ask DeskFault) → HandsOn ticket.begun.kind came result → IsStep on came (step.Ask ticket.ticket) old new
      → IsSurelyDone (state_of old) (step.Ask ticket.ticket) came → AddsTo (AsksWith ticket.begun result) old new
  handed_adds (Ok (said.Asked (Done given))) result hands is sure = own_adds given result hands is
  handed_adds (Ok (said.Asked (Pending got wanted))) result hands is sure =
      subst (λ r. AddsTo (AsksWith ticket.begun r) old new) (sym hands) (idle_adds on (Ok (said.Asked (Pending got wanted))) (step.Ask ticket.ticket) old new is (inr tt) tt serves tt)
  handed_adds (Ok (said.Begun number stirs)) result hands is sure = absurd hands
  handed_adds (Ok (said.Faulted n)) result hands is sure = absurd hands
  handed_adds (Ok said.Noted) result hands is sure = absurd hands
  handed_adds (Ok said.Heard) result hands is sure = absurd hands
  handed_adds (Ok (said.Thrown why)) result hands is sure = absurd hands
  handed_adds (Ok (said.Sent letters)) result hands is sure = absurd hands
  handed_adds (Ok (said.Widened did)) result hands is sure = absurd hands
  handed_adds (Ok (said.Grouped epoch)) result hands is sure = absurd hands
  handed_adds (Ok (said.Concluded epoch members)) result hands is sure = absurd hands
  handed_adds (Ok (said.NodeUp boot)) result hands is sure = absurd hands
  handed_adds (Ok said.Done) result hands is sure = absurd hands
  handed_adds (Err why) result hands is sure =
      subst (λ r. AddsTo (AsksWith ticket.begun r) old new) (sym hands) (refused_adds on why (step.Ask ticket.ticket) old new (never_falls why sure) is)
    where
      never_falls : (why : StepFault) → IsSurelyDone (state_of old) (step.Ask ticket.ticket) (Err why) → IsRefusal why
      never_falls (fault.NoMemory (Some n)) s = absurd (let never : Some n ≡ None = s.0 in cc)
      never_falls (fault.NoMemory None) s = tt
      never_falls fault.NoSuchNode s = tt
      never_falls fault.NodeLost s = tt
      never_falls fault.NodeDown s = tt
      never_falls fault.NodeUp s = tt
      never_falls fault.NoSuchLetter s = tt
      never_falls fault.NoSuchTicket s = tt
      never_falls fault.NotAGroup s = tt
      never_falls fault.Worn s = tt
      never_falls fault.NoRoom s = tt

-- whatever is told, an answer that is handed on is of its kind
pub answers_in_kind : (begun : Begun) (came : Result Said StepFault) (result : Result Ask DeskFault) → HandsOn begun.kind came result → AnswersInKind begun result
answers_in_kind begun (Ok (said.Asked (Done given))) (Ok ask) (same, fits) = subst (λ (a : Ask). AnswersInKind begun (Ok a)) (sym same) (fits_so begun.kind given fits)
answers_in_kind begun (Ok (said.Asked (Done given))) (Err why) hands = tt
answers_in_kind begun (Ok (said.Asked (Pending got wanted))) result hands = subst (λ (r : Result Ask DeskFault). AnswersInKind begun r) (sym hands) tt
answers_in_kind begun (Ok (said.Begun number stirs)) result hands = absurd hands
answers_in_kind begun (Ok (said.Faulted n)) result hands = absurd hands
answers_in_kind begun (Ok said.Noted) result hands = absurd hands
answers_in_kind begun (Ok said.Heard) result hands = absurd hands
answers_in_kind begun (Ok (said.Thrown why)) result hands = absurd hands
answers_in_kind begun (Ok (said.Sent letters)) result hands = absurd hands
answers_in_kind begun (Ok (said.Widened did)) result hands = absurd hands
answers_in_kind begun (Ok (said.Grouped epoch)) result hands = absurd hands
answers_in_kind begun (Ok (said.Concluded epoch members)) result hands = absurd hands
answers_in_kind begun (Ok (said.NodeUp boot)) result hands = absurd hands
answers_in_kind begun (Ok said.Done) result hands = absurd hands
answers_in_kind begun (Err why) result hands = subst (λ (r : Result Ask DeskFault). AnswersInKind begun r) (sym hands) tt

module _ {D : Type 0} (on : View D) (ticket : DeskTicket) (old new : World D) where
  pub handed_by : (came : Result Said StepFault) (result : Result Ask DeskFault) → HandsOn ticket.begun.kind came result → IsStep on came (step.Ask ticket.ticket) old new → AsksBy on ticket result old new
  handed_by came (Err why) hands is = tt
  handed_by (Ok (said.Asked (Done given))) (Ok ask) hands is = subst (λ a. IsStep on (Ok (said.Asked a)) (step.Ask ticket.ticket) old new) (sym hands.0) is
  handed_by (Ok (said.Asked (Pending got wanted))) (Ok ask) hands is =
      subst (λ a. IsStep on (Ok (said.Asked a)) (step.Ask ticket.ticket) old new) (let same : Ok ask ≡ Ok (Pending got wanted) = hands in sym (ok_same ask (Pending got wanted) same)) is
    where
      ok_same : (a b : Ask) → ◌≡◌ {A = Result Ask DeskFault} (Ok a) (Ok b) → a ≡ b
      ok_same a b e = cc
  handed_by (Ok (said.Begun number stirs)) (Ok ask) hands is = absurd hands
  handed_by (Ok (said.Faulted n)) (Ok ask) hands is = absurd hands
  handed_by (Ok said.Noted) (Ok ask) hands is = absurd hands
  handed_by (Ok said.Heard) (Ok ask) hands is = absurd hands
  handed_by (Ok (said.Thrown why)) (Ok ask) hands is = absurd hands
  handed_by (Ok (said.Sent letters)) (Ok ask) hands is = absurd hands
  handed_by (Ok (said.Widened did)) (Ok ask) hands is = absurd hands
  handed_by (Ok (said.Grouped epoch)) (Ok ask) hands is = absurd hands
  handed_by (Ok (said.Concluded epoch members)) (Ok ask) hands is = absurd hands
  handed_by (Ok (said.NodeUp boot)) (Ok ask) hands is = absurd hands
  handed_by (Ok said.Done) (Ok ask) hands is = absurd hands
  handed_by (Err why) (Ok ask) hands is = absurd (let never : Ok ask ≡ Err (refusal_of why) = hands in cc)
