-- What a call that begins strikes and files.
use Rattle.std.proofs.Common.{◌≡◌, inl, inr, ℕ, List, [], ◌++◌, append-nil, append_assoc, Option, Some, None, refl, sym, ap, ◌∙◌, subst, if◌then◌else◌, Bool, true, false}
use Rattle.std.specs.Prelude.{Result, Ok, Err}
use Rattle.mail_model.specs.Book.{BookEntry, acked_in, struck_in}
use Rattle.mail_model.specs.Identity.{Id}
use Rattle.object_model.specs.Letters.{Number}
use Rattle.mail_base.specs.declared.deliver.Deliver.{Deliver as ADeliver}
use Rattle.mail_base.specs.declared.filing.Begun.{Begun}
use Rattle.mail_base.specs.declared.filing.Filing.{Filing}
use Rattle.mail_base.specs.declared.filing.CallKind.{CallKind}
use Rattle.mail_base.specs.declared.filing.CallKind.TheVariants as kinds
use Rattle.mail_base.specs.Delivers.{mail_in}
use Rattle.session_model.specs.Calls as model
use Rattle.session_model.specs.Books.{struck_by}
use Rattle.call_tickets.specs.Seen.{call_seen, asks_whole}
use Rattle.call_tickets.specs.Begins.{IsFilingOf, FilingFits, IsKindFor, IsBegunFor}
use Rattle.call_tickets.specs.declared.call.Call.{Call}
use Rattle.call_tickets.specs.declared.call.Call.TheVariants as call
use Rattle.call_tickets.specs.declared.desk.DeskFault.{DeskFault}
use Rattle.call_tickets.specs.declared.desk.DeskTicket.{DeskTicket}
use Rattle.cluster_model.specs.Cluster.{Ticket}
use Rattle.cluster_model.specs.Steps as steps
use Rattle.joint_world.specs.World.{mail_world_of}
use Rattle.node_store.specs.Disks.{View}
use Rattle.node_core.specs.Beginning.{IsTextEnded, call_seen as machine_call}
use Rattle.node_tickets.specs.Seen.{filing_seen}
use Rattle.node_tickets.specs.Standing.{filed_seen, filing_at}
use Rattle.cluster_world.specs.Books.{IsLongerBook}
use Rattle.cluster_world.specs.Steps.{IsStep}
use Rattle.cluster_world.specs.Telling.{standing_in}
use Rattle.cluster_world.specs.Worlds.{plan_of, book_of, disks_tell}
use Rattle.cluster_world.specs.declared.world.World.{World}
use Rattle.cluster_world.specs.declared.step.Step.TheVariants as step
use Rattle.cluster_world.specs.declared.step.Said.{Said}
use Rattle.cluster_world.specs.declared.step.Said.TheVariants as said
use Rattle.cluster_world.specs.declared.fault.StepFault.{StepFault}
use Rattle.cluster_world.specs.declared.fault.StepFault.TheVariants as fault
use Rattle.cluster_world.proofs.SeenAlike.{made_alike}
use Rattle.cluster_owes.proofs.Books.{acked_both, struck_both}
use Rattle.desk_model.specs.Added.{AreQuiet, AreStrikes}
use Rattle.desk_model.proofs.Begun.{begun_calls_strike, deliveries_file}
use Rattle.solo_desk.specs.Beginning.{RefusedAs, TicketOf, FindsFiled, FindsUnder, Takes, HandsOut}
use Rattle.desk_model.specs.Entries.{BeginsWith}
use Rattle.desk_model.specs.Growing.{BeginsInKind}
use Rattle.solo_desk.specs.Kinds.{IsOfKind}
use Rattle.solo_desk.specs.Serving.{CanServe, AddsTo}
use Rattle.solo_desk.specs.Steps.{BeginsAs, BeginsBy}
use Rattle.solo_desk.proofs.Stepping.{led, booked, refused_adds}
use Rattle.solo_desk.proofs.Found.{stands_under, wanted_same}

some_same : {X : Type 0} (a b : X) → Some a ≡ Some b → a ≡ b
some_same a b e = cc

-- one addition after another
strikes_then : (strikes : List (List ℕ × Id)) (xs ys : List BookEntry) → AreStrikes strikes xs → AreQuiet ys → AreStrikes strikes (xs ++ ys)
strikes_then strikes xs ys p q = record {
  acked = acked_both xs ys ∙ ap (λ l. acked_in xs ++ l) q.acked ∙ append-nil (acked_in xs) ∙ p.acked;
  struck = struck_both xs ys ∙ ap (λ l. struck_in xs ++ l) q.struck ∙ append-nil (struck_in xs) ∙ p.struck;
}

strikes_none : (xs : List BookEntry) → AreStrikes [] xs → AreQuiet xs
strikes_none xs p = record { acked = p.acked; struck = p.struck }

module _ {D : Type 0} where
  then_quiet : (strikes : List (List ℕ × Id)) (old mid new : World D) → AddsTo (AreStrikes strikes) old mid → AddsTo AreQuiet mid new → AddsTo (AreStrikes strikes) old new
  then_quiet strikes old mid new a b = record {
    added = a.added ++ b.added;
    book = b.book ∙ ap (λ l. l ++ b.added) a.book ∙ append_assoc (book_of old) a.added b.added;
    is = strikes_then strikes a.added b.added a.is b.is;
  }

  longer_then : (old mid new : World D) → IsLongerBook (book_of old) (book_of mid) → IsLongerBook (book_of mid) (book_of new) → IsLongerBook (book_of old) (book_of new)
  longer_then old mid new (xs, p) (ys, q) = (xs ++ ys, q ∙ ap (λ l. l ++ ys) p ∙ append_assoc (book_of old) xs ys)

  longer_same : (old new : World D) → new ≡ old → IsLongerBook (book_of old) (book_of new)
  longer_same old new same = ([], ap book_of same ∙ sym (append-nil (book_of old)))

-- a call whose kind is that of deliveries strikes nothing
deliver_strikes : (begun : Call) (asked : model.Call) → call_seen begun ≡ Some asked → IsOfKind begun (Some kinds.Deliver) → struck_by asked ≡ []
deliver_strikes (call.Deliver deliver) asked seen kind = ap struck_by (let same : model.Call.Deliver (mail_in deliver) ≡ asked = cc seen in sym same)
deliver_strikes (call.Login user proof) asked seen kind = absurd (let never : Some kinds.Deliver ≡ Some kinds.Login = kind in cc)
deliver_strikes (call.Fetch user id holders from most) asked seen kind = absurd (let never : Some kinds.Deliver ≡ Some kinds.Fetch = kind in cc)
deliver_strikes (call.Strike user items) asked seen kind = absurd (let never : Some kinds.Deliver ≡ Some kinds.Strike = kind in cc)
deliver_strikes (call.Leave user login manager) asked seen kind = absurd (let never : Some kinds.Deliver ≡ None = kind in cc)

-- what was begun is for the call
begun_for : (begun : Call) (asked : model.Call) (kind : CallKind) (what : Begun) → call_seen begun ≡ Some asked → IsOfKind begun (Some kind) → what.kind ≡ kind
    → ((deliver : ADeliver) → begun ≡ call.Deliver deliver → FilingFits (mail_in deliver) what.filing) → IsBegunFor asked what
begun_for (call.Deliver deliver) asked kind what seen of_kind is files =
    subst (λ a. IsBegunFor a what) (let same : model.Call.Deliver (mail_in deliver) ≡ asked = cc seen in same) (is ∙ (let same : kind ≡ kinds.Deliver = cc of_kind in same), files deliver refl)
begun_for (call.Login user proof) asked kind what seen of_kind is files =
    subst (λ a. IsBegunFor a what) (some_same _ asked seen) (is ∙ (let same : kind ≡ kinds.Login = cc of_kind in same), tt)
begun_for (call.Fetch user id holders from most) asked kind what seen of_kind is files = by (asks_whole from most) seen
  where
    by : (b : Bool) → (if b then Some (model.Call.Fetch user id) else None) ≡ Some asked → IsBegunFor asked what
    by true e = subst (λ a. IsBegunFor a what) (some_same (model.Call.Fetch user id) asked e) (is ∙ (let same : kind ≡ kinds.Fetch = cc of_kind in same), tt)
    by false e = absurd (let never : None ≡ Some asked = e in cc)
begun_for (call.Strike user items) asked kind what seen of_kind is files =
    subst (λ a. IsBegunFor a what) (some_same _ asked seen) (is ∙ (let same : kind ≡ kinds.Strike = cc of_kind in same), tt)
begun_for (call.Leave user login manager) asked kind what seen of_kind is files = absurd (let never : Some kind ≡ None = of_kind in cc)

-- what was begun is of the kind of the call
kind_for : (begun : Call) (asked : model.Call) (kind found : CallKind) → call_seen begun ≡ Some asked → IsOfKind begun (Some kind) → found ≡ kind → IsKindFor asked found
kind_for (call.Deliver deliver) asked kind found seen of_kind is =
    subst (λ a. IsKindFor a found) (let same : model.Call.Deliver (mail_in deliver) ≡ asked = cc seen in same) (is ∙ (let same : kind ≡ kinds.Deliver = cc of_kind in same))
kind_for (call.Login user proof) asked kind found seen of_kind is =
    subst (λ a. IsKindFor a found) (some_same _ asked seen) (is ∙ (let same : kind ≡ kinds.Login = cc of_kind in same))
kind_for (call.Fetch user id holders from most) asked kind found seen of_kind is = by (asks_whole from most) seen
  where
    by : (b : Bool) → (if b then Some (model.Call.Fetch user id) else None) ≡ Some asked → IsKindFor asked found
    by true e = subst (λ a. IsKindFor a found) (some_same (model.Call.Fetch user id) asked e) (is ∙ (let same : kind ≡ kinds.Fetch = cc of_kind in same))
    by false e = absurd (let never : None ≡ Some asked = e in cc)
kind_for (call.Strike user items) asked kind found seen of_kind is =
    subst (λ a. IsKindFor a found) (some_same _ asked seen) (is ∙ (let same : kind ≡ kinds.Strike = cc of_kind in same))
kind_for (call.Leave user login manager) asked kind found seen of_kind is = absurd (let never : Some kind ≡ None = of_kind in cc)

-- what was found is of this kind, whatever came
finds_kind : {D : Type 0} (kind : CallKind) (came : Result Said StepFault) (world : World D) (what : Begun) → FindsUnder kind came world what → what.kind ≡ kind
finds_kind kind (Ok (said.Begun ticket stirs)) world what finds = finds.0
finds_kind kind (Ok (said.Faulted n)) world what finds = finds.0
finds_kind kind (Ok said.Noted) world what finds = finds.0
finds_kind kind (Ok (said.Asked ask)) world what finds = finds.0
finds_kind kind (Ok said.Heard) world what finds = finds.0
finds_kind kind (Ok (said.Thrown why)) world what finds = finds.0
finds_kind kind (Ok (said.Sent letters)) world what finds = finds.0
finds_kind kind (Ok (said.Widened did)) world what finds = finds.0
finds_kind kind (Ok (said.Grouped epoch)) world what finds = finds.0
finds_kind kind (Ok (said.Concluded epoch members)) world what finds = finds.0
finds_kind kind (Ok (said.NodeUp boot)) world what finds = finds.0
finds_kind kind (Ok said.Done) world what finds = finds.0
finds_kind kind (Err why) world what finds = finds.0

-- what was taken under the ticket of a call that has begun is handed out
pub hands_taken : {D : Type 0} (on : View D) (kind : CallKind) (came : Result Said StepFault) (number : Number) (result : Result DeskTicket DeskFault) (old new : World D) → TicketOf came (Ok (Some number))
    → Takes on kind number result old new → HandsOut on kind came result old new
hands_taken on kind (Ok (said.Begun ticket stirs)) number (Ok given) old new same (kept, is, finds) =
    (kept, is ∙ same, subst (λ n. FindsFiled kind (filing_at (standing_in old n)) given.begun) same finds)
hands_taken on kind (Ok (said.Begun ticket stirs)) number (Err why) old new same given = inr ((number, same), given)
hands_taken on kind (Ok (said.Faulted n)) number result old new same takes = absurd same
hands_taken on kind (Ok said.Noted) number result old new same takes = absurd same
hands_taken on kind (Ok (said.Asked ask)) number result old new same takes = absurd same
hands_taken on kind (Ok said.Heard) number result old new same takes = absurd same
hands_taken on kind (Ok (said.Thrown why)) number result old new same takes = absurd same
hands_taken on kind (Ok (said.Sent letters)) number result old new same takes = absurd same
hands_taken on kind (Ok (said.Widened did)) number result old new same takes = absurd same
hands_taken on kind (Ok (said.Grouped epoch)) number result old new same takes = absurd same
hands_taken on kind (Ok (said.Concluded epoch members)) number result old new same takes = absurd same
hands_taken on kind (Ok (said.NodeUp boot)) number result old new same takes = absurd same
hands_taken on kind (Ok said.Done) number result old new same takes = absurd same
hands_taken on kind (Err (fault.NoMemory (Some n))) number result old new same takes = absurd same
hands_taken on kind (Err (fault.NoMemory None)) number result old new same takes = absurd same
hands_taken on kind (Err fault.NoSuchNode) number result old new same takes = absurd same
hands_taken on kind (Err fault.NodeLost) number result old new same takes = absurd same
hands_taken on kind (Err fault.NodeDown) number result old new same takes = absurd same
hands_taken on kind (Err fault.NodeUp) number result old new same takes = absurd same
hands_taken on kind (Err fault.NoSuchLetter) number result old new same takes = absurd same
hands_taken on kind (Err fault.NoSuchTicket) number result old new same takes = absurd same
hands_taken on kind (Err fault.NotAGroup) number result old new same takes = absurd same
hands_taken on kind (Err fault.Worn) number result old new same takes = absurd same
hands_taken on kind (Err fault.NoRoom) number result old new same takes = absurd same

module _ {D : Type 0} (on : View D) where
  -- it strikes what it is to delete
  begins_adds : (came : Result Said StepFault) (node : ℕ) (begun : Call) (asked : model.Call) (number : Number) (old new : World D) → call_seen begun ≡ Some asked → IsTextEnded (machine_call begun)
      → BeginsAs came number → IsStep on came (step.Begin node begun) old new → CanServe on old → AddsTo (AreStrikes (struck_by asked)) old new
  begins_adds came node begun asked number old new seen ended as_begun is serves = by came as_begun is
    where
      by : (came : Result Said StepFault) → BeginsAs came number → IsStep on came (step.Begin node begun) old new → AddsTo (AreStrikes (struck_by asked)) old new
      by (Ok (said.Begun ticket stirs)) so is =
          let l = led on (Ok (said.Begun ticket stirs)) (step.Begin node begun) old new is (inr tt) ended serves in
          booked on (AreStrikes (struck_by asked)) old new serves.whole l.whole
          ((begun_calls_strike (plan_of old) (disks_tell on.seen old) (mail_world_of serves.whole.v) (mail_world_of l.whole.v) node (machine_call begun) asked (made_alike begun ∙ seen)).0 ticket l.seen)
      by (Ok (said.Faulted n)) so is =
          let l = led on (Ok (said.Faulted n)) (step.Begin node begun) old new is (inr tt) ended serves in
          booked on (AreStrikes (struck_by asked)) old new serves.whole l.whole
          ((begun_calls_strike (plan_of old) (disks_tell on.seen old) (mail_world_of serves.whole.v) (mail_world_of l.whole.v) node (machine_call begun) asked (made_alike begun ∙ seen)).1
          (steps.StepOutcome.Says (steps.Said.Faulted n)) tt l.seen)
      by (Ok said.Noted) so is = absurd so
      by (Ok (said.Asked ask)) so is = absurd so
      by (Ok said.Heard) so is = absurd so
      by (Ok (said.Thrown why)) so is = absurd so
      by (Ok (said.Sent letters)) so is = absurd so
      by (Ok (said.Widened did)) so is = absurd so
      by (Ok (said.Grouped epoch)) so is = absurd so
      by (Ok (said.Concluded epoch members)) so is = absurd so
      by (Ok (said.NodeUp boot)) so is = absurd so
      by (Ok said.Done) so is = absurd so
      by (Err (fault.NoMemory (Some n))) so is =
          let l = led on (Err (fault.NoMemory (Some n))) (step.Begin node begun) old new is (inr tt) ended serves in
          booked on (AreStrikes (struck_by asked)) old new serves.whole l.whole
          ((begun_calls_strike (plan_of old) (disks_tell on.seen old) (mail_world_of serves.whole.v) (mail_world_of l.whole.v) node (machine_call begun) asked (made_alike begun ∙ seen)).1
          (steps.StepOutcome.NoMemory (Some n)) tt l.seen)
      by (Err (fault.NoMemory None)) so is = absurd so
      by (Err fault.NoSuchNode) so is = absurd so
      by (Err fault.NodeLost) so is = absurd so
      by (Err fault.NodeDown) so is = absurd so
      by (Err fault.NodeUp) so is = absurd so
      by (Err fault.NoSuchLetter) so is = absurd so
      by (Err fault.NoSuchTicket) so is = absurd so
      by (Err fault.NotAGroup) so is = absurd so
      by (Err fault.Worn) so is = absurd so
      by (Err fault.NoRoom) so is = absurd so

  -- a delivery files its message, or nothing
  files_fit : (node : ℕ) (deliver : ADeliver) (ticket : Number) (stirs : ℕ) (old new : World D) → IsTextEnded (machine_call (call.Deliver deliver))
      → IsStep on (Ok (said.Begun ticket stirs)) (step.Begin node (call.Deliver deliver)) old new → CanServe on old
      → (filing : Option Filing) → filed_seen filing ≡ filing_at (standing_in new ticket) → FilingFits (mail_in deliver) filing
  files_fit node deliver ticket stirs old new ended is serves None e = tt
  files_fit node deliver ticket stirs old new ended is serves (Some filing) e = by (standing_in new ticket) refl e
    where
      by : (found : Option Ticket) → standing_in new ticket ≡ found → Some (filing_seen filing) ≡ filing_at found → IsFilingOf (mail_in deliver) filing
      by None stands f = absurd (let never : Some (filing_seen filing) ≡ None = f in cc)
      by (Some one) stands f =
          let l = led on (Ok (said.Begun ticket stirs)) (step.Begin node (call.Deliver deliver)) old new is (inr tt) ended serves in
          let filed = deliveries_file (plan_of old) (disks_tell on.seen old) (mail_world_of serves.whole.v) (mail_world_of l.whole.v) node (mail_in deliver) ticket l.seen one (stands_under on new (mail_world_of l.whole.v) l.whole.stands.mail ticket one stands)
          (filing_seen filing) (sym (wanted_same one.wants) ∙ sym f) in
          record { octets = filed.octets; stored = filed.stored; users = filed.users; size = filed.size; digest = filed.digest }

  module _ (node : ℕ) (begun : Call) (kind : CallKind) (of_kind : IsOfKind begun (Some kind)) (came : Result Said StepFault) (old mid new : World D) (is : IsStep on came (step.Begin node begun) old mid) where
    -- a refusal adds nothing
    refused_none : (why : DeskFault) → RefusedAs came why → AddsTo AreQuiet old mid
    refused_none why refused = by came refused is
      where
        by : (came : Result Said StepFault) → RefusedAs came why → IsStep on came (step.Begin node begun) old mid → AddsTo AreQuiet old mid
        by (Ok what) so is = absurd so
        by (Err (fault.NoMemory (Some n))) so is = absurd so
        by (Err (fault.NoMemory None)) so is = refused_adds on (fault.NoMemory None) (step.Begin node begun) old mid tt is
        by (Err fault.NoSuchNode) so is = refused_adds on fault.NoSuchNode (step.Begin node begun) old mid tt is
        by (Err fault.NodeLost) so is = refused_adds on fault.NodeLost (step.Begin node begun) old mid tt is
        by (Err fault.NodeDown) so is = refused_adds on fault.NodeDown (step.Begin node begun) old mid tt is
        by (Err fault.NodeUp) so is = refused_adds on fault.NodeUp (step.Begin node begun) old mid tt is
        by (Err fault.NoSuchLetter) so is = refused_adds on fault.NoSuchLetter (step.Begin node begun) old mid tt is
        by (Err fault.NoSuchTicket) so is = refused_adds on fault.NoSuchTicket (step.Begin node begun) old mid tt is
        by (Err fault.NotAGroup) so is = refused_adds on fault.NotAGroup (step.Begin node begun) old mid tt is
        by (Err fault.Worn) so is = refused_adds on fault.Worn (step.Begin node begun) old mid tt is
        by (Err fault.NoRoom) so is = refused_adds on fault.NoRoom (step.Begin node begun) old mid tt is

    pub handed_longer : (result : Result DeskTicket DeskFault) → HandsOut on kind came result mid new → IsLongerBook (book_of old) (book_of new)
    handed_longer (Ok ticket) (same, so, finds) = longer_then old mid new is.did.books (longer_same mid new same)
    handed_longer (Err why) (inl (same, refused)) = longer_then old mid new is.did.books (longer_same mid new same)
    handed_longer (Err why) (inr (began, given)) = longer_then old mid new is.did.books given.longer

    pub handed_by : (result : Result DeskTicket DeskFault) → HandsOut on kind came result mid new → BeginsBy on node begun result old new
    handed_by (Ok ticket) (same, so, finds) = (came, so, subst (IsStep on came (step.Begin node begun) old) (sym same) is)
    handed_by (Err why) hands = tt

    -- whatever is told, a call that has begun is of its kind
    pub handed_in_kind : (asked : model.Call) → call_seen begun ≡ Some asked → (result : Result DeskTicket DeskFault) → HandsOut on kind came result mid new → BeginsInKind asked result
    handed_in_kind asked seen (Ok ticket) (same, so, finds) = kind_for begun asked kind ticket.begun.kind seen of_kind (finds_kind kind came mid ticket.begun finds)
    handed_in_kind asked seen (Err why) hands = tt

  module _ (node : ℕ) (begun : Call) (kind : CallKind) (of_kind : IsOfKind begun (Some kind)) (ended : IsTextEnded (machine_call begun)) (came : Result Said StepFault) (old mid new : World D)
      (is : IsStep on came (step.Begin node begun) old mid) (serves : CanServe on old) (mid_serves : CanServe on mid) where
    -- what stands under its ticket is for the call
    found_for : (asked : model.Call) → call_seen begun ≡ Some asked → (number : Number) → BeginsAs came number → (what : Begun) → FindsUnder kind came mid what → IsBegunFor asked what
    found_for asked seen number so what finds = by came so is finds
      where
        fell : (what.kind ≡ kind) × (what.filing ≡ None) → IsBegunFor asked what
        fell found = begun_for begun asked kind what seen of_kind found.0 (λ deliver same. subst (FilingFits (mail_in deliver)) (sym found.1) tt)

        by : (came : Result Said StepFault) → BeginsAs came number → IsStep on came (step.Begin node begun) old mid → FindsUnder kind came mid what → IsBegunFor asked what
        by (Ok (said.Begun ticket stirs)) so is found = begun_for begun asked kind what seen of_kind found.0
            (λ deliver same. files_fit node deliver ticket stirs old mid (subst (λ c. IsTextEnded (machine_call c)) same ended)
            (subst (λ c. IsStep on (Ok (said.Begun ticket stirs)) (step.Begin node c) old mid) same is) serves what.filing
            (found.1 (let both : Some kind ≡ Some kinds.Deliver = subst (λ c. IsOfKind c (Some kind)) same of_kind in cc)))
        by (Ok (said.Faulted n)) so is found = fell found
        by (Ok said.Noted) so is found = absurd so
        by (Ok (said.Asked ask)) so is found = absurd so
        by (Ok said.Heard) so is found = absurd so
        by (Ok (said.Thrown why)) so is found = absurd so
        by (Ok (said.Sent letters)) so is found = absurd so
        by (Ok (said.Widened did)) so is found = absurd so
        by (Ok (said.Grouped epoch)) so is found = absurd so
        by (Ok (said.Concluded epoch members)) so is found = absurd so
        by (Ok (said.NodeUp boot)) so is found = absurd so
        by (Ok said.Done) so is found = absurd so
        by (Err (fault.NoMemory (Some n))) so is found = fell found
        by (Err (fault.NoMemory None)) so is found = absurd so
        by (Err fault.NoSuchNode) so is found = absurd so
        by (Err fault.NodeLost) so is found = absurd so
        by (Err fault.NodeDown) so is found = absurd so
        by (Err fault.NodeUp) so is found = absurd so
        by (Err fault.NoSuchLetter) so is found = absurd so
        by (Err fault.NoSuchTicket) so is found = absurd so
        by (Err fault.NotAGroup) so is found = absurd so
        by (Err fault.Worn) so is found = absurd so
        by (Err fault.NoRoom) so is found = absurd so

    pub handed_adds : (asked : model.Call) → call_seen begun ≡ Some asked → (result : Result DeskTicket DeskFault) → HandsOut on kind came result mid new → AddsTo (BeginsWith asked result) old new
    handed_adds asked seen (Ok ticket) (same, so, finds) =
        let a = begins_adds came node begun asked ticket.ticket old mid seen ended so is serves in
        record { added = a.added; book = ap book_of same ∙ a.book; is = (found_for asked seen ticket.ticket so ticket.begun finds, a.is) }
    handed_adds asked seen (Err why) (inl (same, refused)) =
        let a = refused_none node begun kind of_kind came old mid new is why refused in
        record { added = a.added; book = ap book_of same ∙ a.book; is = a.is }
    handed_adds asked seen (Err why) (inr (began, given)) =
        let a = then_quiet (struck_by asked) old mid new (begins_adds came node begun asked began.0 old mid seen ended began.1 is serves) (given.adds mid_serves) in
        let none : struck_by asked ≡ [] = deliver_strikes begun asked seen (subst (λ k. IsOfKind begun (Some k)) given.kind_is of_kind) in
        record { added = a.added; book = a.book; is = strikes_none a.added (subst (λ l. AreStrikes l a.added) none a.is) }
