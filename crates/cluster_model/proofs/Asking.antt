-- A ticket that is asked: what it answers may be entered into the book.
use Rattle.std.proofs.Common.{◌≡◌, inl, inr, ⊎_elim, ◌≤◌, ℕ, Bool, true, false, List, [], ◌∷◌, ◌++◌, Option, Some, None, refl, sym, ◌∙◌, subst, if◌then◌else◌, arith}
use Rattle.std.specs.Prelude.{nat_le}
use Rattle.std.specs.FinMap as fin
use Rattle.std.specs.List.{list_all}
use Rattle.std.proofs.lemmas.Bool.{and_parts}
use Rattle.std.proofs.lemmas.Bool.Decides.{nat_tests}
use Rattle.mail_model.specs.Identity.{Id}
use Rattle.mail_model.specs.Record.{Record}
use Rattle.mail_model.specs.Book.{BookEntry}
use Rattle.mail_model.specs.Book.BookEntry.{Acknowledged}
use Rattle.object_model.specs.Lists.{Among}
use Rattle.object_model.specs.Letters.{Number}
use Rattle.object_model.specs.Sets.{count_in}
use Rattle.object_model.specs.Mishaps.{Mishaps}
use Rattle.cluster_model.specs.Cluster.{NodeFiling, AskedOfNodes, Want, Ticket, Node, Slot, slot_at, with_slot}
use Rattle.cluster_model.specs.Cluster.AskedOfNodes.{Copies, Deletion}
use Rattle.cluster_model.specs.Claims.{Wants}
use Rattle.cluster_model.specs.Moves.{MayEnter}
use Rattle.cluster_model.specs.Rules.{ticket_at, end_ticket}
use Rattle.cluster_model.specs.Progress.{NodeAnswer, is_confirmed, has_failed, answer_once_confirmed, pending_of_call, ask_of_wants, ask_of, confirmed_entries, wants_entries, entries_with}
use Rattle.cluster_model.specs.Progress.NodeAnswer.{Stored, Dropped, Read, Failed}
use Rattle.cluster_model.specs.Progress.Ask.{Done}
use Rattle.cluster_model.specs.Deeds.{slot_up, act_of}
use Rattle.cluster_model.specs.World.{World, Leads, cluster_of}
use Rattle.object_model.proofs.Lists.{among_either}
use Rattle.cluster_model.proofs.Filing.{among_map}
use Rattle.cluster_model.proofs.HearTold.{Answers, answers_of}
use Rattle.cluster_model.proofs.Closing.{end_acts}
use Rattle.cluster_model.proofs.Leading.{led_on, entered_leads}
use Rattle.cluster_model.proofs.Stepping.{quiet_leads}

all_one : (p : Want → Bool) (wants : List Want) → list_all p wants ≡ true → (want : Want) → Among want wants → p want ≡ true
all_one p [] h want m = absurd m
all_one p (one ∷ wants) h want m =
    let parts = and_parts (p one) (list_all p wants) h in
    ⊎_elim (λ is. subst (λ (x : Want). p x ≡ true) is parts.0) (λ more. all_one p wants parts.1 want more) m

not_pending : (confirm : ℕ) (wants : List Want) (want : Want) (asked : AskedOfNodes) (answer : NodeAnswer) → pending_of_call confirm wants want asked ≡ Done answer → ⊥
not_pending confirm wants want (Copies filing) answer e = cc
not_pending confirm wants want (Deletion user id) answer e = cc

other_answer : (mishaps : Mishaps) (answer : NodeAnswer) → ((m : Mishaps) → answer ≡ Failed m → ⊥) → Done (Failed mishaps) ≡ Done answer → ⊥
other_answer mishaps answer good e = good mishaps (back e)
  where
    back : Done (Failed mishaps) ≡ Done answer → answer ≡ Failed mishaps
    back e = cc

-- an answer that is no failure comes only where all is confirmed
all_confirmed : (confirm : ℕ) (mishaps : Mishaps) (wants : List Want) (answer : NodeAnswer) → ask_of_wants confirm mishaps wants ≡ Done answer → ((m : Mishaps) → answer ≡ Failed m → ⊥)
    → list_all (is_confirmed confirm) wants ≡ true
all_confirmed confirm mishaps [] answer e good = absurd (other_answer mishaps answer good e)
all_confirmed confirm mishaps (want ∷ wants) answer e good = by (list_all (is_confirmed confirm) (want ∷ wants)) refl e
  where
    failed : (f : Bool) → (if f then Done (Failed mishaps) else pending_of_call confirm (want ∷ wants) want want.asked) ≡ Done answer → ⊥
    failed true g = other_answer mishaps answer good g
    failed false g = not_pending confirm (want ∷ wants) want want.asked answer g

    by : (b : Bool) → list_all (is_confirmed confirm) (want ∷ wants) ≡ b
        → (if b then Done (answer_once_confirmed (want ∷ wants) want want.asked) else (if has_failed confirm (want ∷ wants) then Done (Failed mishaps) else pending_of_call confirm (want ∷ wants) want want.asked)) ≡ Done answer
        → list_all (is_confirmed confirm) (want ∷ wants) ≡ true
    by true t g = t
    by false t g = absurd (failed (has_failed confirm (want ∷ wants)) g)

le_of : (a b : ℕ) → nat_le a b ≡ true → a ≤ b
le_of a b e = grind (arith, nat_tests)

-- the entries of each want may be added
want_enters : (confirm : ℕ) (slots : List Slot) (own seq : ℕ) (slot : Slot) (want : Want) → slot_at slots own ≡ Some slot → Wants slot.life seq want → confirm ≤ count_in want.confirmed
    → (entry : BookEntry) → Among entry (confirmed_entries want want.asked) → MayEnter confirm entry slots
want_enters confirm slots own seq slot want here stands enough entry m = by want.asked refl m
  where
    copies : (filing : NodeFiling) → want.asked ≡ Copies filing → (user : List ℕ) → Among user filing.users
        → MayEnter confirm (Acknowledged (record { user = user; id = filing.id; seconds = filing.seconds; size = filing.size; digest = filing.digest; confirmers = want.confirmed })) slots
    copies filing is user inside = (filing, own, slot, seq, want, here, stands, is, inside, refl, refl, refl, refl, enough)

    by : (asked : AskedOfNodes) → want.asked ≡ asked → Among entry (confirmed_entries want asked) → MayEnter confirm entry slots
    by (Copies filing) is k =
        let r = among_map (λ (user : List ℕ). Acknowledged (record { user = user; id = filing.id; seconds = filing.seconds; size = filing.size; digest = filing.digest; confirmers = want.confirmed })) entry filing.users k in
        subst (λ (x : BookEntry). MayEnter confirm x slots) r.2 (copies filing is r.0 r.1)
    by (Deletion user id) is k = ⊎_elim (λ e. subst (λ (x : BookEntry). MayEnter confirm x slots) e (own, slot, seq, want, here, stands, is, refl, enough)) (λ none. absurd none) k

wants_enter : (confirm : ℕ) (slots : List Slot) (own seq : ℕ) (slot : Slot) (wants : List Want) → slot_at slots own ≡ Some slot
    → ((want : Want) → Among want wants → Wants slot.life seq want × (confirm ≤ count_in want.confirmed))
    → (entry : BookEntry) → Among entry (wants_entries wants) → MayEnter confirm entry slots
wants_enter confirm slots own seq slot [] here each entry m = absurd m
wants_enter confirm slots own seq slot (want ∷ wants) here each entry m = ⊎_elim
    (λ front. let e = each want (inl refl) in want_enters confirm slots own seq slot want here e.0 e.1 entry front)
    (λ behind. wants_enter confirm slots own seq slot wants here (λ w k. each w (inr k)) entry behind)
    (among_either entry (confirmed_entries want want.asked) (wants_entries wants) m)

answer_enters : (confirm : ℕ) (slots : List Slot) (own seq : ℕ) (node : Node) (disk : List Record) (ticket : Ticket) (answer : NodeAnswer) → slot_at slots own ≡ Some (slot_up node disk)
    → fin.get node.tickets seq ≡ Some ticket → ask_of confirm ticket ≡ Done answer → (entry : BookEntry) → Among entry (entries_with answer ticket) → MayEnter confirm entry slots
answer_enters confirm slots own seq node disk ticket answer here stands e entry m = by answer refl m
  where
    entered : (list_all (is_confirmed confirm) ticket.wants ≡ true) → Among entry (wants_entries ticket.wants) → MayEnter confirm entry slots
    entered all k = wants_enter confirm slots own seq (slot_up node disk) ticket.wants here
        (λ want inside. (record { ticket = ticket; here = stands; inside = inside }, le_of confirm (count_in want.confirmed) (all_one (is_confirmed confirm) ticket.wants all want inside))) entry k

    by : (a : NodeAnswer) → answer ≡ a → Among entry (entries_with a ticket) → MayEnter confirm entry slots
    by (Stored id confirmers) is k = entered (all_confirmed confirm ticket.mishaps ticket.wants answer e (λ f g. cc (sym is ∙ g))) k
    by (Dropped confirmers) is k = entered (all_confirmed confirm ticket.mishaps ticket.wants answer e (λ f g. cc (sym is ∙ g))) k
    by (Read found) is k = absurd k
    by (Failed mishaps) is k = absurd k

-- a ticket that is done: first the book has so, then it ends
pub ends_lead : (confirm : ℕ) (May : Id → List ℕ → Type 0) (w : World) (number : Number) (node : Node) (disk : List Record) (ticket : Ticket) (answer : NodeAnswer)
    → slot_at w.slots number.node ≡ Some (slot_up node disk) → ticket_at number.node node (Some number) ≡ Some ticket → ask_of confirm ticket ≡ Done answer
    → Leads confirm May (cluster_of w)
    (cluster_of (record w { slots = with_slot w.slots number.node (slot_up (end_ticket number.seq node disk).node disk); book = w.book ++ entries_with answer ticket }))
ends_lead confirm May w number node disk ticket answer here found e = led_on confirm May (cluster_of w) (cluster_of booked) _
    (entered_leads confirm May (entries_with answer ticket) (cluster_of w) (answer_enters confirm w.slots number.node number.seq node disk ticket answer here (stands (answers_of number.node node (Some number) ticket found)) e))
    (quiet_leads confirm May booked (act_of number.node node disk (end_ticket number.seq node disk) None None []) refl refl refl refl here (λ ready. (end_acts number.node node disk ready number.seq).is))
  where
    booked : World
    booked = record w { book = w.book ++ entries_with answer ticket }

    stands : Answers number.node node (Some number) ticket → fin.get node.tickets number.seq ≡ Some ticket
    stands a = subst (λ (n : Number). fin.get node.tickets n.seq ≡ Some ticket) (same a.number a.is) a.here
      where
        same : (n : Number) → Some number ≡ Some n → n ≡ number
        same n e = cc
