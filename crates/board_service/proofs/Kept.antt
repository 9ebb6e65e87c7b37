-- What clients were told is stored stands in the book.
use Rattle.std.proofs.Common.{◌≡◌, inl, inr, ◌⊎◌, ℕ, Bool, true, false, List, [], ◌∷◌, ◌++◌, map, Option, Some, None, refl, sym, ap, ◌∙◌, subst}
use Rattle.std.specs.Prelude.{IfSome, cond, nat_eq}
use Rattle.std.specs.Option.{option_map}
use Rattle.io_edge.specs.declared.yard.Protocol.{Protocol}
use Rattle.io_edge.specs.declared.yard.Protocol.TheVariants.{Smtp, Pop}
use Rattle.mail_model.specs.Book.{BookEntry, Acked, acked_in}
use Rattle.mail_model.specs.Plan.{Plan}
use Rattle.object_model.specs.Lists.{Among}
use Rattle.session_model.specs.Calls as model
use Rattle.session_model.specs.Calls.Call.{Deliver}
use Rattle.session_model.specs.Calls.Answer.{Stored}
use Rattle.session_model.specs.Talk.{Exchange}
use Rattle.call_tickets.specs.Tells.{TellsMore}
use Rattle.call_tickets.specs.Passes.{PassKnows, known_to, IsQuiet}
use Rattle.call_tickets.specs.Begins.{HasLeft}
use Rattle.session_gate.specs.Connections.{ServesSmtp, ServesPop}
use Rattle.session_gate.specs.Deals.{Deals, Dealt, HasAcked, ExchangeAcks}
use Rattle.session_gate.specs.declared.stop.Served.{Served}
use Rattle.turnstile.specs.Shares.{AreShares, written_by}
use Rattle.cluster_model.proofs.Filing.{among_map}
use Rattle.cluster_owes.proofs.Books.{acked_both}
use Rattle.node_store.specs.Disks.{View}
use Rattle.cluster_world.specs.Worlds.{book_of}
use Rattle.shard_board.specs.Pages.{all_on}
use Rattle.board_service.specs.Visits.{Visit, ServedBy, WasServed, ComesOf, AllEarned}
use Rattle.board_service.specs.Disks.{EachTells}
use Rattle.board_service.specs.Booked.{smtp_exchanges, pop_exchanges, exchanges_by, exchanges_in, exchanges_of_list, exchanges_of_all, IsKept, AreKept, ToldIsBooked}

among_left : {X : Type 0} (x : X) (xs ys : List X) → Among x xs → Among x (xs ++ ys)
among_left x [] ys a = absurd a
among_left x (y ∷ xs) ys (inl e) = inl e
among_left x (y ∷ xs) ys (inr a) = inr (among_left x xs ys a)

among_right : {X : Type 0} (x : X) (xs ys : List X) → Among x ys → Among x (xs ++ ys)
among_right x [] ys a = a
among_right x (y ∷ xs) ys a = inr (among_right x xs ys a)

among_split : {X : Type 0} (x : X) (xs ys : List X) → Among x (xs ++ ys) → Among x xs ⊎ Among x ys
among_split x [] ys a = inr a
among_split x (y ∷ xs) ys (inl e) = inl (inl e)
among_split x (y ∷ xs) ys (inr a) = by (among_split x xs ys a)
  where
    by : Among x xs ⊎ Among x ys → Among x (y ∷ xs) ⊎ Among x ys
    by (inl here) = inl (inr here)
    by (inr there) = inr there

-- what stands here stands there
abbrev Within : List Acked → List Acked → Type 0
Within acked acked' = (copy : Acked) → Among copy acked → Among copy acked'

kept_more : (acked acked' : List Acked) → Within acked acked' → (said : List Exchange) → AreKept acked said → AreKept acked' said
kept_more acked acked' more [] kept = tt
kept_more acked acked' more (one ∷ others) (here, rest) =
    ((λ mail id call answer. let k = here mail id call answer in (k.0, k.1, λ copy a. more copy (k.2 copy a))), kept_more acked acked' more others rest)

kept_both : (acked : List Acked) (said more : List Exchange) → AreKept acked said → AreKept acked more → AreKept acked (said ++ more)
kept_both acked [] more a b = b
kept_both acked (one ∷ said) more (here, rest) b = (here, kept_both acked said more rest b)

-- What is told was told before, up to here.
record GrewTo (old : Option (List Acked)) (told : List Acked) : Type 0 where
  before : List Acked
  was : old ≡ Some before
  within : Within before told

grew : (old : Option (List Acked)) (more told : List Acked) → TellsMore old more (Some told) → GrewTo old told
grew None more told tells = absurd (let never : Some told ≡ None = tells in cc)
grew (Some before) more told tells =
    let both : Some told ≡ Some (before ++ more) = tells in
    let e : told ≡ before ++ more = cc in
    record { before = before; was = refl; within = λ copy a. subst (Among copy) (sym e) (among_left copy before more a) }

-- by way of what was told between
grew_on : (old mid : Option (List Acked)) (told : List Acked) → GrewTo mid told → ((between : List Acked) → mid ≡ Some between → GrewTo old between) → GrewTo old told
grew_on old mid told late early =
    let first = early late.before late.was in
    record { before = first.before; was = first.was; within = λ copy a. late.within copy (first.within copy a) }

quiet_grew : (old new : PassKnows) (told : List Acked) → TellsMore old.acked [] new.acked → new.acked ≡ Some told → GrewTo old.acked told
quiet_grew old new told tells is = grew old.acked [] told (subst (λ (o : Option (List Acked)). TellsMore old.acked [] o) is tells)

-- the copies of one exchange
dealt_has : (old mid : PassKnows) (call : Option model.Call) (answer : Option model.Answer) (told : List Acked) → Dealt old call answer mid → mid.acked ≡ Some told → HasAcked old.acked call answer told
dealt_has old mid call answer told dealt is =
    let so : IfSome (Some told) (λ told. HasAcked old.acked call answer told) = subst (λ (o : Option (List Acked)). IfSome o (λ told. HasAcked old.acked call answer told)) is dealt.acked in so

in_told : (old : Option (List Acked)) (copies told : List Acked) → TellsMore old copies (Some told) → Within copies told
in_told None copies told tells copy a = absurd (let never : Some told ≡ None = tells in cc)
in_told (Some before) copies told tells copy a =
    let both : Some told ≡ Some (before ++ copies) = tells in
    let e : told ≡ before ++ copies = cc in
    subst (Among copy) (sym e) (among_right copy before copies a)

exchange_kept : (one : Exchange) (old : Option (List Acked)) (told later : List Acked) → HasAcked old one.call one.answer told → Within told later → IsKept later one
exchange_kept one old told later has more mail id call answer =
    let first : ExchangeAcks (Some (Deliver mail)) one.answer has.copies = subst (λ (c : Option model.Call). ExchangeAcks c one.answer has.copies) call has.are in
    let both : ExchangeAcks (Some (Deliver mail)) (Some (Stored id)) has.copies = subst (λ (a : Option model.Answer). ExchangeAcks (Some (Deliver mail)) a has.copies) answer first in
    (has.copies, both, λ copy a. more copy (in_told old has.copies told has.acked copy a))

-- the exchanges of a session
deals_grew : (old : PassKnows) (said : List Exchange) (new : PassKnows) (told : List Acked) → Deals old said new → new.acked ≡ Some told → GrewTo old.acked told
deals_grew old [] new told quiet is = quiet_grew old new told quiet.acked is
deals_grew old (one ∷ said) new told (mid, dealt, rest) is = grew_on old.acked mid.acked told (deals_grew mid said new told rest is)
    (λ between was. let has = dealt_has old mid one.call one.answer between dealt was in grew old.acked has.copies between has.acked)

deals_kept : (old : PassKnows) (said : List Exchange) (new : PassKnows) (told : List Acked) → Deals old said new → new.acked ≡ Some told → AreKept told said
deals_kept old [] new told quiet is = tt
deals_kept old (one ∷ said) new told (mid, dealt, rest) is =
    let late = deals_grew mid said new told rest is in
    (exchange_kept one old.acked late.before told (dealt_has old mid one.call one.answer late.before dealt late.was) late.within, deals_kept mid said new told rest is)

module _ (plan : Plan) (node number : ℕ) (ended : Served) (left0 left1 held0 held1 : Option (List ℕ)) (old new : PassKnows) (told : List Acked) (is : new.acked ≡ Some told) where
  smtp_grew : ServesSmtp plan node ended left0 left1 held0 held1 old new → GrewTo old.acked told
  smtp_grew (inl refused) = quiet_grew old new told refused.quiet.acked is
  smtp_grew (inr (inl silent)) = quiet_grew old new told silent.quiet.acked is
  smtp_grew (inr (inr (start, quiet, served))) = grew_on old.acked start.acked told (deals_grew start served.come.at.plain.whole new told served.come.at.deals is)
      (λ between was. quiet_grew old start between quiet.acked was)

  smtp_kept : (served : ServesSmtp plan node ended left0 left1 held0 held1 old new)
      → AreKept told (smtp_exchanges {plan = plan} {node = node} {ended = ended} {left0 = left0} {left1 = left1} {held0 = held0} {held1 = held1} {old = old} {new = new} served)
  smtp_kept (inl refused) = tt
  smtp_kept (inr (inl silent)) = tt
  smtp_kept (inr (inr (start, quiet, served))) = deals_kept start served.come.at.plain.whole new told served.come.at.deals is

  leave_grew : (last : PassKnows) → HasLeft last new ⊎ IsQuiet last new → GrewTo last.acked told
  leave_grew last (inl left) = quiet_grew last new told left.acked is
  leave_grew last (inr quiet) = quiet_grew last new told quiet.acked is

  pop_grew : ServesPop plan node number ended left0 left1 held0 held1 old new → GrewTo old.acked told
  pop_grew (inl refused) = quiet_grew old new told refused.quiet.acked is
  pop_grew (inr (inl silent)) = quiet_grew old new told silent.quiet.acked is
  pop_grew (inr (inr (start, quiet, served))) = grew_on old.acked start.acked told
      (grew_on start.acked (served.last).acked told (leave_grew served.last served.leaves.once)
      (λ between was. deals_grew start served.serves.come.at.plain.whole served.last between served.serves.come.at.deals was))
      (λ between was. quiet_grew old start between quiet.acked was)

  pop_kept : (served : ServesPop plan node number ended left0 left1 held0 held1 old new)
      → AreKept told (pop_exchanges {plan = plan} {node = node} {number = number} {ended = ended} {left0 = left0} {left1 = left1} {held0 = held0} {held1 = held1} {old = old} {new = new} served)
  pop_kept (inl refused) = tt
  pop_kept (inr (inl silent)) = tt
  pop_kept (inr (inr (start, quiet, served))) =
      let late = leave_grew served.last served.leaves.once in
      kept_more late.before told late.within served.serves.come.at.plain.whole (deals_kept start served.serves.come.at.plain.whole served.last late.before served.serves.come.at.deals late.was)

  by_grew : (protocol : Protocol) → ServedBy protocol plan node number ended left0 left1 held0 held1 old new → GrewTo old.acked told
  by_grew Smtp served = smtp_grew served
  by_grew Pop served = pop_grew served

  by_kept : (protocol : Protocol) (served : ServedBy protocol plan node number ended left0 left1 held0 held1 old new)
      → AreKept told (exchanges_by protocol plan node number ended left0 left1 held0 held1 old new served)
  by_kept Smtp served = smtp_kept served
  by_kept Pop served = pop_kept served

-- a connection, and a list of them
visit_grew : (plan : Plan) (visit : Visit) (told : List Acked) → option_map acked_in visit.told1 ≡ Some told → WasServed plan visit → GrewTo (option_map acked_in visit.told0) told
visit_grew plan visit told is (inl passed) = record { before = told; was = ap (λ (o : Option (List BookEntry)). option_map acked_in o) (sym passed.told) ∙ is; within = λ copy a. a }
visit_grew plan visit told is (inr served) =
    by_grew plan visit.line.node visit.line.number visit.ended visit.left0 visit.left1 visit.held0 visit.held1 (known_to visit.told0 visit.counts0) (known_to visit.told1 visit.counts1) told is visit.line.protocol served

visit_kept : (plan : Plan) (visit : Visit) (told : List Acked) → option_map acked_in visit.told1 ≡ Some told → (served : WasServed plan visit) → AreKept told (exchanges_in plan visit served)
visit_kept plan visit told is (inl passed) = tt
visit_kept plan visit told is (inr served) =
    by_kept plan visit.line.node visit.line.number visit.ended visit.left0 visit.left1 visit.held0 visit.held1 (known_to visit.told0 visit.counts0) (known_to visit.told1 visit.counts1) told is visit.line.protocol served

list_kept : (plan : Plan) (visits : List Visit) (told : Option (List BookEntry)) (comes : ComesOf plan visits told) (acked : List Acked) → option_map acked_in told ≡ Some acked
    → AreKept acked (exchanges_of_list plan visits told comes)
list_kept plan [] told comes acked is = tt
list_kept plan (visit ∷ earlier) told (last, served, before) acked is =
    let late = grew (option_map acked_in visit.told1) [] acked (subst (λ (o : Option (List Acked)). TellsMore (option_map acked_in visit.told1) [] o) is last.acked) in
    let early = visit_grew plan visit late.before late.was served in
    kept_both acked (exchanges_in plan visit served) (exchanges_of_list plan earlier visit.told0 before)
    (kept_more late.before acked late.within (exchanges_in plan visit served) (visit_kept plan visit late.before late.was served))
    (kept_more early.before acked (λ copy a. late.within copy (early.within copy a)) (exchanges_of_list plan earlier visit.told0 before) (list_kept plan earlier visit.told0 before early.before early.was))

all_kept : {D : Type 0} (seen : D → Option (List ℕ)) (each : EachTells seen) (plan : Plan) (lists : List (List BookEntry)) (count : ℕ) (earned : AllEarned seen plan lists count) (book : List BookEntry)
    → ((entries : List BookEntry) → Among entries lists → Within (acked_in entries) (acked_in book)) → AreKept (acked_in book) (exchanges_of_all seen each plan lists count earned)
all_kept seen each plan [] count none book within = tt
all_kept seen each plan (entries ∷ more) count (here, rest, sum, is, others) book within =
    kept_both (acked_in book) (exchanges_of_list plan is.visits (Some entries) (is.comes each)) (exchanges_of_all seen each plan more rest others)
    (kept_more (acked_in entries) (acked_in book) (within entries (inl refl)) (exchanges_of_list plan is.visits (Some entries) (is.comes each)) (list_kept plan is.visits (Some entries) (is.comes each) (acked_in entries) refl))
    (all_kept seen each plan more rest others book (λ one a. within one (inr a)))

-- what one author wrote stands in the book
skip_within : (entry : BookEntry) (book : List BookEntry) (acked : List Acked) → Within acked (acked_in book) → Within acked (acked_in (entry ∷ book))
skip_within entry book acked within copy a = subst (Among copy) (sym (acked_both (entry ∷ []) book)) (among_right copy (acked_in (entry ∷ [])) (acked_in book) (within copy a))

entry_within : (entry : BookEntry) (book written : List BookEntry) → Within (acked_in written) (acked_in book) → Within (acked_in (entry ∷ written)) (acked_in (entry ∷ book))
entry_within entry book written within copy a = parts (among_split copy (acked_in (entry ∷ [])) (acked_in written) (subst (Among copy) (acked_both (entry ∷ []) written) a))
  where
    parts : Among copy (acked_in (entry ∷ [])) ⊎ Among copy (acked_in written) → Among copy (acked_in (entry ∷ book))
    parts (inl here) = subst (Among copy) (sym (acked_both (entry ∷ []) book)) (among_left copy (acked_in (entry ∷ [])) (acked_in book) here)
    parts (inr there) = skip_within entry book (acked_in written) within copy there

own_within : (own : Bool) (entry : BookEntry) (book written : List BookEntry) → Within (acked_in written) (acked_in book) → Within (acked_in (cond own (entry ∷ written) written)) (acked_in (entry ∷ book))
own_within true entry book written within = entry_within entry book written within
own_within false entry book written within = skip_within entry book (acked_in written) within

written_within : (k : ℕ) (authors : List ℕ) (book : List BookEntry) → Within (acked_in (written_by k authors book)) (acked_in book)
written_within k [] book copy a = absurd a
written_within k (author ∷ authors) [] copy a = absurd a
written_within k (author ∷ authors) (entry ∷ book) copy a = own_within (nat_eq author k) entry book (written_by k authors book) (written_within k authors book) copy a

share_within : (opening : List BookEntry) (lists : List (List BookEntry)) (book : List BookEntry) → AreShares opening lists book → (entries : List BookEntry) → Among entries lists
    → Within (acked_in entries) (acked_in book)
share_within opening lists book shares entries among copy a =
    let found = among_map (λ (k : ℕ). written_by k shares.authors book) entries shares.names (subst (Among entries) (sym shares.lists_are) among) in
    written_within found.0 shares.authors book copy (subst (λ (es : List BookEntry). Among copy (acked_in es)) (sym found.2) a)

pub told_is_booked : {D : Type 0} (on : View D) → ToldIsBooked on
told_is_booked on each plan old new served = let lists = map all_on served.pages in
    all_kept on.seen each plan lists served.count served.earned (book_of new) (share_within (book_of old) lists (book_of new) served.shares)
