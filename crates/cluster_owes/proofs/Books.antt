-- What entries do to a book, and that it stays that of the calls that began and were answered.
use Rattle.std.proofs.Common.{◌≡◌, ⊎_elim, ℕ, List, [], ◌∷◌, ◌++◌, map, flat_map, length, refl, sym, ap, ◌∙◌, subst, append_assoc, append-nil, AllPairs, ◌≢◌}
use Rattle.std.specs.Prelude.{⊤}
use Rattle.std.proofs.lemmas.List.Concat.{flat_map-append}
use Rattle.sha2.specs.Sha256.{sha256}
use Rattle.mail_model.specs.Identity.{Id}
use Rattle.mail_model.specs.Mail.{IsStored}
use Rattle.mail_model.specs.Stored.{Ack, IsOnClock}
use Rattle.mail_model.specs.Told.{Mail}
use Rattle.mail_model.specs.Book.{Acked, BookEntry, AreCopies, AreCopiesOf, acked_in, struck_in, dropped_in, copies_acked}
use Rattle.mail_model.specs.Book.BookEntry.{Acknowledged, Struck, Dropped, WentDown, CameUp, WasLost}
use Rattle.session_model.specs.Calls.Call.{Deliver, Strike as StrikeCall}
use Rattle.session_model.specs.Calls.{Call, Answer}
use Rattle.session_model.specs.Calls.Answer.{Stored, Dropped as WereDropped}
use Rattle.session_model.specs.Logs.{Asked, Answered}
use Rattle.session_model.specs.Books.{struck_by, dropped_by}
use Rattle.cluster_model.specs.Cluster.{Want}
use Rattle.cluster_model.specs.Cluster.AskedOfNodes.{Deletion}
use Rattle.cluster_model.specs.Progress.{confirmed_entries, wants_entries}
use Rattle.object_model.specs.Lists.{Among}
use Rattle.cluster_owes.proofs.Masks.{IsMask}
use Rattle.cluster_owes.proofs.WorldSteps.{AreLives}

abbrev Pairs : Type 0
Pairs = List (List ℕ × Id)

pub acked_both : (book more : List BookEntry) → acked_in (book ++ more) ≡ acked_in book ++ acked_in more
acked_both [] more = refl
acked_both (Acknowledged copy ∷ book) more = ap (λ (l : List Acked). copy ∷ l) (acked_both book more)
acked_both (Struck user id ∷ book) more = acked_both book more
acked_both (Dropped user id confirmers ∷ book) more = acked_both book more
acked_both (WentDown node ∷ book) more = acked_both book more
acked_both (CameUp node boot ∷ book) more = acked_both book more
acked_both (WasLost node ∷ book) more = acked_both book more

pub struck_both : (book more : List BookEntry) → struck_in (book ++ more) ≡ struck_in book ++ struck_in more
struck_both [] more = refl
struck_both (Acknowledged copy ∷ book) more = struck_both book more
struck_both (Struck user id ∷ book) more = ap (λ (l : Pairs). (user, id) ∷ l) (struck_both book more)
struck_both (Dropped user id confirmers ∷ book) more = struck_both book more
struck_both (WentDown node ∷ book) more = struck_both book more
struck_both (CameUp node boot ∷ book) more = struck_both book more
struck_both (WasLost node ∷ book) more = struck_both book more

pub dropped_both : (book more : List BookEntry) → dropped_in (book ++ more) ≡ dropped_in book ++ dropped_in more
dropped_both [] more = refl
dropped_both (Acknowledged copy ∷ book) more = dropped_both book more
dropped_both (Struck user id ∷ book) more = dropped_both book more
dropped_both (Dropped user id confirmers ∷ book) more = ap (λ (l : Pairs). (user, id) ∷ l) (dropped_both book more)
dropped_both (WentDown node ∷ book) more = dropped_both book more
dropped_both (CameUp node boot ∷ book) more = dropped_both book more
dropped_both (WasLost node ∷ book) more = dropped_both book more

-- So far the entries of a book are those of the calls that were begun and answered, and of these messages; the nodes that confirmed each message are those of these masks.
pub record IsBooked (lines : List (List ℕ)) (begun : List Asked) (answered : List Answered) (acks : List Ack) (book : List BookEntry) : Type 0 where
  pub struck : struck_in book ≡ flat_map (λ one. struck_by one.call) begun
  pub dropped : dropped_in book ≡ flat_map (λ one. dropped_by one.call one.answer) answered
  pub masks : List ℕ
  pub acked : AreCopies lines acks masks (acked_in book)

-- the copies of one message more
copies_push : (lines : List (List ℕ)) (acks : List Ack) (ack : Ack) (masks : List ℕ) (mask : ℕ) (copies more : List Acked) → AreCopies lines acks masks copies → AreCopiesOf lines ack mask more
    → AreCopies lines (acks ++ ack ∷ []) (masks ++ mask ∷ []) (copies ++ more)
copies_push lines [] ack [] mask copies more (no_mask, none) are = (more, [], ap (λ (l : List Acked). l ++ more) none ∙ sym (append-nil more), are, (refl, refl))
copies_push lines [] ack (other ∷ masks) mask copies more (no_mask, none) are = absurd (cc no_mask)
copies_push lines (first ∷ acks) ack [] mask copies more all are = absurd all
copies_push lines (first ∷ acks) ack (other ∷ masks) mask copies more (one, rest, whole, is, all) are =
    (one, rest ++ more, ap (λ (l : List Acked). l ++ more) whole ∙ append_assoc one rest more, is, copies_push lines acks ack masks mask rest more all are)

-- the masks of a book are sets of nodes
abbrev pub AreMasked : List BookEntry → Type 0
AreMasked [] = ⊤
AreMasked (Acknowledged copy ∷ book) = IsMask copy.confirmers × AreMasked book
AreMasked (Dropped user id confirmers ∷ book) = IsMask confirmers × AreMasked book
AreMasked (Struck user id ∷ book) = AreMasked book
AreMasked (WentDown node ∷ book) = AreMasked book
AreMasked (CameUp node boot ∷ book) = AreMasked book
AreMasked (WasLost node ∷ book) = AreMasked book

pub masked_both : (book more : List BookEntry) → AreMasked book → AreMasked more → AreMasked (book ++ more)
masked_both [] more a b = b
masked_both (Acknowledged copy ∷ book) more a b = (a.0, masked_both book more a.1 b)
masked_both (Dropped user id confirmers ∷ book) more a b = (a.0, masked_both book more a.1 b)
masked_both (Struck user id ∷ book) more a b = masked_both book more a b
masked_both (WentDown node ∷ book) more a b = masked_both book more a b
masked_both (CameUp node boot ∷ book) more a b = masked_both book more a b
masked_both (WasLost node ∷ book) more a b = masked_both book more a b

pub masked_at : (book : List BookEntry) (copy : Acked) → AreMasked book → Among (Acknowledged copy) book → IsMask copy.confirmers
masked_at [] copy a m = absurd m
masked_at (Acknowledged first ∷ book) copy a m = ⊎_elim
    (λ e. let same : first ≡ copy = cc in subst (λ (c : Acked). IsMask c.confirmers) same a.0)
    (λ later. masked_at book copy a.1 later) m
masked_at (Dropped user id confirmers ∷ book) copy a m = masked_at book copy a.1 (⊎_elim (λ e. absurd (cc e)) (λ k. k) m)
masked_at (Struck user id ∷ book) copy a m = masked_at book copy a (⊎_elim (λ e. absurd (cc e)) (λ k. k) m)
masked_at (WentDown node ∷ book) copy a m = masked_at book copy a (⊎_elim (λ e. absurd (cc e)) (λ k. k) m)
masked_at (CameUp node boot ∷ book) copy a m = masked_at book copy a (⊎_elim (λ e. absurd (cc e)) (λ k. k) m)
masked_at (WasLost node ∷ book) copy a m = masked_at book copy a (⊎_elim (λ e. absurd (cc e)) (λ k. k) m)

-- so they are where no entry has one
pub masked_none : (book : List BookEntry) → acked_in book ≡ [] → dropped_in book ≡ [] → AreMasked book
masked_none [] a d = tt
masked_none (Acknowledged copy ∷ book) a d = absurd (cc a)
masked_none (Dropped user id confirmers ∷ book) a d = absurd (cc d)
masked_none (Struck user id ∷ book) a d = masked_none book a d
masked_none (WentDown node ∷ book) a d = masked_none book a d
masked_none (CameUp node boot ∷ book) a d = masked_none book a d
masked_none (WasLost node ∷ book) a d = masked_none book a d

-- a list of pairs with one part more
with_more : {A : Type 0} (f : A → Pairs) (all : List A) (one : A) (old new : Pairs) → new ≡ old ++ f one → old ≡ flat_map f all → new ≡ flat_map f (all ++ one ∷ [])
with_more {A} f all one old new is were =
    is ∙ ap (λ (l : Pairs). l ++ f one) were ∙ ap (λ (l : Pairs). flat_map f all ++ l) (sym (append-nil (f one))) ∙ sym (flat_map-append f all (one ∷ []))

-- entries that no client asked for
pub book_lives : (lines : List (List ℕ)) (asked : List Asked) (answered : List Answered) (acks : List Ack) (book more : List BookEntry) → AreLives more
    → IsBooked lines asked answered acks book → IsBooked lines asked answered acks (book ++ more)
book_lives lines asked answered acks book more lives is = record {
  struck = struck_both book more ∙ ap (λ (l : Pairs). struck_in book ++ l) lives.struck ∙ append-nil (struck_in book) ∙ is.struck;
  dropped = dropped_both book more ∙ ap (λ (l : Pairs). dropped_in book ++ l) lives.dropped ∙ append-nil (dropped_in book) ∙ is.dropped;
  masks = is.masks;
  acked = subst (λ (l : List Acked). AreCopies lines acks is.masks l) (sym (acked_both book more ∙ ap (λ (l : List Acked). acked_in book ++ l) lives.acked ∙ append-nil (acked_in book))) is.acked;
}

-- a call was begun, and its deletions are noted
pub book_begun : (lines : List (List ℕ)) (asked : List Asked) (answered : List Answered) (acks : List Ack) (book more : List BookEntry) (one : Asked) → struck_in more ≡ struck_by one.call
    → dropped_in more ≡ [] → acked_in more ≡ [] → IsBooked lines asked answered acks book → IsBooked lines (asked ++ one ∷ []) answered acks (book ++ more)
book_begun lines asked answered acks book more one struck dropped acked is = record {
  struck = with_more (λ (o : Asked). struck_by o.call) asked one (struck_in book) (struck_in (book ++ more)) (struck_both book more ∙ ap (λ (l : Pairs). struck_in book ++ l) struck) is.struck;
  dropped = dropped_both book more ∙ ap (λ (l : Pairs). dropped_in book ++ l) dropped ∙ append-nil (dropped_in book) ∙ is.dropped;
  masks = is.masks;
  acked = subst (λ (l : List Acked). AreCopies lines acks is.masks l) (sym (acked_both book more ∙ ap (λ (l : List Acked). acked_in book ++ l) acked ∙ append-nil (acked_in book))) is.acked;
}

module _ (lines : List (List ℕ)) (asked : List Asked) (answered : List Answered) (acks : List Ack) (old more : List BookEntry) (k : ℕ) (is : IsBooked lines asked answered acks old) where
  -- an answer that the book does not tell of
  pub book_quiet : (call : Call) (answer : Answer) → dropped_by call answer ≡ []
      → struck_in more ≡ [] → dropped_in more ≡ [] → acked_in more ≡ [] → IsBooked lines asked (answered ++ record { session = k; call = call; answer = answer } ∷ []) acks (old ++ more)
  book_quiet call answer dropped no_struck no_dropped no_acked =
      let one : Answered = record { session = k; call = call; answer = answer } in
      record {
        struck = struck_both old more ∙ ap (λ (l : Pairs). struck_in old ++ l) no_struck ∙ append-nil (struck_in old) ∙ is.struck;
        dropped = with_more (λ (o : Answered). dropped_by o.call o.answer) answered one (dropped_in old) (dropped_in (old ++ more))
            (dropped_both old more ∙ ap (λ (l : Pairs). dropped_in old ++ l) (no_dropped ∙ sym dropped)) is.dropped;
        masks = is.masks;
        acked =
            subst (λ (l : List Acked). AreCopies lines acks is.masks l)
            (sym (acked_both old more ∙ ap (λ (l : List Acked). acked_in old ++ l) no_acked ∙ append-nil (acked_in old))) is.acked;
      }

  -- a message is acknowledged to each of its users
  pub book_acknowledged : (mail : Mail) (id : Id) (seconds : ℕ) (octets : List ℕ) (confirmers : ℕ) → IsOnClock lines seconds → AllPairs (λ one other. one ≢ other) mail.mailboxes
      → IsStored mail id seconds octets → struck_in more ≡ [] → dropped_in more ≡ [] → acked_in more ≡ copies_acked id seconds octets confirmers mail.mailboxes
      → IsBooked lines asked (answered ++ record { session = k; call = Deliver mail; answer = Stored id } ∷ []) (acks ++ record { session = k; mail = mail; id = id; seconds = seconds } ∷ [])
      (old ++ more)
  book_acknowledged mail id seconds octets confirmers clock once stored no_struck no_dropped copies =
      let one : Answered = record { session = k; call = Deliver mail; answer = Stored id } in
      record {
        struck = struck_both old more ∙ ap (λ (l : Pairs). struck_in old ++ l) no_struck ∙ append-nil (struck_in old) ∙ is.struck;
        dropped = with_more (λ (o : Answered). dropped_by o.call o.answer) answered one (dropped_in old) (dropped_in (old ++ more))
            (dropped_both old more ∙ ap (λ (l : Pairs). dropped_in old ++ l) no_dropped) is.dropped;
        masks = is.masks ++ confirmers ∷ [];
        acked =
            subst (λ (l : List Acked). AreCopies lines (acks ++ record { session = k; mail = mail; id = id; seconds = seconds } ∷ []) (is.masks ++ confirmers ∷ []) l)
            (sym (acked_both old more ∙ ap (λ (l : List Acked). acked_in old ++ l) copies))
            (copies_push lines acks (record { session = k; mail = mail; id = id; seconds = seconds }) is.masks confirmers (acked_in old) (copies_acked id seconds octets confirmers mail.mailboxes) is.acked
            (record { octets = octets; at_clock = clock; stored = stored; each_once = once; are = refl }));
      }

  -- copies are gone
  pub book_dropped : (user : List ℕ) (ids : List Id) → struck_in more ≡ [] → dropped_in more ≡ map (λ id. (user, id)) ids → acked_in more ≡ []
      → IsBooked lines asked (answered ++ record { session = k; call = StrikeCall user ids; answer = WereDropped } ∷ []) acks (old ++ more)
  book_dropped user ids no_struck dropped no_acked =
      let one : Answered = record { session = k; call = StrikeCall user ids; answer = WereDropped } in
      record {
        struck = struck_both old more ∙ ap (λ (l : Pairs). struck_in old ++ l) no_struck ∙ append-nil (struck_in old) ∙ is.struck;
        dropped = with_more (λ (o : Answered). dropped_by o.call o.answer) answered one (dropped_in old) (dropped_in (old ++ more))
            (dropped_both old more ∙ ap (λ (l : Pairs). dropped_in old ++ l) dropped) is.dropped;
        masks = is.masks;
        acked =
            subst (λ (l : List Acked). AreCopies lines acks is.masks l)
            (sym (acked_both old more ∙ ap (λ (l : List Acked). acked_in old ++ l) no_acked ∙ append-nil (acked_in old))) is.acked;
      }

-- the entries of one message
module _ (id : Id) (seconds : ℕ) (octets : List ℕ) (confirmers : ℕ) where
  abbrev pub entry_for : List ℕ → BookEntry
  entry_for user = Acknowledged (record { user = user; id = id; seconds = seconds; size = length octets; digest = sha256 octets; confirmers = confirmers })

  pub acked_for : (users : List (List ℕ)) → acked_in (map entry_for users) ≡ copies_acked id seconds octets confirmers users
  acked_for [] = refl
  acked_for (user ∷ users) = ap (λ (l : List Acked). record { user = user; id = id; seconds = seconds; size = length octets; digest = sha256 octets; confirmers = confirmers } ∷ l) (acked_for users)

  pub struck_for : (users : List (List ℕ)) → struck_in (map entry_for users) ≡ []
  struck_for [] = refl
  struck_for (user ∷ users) = struck_for users

  pub dropped_for : (users : List (List ℕ)) → dropped_in (map entry_for users) ≡ []
  dropped_for [] = refl
  dropped_for (user ∷ users) = dropped_for users

  pub masked_for : IsMask confirmers → (users : List (List ℕ)) → AreMasked (map entry_for users)
  masked_for is [] = tt
  masked_for is (user ∷ users) = (is, masked_for is users)

-- what a deletion asks for: these messages of the user
abbrev pub AreDeletions : List ℕ → List Id → List Want → Type 0
AreDeletions user [] [] = ⊤
AreDeletions user (id ∷ ids) (want ∷ wants) = (want.asked ≡ Deletion user id) × IsMask want.confirmed × AreDeletions user ids wants
AreDeletions user ids wants = ⊥

-- the entries of a deletion that is done
pub record DoneEntries (user : List ℕ) (ids : List Id) (entries : List BookEntry) : Type 0 where
  pub struck : struck_in entries ≡ []
  pub dropped : dropped_in entries ≡ map (λ id. (user, id)) ids
  pub acked : acked_in entries ≡ []
  pub masked : AreMasked entries

pub done_entries : (user : List ℕ) (ids : List Id) (wants : List Want) → AreDeletions user ids wants → DoneEntries user ids (wants_entries wants)
done_entries user [] [] are = record { struck = refl; dropped = refl; acked = refl; masked = tt }
done_entries user [] (want ∷ wants) are = absurd are
done_entries user (id ∷ ids) [] are = absurd are
done_entries user (id ∷ ids) (want ∷ wants) are = subst (λ a. DoneEntries user (id ∷ ids) (confirmed_entries want a ++ wants_entries wants)) (sym are.0) (by (done_entries user ids wants are.2))
  where
    by : DoneEntries user ids (wants_entries wants) → DoneEntries user (id ∷ ids) (Dropped user id want.confirmed ∷ wants_entries wants)
    by more = record { struck = more.struck; dropped = ap (λ (l : Pairs). (user, id) ∷ l) more.dropped; acked = more.acked; masked = (are.1, more.masked) }
