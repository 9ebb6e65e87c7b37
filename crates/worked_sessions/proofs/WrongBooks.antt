-- No promise on the book is kept of a wrong book.
use Rattle.std.proofs.Common.{◌≡◌, inl, inr, ⊎_elim, ℕ, zero, suc, Bool, true, false, List, [], ◌∷◌, ◌++◌, length, map, flat_map, Option, Some, None, refl, sym, ap, ◌∙◌, subst, arith, codes, append-nil, nat_eq, if◌then◌else◌}
use Rattle.std.specs.Prelude.{slice_index}
use Rattle.std.proofs.lemmas.Bool.{eq-eqb}
use Rattle.std.proofs.lemmas.Option.{none-some}
use Rattle.std.proofs.lemmas.List.{map-append}
use Rattle.std.proofs.lemmas.List.Elements.{All-head}
use Rattle.mail_model.specs.Identity.{Id}
use Rattle.mail_model.specs.Identity.Key.{Message}
use Rattle.mail_model.specs.Identity.Value.{Here, Gone}
use Rattle.mail_model.specs.Book.{Acked, BookEntry, AreCopies, acked_in, copies_acked}
use Rattle.mail_model.specs.Deleted.{mask_of}
use Rattle.mail_model.specs.Mail.{trace_lines}
use Rattle.mail_model.specs.Record.{Record, IsAmongRecords}
use Rattle.mail_model.specs.Record.Record.{Stated}
use Rattle.mail_model.specs.Site.{nth_id, nth_stamp}
use Rattle.mail_model.specs.Stored.{Ack, mails_in, opened, kind_at}
use Rattle.mail_model.specs.Tape.{Protocol}
use Rattle.mail_model.specs.Tape.Protocol.{Smtp}
use Rattle.mail_model.specs.Told.{Mail}
use Rattle.mail_model.proofs.Sessions.{by_number}
use Rattle.session_model.specs.Calls.{Call}
use Rattle.session_model.specs.Calls.Call.{Deliver, Login, Fetch, Strike}
use Rattle.session_model.specs.Logs.{Asked, Answered}
use Rattle.session_model.specs.Mailing.{StoredMail, filings}
use Rattle.session_model.specs.Sessions.{Session, AreSessions, session_at, exchanges_of}
use Rattle.session_model.specs.Copies.{OnEnough, OneContent, DroppedAreGone}
use Rattle.session_model.specs.Facts.{ack_of}
use Rattle.session_model.specs.Books.{Among, IsAsBooked, AcknowledgedStand, StruckAsMarked, struck_by}
use Rattle.session_model.specs.Run.Stop.{BehindLine}
use Rattle.session_model.specs.Talk.{TalkGoes, Exchange, opening_state}
use Rattle.session_model.specs.Talk.Standing.{Hearing}
use Rattle.session_model.proofs.Cuts.{of_mail}
use Rattle.session_model.proofs.InOrder.{kind_there}
use Rattle.session_model.proofs.Storing.{told_so, filings_both}
use Rattle.worked_sessions.specs.OneMessage.{small_plan, small_mail, small_octets, small_lines, small_entries, small_records, small_book}
use Rattle.worked_sessions.specs.WrongStores.{other_octets, other_records}
use Rattle.worked_sessions.specs.WrongReaders.{gone_records}
use Rattle.worked_sessions.specs.WrongBooks.{WrongBooks, ToldNot, longer_book, struck_book, dropped_book}
use Rattle.worked_sessions.proofs.Alike.{Shown, shown_at, told_alike}
use Rattle.worked_sessions.proofs.WrongStores.{on_first, not_gone, same_end, own_small}

-- the entries of one message are as many as its mailboxes
one_chunk : (ack : Ack) (masks : List ℕ) (copies : List Acked) → AreCopies small_lines (ack ∷ []) masks copies → length copies ≡ length ack.mail.mailboxes
one_chunk ack [] copies are = absurd are
one_chunk ack (mask ∷ masks) copies (first, rest, whole, is, none) =
    ap length (whole ∙ ap (λ (l : List Acked). first ++ l) none.1 ∙ append-nil first) ∙ ap length is.are ∙ as_many is.octets ack.mail.mailboxes
  where
    as_many : (octets : List ℕ) (users : List (List ℕ)) → length (copies_acked ack.id ack.seconds octets mask users) ≡ length users
    as_many octets [] = refl
    as_many octets (user ∷ users) = ap suc (as_many octets users)

told_not : (book : List BookEntry) → (length (acked_in book) ≡ 1 → ⊥) → ToldNot book
told_not book other sessions acks unwritten confirmers are lines_of told = by acks lines_of all told.copies
  where
    s : Shown small_plan small_lines small_entries sessions 1 Smtp 1
    s = shown_at small_plan small_lines small_entries sessions are 0 Smtp 1 refl

    -- the messages of the session
    all : (more : List Mail) × (mails_in 1 (acks ++ unwritten) ≡ small_mail ∷ more)
    all =
        let shows = told_so small_plan small_lines small_entries 1 s.session s.is s.speaks in
        let whole = shows.messages ∙ told_alike 1 small_lines small_entries sessions 1 s (own_small 1) in (
          map (λ (filing : StoredMail). filing.mail) (filings s.session.others),
          told.of_sessions 1 s.session s.at ∙ ap (map (λ (filing : StoredMail). filing.mail)) (filings_both s.session.whole s.session.others)
              ∙ map-append (λ (filing : StoredMail). filing.mail) (filings s.session.whole) (filings s.session.others)
              ∙ ap (λ (l : List Mail). l ++ map (λ (filing : StoredMail). filing.mail) (filings s.session.others)) whole,
        )

    by : (acks : List Ack) → map (λ (ack : Ack). ack.session) acks ≡ 1 ∷ [] → (more : List Mail) × (mails_in 1 (acks ++ unwritten) ≡ small_mail ∷ more)
        → AreCopies small_lines (acks ++ unwritten) (map mask_of confirmers) (acked_in book) → ⊥
    by [] is mails copies = cc is
    by (a ∷ (b ∷ acks)) is mails copies = cc is
    by (ack ∷ []) is mails copies =
        let own : ack.session ≡ 1 = cc is in
        let one : AreCopies small_lines (ack ∷ []) (map mask_of confirmers) (acked_in book) = subst (λ (l : List Ack). AreCopies small_lines (ack ∷ l) (map mask_of confirmers) (acked_in book)) told.may copies in
        let mail : ack.mail ≡ small_mail = first_mail ack unwritten own mails in
        other (one_chunk ack (map mask_of confirmers) (acked_in book) one ∙ ap (λ (m : Mail). length m.mailboxes) mail)
      where
        first_mail : (ack : Ack) (acks : List Ack) → ack.session ≡ 1 → (more : List Mail) × (mails_in 1 (ack ∷ acks) ≡ small_mail ∷ more) → ack.mail ≡ small_mail
        first_mail ack acks own (more, told) = by_test (nat_eq ack.session 1) refl told
          where
            by_test : (b : Bool) → nat_eq ack.session 1 ≡ b → (if b then ack.mail ∷ mails_in 1 acks else mails_in 1 acks) ≡ small_mail ∷ more → ack.mail ≡ small_mail
            by_test true is same = cc same
            by_test false is same = absurd (let e : true ≡ false = sym (eq-eqb ack.session 1 own) ∙ is in cc)

-- the copy is gone, and the book has no deletion
unstruck : (id : Id) (confirmers : List (List ℕ)) → AcknowledgedStand small_plan (gone_records ∷ []) small_book (ack_of 1 (record { mail = small_mail; id = id }) ∷ []) confirmers → ⊥
unstruck id [] stand = stand
unstruck id (nodes ∷ confirmers) stand =
    let ack = ack_of 1 (record { mail = small_mail; id = id }) in
    let is = on_first gone_records [] (IsAsBooked small_book ack (codes "alice")) nodes (All-head (λ (user : List ℕ). OnEnough small_plan (gone_records ∷ []) (IsAsBooked small_book ack user) nodes) (codes "alice") [] stand.0) in
    ⊎_elim
    (λ (here, found). here.not_gone (nth_stamp 2) 1
    (subst (λ (i : Id). IsAmongRecords (Stated (Message (codes "alice") i) (record { value = Gone; stamp = nth_stamp 2; targets = 1 })) gone_records) (id_here here.stamp here.targets here.here) (inr (inr (inr (inl refl))))))
    (λ gone. gone.1)
    is
  where
    id_in : Record → Id
    id_in (Stated (Message user i) state) = i
    id_in other = nth_id 1

    id_here : (stamp : _) (targets : ℕ) → IsAmongRecords (Stated (Message (codes "alice") id) (record { value = Here; stamp = stamp; targets = targets })) gone_records → nth_id 1 ≡ id
    id_here stamp targets (inl is) = cc is
    id_here stamp targets (inr (inl is)) = cc is
    id_here stamp targets (inr (inr (inl is))) = ap id_in is
    id_here stamp targets (inr (inr (inr (inl is)))) = ap id_in is
    id_here stamp targets (inr (inr (inr (inr is)))) = absurd is

-- a deletion that nobody asked

-- what is struck was asked by some call
asked_by_some : (begun : List Asked) (user : List ℕ) (id : Id) (copies : List (List ℕ × Id)) → (user, id) ∷ copies ≡ flat_map (λ one. struck_by one.call) begun
    → (k : ℕ) × (name : List ℕ) × (ids : List Id) × Among (record { session = k; call = Strike name ids }) begun
asked_by_some [] user id copies is = cc is
asked_by_some (one ∷ begun) user id copies is = by (λ e. asked_by_some begun user id copies e) one.call refl is
  where
    by : ((user, id) ∷ copies ≡ flat_map (λ one. struck_by one.call) begun → (k : ℕ) × (name : List ℕ) × (ids : List Id) × Among (record { session = k; call = Strike name ids }) begun)
        → (call : Call) → one.call ≡ call → (user, id) ∷ copies ≡ struck_by call ++ flat_map (λ (o : Asked). struck_by o.call) begun
        → (k : ℕ) × (name : List ℕ) × (ids : List Id) × Among (record { session = k; call = Strike name ids }) (one ∷ begun)
    by later (Strike name ids) own e = (one.session, name, ids, inl (ap (λ (c : Call). record { session = one.session; call = c }) own))
    by later (Deliver mail) own e = let r = later e in (r.0, r.1, r.2, inr r.3)
    by later (Login name given) own e = let r = later e in (r.0, r.1, r.2, inr r.3)
    by later (Fetch name other) own e = let r = later e in (r.0, r.1, r.2, inr r.3)

-- the one session takes mail
takes_mail_there : (sessions : List Session) → AreSessions small_plan small_lines small_entries sessions → (k : ℕ) (session : Session) → session_at sessions k ≡ Some session → session.protocol ≡ Smtp
takes_mail_there sessions are k session at =
    by k (kind_there (opened small_lines) [] sessions k session (are.kinds ∙ sym (append-nil _)) at)
  where
    protocol_of : Option (Protocol × ℕ) → Protocol
    protocol_of None = Smtp
    protocol_of (Some kind) = kind.0

    by : (k : ℕ) → kind_at ((Smtp, 1) ∷ []) k ≡ Some (session.protocol, session.node) → session.protocol ≡ Smtp
    by zero is = sym (ap protocol_of is)
    by (suc zero) is = sym (ap protocol_of is)
    by (suc (suc n)) is =
        let never : ◌≡◌ {A = Option (Protocol × ℕ)} None (Some (session.protocol, session.node)) = sym (by_number ((Smtp, 1) ∷ []) (suc n)) ∙ is in
        absurd (none-some (session.protocol, session.node) never)

unmarked : (sessions : List Session) (asked begun : List Asked) (answered : List Answered) → AreSessions small_plan small_lines small_entries sessions
    → StruckAsMarked BehindLine small_entries sessions asked begun answered struck_book → ⊥
unmarked sessions asked begun answered are struck =
    let (k, user, ids, among) = asked_by_some begun (codes "alice") (nth_id 1) [] struck.struck in
    let (session, quit, at, deletes) = struck.marked k user ids (subst (Among (record { session = k; call = Strike user ids })) struck.were among) in
    let talk = (are.each k session at).talk in
    let smtp = takes_mail_there sessions are k session at in
    (of_mail small_plan session.node session.octets deletes.before [] quit talk.before session.rest
    (subst (λ (l : List Exchange). TalkGoes small_plan session.node (Hearing (opening_state Smtp)) session.octets l talk.before session.rest) deletes.are
    (subst (λ (p : Protocol). TalkGoes small_plan session.node (Hearing (opening_state p)) session.octets (exchanges_of session) talk.before session.rest) smtp talk.goes))).1 user ids deletes.asks

here_still : DroppedAreGone small_plan (small_records ∷ []) dropped_book → ⊥
here_still gone =
    let one = gone.0 in
    let is = on_first small_records [] _ one.0 one.2 in
    not_gone small_octets (codes "alice") (nth_id 1) is.stamp is.targets is.gone

two_texts : (filed : Id → Option (List ℕ)) → OneContent filed (small_records ∷ other_records ∷ []) → ⊥
two_texts filed one =
    let a = one 0 small_records (nth_id 1) small_octets refl (inr (inl refl)) in
    let b = one 1 other_records (nth_id 1) other_octets refl (inr (inl refl)) in
    let both : Some small_octets ≡ Some other_octets = sym a ∙ b in
    let same : small_octets ≡ other_octets = cc both in
    let texts = same_end (trace_lines small_mail (nth_id 1) (codes "Thu, 01 Jan 1970 00:00:00 +0000")) (trace_lines small_mail (nth_id 1) (codes "Thu, 01 Jan 1970 00:00:00 +0000")) small_mail.text _ same refl in
    let letters : 104 ≡ 106 = ap (λ (l : List ℕ). slice_index l 15) texts in
    absurd (omega (arith, letters))

pub wrong_books : WrongBooks
wrong_books = record {
  lacks_the_entry = told_not [] (λ e. absurd (omega (arith, e)));
  has_one_too_many = told_not longer_book (λ e. absurd (omega (arith, e)));
  gone_unstruck = unstruck;
  struck_unmarked = unmarked;
  dropped_and_here = here_still;
  two_contents = two_texts;
}
