-- Where a cluster gives what it owes, all promises are kept, of the same sessions and the same messages.
use Rattle.std.proofs.Common.{◌≡◌, inl, inr, ⊎_elim, ◌+◌, ℕ, suc, Bool, true, false, ◌&&◌, List, [], ◌∷◌, ◌++◌, drop, length, map, flat_map, Option, Some, None, refl, sym, ap, ap₂, ◌∙◌, subst, arith, append_assoc, append-nil, nat_eq, if◌then◌else◌}
use Rattle.std.specs.Cmp.Lexicographic.{pointwise}
use Rattle.std.proofs.lemmas.List.{map-append}
use Rattle.std.proofs.lemmas.Bool.{cases_eq, cond-true, cond-false, eq-eqb, ne_eqb}
use Rattle.mail_model.specs.Identity.{Id}
use Rattle.mail_model.specs.Plan.{Plan}
use Rattle.mail_model.specs.Tape.{Protocol}
use Rattle.mail_model.specs.Tape.Protocol.{Smtp, Pop}
use Rattle.mail_model.specs.Transcript.{Entry}
use Rattle.mail_model.specs.Transcript.Entry.{Said, Event, Refused}
use Rattle.mail_model.specs.Smtp.{stored_text}
use Rattle.mail_model.specs.Told.{Mail}
use Rattle.mail_model.specs.Shown.{lines_to}
use Rattle.mail_model.specs.Stored.{Ack, HaveOtherIds, IsOther, mails_in, opened, stored_sessions, takes_mail, is_taking}
use Rattle.mail_model.specs.Book.{BookEntry, AreCopies, acked_in}
use Rattle.mail_model.specs.Deleted.{IsMarked, mask_of}
use Rattle.mail_model.specs.Record.{Record}
use Rattle.mail_model.proofs.ShownLists as shown
use Rattle.session_model.specs.Calls.{Call, Answer}
use Rattle.session_model.specs.Calls.Call.{Strike}
use Rattle.session_model.specs.Calls.Answer.{Dropped}
use Rattle.session_model.specs.Talk.{Exchange}
use Rattle.session_model.specs.Reading.{IsQuitUnit, all_seen}
use Rattle.session_model.specs.Mailing.{StoredMail, filings, stored_lines}
use Rattle.session_model.specs.Sessions.{Session, Gets, AreAnswered, session_at, exchanges_of}
use Rattle.session_model.specs.Acts.{Act}
use Rattle.session_model.specs.Logs.{Asked, calls_of, asked_by, answered_by, asked_in}
use Rattle.session_model.specs.Run.{Stop, IsCutShort}
use Rattle.session_model.specs.Run.Stop.{BehindLine, Denied, SinkFailed, OutOfMemory}
use Rattle.session_model.specs.Runs.{Shows}
use Rattle.session_model.specs.Promises.{Deletes, IsTold}
use Rattle.session_model.specs.Copies.{EachStands}
use Rattle.session_model.specs.Facts.{DroppedAreTrue}
use Rattle.session_model.specs.Books.{Among, AreBegun, IsBookOf, AcknowledgedStand, AtMostOne, MayBeUnwritten, StruckAsMarked, untimed}
use Rattle.session_model.specs.Owes.{OwesDeletions}
use Rattle.session_model.specs.Kept.{OwedIsKept, IsEnding}
use Rattle.session_model.proofs.Acts.{kind_of}
use Rattle.session_model.proofs.InOrder.{AreAcked, Greeted, acks_in, kind_there, stored_both}
use Rattle.session_model.proofs.Books.{IsCallIn, among_in, in_among, call_at, at_call, mails, mails_answered, filed_by, filed_all}
use Rattle.session_model.proofs.Storing.{IsShownMail, told_so, filings_both}
use Rattle.session_model.proofs.Deleting.{goes_as, reads_mail, deletes, dropped, true_answers_delete}
use Rattle.session_model.proofs.Filing.{true_answers_show}
use Rattle.session_model.proofs.Once.{true_listings_show}
use Rattle.session_model.proofs.Own.{own_listings_show}
use Rattle.session_model.proofs.MailTalk.{sessions_shown, sessions_take_mail, sessions_read_mail}
use Rattle.session_model.proofs.Owed.{logged, answer_among, owed_deletions_are_true, owed_listings_are_true, owed_listings_are_own, owed_parts_are_true}
use Rattle.session_model.proofs.Striking.{quit_strikes}
use Rattle.session_model.proofs.Driven.{IsWritten, driven_written, wrote_shown, shown_last, wrote_acked}
use Rattle.session_model.proofs.Resting.{driven_answers_units}

-- the line that says why the program ended is no session's
ending_silent : (k : ℕ) (ending : List Entry) → IsEnding ending → lines_to k ending ≡ []
ending_silent k [] is = refl
ending_silent k (Refused text ∷ []) is = refl
ending_silent k (Refused text ∷ entry ∷ entries) is = absurd is
ending_silent k (Said session text ∷ entries) is = absurd is
ending_silent k (Event text ∷ entries) is = absurd is

ending_stored : (kinds : List (Protocol × ℕ)) (ending : List Entry) → IsEnding ending → stored_sessions kinds ending ≡ []
ending_stored kinds [] is = refl
ending_stored kinds (Refused text ∷ []) is = refl
ending_stored kinds (Refused text ∷ entry ∷ entries) is = absurd is
ending_stored kinds (Said session text ∷ entries) is = absurd is
ending_stored kinds (Event text ∷ entries) is = absurd is

-- with it the transcript shows what it did
shows_ended : (plan : Plan) (lines : List (List ℕ)) (entries ending : List Entry) (acts : List Act) (sessions : List Session) → IsEnding ending → Shows plan lines entries acts sessions
    → Shows plan lines (entries ++ ending) acts sessions
shows_ended plan lines entries ending acts sessions is shows = record {
  are = record {
    kinds = shows.are.kinds;
    each = λ k session at.
        let one = shows.are.each k session at in
        let same : lines_to k entries ≡ lines_to k (entries ++ ending) =
        sym (shown.lines_both k entries ending ∙ ap (λ (l : List (List ℕ)). lines_to k entries ++ l) (ending_silent k ending is) ∙ append-nil (lines_to k entries)) in
        record { talk = one.talk; fed = one.fed; gets = subst (λ (l : List (List ℕ)). Gets session (drop 1 l)) same one.gets };
  };
  logged = shows.logged;
}

-- how often this number stands here
abbrev count : ℕ → List ℕ → ℕ
count k [] = 0
count k (x ∷ xs) = if nat_eq x k then suc (count k xs) else count k xs

-- the messages of session k are as many as its numbers
mails_counted : (k : ℕ) (acks : List Ack) → length (mails_in k acks) ≡ count k (map (λ (ack : Ack). ack.session) acks)
mails_counted k [] = refl
mails_counted k (ack ∷ acks) = by_test (nat_eq ack.session k) (mails_counted k acks)
  where
    by_test : (b : Bool) → length (mails_in k acks) ≡ count k (map (λ (x : Ack). x.session) acks)
        → length (if b then ack.mail ∷ mails_in k acks else mails_in k acks) ≡ (if b then suc (count k (map (λ (x : Ack). x.session) acks)) else count k (map (λ (x : Ack). x.session) acks))
    by_test true same = ap suc same
    by_test false same = same

-- and as its lines `250 stored`
lines_counted : (kinds : List (Protocol × ℕ)) (k : ℕ) → takes_mail kinds k ≡ true → (entries : List Entry) → count k (stored_sessions kinds entries) ≡ stored_lines (lines_to k entries)
lines_counted kinds k takes [] = refl
lines_counted kinds k takes (Event text ∷ entries) = lines_counted kinds k takes entries
lines_counted kinds k takes (Refused text ∷ entries) = lines_counted kinds k takes entries
lines_counted kinds k takes (Said session text ∷ entries) = by_session (lines_counted kinds k takes entries)
  where
    one_more : (b : Bool) → (if b then suc (count k (stored_sessions kinds entries)) else count k (stored_sessions kinds entries)) ≡ (if b then 1 else 0) + count k (stored_sessions kinds entries)
    one_more true = omega arith
    one_more false = omega arith

    own : (t p : Bool) → session ≡ k → t ≡ true
        → count k (if t && p then session ∷ stored_sessions kinds entries else stored_sessions kinds entries) ≡ (if p then 1 else 0) + count k (stored_sessions kinds entries)
    own true true same is =
        cond-true (nat_eq session k) (suc (count k (stored_sessions kinds entries))) (count k (stored_sessions kinds entries)) (eq-eqb session k same) ∙ one_more true
    own true false same is = one_more false
    own false p same is = cc

    another : (b : Bool) → (session ≡ k → ⊥) → count k (if b then session ∷ stored_sessions kinds entries else stored_sessions kinds entries) ≡ count k (stored_sessions kinds entries)
    another true other = cond-false (nat_eq session k) (suc (count k (stored_sessions kinds entries))) (count k (stored_sessions kinds entries)) (ne_eqb session k other)
    another false other = refl

    by_session : count k (stored_sessions kinds entries) ≡ stored_lines (lines_to k entries)
        → count k (stored_sessions kinds (Said session text ∷ entries)) ≡ stored_lines (lines_to k (Said session text ∷ entries))
    by_session later = ⊎_elim
        (λ same.
        own (takes_mail kinds session) (pointwise nat_eq text stored_text) same (ap (takes_mail kinds) same ∙ takes)
        ∙ ap (λ (n : ℕ). (if pointwise nat_eq text stored_text then 1 else 0) + n) later
        ∙ sym (ap stored_lines (cond-true (nat_eq session k) (text ∷ lines_to k entries) (lines_to k entries) (eq-eqb session k same))))
        (λ other.
        another (takes_mail kinds session && pointwise nat_eq text stored_text) other ∙ later
        ∙ sym (ap stored_lines (cond-false (nat_eq session k) (text ∷ lines_to k entries) (lines_to k entries) (ne_eqb session k other))))
        (cases_eq session k)

-- the greeting is none of them
greeting_none : (lines : List (List ℕ)) → Greeted lines → stored_lines lines ≡ stored_lines (drop 1 lines)
greeting_none [] is = refl
greeting_none (line ∷ lines) is = by_test (pointwise nat_eq line stored_text) is
  where
    by_test : (b : Bool) → b ≡ false → (if b then 1 else 0) + stored_lines lines ≡ stored_lines lines
    by_test false e = omega arith
    by_test true e = cc

-- prefixes of one list that are of one length
same_front : {X : Type 0} (a b c d : List X) → a ++ b ≡ c ++ d → length a ≡ length c → a ≡ c
same_front [] b [] d same long = refl
same_front [] b (y ∷ c) d same long = absurd (omega (arith, long))
same_front (x ∷ a) b [] d same long = absurd (omega (arith, long))
same_front (x ∷ a) b (y ∷ c) d same long =
    let first : x ≡ y = cc in
    let rest : a ++ b ≡ c ++ d = cc in
    ap₂ ◌∷◌ first (same_front a b c d rest (omega (arith, long)))

mails_both : (k : ℕ) (acks more : List Ack) → mails_in k (acks ++ more) ≡ mails_in k acks ++ mails_in k more
mails_both k [] more = refl
mails_both k (ack ∷ acks) more = by_test (nat_eq ack.session k) (mails_both k acks more)
  where
    by_test : (b : Bool) → mails_in k (acks ++ more) ≡ mails_in k acks ++ mails_in k more
        → (if b then ack.mail ∷ mails_in k (acks ++ more) else mails_in k (acks ++ more)) ≡ (if b then ack.mail ∷ mails_in k acks else mails_in k acks) ++ mails_in k more
    by_test true same = ap (λ (l : List Mail). ack.mail ∷ l) same
    by_test false same = same

-- a prefix of messages that stand, each under an id of its own
other_front : (id : Id) (acks more : List Ack) → IsOther id (acks ++ more) → IsOther id acks
other_front id [] more is = tt
other_front id (ack ∷ acks) more is = (is.0, other_front id acks more is.1)

ids_front : (acks more : List Ack) → HaveOtherIds (acks ++ more) → HaveOtherIds acks
ids_front [] more have = tt
ids_front (ack ∷ acks) more have = (other_front ack.id acks more have.0, ids_front acks more have.1)

stand_front : (plan : Plan) (lines : List (List ℕ)) (disks : List (List Record)) (acks more : List Ack) (confirmers : List (List ℕ)) → EachStands plan lines disks (acks ++ more) confirmers
    → EachStands plan lines disks acks confirmers
stand_front plan lines disks [] more confirmers stand = tt
stand_front plan lines disks (ack ∷ acks) more [] stand = absurd stand
stand_front plan lines disks (ack ∷ acks) more (nodes ∷ confirmers) stand = (stand.0, stand_front plan lines disks acks more confirmers stand.1)

-- messages and their sessions are the same without seconds
sessions_untimed : (acks : List Ack) → map (λ (ack : Ack). ack.session) acks ≡ map (λ (ack : Ack). ack.session) (map untimed acks)
sessions_untimed [] = refl
sessions_untimed (ack ∷ acks) = ap (λ (l : List ℕ). ack.session ∷ l) (sessions_untimed acks)

mails_untimed : (k : ℕ) (acks : List Ack) → mails_in k acks ≡ mails_in k (map untimed acks)
mails_untimed k [] = refl
mails_untimed k (ack ∷ acks) = by_test (nat_eq ack.session k) (mails_untimed k acks)
  where
    by_test : (b : Bool) → mails_in k acks ≡ mails_in k (map untimed acks)
        → (if b then ack.mail ∷ mails_in k acks else mails_in k acks) ≡ (if b then ack.mail ∷ mails_in k (map untimed acks) else mails_in k (map untimed acks))
    by_test true same = ap (λ (l : List Mail). ack.mail ∷ l) same
    by_test false same = same

none_untimed : (acks : List Ack) → map untimed acks ≡ [] → acks ≡ []
none_untimed [] is = refl
none_untimed (ack ∷ acks) is = absurd (cc is)

one_untimed : (acks : List Ack) (one : Ack) → map untimed acks ≡ one ∷ [] → AtMostOne acks
one_untimed [] one is = inl refl
one_untimed (ack ∷ []) one is = inr (ack, refl)
one_untimed (ack ∷ other ∷ acks) one is = absurd (cc is)

few_untimed : (acks : List Ack) → AtMostOne (map untimed acks) → AtMostOne acks
few_untimed acks few = ⊎_elim (λ none. inl (none_untimed acks none)) (λ (one, is). one_untimed acks one is) few

may_untimed : (stop : Stop) (acks : List Ack) → MayBeUnwritten stop (map untimed acks) → MayBeUnwritten stop acks
may_untimed BehindLine acks may = none_untimed acks may
may_untimed Denied acks may = none_untimed acks may
may_untimed SinkFailed acks may = few_untimed acks may
may_untimed OutOfMemory acks may = few_untimed acks may

-- messages with their seconds, parted as those without are
record IsTimed (acks first last : List Ack) : Type 0 where
  front : List Ack
  rest : List Ack
  are : acks ≡ front ++ rest
  front_is : map untimed front ≡ first
  rest_is : map untimed rest ≡ last

timed_as : (acks first last : List Ack) → map untimed acks ≡ first ++ last → IsTimed acks first last
timed_as acks [] last same = record { front = []; rest = acks; are = refl; front_is = refl; rest_is = same }
timed_as [] (one ∷ first) last same = absurd (cc same)
timed_as (ack ∷ acks) (one ∷ first) last same =
    let later = timed_as acks first last (let s : map untimed acks ≡ first ++ last = cc same in s) in record {
      front = ack ∷ later.front;
      rest = later.rest;
      are = ap (λ (l : List Ack). ack ∷ l) later.are;
      front_is = ap₂ ◌∷◌ (let s : untimed ack ≡ one = cc same in s) later.front_is;
      rest_is = later.rest_is;
    }

module _ (plan : Plan) (lines : List (List ℕ)) (entries : List Entry) (acts : List Act) (sessions : List Session) (shows : Shows plan lines entries acts sessions) where
  -- the messages of a session
  of_session : (k : ℕ) (session : Session) → session_at sessions k ≡ Some session → mails_in k (acks_in acts) ≡ mails (filings (exchanges_of session))
  of_session k session at =
      mails_answered k (flat_map answered_by acts)
      ∙ ap (λ (l : List (Call × Answer)). mails (filed_by l)) (logged plan lines entries acts sessions shows k (Some session) at).1 ∙ ap mails (filed_all (exchanges_of session))

  -- its client was told of those whose line it got
  told_of : (unwritten : List Ack) (acked : AreAcked (opened lines) acts entries unwritten) (k : ℕ) (session : Session) → session_at sessions k ≡ Some session → session.protocol ≡ Smtp
      → IsTold plan acked.acks k session
  told_of unwritten acked k session at smtp = record { in_text = mail.in_text; rest = mail.rest; units = mail.units; messages = front ∙ mail.messages }
    where
      mail : IsShownMail plan entries k session
      mail = told_so plan lines entries k session (shows.are.each k session at) smtp

      takes : takes_mail (opened lines) k ≡ true
      takes = ap is_taking (kind_there (opened lines) [] sessions k session (shows.are.kinds ∙ sym (append-nil (map kind_of sessions))) at)
          ∙ ap (λ (p : Protocol). is_taking (Some (p, session.node))) smtp

      whole : mails_in k acked.acks ++ mails_in k unwritten ≡ mails (filings session.whole) ++ mails (filings session.others)
      whole = sym (mails_both k acked.acks unwritten) ∙ ap (mails_in k) acked.are ∙ of_session k session at ∙ ap mails (filings_both session.whole session.others)
          ∙ map-append (λ (filing : StoredMail). filing.mail) (filings session.whole) (filings session.others)

      long : length (mails_in k acked.acks) ≡ length (mails (filings session.whole))
      long = mails_counted k acked.acks ∙ ap (count k) acked.lines_of ∙ lines_counted (opened lines) k takes entries ∙ greeting_none (lines_to k entries) (acked.greeted k) ∙ mail.lines
          ∙ sym (length_mails (filings session.whole))
        where
          length_mails : (filed : List StoredMail) → length (mails filed) ≡ length filed
          length_mails [] = refl
          length_mails (filing ∷ filed) = ap suc (length_mails filed)

      front : mails_in k acked.acks ≡ mails (filings session.whole)
      front = same_front (mails_in k acked.acks) (mails_in k unwritten) (mails (filings session.whole)) (mails (filings session.others)) whole long

  -- The book has the deletions that clients marked.
  struck : (stop : Stop) (disks : List (List Record)) (begun : List Asked) (book : List BookEntry) (stored : List Ack) (confirmers : List (List ℕ)) (facts : DroppedAreTrue plan disks sessions)
      → AreBegun stop (flat_map asked_by acts) begun → IsBookOf lines begun (flat_map answered_by acts) stored confirmers book
      → StruckAsMarked stop entries sessions (flat_map asked_by acts) begun (flat_map answered_by acts) book
  struck stop disks begun book stored confirmers facts were is_book = record {
    were = were;
    struck = is_book.struck;
    marked = λ k user ids among.
        by_session k user ids (session_at sessions k) refl (among_in (record { session = k; call = Strike user ids }) (flat_map asked_by acts) among);
    all = λ k n session before behind quit at pop are quits marked.
        let strikes = asks k n session before behind quit at pop are quits marked in (
          strikes.0,
          strikes.1,
          in_among k (Strike strikes.0 strikes.1) (flat_map asked_by acts)
              (subst (IsCallIn (Strike strikes.0 strikes.1)) (ap calls_of (sym are) ∙ sym (logged plan lines entries acts sessions shows k (Some session) at).0)
              (at_call (Strike strikes.0 strikes.1) before behind quit strikes.2)),
        );
    dropped = is_book.dropped;
    told = λ k n session before quit at pop whole quits says marked.
        let are : exchanges_of session ≡ before ++ quit ∷ session.others =
        ap (λ (l : List Exchange). l ++ session.others) whole ∙ append_assoc before (quit ∷ []) session.others in
        let strikes = asks k n session before session.others quit at pop are quits marked in (
          strikes.0,
          strikes.1,
          answer_among plan lines entries acts sessions shows k session at (Strike strikes.0 strikes.1) Dropped before session.others quit are strikes.2
              (dropped plan lines entries k session (shows.are.each k session at) (facts.once k session at) strikes.0 strikes.1 before session.others quit are strikes.2 says),
        );
  }
    where
      asks : (k n : ℕ) (session : Session) (before behind : List Exchange) (quit : Exchange) → session_at sessions k ≡ Some session → session.protocol ≡ Pop
          → exchanges_of session ≡ before ++ quit ∷ behind → IsQuitUnit quit.unit → IsMarked n (all_seen before) → (user : List ℕ) × (ids : List Id) × (quit.call ≡ Some (Strike user ids))
      asks k n session before behind quit at pop are quits marked =
          let is = shows.are.each k session at in
          let once = facts.once k session at in
          quit_strikes plan session.node session.octets (exchanges_of session) is.talk.before session.rest (goes_as plan lines entries k session is once Pop pop) once before behind quit n are quits marked

      by_session : (k : ℕ) (user : List ℕ) (ids : List Id) (there : Option Session) → session_at sessions k ≡ there → IsCallIn (Strike user ids) (asked_in k (flat_map asked_by acts))
          → (session : Session) × (quit : Exchange) × (session_at sessions k ≡ Some session) × Deletes entries k session user ids quit
      by_session k user ids None none is = absurd (subst (IsCallIn (Strike user ids)) (logged plan lines entries acts sessions shows k None none).0 is)
      by_session k user ids (Some session) at is =
          let there = call_at (Strike user ids) (exchanges_of session) (subst (IsCallIn (Strike user ids)) (logged plan lines entries acts sessions shows k (Some session) at).0 is) in
          let known = shows.are.each k session at in
          let once = facts.once k session at in
          let pop = reads_mail plan lines entries k session known once user ids there.2 (there.0, there.1, there.3, there.4) in
          (session, there.2, at, deletes plan lines entries k session known once user ids there.2 (there.0, there.1, there.3, there.4) pop)

-- what was begun was asked
front_asked : (begun more : List Asked) (one : Asked) → Among one begun → Among one (begun ++ more)
front_asked [] more one is = absurd is
front_asked (other ∷ begun) more one is = ⊎_elim (λ same. inl same) (λ later. inr (front_asked begun more one later)) is

pub begun_asked : (stop : Stop) (asked begun : List Asked) → AreBegun stop asked begun → (one : Asked) → Among one begun → Among one asked
begun_asked BehindLine asked begun were one is = subst (Among one) were is
begun_asked Denied asked begun were one is = subst (Among one) were is
begun_asked SinkFailed asked begun were one is = subst (Among one) were is
begun_asked OutOfMemory asked begun were one is = ⊎_elim
    (λ same. subst (Among one) same is)
    (λ lacks. subst (Among one) (sym lacks.1) (front_asked begun (lacks.0 ∷ []) one is)) were

pub owed_is_kept : OwedIsKept
owed_is_kept plan tells stop handled left acts others made entries ending last stores disks filed begun book driven ends were owes = record {
  holds = owes.holds;
  sessions = sessions;
  acks = timed.front;
  unwritten = timed.rest;
  confirmers = owes.confirmers;
  clients = record {
    shown = sessions_shown plan lines (entries ++ ending) sessions shows.are;
    take_mail = sessions_take_mail plan lines (entries ++ ending) sessions shows.are;
    read_mail = sessions_read_mail plan lines (entries ++ ending) sessions shows.are;
    stored_stands = record {
      lines_of = sessions_untimed timed.front ∙ ap (map (λ (ack : Ack). ack.session)) timed.front_is ∙ acked.lines_of;
      told = λ k session at smtp. let one = told_of plan lines (entries ++ ending) done sessions shows all.0 acked k session at smtp in record {
        in_text = one.in_text;
        rest = one.rest;
        units = one.units;
        messages = mails_untimed k timed.front ∙ ap (mails_in k) timed.front_is ∙ one.messages;
      };
      other_ids = ids_front timed.front timed.rest (subst HaveOtherIds timed.are owes.stored.other_ids);
      stands = stand_front plan lines disks timed.front timed.rest owes.confirmers (subst (λ (a : List Ack). EachStands plan lines disks a owes.confirmers) timed.are owes.stored.stand);
    };
    deleted_by_quit = true_answers_delete plan lines (entries ++ ending) disks sessions shows.are facts;
    shown_as_filed = λ told. true_answers_show plan lines (entries ++ ending) filed sessions shows.are
        (owed_parts_are_true plan lines (entries ++ ending) filed done sessions shows (owes.parts told));
    shown_once = true_listings_show plan lines (entries ++ ending) sessions shows.are (owed_listings_are_true plan lines (entries ++ ending) disks done sessions shows owed);
    shown_are_own = own_listings_show plan lines (entries ++ ending) disks sessions shows.are (owed_listings_are_true plan lines (entries ++ ending) disks done sessions shows owed)
        (owed_listings_are_own plan lines (entries ++ ending) disks done sessions shows owes.listings);
    one_content = owes.one_content;
  };
  answered = answered;
  logged = shows.logged;
  acknowledged_as_told = record {
    may = may_untimed stop timed.rest (subst (MayBeUnwritten stop) (sym timed.rest_is) all.1);
    copies = subst (λ (a : List Ack). AreCopies lines a (map mask_of owes.confirmers) (acked_in book)) timed.are owes.books.is_book.acked;
    other_ids = subst HaveOtherIds timed.are owes.stored.other_ids;
    of_sessions = λ k session at. ap (mails_in k) (sym timed.are) ∙ mails_untimed k owes.acks ∙ ap (mails_in k) owes.stored.are ∙ of_session plan lines (entries ++ ending) done sessions shows k session at;
  };
  struck_as_marked = struck plan lines (entries ++ ending) done sessions shows stop disks begun book owes.acks owes.confirmers facts were owes.books.is_book;
  acknowledged_stand = subst (λ (a : List Ack). AcknowledgedStand plan disks book a owes.confirmers) timed.are owes.books.stand;
  dropped_are_gone = owes.books.dropped;
}
  where
    lines : List (List ℕ)
    lines = handled ++ left

    done : List Act
    done = flat_map (λ a. a) (acts ++ others)

    written : IsWritten plan stop lines done entries last
    written = driven_written plan stop handled left acts others made entries last driven

    first : (sessions : List Session) × Shows plan lines entries done sessions
    first = wrote_shown plan lines done entries last written.acts_of stop written.wrote

    sessions : List Session
    sessions = first.0

    shows : Shows plan lines (entries ++ ending) done sessions
    shows = shows_ended plan lines entries ending done sessions ends first.1

    -- between two lines they are those that the acts left
    answered : (IsCutShort stop → ⊥) → AreAnswered sessions
    answered whole k session at =
        let same : sessions ≡ last = shown_last plan lines done entries last written.acts_of stop whole written.wrote in
        let law = driven_answers_units plan stop handled left acts others made entries last driven whole k session (ap (λ (l : List Session). session_at l k) (sym same) ∙ at) in
        (law.1, law.2)

    all : (unwritten : List Ack) × MayBeUnwritten stop unwritten × AreAcked (opened lines) done entries unwritten
    all = wrote_acked plan (opened lines) done entries last written.worded written.acts_of.opens stop written.wrote

    acked : AreAcked (opened lines) done (entries ++ ending) all.0
    acked = record {
      acks = all.2.acks;
      few = all.2.few;
      are = all.2.are;
      lines_of = all.2.lines_of ∙ sym (stored_both (opened lines) entries ending ∙ ap (λ (l : List ℕ). stored_sessions (opened lines) entries ++ l) (ending_stored (opened lines) ending ends)
          ∙ append-nil (stored_sessions (opened lines) entries));
      greeted = λ k. subst Greeted (sym (shown.lines_both k entries ending ∙ ap (λ (l : List (List ℕ)). lines_to k entries ++ l) (ending_silent k ending ends) ∙ append-nil (lines_to k entries)))
          (all.2.greeted k);
    }

    -- those whose line was written, and the one whose line was not, each with its seconds
    timed : IsTimed owes.acks acked.acks all.0
    timed = timed_as owes.acks acked.acks all.0 (owes.stored.are ∙ sym acked.are)

    -- what is owed of what was begun is owed of what was asked
    owed : OwesDeletions plan disks (flat_map asked_by done) (flat_map answered_by done)
    owed = record {
      asks = λ n user id gone. let found = owes.deletions.asks n user id gone in
          (found.0, found.1, begun_asked stop (flat_map asked_by done) begun were (record { session = found.0; call = Strike user found.1 }) found.2, found.3);
      gone = owes.deletions.gone;
      once = owes.deletions.once;
      named = owes.deletions.named;
    }

    facts : DroppedAreTrue plan disks sessions
    facts = owed_deletions_are_true plan lines (entries ++ ending) disks done sessions shows owed
