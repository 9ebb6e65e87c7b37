-- A tape that meets every premise.
use Rattle.std.proofs.Common.{◌≡◌, inl, inr, ◌<◌, ◌^◌, ℕ, zero, suc, Bool, true, List, [], ◌∷◌, ◌++◌, length, All, Some, refl, sym, ap, subst, arith, codes, slice_get}
use Rattle.std.specs.Prelude.{unwrap_or}
use Rattle.std.proofs.lemmas.Fmt.{decimal_digit}
use Rattle.std.proofs.lemmas.List.Elements.{All-nil, All-cons}
use Rattle.std.proofs.lemmas.Option.{none-some}
use Rattle.mail_model.specs.Identity.Key.{Message}
use Rattle.mail_model.specs.Identity.Value.{Here, Gone}
use Rattle.mail_model.specs.Identity.{Id, Stamp, Value}
use Rattle.mail_model.specs.Grammar.{IsId, IsRecord}
use Rattle.mail_model.specs.Lines.{sent_line}
use Rattle.mail_model.specs.Mail.{IsStored}
use Rattle.mail_model.specs.Record.{Record, IsAmongRecords, SaysHere, HoldsOctets, payload_of}
use Rattle.mail_model.specs.Book.{copies_acked}
use Rattle.mail_model.specs.Listing.{octets_in}
use Rattle.mail_model.specs.Stored.{Ack}
use Rattle.mail_model.specs.Record.Record.{Boot, Octets, Stated}
use Rattle.mail_model.specs.Smtp.{helo_text, closing_text, greeting_text, stored_text}
use Rattle.mail_model.specs.PopReplies.{one_line}
use Rattle.mail_model.specs.Session.{silent}
use Rattle.mail_model.specs.Site.{nth_id, nth_stamp, message_records, HoldsRecords}
use Rattle.mail_model.specs.Tape.Protocol.{Smtp}
use Rattle.mail_model.specs.Tape.Order.{Open, Say}
use Rattle.mail_model.specs.Transcript.{closed_event}
use Rattle.mail_model.specs.Transcript.Entry.{Said}
use Rattle.mail_model.proofs.FirstDate.{first_date}
use Rattle.session_model.specs.Calls.{Call, Answer}
use Rattle.session_model.specs.Calls.Call.{Deliver, Login, Fetch, Strike}
use Rattle.session_model.specs.Calls.Answer.{Stored}
use Rattle.session_model.specs.Talk.TalkState.{Mailing}
use Rattle.session_model.specs.Acts.Act.{Opens, Does}
use Rattle.session_model.specs.Acts.Deed.{IsFed, Hears, IsAnswered}
use Rattle.session_model.specs.Turns.Turn.{Hearing as Hears_on, Beginning, Asking}
use Rattle.session_model.specs.Run.{IsHandled, IsDriven}
use Rattle.session_model.specs.Run.Stop.{BehindLine, Denied, SinkFailed}
use Rattle.session_model.specs.Copies.{OnNode, OnEnough, KeepsCopy, OneContent}
use Rattle.session_model.specs.Books.{AmongAnswers, IsAsBooked}
use Rattle.session_model.specs.Owes.{Owes}
use Rattle.session_model.specs.Logs.{Answered}
use Rattle.session_model.specs.Facts.{IsGoneIn, ack_of}
use Rattle.worked_sessions.specs.OneMessage.{OneMessageKept, small_plan, greeted, texting, small_mail, small_octets, waiting, fed_with, at_open, at_helo, at_mail, at_rcpt, at_data, at_subject, at_gap, at_hello, at_wait, at_stored, at_quit, said_once, small_lines, small_acts, small_made, small_entries, small_asked, small_answered, small_records, small_store, small_book}
use Rattle.session_model.specs.Acts.{Act}
use Rattle.session_model.proofs.Kept.{owed_is_kept}
use Rattle.worked_sessions.proofs.Lines.{idle_line, nobody, never_waits, whole_line, has_alice, told_where, text_lines, answered, helo, mail, rcpt, data_line, subject, gap, hello}

-- `open`
opens : IsHandled small_plan [] [] (codes "open smtp 1") (Opens Smtp 1 (greeting_text 1) ∷ []) ((Said 1 (greeting_text 1) ∷ []) ∷ []) (at_open ∷ [])
opens = record {
  last = Asking 1;
  begun = record {
    order = Open Smtp 1;
    spelled = refl;
    accepted = refl;
    first = Opens Smtp 1 (greeting_text 1);
    said = Said 1 (greeting_text 1) ∷ [];
    next = Asking 1;
    mid = at_open ∷ [];
    starts = (1, refl, refl, refl);
    acted = (refl, refl);
    more = [];
    others = [];
    goes = (refl, refl);
    acts_are = refl;
    outputs_are = refl;
  };
  done = (1, refl, nobody at_open (never_waits at_open (Mailing silent) refl));
}

-- the period: the message is asked to be stored, and is
period : (been : List Act) → IsHandled small_plan been (at_hello ∷ []) (codes "say 1 .")
    (Does 1 (IsFed (sent_line (codes "."))) ∷ Does 1 (Hears waiting) ∷ Does 1 (IsAnswered (Deliver small_mail) (Stored (nth_id 1)) (one_line stored_text)) ∷ [])
    ([] ∷ [] ∷ (Said 1 stored_text ∷ []) ∷ []) (at_stored ∷ [])
period been = record {
  last = Hears_on 1 1;
  begun = record {
    order = Say 1 (codes ".");
    spelled = refl;
    accepted = refl;
    first = Does 1 (IsFed (sent_line (codes ".")));
    said = [];
    next = Hears_on 1 1;
    mid = fed_with at_hello (codes ".") ∷ [];
    starts = (refl, refl);
    acted = (at_hello, fed_with at_hello (codes "."), [], refl, (tt, refl, refl), refl, refl);
    more = Does 1 (Hears waiting) ∷ Does 1 (IsAnswered (Deliver small_mail) (Stored (nth_id 1)) (one_line stored_text)) ∷ [];
    others = [] ∷ (Said 1 stored_text ∷ []) ∷ [];
    goes = (
      Beginning 1 1,
      at_wait ∷ [],
      (refl, refl),
      (
        fed_with at_hello (codes "."),
        at_wait,
        [],
        refl,
        (Mailing texting, [], refl, record { is_unit = text_lines; whole = refl; led = (refl, refl) }, refl, refl, refl),
        refl,
        refl,
      ),
      (
        Hears_on 1 1,
        at_stored ∷ [],
        (1, refl, record { later = omega arith; here = (Mailing greeted, Deliver small_mail, refl); none = λ j low high. absurd (omega (arith, low, high)) }, refl),
        (at_wait, at_stored, one_line stored_text, refl, (at_data.whole, waiting, Mailing greeted, refl, refl, refl, refl, refl), refl, refl),
        (refl, refl),
      ),
    );
    acts_are = refl;
    outputs_are = refl;
  };
  done = (1, (refl, idle_line, refl), nobody at_stored (never_waits at_stored (Mailing greeted) refl));
}

quit : (been : List Act) → IsHandled small_plan been (at_stored ∷ []) (codes "say 1 QUIT") (said_once (codes "QUIT") (closing_text 1)) ([] ∷ (Said 1 (closing_text 1) ∷ closed_event 1 ∷ []) ∷ []) (at_quit ∷ [])
quit been = answered 1 been at_stored at_quit (codes "say 1 QUIT") (codes "QUIT") (closing_text 1) (Mailing greeted) (Said 1 (closing_text 1) ∷ closed_event 1 ∷ []) refl refl tt refl refl
    (record { is_unit = whole_line (codes "QUIT") refl; whole = refl; led = (refl, refl, refl) }) refl refl tt refl (λ waits. let never = waits.2 in cc)

driven : IsDriven small_plan BehindLine small_lines [] small_acts [] small_made small_entries (at_quit ∷ [])
driven = record {
  outputs =
      ((Said 1 (greeting_text 1) ∷ []) ∷ []) ∷ ([] ∷ (Said 1 (helo_text 1) ∷ []) ∷ []) ∷ ([] ∷ (Said 1 (codes "250 sender ok") ∷ []) ∷ []) ∷ ([] ∷ (Said 1 (codes "250 recipient ok") ∷ []) ∷ [])
      ∷ ([] ∷ (Said 1 (codes "354 end with a line that is a single period") ∷ []) ∷ []) ∷ ([] ∷ []) ∷ ([] ∷ []) ∷ ([] ∷ [])
      ∷ ([] ∷ [] ∷ (Said 1 stored_text ∷ []) ∷ []) ∷ ([] ∷ (Said 1 (closing_text 1) ∷ closed_event 1 ∷ []) ∷ []) ∷ [];
  mid = at_quit ∷ [];
  are = (
    at_open ∷ [],
    opens,
    (
      at_helo ∷ [],
      helo 1 _,
      (
        at_mail ∷ [],
        mail 1 _,
        (
          at_rcpt ∷ [],
          rcpt 1 _,
          (
            at_data ∷ [],
            data_line 1 _,
            (
              at_subject ∷ [],
              subject 1 _,
              (
                at_gap ∷ [],
                gap 1 _,
                (at_hello ∷ [], hello 1 _, (at_stored ∷ [], period _, (at_quit ∷ [], quit _, refl))),
              ),
            ),
          ),
        ),
      ),
    ),
  );
  tail = [];
  extra = [];
  off = (refl, refl, refl, λ is. absurd (let never : BehindLine ≡ SinkFailed = is in cc), λ is. absurd (let never : BehindLine ≡ Denied = is in cc));
  written = refl;
  steps = refl;
}

-- the node

pub stored : IsStored small_mail (nth_id 1) 0 small_octets
stored = record { date = codes "Thu, 01 Jan 1970 00:00:00 +0000"; dated = first_date; whole = refl }

pub id_fits : IsId (nth_id 1)
id_fits = record { node = (omega arith, omega arith); boot = (omega arith, omega arith); seq = (omega arith, omega arith) }

grammar : All IsRecord small_records
grammar =
    All-cons IsRecord (Boot 1) (message_records (nth_id 1) (nth_stamp 1) small_octets (codes "alice" ∷ [])) (omega arith, omega arith)
    (All-cons IsRecord (Octets (nth_id 1) small_octets) (Stated (Message (codes "alice") (nth_id 1)) (record { value = Here; stamp = nth_stamp 1; targets = 1 }) ∷ []) id_fits
    (All-cons IsRecord (Stated (Message (codes "alice") (nth_id 1)) (record { value = Here; stamp = nth_stamp 1; targets = 1 })) [] (record {
      key_fits = (record { name = refl; in_lower = refl }, id_fits);
      state_fits = record { value = tt; stamp = record { count = omega arith; boot = omega arith; node = omega arith }; targets = (omega arith, omega arith) };
      kind = tt;
    }) (All-nil IsRecord)))

-- the octets of the message, with its numbers spelt so
abbrev octets_with : List ℕ → List ℕ
octets_with d =
    sent_line (codes "Return-Path: <" ++ small_mail.sender ++ codes ">")
    ++ sent_line (codes "Received: from " ++ small_mail.helo)
    ++ sent_line (codes " by node" ++ d ++ codes " with " ++ codes "SMTP" ++ codes " id <" ++ (d ++ 46 ∷ [] ++ d ++ 46 ∷ [] ++ d) ++ codes "@node" ++ d ++ codes ">;")
    ++ sent_line (codes " " ++ codes "Thu, 01 Jan 1970 00:00:00 +0000") ++ small_mail.text

pub size : length small_octets ≡ 151
size = ap (λ (d : List ℕ). length (octets_with d)) (decimal_digit 1 (omega arith))

-- the record of the octets is short enough for a journal
pub octets_fit : length (payload_of (Octets (nth_id 1) small_octets)) < 2 ^ 32
octets_fit = omega (arith, size)

holds : HoldsRecords small_records small_store
holds = record { gate = 0; others = []; whole = refl; closed = λ is. absurd (omega (arith, is)); short = (omega arith, (octets_fit, (omega arith, tt))) }

abbrev value_in : Record → Value
value_in (Stated key state) = state.value
value_in other = Here

not_gone : (user : List ℕ) (id : Id) (stamp : Stamp) (targets : ℕ) → IsAmongRecords (Stated (Message user id) (record { value = Gone; stamp = stamp; targets = targets })) small_records → ⊥
not_gone user id stamp targets (inl is) = cc
not_gone user id stamp targets (inr (inl is)) = cc
not_gone user id stamp targets (inr (inr (inl is))) = let never : Here ≡ Gone = ap value_in is in cc
not_gone user id stamp targets (inr (inr (inr is))) = is

says_here : SaysHere (Message (codes "alice") (nth_id 1)) small_records
says_here = record { stamp = nth_stamp 1; targets = 1; here = inr (inr (inl refl)); not_gone = not_gone (codes "alice") (nth_id 1) }

has_octets : HoldsOctets (nth_id 1) small_octets small_records
has_octets = inr (λ other is. absurd (let never : Boot 1 ≡ Octets (nth_id 1) other = is in cc), inl refl)

-- the one disk has these records
one_disk : (n : ℕ) (records : List Record) → slice_get (small_records ∷ []) n ≡ Some records → small_records ≡ records
one_disk zero records there = cc
one_disk (suc n) records there = absurd (none-some records there)

-- and says that no copy is gone
none_gone : (n : ℕ) (user : List ℕ) (id : Id) → IsGoneIn (small_records ∷ []) n user id → ⊥
none_gone n user id (records, at, gone) = not_gone user id gone.stamp gone.targets (subst (IsAmongRecords _) (sym (one_disk n records at)) gone.gone)

-- it has the octets of one message
pub one_octets : (targets : ℕ) (id : Id) (octets : List ℕ) → IsAmongRecords (Octets id octets) (Boot 1 ∷ Octets (nth_id 1) small_octets ∷ Stated (Message (codes "alice") (nth_id 1)) (record { value = Here; stamp = nth_stamp 1; targets = targets }) ∷ [])
    → ◌≡◌ {A = Record} (Octets (nth_id 1) small_octets) (Octets id octets)
one_octets targets id octets (inl is) = cc
one_octets targets id octets (inr (inl is)) = is
one_octets targets id octets (inr (inr (inl is))) = cc
one_octets targets id octets (inr (inr (inr is))) = absurd is

one_content : OneContent (λ id. octets_in id small_records) (small_records ∷ [])
one_content n records id octets at inside =
    let is = one_octets 1 id octets (subst (IsAmongRecords (Octets id octets)) (sym (one_disk n records at)) inside) in
    let same_id : nth_id 1 ≡ id = cc is in
    let same : small_octets ≡ octets = cc is in
    subst (λ (i : Id). octets_in i small_records ≡ Some octets) same_id (ap Some same)

pub only_delivery : (k : ℕ) (call : Call) (answer : Answer) → AmongAnswers (record { session = k; call = call; answer = answer }) small_answered → Deliver small_mail ≡ call
only_delivery k call answer (inl is) = ap (λ (one : Answered). one.call) is
only_delivery k call answer (inr none) = absurd none

-- what is so of the records is so on the node, which is enough
on_it : (so : List Record → Type 0) → so small_records → OnEnough small_plan (small_records ∷ []) so (1 ∷ [])
on_it so is = record {
  are = record { rising = (omega arith, omega arith, tt); enough = omega arith };
  each = All-cons (OnNode (small_records ∷ []) so) 1 [] (small_records, refl, is) (All-nil (OnNode (small_records ∷ []) so));
}

abbrev small_ack : Ack
small_ack = ack_of 1 (record { mail = small_mail; id = nth_id 1 })

owes : Owes small_plan true (small_lines ++ []) (Some small_store ∷ []) (small_records ∷ []) (λ id. octets_in id small_records) small_asked small_answered small_book
owes = record {
  holds = (grammar, holds, tt);
  one_content = one_content;
  acks = small_ack ∷ [];
  confirmers = (1 ∷ []) ∷ [];
  stored = record {
    are = refl;
    stand = (
      record {
        at_node = refl;
        at_clock = inl refl;
        copies = All-cons (λ (user : List ℕ). OnEnough small_plan (small_records ∷ []) (KeepsCopy small_ack user) (1 ∷ [])) (codes "alice") []
            (on_it (KeepsCopy small_ack (codes "alice")) (inl (says_here, (small_octets, stored, has_octets)))) (All-nil _);
      },
      tt,
    );
    other_ids = (tt, tt);
  };
  deletions = record {
    asks = λ n user id gone. absurd (none_gone n user id gone);
    gone = λ k user ids id among within. absurd (let never = only_delivery k (Strike user ids) _ among in cc);
    once = λ k user given items among. absurd (let never = only_delivery k (Login user given) _ among in cc);
    named = λ k user given items among. absurd (let never = only_delivery k (Login user given) _ among in cc);
  };
  listings = λ k user given items among. absurd (let never = only_delivery k (Login user given) _ among in cc);
  parts = λ told. record {
    sizes = λ k user given items among. absurd (let never = only_delivery k (Login user given) _ among in cc);
    parts = λ k user id part among. absurd (let never = only_delivery k (Fetch user id) _ among in cc);
  };
  books = record {
    is_book = record {
      struck = refl;
      dropped = refl;
      acked = (
        copies_acked (nth_id 1) 0 small_octets 1 (codes "alice" ∷ []),
        [],
        refl,
        record { octets = small_octets; at_clock = inl refl; stored = stored; each_once = λ i j d before within. absurd (omega (arith, before, within)); are = refl },
        (refl, refl),
      );
    };
    stand = (
      All-cons (λ (user : List ℕ). OnEnough small_plan (small_records ∷ []) (IsAsBooked small_book small_ack user) (1 ∷ [])) (codes "alice") []
          (on_it (IsAsBooked small_book small_ack (codes "alice")) (inl (says_here, (small_octets, stored, has_octets)))) (All-nil _),
      refl,
    );
    dropped = tt;
  };
}

pub one_message_kept : OneMessageKept
one_message_kept = record {
  driven = driven;
  kept = owed_is_kept small_plan true BehindLine small_lines [] small_acts [] small_made small_entries [] (at_quit ∷ []) (Some small_store ∷ []) (small_records ∷ [])
      (λ id. octets_in id small_records) small_asked small_book driven tt refl owes;
  told = ap (λ (b : Bool). record small_mail { mailboxes = (unwrap_or (told_where b).envelope (record { sender = []; mailboxes = [] })).mailboxes } ∷ []) has_alice;
  size = size;
  stands = says_here;
  holds = has_octets;
}
