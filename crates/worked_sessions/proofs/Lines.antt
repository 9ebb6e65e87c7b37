-- Lines of a tape that tells one message, in a cluster of so many nodes.
use Rattle.std.proofs.Common.{◌≡◌, ◌+◌, ◌<◌, ◌≤◌, not, ◌&&◌, ℕ, zero, suc, Bool, true, false, List, [], ◌∷◌, ◌++◌, length, flat_map, Option, Some, None, refl, sym, ap, ◌∙◌, subst, arith, nat_eq, slice_get, codes, if◌then◌else◌, append_assoc, append-nil, length-append}
use Rattle.std.specs.Prelude.{slice_index, is_some, unwrap_or}
use Rattle.std.specs.FinMap as map
use Rattle.std.specs.Cmp.Lexicographic.{nat_list_cmp_total}
use Rattle.std.proofs.lemmas.Bool.{and_parts}
use Rattle.mail_model.specs.Lines.{HasNoCrlf, sent_line}
use Rattle.mail_model.specs.Smtp.{helo_text}
use Rattle.mail_model.specs.PopReplies.{one_line}
use Rattle.mail_model.specs.Session.{Told, silent, recipient_text, with_mailbox}
use Rattle.mail_model.specs.Session.Unit.{Line, Text}
use Rattle.mail_model.specs.Tape.{tape_order}
use Rattle.mail_model.specs.Tape.Order.{Say}
use Rattle.mail_model.specs.Told.{AreTextLines, HasNoUnit, unit_octets}
use Rattle.mail_model.specs.Transcript.{Entry, said_lines}
use Rattle.mail_model.specs.Transcript.Entry.{Said}
use Rattle.mail_model.proofs.Sessions.{by_number}
use Rattle.mail_model.proofs.Units.{one_unit}
use Rattle.session_model.specs.Calls.Call.{Deliver}
use Rattle.session_model.specs.Talk.{TalkState, IsNext, IsOn, stands_by}
use Rattle.session_model.specs.Talk.TalkState.{Mailing}
use Rattle.session_model.specs.Talk.Standing.{Hearing}
use Rattle.session_model.specs.Sessions.{Session}
use Rattle.mail_model.specs.Tape.{ClusterOrder}
use Rattle.mail_model.specs.Tape.Order.{Moves}
use Rattle.session_model.specs.Events.{IsEventOf, event_entries}
use Rattle.session_model.specs.Events.ClusterEvent.{WasHeard}
use Rattle.session_model.specs.Lives.{life_after}
use Rattle.session_model.specs.Acts.{Act, closing}
use Rattle.session_model.specs.Acts.Act.{Does, StillWaits, Makes}
use Rattle.session_model.specs.Acts.Deed.{IsFed, Hears}
use Rattle.session_model.specs.Turns.{Waits, IsAtRest, IsFirst, IsNone, to_leave}
use Rattle.session_model.specs.Turns.Turn.{Hearing as Hears_on, Beginning, Asking}
use Rattle.session_model.specs.Run.{IsHandled, refusal}
use Rattle.worked_sessions.specs.OneMessage.{small_plan, greeted, sending, addressed, texting, small_text, small_mail, at_once, waiting, fed_with, heard_with, at_open, at_helo, at_mail, at_rcpt, at_data, at_subject, at_gap, at_hello, at_wait, said_once}
use Rattle.worked_sessions.specs.OneMessage.{plan_of_nodes}
use Rattle.worked_sessions.specs.ThreeNodes.{heard_in_vain, waits_first}

-- lines without a CR

abbrev pub has_no_cr : List ℕ → Bool
has_no_cr [] = true
has_no_cr (x ∷ xs) = not (nat_eq x 13) && has_no_cr xs

no_cr_at : (line : List ℕ) (k : ℕ) → has_no_cr line ≡ true → k + 1 < length line → slice_index line k ≡ 13 → ⊥
no_cr_at [] k is within cr = absurd (omega (arith, within))
no_cr_at (x ∷ xs) zero is within cr =
    let e : x ≡ 13 = cr in
    let clash : false ≡ true = ap (λ (y : ℕ). not (nat_eq y 13) && has_no_cr xs) (sym e) ∙ is in cc
no_cr_at (x ∷ xs) (suc k) is within cr = no_cr_at xs k (and_parts (not (nat_eq x 13)) (has_no_cr xs) is).1 (omega (arith, within)) cr

pub whole_line : (line : List ℕ) → has_no_cr line ≡ true → HasNoCrlf line
whole_line line is k within cr lf = no_cr_at line k is within cr

-- a session that rests

no_line : (line more : List ℕ) → [] ≡ sent_line line ++ more → ⊥
no_line [] more e = cc
no_line (x ∷ line) more e = cc

pub idle_line : HasNoUnit false []
idle_line (Line line) more is whole = no_line line more whole
idle_line (Text lines) more is whole = absurd is

-- in the midst of a text
pub idle_text : (there : List (List ℕ)) → AreTextLines there → HasNoUnit true (flat_map sent_line there)
idle_text there are (Line line) more is whole = absurd is
idle_text there are (Text lines) more is whole =
    let both : unit_octets (Text lines) ++ (more ++ sent_line (46 ∷ [])) ≡ unit_octets (Text there) ++ [] =
    sym (append_assoc (unit_octets (Text lines)) more (sent_line (46 ∷ []))) ∙ ap (λ (l : List ℕ). l ++ sent_line (46 ∷ [])) (sym whole) ∙ sym (append-nil (unit_octets (Text there))) in
    let same = one_unit true (Text lines) (Text there) (more ++ sent_line (46 ∷ [])) [] is are both in
    absurd (omega (arith, ap length same.1, length-append more (sent_line (46 ∷ []))))

-- nobody waits where the one session does not
pub nobody : (session : Session) → (Waits (Some session) → ⊥) → IsNone Waits (session ∷ []) 1
nobody session never zero above waits = absurd (omega (arith, above))
nobody session never (suc n) above waits = at_place n (subst Waits (by_number (session ∷ []) n) waits)
  where
    at_place : (i : ℕ) → Waits (slice_get (session ∷ []) i) → ⊥
    at_place zero there = never there
    at_place (suc i) there = there

pub never_waits : (session : Session) (state : TalkState) → session.standing ≡ Hearing state → Waits (Some session) → ⊥
never_waits session state hears (other, call, waits) = cc

-- it is the first of whom it is so
pub only_one : (is_so : Option Session → Type 0) (session : Session) → is_so (Some session) → IsFirst is_so (session ∷ []) 1 1
only_one is_so session is = record { later = omega arith; here = is; none = λ j low high. absurd (omega (arith, low, high)) }

-- it is so of nobody after the one session
pub nobody_after : (is_so : Option Session → Type 0) (session : Session) → (is_so None → ⊥) → IsNone is_so (session ∷ []) 2
nobody_after is_so session never zero above is = absurd (omega (arith, above))
nobody_after is_so session never (suc n) above is = at_place n (omega (arith, above)) (subst is_so (by_number (session ∷ []) n) is)
  where
    at_place : (i : ℕ) → 1 ≤ i → is_so (slice_get (session ∷ []) i) → ⊥
    at_place zero some there = absurd (omega (arith, some))
    at_place (suc i) some there = never there

-- the plan has the user
pub has_alice : is_some (map.get small_plan.users (codes "alice")) ≡ true
has_alice = ap is_some (map.get-insert nat_list_cmp_total map.empty (codes "alice") (codes "tanstaaf") (codes "alice"))

-- the reply to RCPT, and what it tells, where the path means a mailbox or does not
abbrev pub reply_where : Bool → List (List ℕ)
reply_where b = one_line (recipient_text (if b then Some (codes "alice") else None) [])

abbrev pub told_where : Bool → Told
told_where b = record greeted { envelope = Some (with_mailbox (record { sender = codes "bob@b.example"; mailboxes = [] }) (unwrap_or (if b then Some (codes "alice") else None) [])) }

subject_line : AreTextLines (codes "Subject: hi" ∷ [])
subject_line = (whole_line (codes "Subject: hi") refl, refl, tt)

pub text_lines : AreTextLines small_text
text_lines = (whole_line (codes "Subject: hi") refl, refl, (whole_line [] refl, refl, (whole_line (codes "hello") refl, refl, tt)))

module _ (n : ℕ) (been : List Act) where
  -- one that is answered at once
  pub answered : (old new : Session) (line text reply : List ℕ) (state : TalkState) (entries : List Entry) → tape_order line ≡ Some (Say 1 text)
      → refusal (plan_of_nodes n) been (old ∷ []) (Say 1 text) ≡ None → IsOn old.standing → closing 1 (IsFed (sent_line text)) old.standing ≡ [] → old.standing ≡ Hearing state
      → IsNext (plan_of_nodes n) old.node state (old.rest ++ sent_line text) (at_once text reply) []
      → new ≡ record (fed_with old text) { whole = old.whole ++ at_once text reply ∷ []; standing = stands_by (plan_of_nodes n) old.node state (at_once text reply); rest = [] }
      → entries ≡ said_lines 1 (one_line reply) ++ closing 1 (Hears (at_once text reply)) new.standing
      → IsAtRest (Some new) → to_leave (Some new) ≡ None → (Waits (Some new) → ⊥)
      → IsHandled (plan_of_nodes n) been (old ∷ []) line (Does 1 (IsFed (sent_line text)) ∷ Does 1 (Hears (at_once text reply)) ∷ []) ([] ∷ entries ∷ []) (new ∷ [])
  answered old new line text reply state entries spelled accepted on quiet hears next is says rests leaves never = record {
    last = Hears_on 1 1;
    begun = record {
      order = Say 1 text;
      spelled = spelled;
      accepted = accepted;
      first = Does 1 (IsFed (sent_line text));
      said = [];
      next = Hears_on 1 1;
      mid = fed_with old text ∷ [];
      starts = (refl, refl);
      acted = (old, fed_with old text, [], refl, (on, refl, refl), sym quiet, refl);
      more = Does 1 (Hears (at_once text reply)) ∷ [];
      others = entries ∷ [];
      goes = (Hears_on 1 1, new ∷ [], (refl, refl), (fed_with old text, new, one_line reply, refl, (state, [], hears, next, refl, is, refl), says, refl), (refl, refl));
      acts_are = refl;
      outputs_are = refl;
    };
    done = (1, (refl, rests, leaves), nobody new never);
  }

  -- one of a text
  fed_only : (old : Session) (line text : List ℕ) (state : TalkState) → tape_order line ≡ Some (Say 1 text)
      → refusal (plan_of_nodes n) been (old ∷ []) (Say 1 text) ≡ None → IsOn old.standing → closing 1 (IsFed (sent_line text)) old.standing ≡ [] → old.standing ≡ Hearing state
      → IsAtRest (Some (fed_with old text)) → to_leave (Some (fed_with old text)) ≡ None
      → IsHandled (plan_of_nodes n) been (old ∷ []) line (Does 1 (IsFed (sent_line text)) ∷ []) ([] ∷ []) (fed_with old text ∷ [])
  fed_only old line text state spelled accepted on quiet hears rests leaves = record {
    last = Hears_on 1 1;
    begun = record {
      order = Say 1 text;
      spelled = spelled;
      accepted = accepted;
      first = Does 1 (IsFed (sent_line text));
      said = [];
      next = Hears_on 1 1;
      mid = fed_with old text ∷ [];
      starts = (refl, refl);
      acted = (old, fed_with old text, [], refl, (on, refl, refl), sym quiet, refl);
      more = [];
      others = [];
      goes = (refl, refl);
      acts_are = refl;
      outputs_are = refl;
    };
    done = (1, (refl, rests, leaves), nobody (fed_with old text) (never_waits (fed_with old text) state hears));
  }

  pub helo : IsHandled (plan_of_nodes n) been (at_open ∷ []) (codes "say 1 HELO c.example") (said_once (codes "HELO c.example") (helo_text 1)) ([] ∷ (Said 1 (helo_text 1) ∷ []) ∷ []) (at_helo ∷ [])
  helo = answered at_open at_helo (codes "say 1 HELO c.example") (codes "HELO c.example") (helo_text 1) (Mailing silent) (Said 1 (helo_text 1) ∷ []) refl refl tt refl refl
      (record { is_unit = whole_line (codes "HELO c.example") refl; whole = refl; led = (refl, refl, refl) }) refl refl idle_line refl (never_waits at_helo (Mailing greeted) refl)

  pub mail : IsHandled (plan_of_nodes n) been (at_helo ∷ []) (codes "say 1 MAIL FROM:<bob@b.example>") (said_once (codes "MAIL FROM:<bob@b.example>") (codes "250 sender ok")) ([] ∷ (Said 1 (codes "250 sender ok") ∷ []) ∷ []) (at_mail ∷ [])
  mail = answered at_helo at_mail (codes "say 1 MAIL FROM:<bob@b.example>") (codes "MAIL FROM:<bob@b.example>") (codes "250 sender ok") (Mailing greeted) (Said 1 (codes "250 sender ok") ∷ []) refl refl tt refl refl
      (record { is_unit = whole_line (codes "MAIL FROM:<bob@b.example>") refl; whole = refl; led = (refl, refl, refl) }) refl refl idle_line refl (never_waits at_mail (Mailing sending) refl)

  pub rcpt : IsHandled (plan_of_nodes n) been (at_mail ∷ []) (codes "say 1 RCPT TO:<alice>") (said_once (codes "RCPT TO:<alice>") (codes "250 recipient ok")) ([] ∷ (Said 1 (codes "250 recipient ok") ∷ []) ∷ []) (at_rcpt ∷ [])
  rcpt = answered at_mail at_rcpt (codes "say 1 RCPT TO:<alice>") (codes "RCPT TO:<alice>") (codes "250 recipient ok") (Mailing sending) (Said 1 (codes "250 recipient ok") ∷ []) refl refl tt refl refl
      (record { is_unit = whole_line (codes "RCPT TO:<alice>") refl; whole = refl; led = (refl, refl, sym (ap reply_where has_alice)) })
      (sym (ap (λ (b : Bool). heard_with (fed_with at_mail (codes "RCPT TO:<alice>")) (at_once (codes "RCPT TO:<alice>") (codes "250 recipient ok")) (told_where b)) has_alice)) refl idle_line refl (never_waits at_rcpt (Mailing addressed) refl)

  pub data_line : IsHandled (plan_of_nodes n) been (at_rcpt ∷ []) (codes "say 1 DATA") (said_once (codes "DATA") (codes "354 end with a line that is a single period")) ([] ∷ (Said 1 (codes "354 end with a line that is a single period") ∷ []) ∷ []) (at_data ∷ [])
  data_line = answered at_rcpt at_data (codes "say 1 DATA") (codes "DATA") (codes "354 end with a line that is a single period") (Mailing addressed) (Said 1 (codes "354 end with a line that is a single period") ∷ []) refl refl tt refl refl
      (record { is_unit = whole_line (codes "DATA") refl; whole = refl; led = (refl, refl, refl) }) refl refl (idle_text [] tt) refl (never_waits at_data (Mailing texting) refl)

  pub subject : IsHandled (plan_of_nodes n) been (at_data ∷ []) (codes "say 1 Subject: hi") (Does 1 (IsFed (sent_line (codes "Subject: hi"))) ∷ []) ([] ∷ []) (at_subject ∷ [])
  subject = fed_only at_data (codes "say 1 Subject: hi") (codes "Subject: hi") (Mailing texting) refl refl tt refl refl (idle_text (codes "Subject: hi" ∷ []) subject_line) refl

  pub gap : IsHandled (plan_of_nodes n) been (at_subject ∷ []) (codes "say 1") (Does 1 (IsFed (sent_line [])) ∷ []) ([] ∷ []) (at_gap ∷ [])
  gap = fed_only at_subject (codes "say 1") [] (Mailing texting) refl refl tt refl refl
      (idle_text (codes "Subject: hi" ∷ [] ∷ []) (whole_line (codes "Subject: hi") refl, refl, (whole_line [] refl, refl, tt))) refl

  pub hello : IsHandled (plan_of_nodes n) been (at_gap ∷ []) (codes "say 1 hello") (Does 1 (IsFed (sent_line (codes "hello"))) ∷ []) ([] ∷ []) (at_hello ∷ [])
  hello = fed_only at_gap (codes "say 1 hello") (codes "hello") (Mailing texting) refl refl tt refl refl (idle_text small_text text_lines) refl

  -- the period: the message is asked to be stored, and the session waits
  pub waits_line : IsHandled (plan_of_nodes n) been (at_hello ∷ []) (codes "say 1 .") waits_first ([] ∷ [] ∷ [] ∷ []) (at_wait ∷ [])
  waits_line = record {
    last = Asking 2;
    begun = record {
      order = Say 1 (codes ".");
      spelled = refl;
      accepted = refl;
      first = Does 1 (IsFed (sent_line (codes ".")));
      said = [];
      next = Hears_on 1 1;
      mid = fed_with at_hello (codes ".") ∷ [];
      starts = (refl, refl);
      acted = (at_hello, fed_with at_hello (codes "."), [], refl, (tt, refl, refl), refl, refl);
      more = Does 1 (Hears waiting) ∷ StillWaits 1 ∷ [];
      others = [] ∷ [] ∷ [];
      goes = (
        Beginning 1 1,
        at_wait ∷ [],
        (refl, refl),
        (
          fed_with at_hello (codes "."),
          at_wait,
          [],
          refl,
          (Mailing texting, [], refl, record { is_unit = text_lines; whole = refl; led = (refl, refl) }, refl, refl, refl),
          refl,
          refl,
        ),
        (Asking 2, at_wait ∷ [], (1, refl, only_one Waits at_wait (Mailing greeted, Deliver small_mail, refl), refl), (refl, refl), (refl, refl)),
      );
      acts_are = refl;
      outputs_are = refl;
    };
    done = (2, refl, nobody_after Waits at_wait (λ none. none));
  }

  -- a letter is heard, and it still waits
  pub heard_line : (line : List ℕ) (order : ClusterOrder) (letter : ℕ) → tape_order line ≡ Some (Moves order) → refusal (plan_of_nodes n) been (at_wait ∷ []) (Moves order) ≡ None
      → IsEventOf (plan_of_nodes n) (life_after been) order (WasHeard letter)
      → IsHandled (plan_of_nodes n) been (at_wait ∷ []) line (heard_in_vain order letter) (event_entries (WasHeard letter) ∷ [] ∷ []) (at_wait ∷ [])
  heard_line line order letter spelled accepted comes = record {
    last = Asking 2;
    begun = record {
      order = Moves order;
      spelled = spelled;
      accepted = accepted;
      first = Makes order (WasHeard letter);
      said = event_entries (WasHeard letter);
      next = Asking 1;
      mid = at_wait ∷ [];
      starts = (WasHeard letter, comes, refl, refl);
      acted = (refl, refl);
      more = StillWaits 1 ∷ [];
      others = [] ∷ [];
      goes = (Asking 2, at_wait ∷ [], (1, refl, only_one Waits at_wait (Mailing greeted, Deliver small_mail, refl), refl), (refl, refl), (refl, refl));
      acts_are = refl;
      outputs_are = refl;
    };
    done = (2, refl, nobody_after Waits at_wait (λ none. none));
  }
