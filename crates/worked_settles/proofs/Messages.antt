-- The lines that tell a message, by a session at node 1 that was fed and has had anything before.
use Rattle.std.proofs.Common.{◌≡◌, ◌≢◌, ℕ, zero, suc, Bool, List, [], ◌∷◌, ◌++◌, flat_map, refl, sym, ap, subst, arith, codes, append_assoc}
use Rattle.mail_model.specs.Lines.{sent_line}
use Rattle.mail_model.specs.Session.{silent}
use Rattle.mail_model.specs.Tape.Protocol.{Smtp}
use Rattle.mail_model.specs.Transcript.{Entry}
use Rattle.mail_model.specs.Transcript.Entry.{Said}
use Rattle.mail_model.proofs.Sessions.{by_number}
use Rattle.session_model.specs.Calls.Call.{Deliver}
use Rattle.session_model.specs.Talk.{Exchange}
use Rattle.session_model.specs.Talk.TalkState.{Mailing}
use Rattle.session_model.specs.Talk.Standing.{Hearing, Waiting}
use Rattle.session_model.specs.Sessions.{Session, session_at}
use Rattle.session_model.specs.Acts.{Act}
use Rattle.session_model.specs.Acts.Act.{Does, Opens}
use Rattle.session_model.specs.Acts.Deed.{IsFed}
use Rattle.session_model.specs.Turns.{Waits}
use Rattle.session_model.specs.Run.{IsHandled, AreHandled}
use Rattle.worked_sessions.specs.OneMessage.{greeted, sending, addressed, texting, small_text, small_mail, waiting, at_once, fed_with, heard_with, said_once, at_open, at_helo}
use Rattle.worked_sessions.proofs.Lines.{whole_line, has_alice, reply_where, told_where, text_lines, idle_line, idle_text}
use Rattle.worked_sessions.specs.ThreeNodes.{waits_first}
use Rattle.worked_settles.specs.FreshTape.{worked_plan, message_words, message_lines, message_acts}
use Rattle.worked_settles.proofs.Lines.{IsPlace, answered, fed_only, asks, hears_on, nobody}
use Rattle.mail_model.specs.Smtp.{greeting_text, helo_text}
use Rattle.mail_model.specs.Tape.Order.{Open}
use Rattle.session_model.specs.Turns.Turn.{Asking}

-- the one session of a list
pub alone : IsPlace 1 (λ s. s ∷ [])
alone = record { first = omega arith; at = λ s. refl; put = λ s t. refl; others = none_else }
  where
    none_else : (s : Session) (j : ℕ) → j ≢ 1 → Waits (session_at (s ∷ []) j) → ⊥
    none_else s zero other waits = waits
    none_else s (suc zero) other waits = other refl
    none_else s (suc (suc n)) other waits = subst Waits (by_number (s ∷ []) (suc n)) waits

-- `open smtp 1`
pub opens : IsHandled worked_plan [] [] (codes "open smtp 1") (Opens Smtp 1 (greeting_text 1) ∷ []) ((Said 1 (greeting_text 1) ∷ []) ∷ []) (at_open ∷ [])
opens = record {
  last = Asking 1;
  begun = record {
    order = Open Smtp 1;
    spelled = refl;
    accepted = refl;
    first = Opens Smtp 1 (greeting_text 1);
    said = Said 1 (greeting_text 1) ∷ [];
    next = Asking 1;
    mid = at_open ∷ [];
    starts = (1, refl, refl, refl);
    acted = (refl, refl);
    more = [];
    others = [];
    goes = (refl, refl);
    acts_are = refl;
    outputs_are = refl;
  };
  done = (1, refl, nobody worked_plan [] 1 (λ s. s ∷ []) alone at_open (hears_on worked_plan [] 1 (λ s. s ∷ []) alone at_open (Mailing silent) refl));
}

pub helo : (been : List Act) → IsHandled worked_plan been (at_open ∷ []) (codes "say 1 HELO c.example") (said_once (codes "HELO c.example") (helo_text 1)) ([] ∷ (Said 1 (helo_text 1) ∷ []) ∷ []) (at_helo ∷ [])
helo been = answered worked_plan been 1 (λ s. s ∷ []) alone at_open at_helo (codes "say 1 HELO c.example") (codes "HELO c.example") (at_once (codes "HELO c.example") (helo_text 1)) (Mailing silent)
    (Said 1 (helo_text 1) ∷ []) refl refl refl refl refl
    (record { is_unit = whole_line (codes "HELO c.example") refl; whole = refl; led = (refl, refl, refl) }) refl refl idle_line refl
    (hears_on worked_plan been 1 (λ s. s ∷ []) alone at_helo (Mailing greeted) refl)

-- what is written for the lines of a message
abbrev pub message_outputs : List (List (List Entry))
message_outputs =
    ([] ∷ (Said 1 (codes "250 sender ok") ∷ []) ∷ []) ∷ ([] ∷ (Said 1 (codes "250 recipient ok") ∷ []) ∷ []) ∷ ([] ∷ (Said 1 (codes "354 end with a line that is a single period") ∷ []) ∷ [])
    ∷ ([] ∷ []) ∷ ([] ∷ []) ∷ ([] ∷ []) ∷ ([] ∷ [] ∷ [] ∷ []) ∷ []

-- once it was told a message, and waits
abbrev pub waits_after : List ℕ → List Exchange → Session
waits_after octets whole = record {
  protocol = Smtp;
  node = 1;
  octets = octets ++ flat_map sent_line message_words;
  whole = whole ++ (at_once (codes "MAIL FROM:<bob@b.example>") (codes "250 sender ok") ∷ at_once (codes "RCPT TO:<alice>") (codes "250 recipient ok")
      ∷ at_once (codes "DATA") (codes "354 end with a line that is a single period") ∷ waiting ∷ []);
  others = [];
  standing = Waiting (Mailing greeted) (Deliver small_mail);
  rest = [];
}

module _ (octets : List ℕ) (whole : List Exchange) where
  -- it hears, and was told HELO
  abbrev ready : Session
  ready = record { protocol = Smtp; node = 1; octets = octets; whole = whole; others = []; standing = Hearing (Mailing greeted); rest = [] }

  abbrev at_mail : Session
  at_mail = heard_with (fed_with ready (codes "MAIL FROM:<bob@b.example>")) (at_once (codes "MAIL FROM:<bob@b.example>") (codes "250 sender ok")) sending

  abbrev at_rcpt : Session
  at_rcpt = heard_with (fed_with at_mail (codes "RCPT TO:<alice>")) (at_once (codes "RCPT TO:<alice>") (codes "250 recipient ok")) addressed

  abbrev at_data : Session
  at_data = heard_with (fed_with at_rcpt (codes "DATA")) (at_once (codes "DATA") (codes "354 end with a line that is a single period")) texting

  abbrev at_subject : Session
  at_subject = fed_with at_data (codes "Subject: hi")

  abbrev at_gap : Session
  at_gap = fed_with at_subject []

  abbrev at_hello : Session
  at_hello = fed_with at_gap (codes "hello")

  abbrev at_wait : Session
  at_wait = record (fed_with at_hello (codes ".")) { whole = at_data.whole ++ waiting ∷ []; standing = Waiting (Mailing greeted) (Deliver small_mail); rest = [] }

  mail : (been : List Act) → IsHandled worked_plan been (ready ∷ []) (codes "say 1 MAIL FROM:<bob@b.example>") (said_once (codes "MAIL FROM:<bob@b.example>") (codes "250 sender ok"))
      ([] ∷ (Said 1 (codes "250 sender ok") ∷ []) ∷ []) (at_mail ∷ [])
  mail been = answered worked_plan been 1 (λ s. s ∷ []) alone ready at_mail (codes "say 1 MAIL FROM:<bob@b.example>") (codes "MAIL FROM:<bob@b.example>")
      (at_once (codes "MAIL FROM:<bob@b.example>") (codes "250 sender ok")) (Mailing greeted) (Said 1 (codes "250 sender ok") ∷ []) refl refl refl refl refl
      (record { is_unit = whole_line (codes "MAIL FROM:<bob@b.example>") refl; whole = refl; led = (refl, refl, refl) }) refl refl idle_line refl
      (hears_on worked_plan been 1 (λ s. s ∷ []) alone at_mail (Mailing sending) refl)

  rcpt : (been : List Act) → IsHandled worked_plan been (at_mail ∷ []) (codes "say 1 RCPT TO:<alice>") (said_once (codes "RCPT TO:<alice>") (codes "250 recipient ok"))
      ([] ∷ (Said 1 (codes "250 recipient ok") ∷ []) ∷ []) (at_rcpt ∷ [])
  rcpt been = answered worked_plan been 1 (λ s. s ∷ []) alone at_mail at_rcpt (codes "say 1 RCPT TO:<alice>") (codes "RCPT TO:<alice>")
      (at_once (codes "RCPT TO:<alice>") (codes "250 recipient ok")) (Mailing sending) (Said 1 (codes "250 recipient ok") ∷ []) refl refl refl refl refl
      (record { is_unit = whole_line (codes "RCPT TO:<alice>") refl; whole = refl; led = (refl, refl, sym (ap reply_where has_alice)) })
      (sym (ap (λ (b : Bool). heard_with (fed_with at_mail (codes "RCPT TO:<alice>")) (at_once (codes "RCPT TO:<alice>") (codes "250 recipient ok")) (told_where b)) has_alice)) refl idle_line refl
      (hears_on worked_plan been 1 (λ s. s ∷ []) alone at_rcpt (Mailing addressed) refl)

  data_line : (been : List Act) → IsHandled worked_plan been (at_rcpt ∷ []) (codes "say 1 DATA") (said_once (codes "DATA") (codes "354 end with a line that is a single period"))
      ([] ∷ (Said 1 (codes "354 end with a line that is a single period") ∷ []) ∷ []) (at_data ∷ [])
  data_line been = answered worked_plan been 1 (λ s. s ∷ []) alone at_rcpt at_data (codes "say 1 DATA") (codes "DATA")
      (at_once (codes "DATA") (codes "354 end with a line that is a single period")) (Mailing addressed) (Said 1 (codes "354 end with a line that is a single period") ∷ []) refl refl refl refl refl
      (record { is_unit = whole_line (codes "DATA") refl; whole = refl; led = (refl, refl, refl) }) refl refl (idle_text [] tt) refl
      (hears_on worked_plan been 1 (λ s. s ∷ []) alone at_data (Mailing texting) refl)

  subject : (been : List Act) → IsHandled worked_plan been (at_data ∷ []) (codes "say 1 Subject: hi") (Does 1 (IsFed (sent_line (codes "Subject: hi"))) ∷ []) ([] ∷ []) (at_subject ∷ [])
  subject been = fed_only worked_plan been 1 (λ s. s ∷ []) alone at_data (codes "say 1 Subject: hi") (codes "Subject: hi") (Mailing texting) refl refl refl
      (idle_text (codes "Subject: hi" ∷ []) (whole_line (codes "Subject: hi") refl, refl, tt)) refl

  gap : (been : List Act) → IsHandled worked_plan been (at_subject ∷ []) (codes "say 1") (Does 1 (IsFed (sent_line [])) ∷ []) ([] ∷ []) (at_gap ∷ [])
  gap been = fed_only worked_plan been 1 (λ s. s ∷ []) alone at_subject (codes "say 1") [] (Mailing texting) refl refl refl
      (idle_text (codes "Subject: hi" ∷ [] ∷ []) (whole_line (codes "Subject: hi") refl, refl, (whole_line [] refl, refl, tt))) refl

  hello : (been : List Act) → IsHandled worked_plan been (at_gap ∷ []) (codes "say 1 hello") (Does 1 (IsFed (sent_line (codes "hello"))) ∷ []) ([] ∷ []) (at_hello ∷ [])
  hello been = fed_only worked_plan been 1 (λ s. s ∷ []) alone at_gap (codes "say 1 hello") (codes "hello") (Mailing texting) refl refl refl (idle_text small_text text_lines) refl

  period : (been : List Act) → IsHandled worked_plan been (at_hello ∷ []) (codes "say 1 .") waits_first ([] ∷ [] ∷ [] ∷ []) (at_wait ∷ [])
  period been = asks worked_plan been 1 (λ s. s ∷ []) alone at_hello at_wait (codes "say 1 .") (codes ".") waiting (Deliver small_mail) (Mailing texting) (Mailing greeted) refl refl refl refl refl refl
      (record { is_unit = text_lines; whole = refl; led = (refl, refl) }) refl refl

  -- all lines of one message: then it waits
  pub tells : (been : List Act) → AreHandled worked_plan been (ready ∷ []) message_lines message_acts message_outputs (waits_after octets whole ∷ [])
  tells been = (
    at_mail ∷ [],
    mail _,
    (
      at_rcpt ∷ [],
      rcpt _,
      (at_data ∷ [], data_line _, (at_subject ∷ [], subject _, (at_gap ∷ [], gap _, (at_hello ∷ [], hello _, (at_wait ∷ [], period _, waits_so))))),
    ),
  )
    where
      waits_so : waits_after octets whole ∷ [] ≡ at_wait ∷ []
      waits_so = simp append_assoc
