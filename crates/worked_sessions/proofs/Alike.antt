-- Sessions that a tape and a transcript show are those that were worked by hand, as far as their clients know.
use Rattle.std.proofs.Common.{◌≡◌, ℕ, suc, Bool, List, [], ◌∷◌, ◌++◌, map, flat_map, Option, Some, None, refl, sym, ap, ◌∙◌, subst, codes, slice_get}
use Rattle.std.specs.Prelude.{unwrap_or}
use Rattle.std.specs.Option.{option_map}
use Rattle.std.proofs.lemmas.Option.{none-some, slice_get-map}
use Rattle.mail_model.specs.Lines.{sent_line}
use Rattle.mail_model.specs.Plan.{Plan}
use Rattle.mail_model.specs.Session.{silent}
use Rattle.mail_model.specs.PopReplies.{one_line}
use Rattle.mail_model.specs.Site.{nth_id}
use Rattle.mail_model.specs.Smtp.{closing_text, stored_text}
use Rattle.mail_model.specs.Stored.{opened}
use Rattle.mail_model.specs.Tape.{Protocol}
use Rattle.mail_model.specs.Tape.Protocol.{Smtp}
use Rattle.mail_model.specs.Told.{told_from}
use Rattle.mail_model.specs.Transcript.{Entry}
use Rattle.mail_model.proofs.Sessions.{by_number}
use Rattle.session_model.specs.Calls.Answer.{Stored}
use Rattle.session_model.specs.Moves.{with_answer}
use Rattle.session_model.specs.Talk.{Exchange, TalkGoes, IsTalk, opening_state}
use Rattle.session_model.specs.Talk.TalkState.{Mailing}
use Rattle.session_model.specs.Talk.Standing.{Hearing, EndedByQuit}
use Rattle.session_model.specs.Mailing.{pairs}
use Rattle.session_model.specs.Sessions.{Session, IsSession, AreSessions, session_at}
use Rattle.session_model.proofs.Acts.{kind_of}
use Rattle.session_model.proofs.Telling.{one_telling}
use Rattle.worked_sessions.specs.OneMessage.{plan_of_nodes, small_mail, waiting, at_once, at_quit}
use Rattle.worked_sessions.proofs.Lines.{whole_line, has_alice, text_lines, reply_where, told_where}

-- session k is of this kind, where the tape opens it so
pub record Shown (plan : Plan) (lines : List (List ℕ)) (entries : List Entry) (sessions : List Session) (k : ℕ) (protocol : Protocol) (node : ℕ) : Type 0 where
  pub session : Session
  pub at : session_at sessions k ≡ Some session
  pub speaks : session.protocol ≡ protocol
  pub there : session.node ≡ node
  pub is : IsSession plan lines entries k session

pub shown_at : (plan : Plan) (lines : List (List ℕ)) (entries : List Entry) (sessions : List Session) → AreSessions plan lines entries sessions → (n : ℕ) (protocol : Protocol) (node : ℕ)
    → slice_get (opened lines) n ≡ Some (protocol, node) → Shown plan lines entries sessions (suc n) protocol node
shown_at plan lines entries sessions are n protocol node kind = by (slice_get sessions n) refl
  where
    seen : slice_get (map kind_of sessions) n ≡ Some (protocol, node)
    seen = ap (λ (l : List (Protocol × ℕ)). slice_get l n) (sym are.kinds) ∙ kind

    by : (found : Option Session) → slice_get sessions n ≡ found → Shown plan lines entries sessions (suc n) protocol node
    by None none = absurd (none-some (protocol, node) (sym (slice_get-map kind_of sessions n ∙ ap (option_map kind_of) none) ∙ seen))
    by (Some session) some =
        let at : session_at sessions (suc n) ≡ Some session = by_number sessions n ∙ some in
        let pair : Some (kind_of session) ≡ Some (protocol, node) = sym (slice_get-map kind_of sessions n ∙ ap (option_map kind_of) some) ∙ seen in
        let same : kind_of session ≡ (protocol, node) = cc pair in
        record { session = session; at = at; speaks = ap (λ (p : Protocol × ℕ). p.0) same; there = ap (λ (p : Protocol × ℕ). p.1) same; is = are.each (suc n) session at }

-- its text, which was stored
abbrev text_told : Exchange
text_told = with_answer waiting (Stored (nth_id 1)) (one_line stored_text)

-- the session that tells the message, in a plan of so many nodes
module _ (n : ℕ) where
  goes : TalkGoes (plan_of_nodes n) 1 (Hearing (opening_state Smtp)) at_quit.octets at_quit.whole EndedByQuit []
  goes = (
    flat_map sent_line (codes "MAIL FROM:<bob@b.example>" ∷ codes "RCPT TO:<alice>" ∷ codes "DATA" ∷ codes "Subject: hi" ∷ [] ∷ codes "hello" ∷ codes "." ∷ codes "QUIT" ∷ []),
    record { is_unit = whole_line (codes "HELO c.example") refl; whole = refl; led = (refl, refl, refl) },
    (
      flat_map sent_line (codes "RCPT TO:<alice>" ∷ codes "DATA" ∷ codes "Subject: hi" ∷ [] ∷ codes "hello" ∷ codes "." ∷ codes "QUIT" ∷ []),
      record { is_unit = whole_line (codes "MAIL FROM:<bob@b.example>") refl; whole = refl; led = (refl, refl, refl) },
      (
        flat_map sent_line (codes "DATA" ∷ codes "Subject: hi" ∷ [] ∷ codes "hello" ∷ codes "." ∷ codes "QUIT" ∷ []),
        record { is_unit = whole_line (codes "RCPT TO:<alice>") refl; whole = refl; led = (refl, refl, sym (ap reply_where has_alice)) },
        subst (λ (b : Bool). TalkGoes (plan_of_nodes n) 1 (Hearing (Mailing (told_where b))) (flat_map sent_line (codes "DATA" ∷ codes "Subject: hi" ∷ [] ∷ codes "hello" ∷ codes "." ∷ codes "QUIT" ∷ []))
            (at_once (codes "DATA") (codes "354 end with a line that is a single period") ∷ text_told ∷ at_once (codes "QUIT") (closing_text 1) ∷ []) EndedByQuit []) (sym has_alice) (
              flat_map sent_line (codes "Subject: hi" ∷ [] ∷ codes "hello" ∷ codes "." ∷ codes "QUIT" ∷ []),
              record { is_unit = whole_line (codes "DATA") refl; whole = refl; led = (refl, refl, refl) },
              (
                sent_line (codes "QUIT"),
                record { is_unit = text_lines; whole = refl; led = (refl, refl) },
                ([], record { is_unit = whole_line (codes "QUIT") refl; whole = refl; led = (refl, refl, refl) }, (refl, refl)),
              ),
            ),
      ),
    ),
  )

  pub talks : IsTalk (plan_of_nodes n) 1 Smtp at_quit.octets (at_quit.whole ++ []) EndedByQuit []
  talks = record { before = EndedByQuit; goes = goes; ends = refl }

  -- its message
  pub tells : told_from (plan_of_nodes n) silent (pairs at_quit.whole) ≡ small_mail ∷ []
  tells = ap (λ (b : Bool). record small_mail { mailboxes = (unwrap_or (told_where b).envelope (record { sender = []; mailboxes = [] })).mailboxes } ∷ []) has_alice

  -- whoever is shown where this session is shown told that message
  pub told_alike : (lines : List (List ℕ)) (entries : List Entry) (sessions : List Session) (k : ℕ) → (shown : Shown (plan_of_nodes n) lines entries sessions k Smtp 1)
      → IsSession (plan_of_nodes n) lines entries k at_quit → told_from (plan_of_nodes n) silent (pairs shown.session.whole) ≡ small_mail ∷ []
  told_alike lines entries sessions k shown own = one_telling (plan_of_nodes n) lines entries k shown.session at_quit shown.speaks refl shown.there shown.is own ∙ tells
