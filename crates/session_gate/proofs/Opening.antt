-- A session that has said its greeting, and how its connection is over.
use Rattle.std.proofs.Common.{inl, ◌≡◌, ◌++◌, ℕ, List, [], Option, refl, sym, ◌∙◌, subst}
use Rattle.std.proofs.lemmas.List.{append-nil}
use Rattle.mail_model.specs.Lines.{sent_line}
use Rattle.mail_model.specs.Plan.{Plan}
use Rattle.mail_model.specs.Smtp.{greeting_text}
use Rattle.mail_model.specs.PopReplies.{ready_text}
use Rattle.mail_model.specs.Tape.Protocol.{Smtp, Pop}
use Rattle.session_model.specs.Talk.Standing.{Hearing, EndedDown}
use Rattle.session_model.specs.Talk.{TalkState, opening_state}
use Rattle.session_model.specs.Sessions.{Session}
use Rattle.session_model.specs.Acts.{opened_session}
use Rattle.session_model.proofs.Moves.{begins}
use Rattle.call_tickets.specs.Moves.{Due, Moves, Greeted}
use Rattle.call_tickets.specs.Moves.Due.{Greeting}
use Rattle.call_tickets.specs.Passes.{PassKnows}
use Rattle.call_tickets.specs.declared.step.Move.{Move}
use Rattle.call_tickets.specs.declared.step.Move.TheVariants.{Said, Begin, Wait, Idle, End}
use Rattle.smtp_session.specs.Follows as mail
use Rattle.smtp_session.specs.declared.session.SmtpSession.{SmtpSession}
use Rattle.pop_session.specs.Follows as reader
use Rattle.pop_session.specs.declared.session.PopSession.{PopSession}
use Rattle.session_gate.specs.Connections.{Connection, HasCome, Talks, Anyhow, IsServed, ClosesSo, ClosedWith, ServedAs, EndsAs, smtp_connection, pop_connection}
use Rattle.session_gate.specs.declared.stop.Close.{Close}
use Rattle.session_gate.specs.declared.stop.Close.TheVariants as closes
use Rattle.session_gate.specs.declared.stop.Served.{Served}
use Rattle.session_gate.proofs.Knows.{quiet_none}
use Rattle.session_gate.proofs.Moves.{at_same}

-- a session that has its greeting to say says it with its next move
greets_first : (follows : Session → Due → Type 0) (plan : Plan) (plain : Session) (greeting : List ℕ) (did : Move) (octets : List ℕ) → Moves follows greeting plan plain Greeting did octets
    → Greeted follows greeting plain octets
greets_first follows plan plain greeting Said octets is = is
greets_first follows plan plain greeting (Begin call) octets is = absurd is
greets_first follows plan plain greeting Wait octets is = absurd is
greets_first follows plan plain greeting Idle octets is = absurd is
greets_first follows plan plain greeting End octets is = absurd is

-- one that was opened hears, and its node is up
hearing_up : (state : TalkState) → Hearing state ≡ EndedDown → ⊥
hearing_up state is = cc

opens : (line : Connection) (follows : Session → Due → Type 0) (out : List ℕ) → Greeted follows line.greeting (opened_session line.protocol line.node) out → HasCome line (Talks follows) [] [] out line.start
opens line follows out greeted = record {
  at = record {
    plain = opened_session line.protocol line.node;
    follows = (greeted.goes_on, tt);
    protocol = refl;
    node = refl;
    fed_is = refl;
    others = refl;
    talk = begins line.plan line.node line.protocol;
    lines = [];
    are = refl;
    says = greeted.says ∙ sym (append-nil (sent_line line.greeting));
    deals = quiet_none line.start;
    down = λ ended. absurd (hearing_up (opening_state line.protocol) ended);
  };
  in_time = inl tt;
}

pub smtp_opens : (plan : Plan) (node : ℕ) (start : PassKnows) (session new : SmtpSession) (did : Move) (out octets : List ℕ) → mail.Follows session (opened_session Smtp node) Greeting
    → out ≡ octets → mail.Moved plan session did octets new → HasCome (smtp_connection plan node start) (Talks (mail.Follows new)) [] [] out start
smtp_opens plan node start session new did out octets follows is moved =
    opens (smtp_connection plan node start) (mail.Follows new) out (subst (Greeted (mail.Follows new) (greeting_text node) (opened_session Smtp node)) (sym is)
    (subst (λ (n : ℕ). Greeted (mail.Follows new) (greeting_text n) (opened_session Smtp node) octets) (sym follows.node)
    (greets_first (mail.Follows new) plan (opened_session Smtp node) (greeting_text session.node) did octets (moved.goes (opened_session Smtp node) Greeting follows))))

pub pop_opens : (plan : Plan) (node boot number seconds : ℕ) (start : PassKnows) (session new : PopSession) (did : Move) (out octets : List ℕ) → reader.Follows session (opened_session Pop node) Greeting
    → reader.opening_line session ≡ ready_text node boot number seconds → out ≡ octets → reader.Moved plan session did octets new
    → HasCome (pop_connection plan node boot number seconds start) (Talks (reader.Follows new)) [] [] out start
pop_opens plan node boot number seconds start session new did out octets follows shows is moved =
    opens (pop_connection plan node boot number seconds start) (reader.Follows new) out (subst (Greeted (reader.Follows new) (ready_text node boot number seconds) (opened_session Pop node)) (sym is)
    (subst (λ (l : List ℕ). Greeted (reader.Follows new) l (opened_session Pop node) octets) shows
    (greets_first (reader.Follows new) plan (opened_session Pop node) (reader.opening_line session) did octets (moved.goes (opened_session Pop node) Greeting follows))))

-- how it was closed says how it was served
pub served_same : (close : Close) (one other : Served) → ServedAs close one → ServedAs close other → one ≡ other
served_same closes.Fell one other a b = a ∙ sym b
served_same closes.FellUnwritten one other a b = a ∙ sym b
served_same closes.Ended one other a b = a ∙ sym b
served_same closes.ReadFault one other a b = a ∙ sym b
served_same closes.WriteFault one other a b = a ∙ sym b
served_same closes.TooLong one other a b = a ∙ sym b
served_same closes.NoMemory one other a b = a ∙ sym b

module _ (line : Connection) (speaks : Session → Type 0) (left0 left1 held0 held1 : Option (List ℕ)) (now : PassKnows) where
  -- whatever the value is that spoke, with another word for how it was served
  abbrev pub any_served : (one other : Served) (s : IsServed line speaks one left0 left1 held0 held1 now) → EndsAs other s.come.at.plain s.fed s.unfed s.missing left1
      → IsServed line Anyhow other left0 left1 held0 held1 now
  any_served one other s ends = record {
    fed = s.fed;
    unfed = s.unfed;
    takes = s.takes;
    wrote = s.wrote;
    missing = s.missing;
    appends = s.appends;
    come = record { at = at_same line speaks Anyhow s.fed (s.wrote ++ s.missing) (s.wrote ++ s.missing) now s.come.at tt refl; in_time = s.come.in_time };
    ends = ends;
  }

pub closed_served : (close : Close) (line : Connection) (follows : Session → Due → Type 0) (left0 left1 held0 held1 : Option (List ℕ)) (now : PassKnows) (result : Served) → ServedAs close result
    → ClosesSo close line follows left0 left1 held0 held1 now → IsServed line Anyhow result left0 left1 held0 held1 now
closed_served close line follows left0 left1 held0 held1 now result is_as so =
    any_served line (ClosedWith close follows) left0 left1 held0 held1 now so.0 result so.2
    (subst (λ (r : Served). EndsAs r so.2.come.at.plain so.2.fed so.2.unfed so.2.missing left1) (served_same close so.0 result so.1 is_as) so.2.ends)
