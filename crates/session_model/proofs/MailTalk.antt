-- A session that takes mail is one of all sessions, and the other way round.
use Rattle.std.proofs.Common.{◌≡◌, ℕ, Bool, true, false, List, [], ◌∷◌, Option, Some, None, refl, sym, subst, if◌then◌else◌}
use Rattle.std.specs.Bool.{⊤}
use Rattle.mail_model.specs.Plan.{Plan}
use Rattle.mail_model.specs.Tape.{Protocol}
use Rattle.mail_model.specs.Tape.Protocol.{Smtp, Pop}
use Rattle.mail_model.specs.Transcript.{Entry}
use Rattle.mail_model.specs.Session.{Unit, Told, after_unit, is_quit_line, is_large, reply_lines, reply_text, silent}
use Rattle.mail_model.specs.Session.Unit.{Line, Text}
use Rattle.mail_model.specs.PopReplies.{one_line}
use Rattle.mail_model.specs.Told.{Mail, mail_of}
use Rattle.session_model.specs.Calls.{Answer}
use Rattle.session_model.specs.Calls.Call.{Deliver}
use Rattle.session_model.specs.Talk.{Exchange, IsTalk, Lead, Standing, TalkGoes, closing_line, mail_lead, opening_state, standing_asked, stands}
use Rattle.session_model.specs.Talk.Lead.{Says, Ends, Asks}
use Rattle.session_model.specs.Talk.Standing.{Hearing, Waiting, EndedByQuit, EndedDown, EndedClosed}
use Rattle.session_model.specs.Talk.TalkState.{Mailing, Entering, Reading}
use Rattle.session_model.specs.MailTalk.{MailGoes, mail_stands}
use Rattle.session_model.specs.Sessions.{AreSessions, Session, exchanges_of, session_at}
use Rattle.session_model.specs.SessionParts.{AreMailTalks, AreReaderTalks, AreShown}

same_stands : (plan : Plan) (talk : Told) (one : Exchange) (lead : Lead) → stands plan (Mailing talk) one lead ≡ mail_stands plan talk one lead
same_stands plan talk one (Says reply) = refl
same_stands plan talk one (Ends reply) = refl
same_stands plan talk one (Asks call) = refl

-- a session that takes mail, if it hears on
abbrev TakesMail : Standing → Type 0
TakesMail (Hearing (Mailing talk)) = ⊤
TakesMail (Hearing (Entering named)) = ⊥
TakesMail (Hearing (Reading user slots)) = ⊥
TakesMail (Waiting state call) = ⊤
TakesMail EndedByQuit = ⊤
TakesMail EndedDown = ⊤
TakesMail EndedClosed = ⊤

takes_asked : (talk : Told) (mail : Mail) (answer : Option Answer) → TakesMail (standing_asked (Mailing talk) (Deliver mail) answer)
takes_asked talk mail None = tt
takes_asked talk mail (Some answer) = tt

takes_line : (plan : Plan) (talk : Told) (one : Exchange) (ends : Bool) (x y : List (List ℕ)) → TakesMail (mail_stands plan talk one (if ends then Ends x else Says y))
takes_line plan talk one true x y = tt
takes_line plan talk one false x y = tt

takes_text : (plan : Plan) (talk : Told) (one : Exchange) (large : Bool) (x : List (List ℕ)) (mail : Mail) → TakesMail (mail_stands plan talk one (if large then Says x else Asks (Deliver mail)))
takes_text plan talk one true x mail = tt
takes_text plan talk one false x mail = takes_asked (after_unit plan talk one.unit (closing_line [])) mail one.answer

takes_mail : (plan : Plan) (node : ℕ) (talk : Told) (one : Exchange) (unit : Unit) → TakesMail (mail_stands plan talk one (mail_lead plan node talk unit))
takes_mail plan node talk one (Line line) = takes_line plan talk one (is_quit_line line) (reply_lines plan node talk line) (reply_lines plan node talk line)
takes_mail plan node talk one (Text lines) = takes_text plan talk one (is_large lines) (one_line (reply_text plan node talk (Text lines))) (mail_of talk lines)

to_mail : (plan : Plan) (node : ℕ) (first : Standing) (octets : List ℕ) (exchanges : List Exchange) (last : Standing) (rest : List ℕ) → TakesMail first
    → TalkGoes plan node first octets exchanges last rest → MailGoes plan node first octets exchanges last rest
to_mail plan node first octets [] last rest takes goes = goes
to_mail plan node (Hearing (Mailing talk)) octets (one ∷ more) last rest takes (left, next, goes) =
    let stood = mail_stands plan talk one (mail_lead plan node talk one.unit) in (
      left,
      next.is_unit,
      next.whole,
      next.led,
      to_mail plan node stood left more last rest (takes_mail plan node talk one one.unit)
          (subst (λ (s : Standing). TalkGoes plan node s left more last rest) (same_stands plan talk one (mail_lead plan node talk one.unit)) goes),
    )
to_mail plan node (Hearing (Entering named)) octets (one ∷ more) last rest takes goes = absurd takes
to_mail plan node (Hearing (Reading user slots)) octets (one ∷ more) last rest takes goes = absurd takes
to_mail plan node (Waiting state call) octets (one ∷ more) last rest takes goes = absurd goes
to_mail plan node EndedByQuit octets (one ∷ more) last rest takes goes = absurd goes
to_mail plan node EndedDown octets (one ∷ more) last rest takes goes = absurd goes
to_mail plan node EndedClosed octets (one ∷ more) last rest takes goes = absurd goes

from_mail : (plan : Plan) (node : ℕ) (first : Standing) (octets : List ℕ) (exchanges : List Exchange) (last : Standing) (rest : List ℕ)
    → MailGoes plan node first octets exchanges last rest → TalkGoes plan node first octets exchanges last rest
from_mail plan node first octets [] last rest goes = goes
from_mail plan node (Hearing (Mailing talk)) octets (one ∷ more) last rest (left, is_unit, whole, led, goes) =
    let stood = mail_stands plan talk one (mail_lead plan node talk one.unit) in (
      left,
      record { is_unit = is_unit; whole = whole; led = led },
      subst (λ (s : Standing). TalkGoes plan node s left more last rest) (sym (same_stands plan talk one (mail_lead plan node talk one.unit)))
          (from_mail plan node stood left more last rest goes),
    )
from_mail plan node (Hearing (Entering named)) octets (one ∷ more) last rest goes = absurd goes
from_mail plan node (Hearing (Reading user slots)) octets (one ∷ more) last rest goes = absurd goes
from_mail plan node (Waiting state call) octets (one ∷ more) last rest goes = absurd goes
from_mail plan node EndedByQuit octets (one ∷ more) last rest goes = absurd goes
from_mail plan node EndedDown octets (one ∷ more) last rest goes = absurd goes
from_mail plan node EndedClosed octets (one ∷ more) last rest goes = absurd goes

-- what is said of sessions is said of what they were fed and got, of those that take mail, and of those that read it
pub sessions_shown : (plan : Plan) (lines : List (List ℕ)) (entries : List Entry) (sessions : List Session) → AreSessions plan lines entries sessions → AreShown lines entries sessions
sessions_shown plan lines entries sessions are = record {
  kinds = are.kinds;
  each = λ k session at. let one = are.each k session at in record { fed = one.fed; gets = one.gets };
}

pub sessions_take_mail : (plan : Plan) (lines : List (List ℕ)) (entries : List Entry) (sessions : List Session) → AreSessions plan lines entries sessions → AreMailTalks plan sessions
sessions_take_mail plan lines entries sessions are k session at smtp =
    let talk = (are.each k session at).talk in record {
      before = talk.before;
      goes = to_mail plan session.node (Hearing (Mailing silent)) session.octets (exchanges_of session) talk.before session.rest tt
          (subst (λ (p : Protocol). TalkGoes plan session.node (Hearing (opening_state p)) session.octets (exchanges_of session) talk.before session.rest) smtp talk.goes);
      ends = talk.ends;
    }

pub sessions_read_mail : (plan : Plan) (lines : List (List ℕ)) (entries : List Entry) (sessions : List Session) → AreSessions plan lines entries sessions → AreReaderTalks plan sessions
sessions_read_mail plan lines entries sessions are k session at pop =
    subst (λ (p : Protocol). IsTalk plan session.node p session.octets (exchanges_of session) session.standing session.rest) pop (are.each k session at).talk

-- and the other way round
module _ (plan : Plan) (lines : List (List ℕ)) (entries : List Entry) (sessions : List Session) (shown : AreShown lines entries sessions) (taking : AreMailTalks plan sessions) (reading : AreReaderTalks plan sessions) where
  talk_by : (k : ℕ) (session : Session) → session_at sessions k ≡ Some session → (protocol : Protocol) → session.protocol ≡ protocol
      → IsTalk plan session.node protocol session.octets (exchanges_of session) session.standing session.rest
  talk_by k session at Smtp smtp =
      let talk = taking k session at smtp in record {
        before = talk.before;
        goes = from_mail plan session.node (Hearing (Mailing silent)) session.octets (exchanges_of session) talk.before session.rest talk.goes;
        ends = talk.ends;
      }
  talk_by k session at Pop pop = reading k session at pop

  pub are_sessions : AreSessions plan lines entries sessions
  are_sessions = record {
    kinds = shown.kinds;
    each = λ k session at. let one = shown.each k session at in record {
      talk = talk_by k session at session.protocol refl;
      fed = one.fed;
      gets = one.gets;
    };
  }
