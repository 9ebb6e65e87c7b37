-- What a client sent and got has one reading: no promise can be met by another cut of the same octets and lines.
use Rattle.std.specs.Prelude.{◌≡◌, ◌⊎◌, ℕ, false, List, [], ◌∷◌, ◌++◌, flat_map, ⊤, Ok}
use Rattle.mail_model.specs.Plan.{Plan}
use Rattle.mail_model.specs.Transcript.{Entry}
use Rattle.mail_model.specs.Lines.{HasNoCrlf, sent_line}
use Rattle.mail_model.specs.Tape.Protocol.{Smtp, Pop}
use Rattle.mail_model.specs.Session.{Unit, silent}
use Rattle.mail_model.specs.Pop.{pop_command_of}
use Rattle.mail_model.specs.Pop.Command.{Quit}
use Rattle.mail_model.specs.Told.{HasNoUnit, sent, told_from}
use Rattle.session_model.specs.Talk.{Exchange}
use Rattle.session_model.specs.Mailing.{pairs}
use Rattle.session_model.specs.Reading.{IsQuitUnit}
use Rattle.session_model.specs.Sessions.{Session, IsSession, exchanges_of}

-- a unit with its reply, where it has one
abbrev pub view : Unit → List (List ℕ) → List (Unit × List (List ℕ))
view unit [] = []
view unit (line ∷ lines) = (unit, line ∷ lines) ∷ []

-- the units that were replied to, each with its reply
abbrev pub views : List Exchange → List (Unit × List (List ℕ))
views exchanges = flat_map (λ one. view one.unit one.reply) exchanges

-- Two sessions that both are as the tape and the transcript show session k: the units that their clients know to be answered are the same, with the same replies.
abbrev pub OneReadingOfSession : Type 0
OneReadingOfSession = (plan : Plan) (lines : List (List ℕ)) (entries : List Entry) (k : ℕ) (one two : Session) → one.protocol ≡ two.protocol → one.node ≡ two.node
    → IsSession plan lines entries k one → IsSession plan lines entries k two → views one.whole ≡ views two.whole

-- Two sessions that take mail and both are as the tape and the transcript show session k: their clients told the same messages.
abbrev pub OneTelling : Type 0
OneTelling = (plan : Plan) (lines : List (List ℕ)) (entries : List Entry) (k : ℕ) (one two : Session) → one.protocol ≡ Smtp → two.protocol ≡ Smtp → one.node ≡ two.node
    → IsSession plan lines entries k one → IsSession plan lines entries k two → told_from plan silent (pairs one.whole) ≡ told_from plan silent (pairs two.whole)

-- each of them is a whole line
abbrev pub AreLines : List (List ℕ) → Type 0
AreLines [] = ⊤
AreLines (line ∷ lines) = HasNoCrlf line × AreLines lines

-- one of the lines is QUIT
abbrev pub HasQuit : List (List ℕ) → Type 0
HasQuit [] = ⊥
HasQuit (line ∷ lines) = (pop_command_of line ≡ Ok Quit) ⊎ HasQuit lines

-- A session that reads mail, as the tape and the transcript show it, has no QUIT among its exchanges that its client did not send.
abbrev pub QuitWasSent : Type 0
QuitWasSent = (plan : Plan) (lines : List (List ℕ)) (entries : List Entry) (k : ℕ) (session : Session) (before behind : List Exchange) (quit : Exchange) (fed : List (List ℕ)) (rest : List ℕ)
    → session.protocol ≡ Pop → IsSession plan lines entries k session → exchanges_of session ≡ before ++ quit ∷ behind → IsQuitUnit quit.unit
    → sent k lines ≡ flat_map sent_line fed ++ rest → AreLines fed → HasNoUnit false rest → HasQuit fed
