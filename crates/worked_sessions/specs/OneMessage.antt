-- A tape that meets every premise of the promises: one session tells one message, which is stored, and ends.
use Rattle.std.specs.Prelude.{◌≡◌, ℕ, true, false, List, [], ◌∷◌, ◌++◌, length, flat_map, Some, None, codes}
use Rattle.std.specs.FinMap as map
use Rattle.mail_model.specs.Lines.{sent_line}
use Rattle.mail_model.specs.Plan.{Plan}
use Rattle.mail_model.specs.Tape.Protocol.{Smtp}
use Rattle.mail_model.specs.Transcript.{Entry, closed_event}
use Rattle.mail_model.specs.Transcript.Entry.{Said}
use Rattle.mail_model.specs.Identity.Key.{Message}
use Rattle.mail_model.specs.Smtp.{greeting_text, helo_text, closing_text, stored_text}
use Rattle.mail_model.specs.Session.{Told, silent}
use Rattle.mail_model.specs.Session.Unit.{Line, Text}
use Rattle.mail_model.specs.PopReplies.{one_line}
use Rattle.mail_model.specs.Told.{Mail, mail_of, told_from}
use Rattle.mail_model.specs.Mail.{trace_lines}
use Rattle.mail_model.specs.Record.{Record, SaysHere, HoldsOctets, journal_of, payloads_of}
use Rattle.mail_model.specs.Record.Record.{Boot}
use Rattle.mail_model.specs.Listing.{octets_in}
use Rattle.mail_model.specs.Book.{BookEntry}
use Rattle.mail_model.specs.Site.{nth_id, nth_stamp, nth_entries, message_records}
use Rattle.session_model.specs.Calls.Call.{Deliver}
use Rattle.session_model.specs.Calls.Answer.{Stored}
use Rattle.session_model.specs.Talk.{Exchange}
use Rattle.session_model.specs.Talk.TalkState.{Mailing}
use Rattle.session_model.specs.Talk.Standing.{Hearing, Waiting, EndedByQuit}
use Rattle.session_model.specs.Moves.{with_answer}
use Rattle.session_model.specs.Mailing.{pairs}
use Rattle.session_model.specs.Sessions.{Session}
use Rattle.session_model.specs.Acts.{Act, opened_session}
use Rattle.session_model.specs.Acts.Act.{Opens, Does}
use Rattle.session_model.specs.Acts.Deed.{IsFed, Hears, IsAnswered}
use Rattle.session_model.specs.Run.{Made, IsDriven}
use Rattle.session_model.specs.Run.Made.{Begins, Asks}
use Rattle.session_model.specs.Run.Stop.{BehindLine}
use Rattle.session_model.specs.Logs.{Asked, Answered}
use Rattle.session_model.specs.Kept.{KeepsPromises}

-- so many nodes, each of which has a copy and confirms it, and one user
abbrev pub plan_of_nodes : ℕ → Plan
plan_of_nodes n = record { nodes = n; copies = n; confirm = n; buckets = 1; users = map.insert map.empty (codes "alice") (codes "tanstaaf"); postmaster = codes "alice" }

abbrev pub small_plan : Plan
small_plan = plan_of_nodes 1

-- what the session was told, unit by unit
abbrev pub greeted : Told
greeted = record silent { greeting = Some (record { name = codes "c.example"; extended = false }) }

abbrev pub sending : Told
sending = record greeted { envelope = Some (record { sender = codes "bob@b.example"; mailboxes = [] }) }

abbrev pub addressed : Told
addressed = record greeted { envelope = Some (record { sender = codes "bob@b.example"; mailboxes = codes "alice" ∷ [] }) }

abbrev pub texting : Told
texting = record addressed { in_text = true }

-- the message
abbrev pub small_text : List (List ℕ)
small_text = codes "Subject: hi" ∷ [] ∷ codes "hello" ∷ []

abbrev pub small_mail : Mail
small_mail = mail_of texting small_text

-- with its trace lines
abbrev pub small_octets : List ℕ
small_octets = trace_lines small_mail (nth_id 1) (codes "Thu, 01 Jan 1970 00:00:00 +0000") ++ small_mail.text

-- an exchange that is answered at once
abbrev pub at_once : List ℕ → List ℕ → Exchange
at_once line reply = record { unit = Line line; call = None; answer = None; reply = one_line reply }

-- the text, which waits
abbrev pub waiting : Exchange
waiting = record { unit = Text small_text; call = Some (Deliver small_mail); answer = None; reply = [] }

-- the session once it was fed a line
abbrev pub fed_with : Session → List ℕ → Session
fed_with old line = record old { octets = old.octets ++ sent_line line; rest = old.rest ++ sent_line line }

-- and once it heard it
abbrev pub heard_with : Session → Exchange → Told → Session
heard_with old one told = record old { whole = old.whole ++ one ∷ []; standing = Hearing (Mailing told); rest = [] }

-- The session after each line. After the text it waits first.
abbrev pub at_open : Session
at_open = opened_session Smtp 1

abbrev pub at_helo : Session
at_helo = heard_with (fed_with at_open (codes "HELO c.example")) (at_once (codes "HELO c.example") (helo_text 1)) greeted

abbrev pub at_mail : Session
at_mail = heard_with (fed_with at_helo (codes "MAIL FROM:<bob@b.example>")) (at_once (codes "MAIL FROM:<bob@b.example>") (codes "250 sender ok")) sending

abbrev pub at_rcpt : Session
at_rcpt = heard_with (fed_with at_mail (codes "RCPT TO:<alice>")) (at_once (codes "RCPT TO:<alice>") (codes "250 recipient ok")) addressed

abbrev pub at_data : Session
at_data = heard_with (fed_with at_rcpt (codes "DATA")) (at_once (codes "DATA") (codes "354 end with a line that is a single period")) texting

abbrev pub at_subject : Session
at_subject = fed_with at_data (codes "Subject: hi")

abbrev pub at_gap : Session
at_gap = fed_with at_subject []

abbrev pub at_hello : Session
at_hello = fed_with at_gap (codes "hello")

abbrev pub at_wait : Session
at_wait = record (fed_with at_hello (codes ".")) { whole = at_data.whole ++ waiting ∷ []; standing = Waiting (Mailing greeted) (Deliver small_mail); rest = [] }

abbrev pub at_stored : Session
at_stored = record at_wait { whole = at_data.whole ++ with_answer waiting (Stored (nth_id 1)) (one_line stored_text) ∷ []; standing = Hearing (Mailing greeted) }

abbrev pub at_quit : Session
at_quit = record (fed_with at_stored (codes "QUIT")) { whole = at_stored.whole ++ at_once (codes "QUIT") (closing_text 1) ∷ []; standing = EndedByQuit; rest = [] }

-- the run lines that tell the message, and all of them
abbrev pub told_lines : List (List ℕ)
told_lines = codes "open smtp 1" ∷ codes "say 1 HELO c.example" ∷ codes "say 1 MAIL FROM:<bob@b.example>" ∷ codes "say 1 RCPT TO:<alice>" ∷ codes "say 1 DATA"
    ∷ codes "say 1 Subject: hi" ∷ codes "say 1" ∷ codes "say 1 hello" ∷ codes "say 1 ." ∷ []

abbrev pub small_lines : List (List ℕ)
small_lines = told_lines ++ codes "say 1 QUIT" ∷ []

-- a line that is fed, and the exchange that it then is
abbrev pub said_once : List ℕ → List ℕ → List Act
said_once line reply = Does 1 (IsFed (sent_line line)) ∷ Does 1 (Hears (at_once line reply)) ∷ []

-- the acts of each line before the period
abbrev pub text_acts : List (List Act)
text_acts =
    (Opens Smtp 1 (greeting_text 1) ∷ [])
    ∷ said_once (codes "HELO c.example") (helo_text 1)
    ∷ said_once (codes "MAIL FROM:<bob@b.example>") (codes "250 sender ok")
    ∷ said_once (codes "RCPT TO:<alice>") (codes "250 recipient ok")
    ∷ said_once (codes "DATA") (codes "354 end with a line that is a single period")
    ∷ (Does 1 (IsFed (sent_line (codes "Subject: hi"))) ∷ [])
    ∷ (Does 1 (IsFed (sent_line [])) ∷ [])
    ∷ (Does 1 (IsFed (sent_line (codes "hello"))) ∷ [])
    ∷ []

-- the session is told that the message is stored
abbrev pub tells_stored : Act
tells_stored = Does 1 (IsAnswered (Deliver small_mail) (Stored (nth_id 1)) (one_line stored_text))

-- the acts of all lines
abbrev pub small_acts : List (List Act)
small_acts = text_acts ++ (Does 1 (IsFed (sent_line (codes "."))) ∷ Does 1 (Hears waiting) ∷ tells_stored ∷ []) ∷ said_once (codes "QUIT") (closing_text 1) ∷ []

-- the steps of the cluster
abbrev pub small_made : List Made
small_made = Begins 1 (Deliver small_mail) ∷ Asks 1 ∷ []

-- what is written before the period, and in all
abbrev pub text_entries : List Entry
text_entries = Said 1 (greeting_text 1) ∷ Said 1 (helo_text 1) ∷ Said 1 (codes "250 sender ok") ∷ Said 1 (codes "250 recipient ok")
    ∷ Said 1 (codes "354 end with a line that is a single period") ∷ []

abbrev pub small_entries : List Entry
small_entries = text_entries ++ Said 1 stored_text ∷ Said 1 (closing_text 1) ∷ closed_event 1 ∷ []

-- the one call, and its answer
abbrev pub small_asked : List Asked
small_asked = record { session = 1; call = Deliver small_mail } ∷ []

abbrev pub small_answered : List Answered
small_answered = record { session = 1; call = Deliver small_mail; answer = Stored (nth_id 1) } ∷ []

-- what its disk then holds, and its book
abbrev pub small_records : List Record
small_records = Boot 1 ∷ message_records (nth_id 1) (nth_stamp 1) small_octets (codes "alice" ∷ [])

abbrev pub small_store : List ℕ
small_store = journal_of 1 (payloads_of small_records) ++ 0 ∷ []

abbrev pub small_book : List BookEntry
small_book = nth_entries 1 small_octets (codes "alice" ∷ [])

-- The tape is driven so, and all promises are kept of it; one message was told, of 151 octets with its trace lines, and its one copy stands.
pub record OneMessageKept : Type 0 where
  pub driven : IsDriven small_plan BehindLine small_lines [] small_acts [] small_made small_entries (at_quit ∷ [])
  pub kept : KeepsPromises small_plan true BehindLine (small_lines ++ []) (small_entries ++ []) (Some small_store ∷ []) (small_records ∷ []) (λ id. octets_in id small_records) small_book
      (flat_map (λ a. a) (small_acts ++ [])) small_asked
  pub told : told_from small_plan silent (pairs at_quit.whole) ≡ small_mail ∷ []
  pub size : length small_octets ≡ 151
  pub stands : SaysHere (Message (codes "alice") (nth_id 1)) small_records
  pub holds : HoldsOctets (nth_id 1) small_octets small_records
