-- A tape that is freshly ended. Two messages are told, each with two of three nodes as targets. The first is given up, and answered `451`; the second is answered
-- `250 stored`. Once the cluster has settled both stand, and a new session lists them. The tape is run with any listing, that of a wrong program too; what is
-- promised holds of the right one.
use Rattle.std.specs.Prelude.{◌≡◌, ℕ, List, [], ◌∷◌, ◌++◌, flat_map, None, Some, codes}
use Rattle.mail_model.specs.Identity.Key.{Message}
use Rattle.mail_model.specs.Identity.Value.{Here}
use Rattle.mail_model.specs.Lines.{sent_line}
use Rattle.mail_model.specs.Mail.{trace_lines}
use Rattle.mail_model.specs.Maildrop.{entered_text}
use Rattle.mail_model.specs.Maildrop.Given.{BySecret}
use Rattle.mail_model.specs.Plan.{Plan}
use Rattle.mail_model.specs.PopReplies.{Item, ready_text, one_line, id_line, listing_reply, listed_slots}
use Rattle.mail_model.specs.Record.{Record}
use Rattle.mail_model.specs.Record.Record.{Boot, Octets, Stated}
use Rattle.mail_model.specs.Session.Unit.{Line}
use Rattle.mail_model.specs.Site.{nth_id, nth_stamp}
use Rattle.mail_model.specs.Smtp.{greeting_text, helo_text, closing_text, stored_text}
use Rattle.mail_model.specs.Tape.Protocol.{Smtp, Pop}
use Rattle.mail_model.specs.Tape.ClusterOrder.{Post, Flow, Settle}
use Rattle.mail_model.specs.Transcript.{Entry, said_lines, closed_event}
use Rattle.session_model.specs.Calls.{Call, Answer, unstored_text}
use Rattle.session_model.specs.Calls.Call.{Deliver, Login}
use Rattle.session_model.specs.Calls.Answer.{Stored, Listed, Failed}
use Rattle.session_model.specs.Events.{event_entries}
use Rattle.session_model.specs.Events.ClusterEvent.{WasHeard, HasFlowed, HasSettled}
use Rattle.session_model.specs.Talk.{Exchange}
use Rattle.session_model.specs.Talk.TalkState.{Reading}
use Rattle.session_model.specs.Talk.Standing.{Hearing, EndedByQuit}
use Rattle.session_model.specs.Moves.{with_answer}
use Rattle.session_model.specs.Sessions.{Session, AreSessions, AreAnswered}
use Rattle.session_model.specs.Acts.{Act}
use Rattle.session_model.specs.Acts.Act.{Opens, Does, StillWaits, Makes}
use Rattle.session_model.specs.Acts.Deed.{IsFed, Hears, IsAnswered, IsGivenUp}
use Rattle.standing_model.specs.Standing.{AreStanding}
use Rattle.fresh_sessions.specs.Tapes.{IsFreshlyEnded}
use Rattle.fresh_sessions.specs.Kept.{IsRun, KeepsSettled}
use Rattle.worked_sessions.specs.OneMessage.{plan_of_nodes, small_text, small_mail, waiting, at_once, said_once}
use Rattle.worked_sessions.specs.ThreeNodes.{heard_in_vain, waits_first}
use Rattle.session_model.specs.Logs.{AreLogged, asked_by, answered_by}
use Rattle.fresh_sessions.specs.Acts.{OwesSettled}

-- three nodes; each message has two targets, both of which confirm it
abbrev pub worked_plan : Plan
worked_plan = record (plan_of_nodes 3) { copies = 2; confirm = 2 }

-- no epoch is formed, so all nodes are members
abbrev pub three_members : List ℕ
three_members = 1 ∷ 2 ∷ 3 ∷ []

-- what the client sends of one message, line by line
abbrev pub message_words : List (List ℕ)
message_words = codes "MAIL FROM:<bob@b.example>" ∷ codes "RCPT TO:<alice>" ∷ codes "DATA" ∷ small_text ++ codes "." ∷ []

-- the run lines that tell one message
abbrev pub message_lines : List (List ℕ)
message_lines = codes "say 1 MAIL FROM:<bob@b.example>" ∷ codes "say 1 RCPT TO:<alice>" ∷ codes "say 1 DATA" ∷ codes "say 1 Subject: hi" ∷ codes "say 1" ∷ codes "say 1 hello" ∷ codes "say 1 ." ∷ []

-- Both messages are told. Letter 1, which carries the first to node 2, stays in flight; letters 2 and 3 carry the second to nodes 2 and 3, and 4 and 5 answer these.
abbrev pub told_lines : List (List ℕ)
told_lines = codes "open smtp 1" ∷ codes "say 1 HELO c.example" ∷ message_lines ++ codes "giveup 1" ∷ message_lines
    ++ codes "post 2" ∷ codes "post 3" ∷ codes "post 4" ∷ codes "post 5" ∷ codes "say 1 QUIT" ∷ []

-- alice reads her maildrop
abbrev pub reader_lines : List (List ℕ)
reader_lines = codes "open pop 1" ∷ codes "say 2 USER alice" ∷ codes "say 2 PASS tanstaaf" ∷ codes "flow" ∷ codes "say 2 UIDL" ∷ []

-- the cluster settles in between
abbrev pub fresh_lines : List (List ℕ)
fresh_lines = told_lines ++ codes "settle" ∷ reader_lines

-- the acts of the lines that tell a message
abbrev pub message_acts : List (List Act)
message_acts =
    said_once (codes "MAIL FROM:<bob@b.example>") (codes "250 sender ok")
    ∷ said_once (codes "RCPT TO:<alice>") (codes "250 recipient ok")
    ∷ said_once (codes "DATA") (codes "354 end with a line that is a single period")
    ∷ (Does 1 (IsFed (sent_line (codes "Subject: hi"))) ∷ [])
    ∷ (Does 1 (IsFed (sent_line [])) ∷ [])
    ∷ (Does 1 (IsFed (sent_line (codes "hello"))) ∷ [])
    ∷ waits_first
    ∷ []

-- and what is written meanwhile
abbrev pub message_entries : List Entry
message_entries = said_lines 1 (codes "250 sender ok" ∷ codes "250 recipient ok" ∷ codes "354 end with a line that is a single period" ∷ [])

-- the session is told that message n is stored
abbrev pub tells_stored : ℕ → Act
tells_stored n = Does 1 (IsAnswered (Deliver small_mail) (Stored (nth_id n)) (one_line stored_text))

-- the acts before the settle
abbrev pub told_acts : List (List Act)
told_acts =
    (Opens Smtp 1 (greeting_text 1) ∷ [])
    ∷ said_once (codes "HELO c.example") (helo_text 1)
    ∷ message_acts ++ (Does 1 (IsGivenUp (Deliver small_mail) (one_line unstored_text)) ∷ [])
    ∷ message_acts ++ heard_in_vain (Post 2) 2 ∷ heard_in_vain (Post 3) 3 ∷ heard_in_vain (Post 4) 4
    ∷ (Makes (Post 5) (WasHeard 5) ∷ tells_stored 2 ∷ [])
    ∷ said_once (codes "QUIT") (closing_text 1)
    ∷ []

-- and what is written before it
abbrev pub told_entries : List Entry
told_entries = said_lines 1 (greeting_text 1 ∷ helo_text 1 ∷ []) ++ message_entries ++ said_lines 1 (unstored_text ∷ []) ++ message_entries
    ++ flat_map (λ letter. event_entries (WasHeard letter)) (2 ∷ 3 ∷ 4 ∷ 5 ∷ []) ++ said_lines 1 (stored_text ∷ closing_text 1 ∷ []) ++ closed_event 1 ∷ []

-- the exchanges of one message, with the answer to its delivery and the reply
abbrev pub message_talk : Answer → List ℕ → List Exchange
message_talk answer reply =
    at_once (codes "MAIL FROM:<bob@b.example>") (codes "250 sender ok")
    ∷ at_once (codes "RCPT TO:<alice>") (codes "250 recipient ok")
    ∷ at_once (codes "DATA") (codes "354 end with a line that is a single period")
    ∷ with_answer waiting answer (one_line reply)
    ∷ []

-- session 1 at the end
abbrev pub teller : Session
teller = record {
  protocol = Smtp;
  node = 1;
  octets = flat_map sent_line (codes "HELO c.example" ∷ message_words ++ message_words ++ codes "QUIT" ∷ []);
  whole = at_once (codes "HELO c.example") (helo_text 1) ∷ message_talk Failed unstored_text ++ message_talk (Stored (nth_id 2)) stored_text ++ at_once (codes "QUIT") (closing_text 1) ∷ [];
  others = [];
  standing = EndedByQuit;
  rest = [];
}

-- the call of the login
abbrev pub login : Call
login = Login (codes "alice") (BySecret (codes "tanstaaf"))

-- PASS, which waits for its answer first
abbrev pub passing : Exchange
passing = record { unit = Line (codes "PASS tanstaaf"); call = Some login; answer = None; reply = [] }

-- the reply to UIDL where these messages are listed
abbrev pub ids_reply : List Item → List (List ℕ)
ids_reply items = listing_reply (codes "+OK unique ids") id_line (listed_slots items)

-- UIDL, so answered
abbrev pub asking : List Item → Exchange
asking items = record { unit = Line (codes "UIDL"); call = None; answer = None; reply = ids_reply items }

-- session 2 at the end, whose login was answered with these messages
abbrev pub reader : List Item → Session
reader items = record {
  protocol = Pop;
  node = 1;
  octets = flat_map sent_line (codes "USER alice" ∷ codes "PASS tanstaaf" ∷ codes "UIDL" ∷ []);
  whole = at_once (codes "USER alice") (codes "+OK send PASS") ∷ with_answer passing (Listed items) (one_line entered_text) ∷ asking items ∷ [];
  others = [];
  standing = Hearing (Reading (codes "alice") (listed_slots items));
  rest = [];
}

abbrev pub fresh_sessions : List Item → List Session
fresh_sessions items = teller ∷ reader items ∷ []

-- the acts of the lines behind the settle
abbrev pub reader_acts : List Item → List (List Act)
reader_acts items =
    (Opens Pop 1 (ready_text 1 1 2 0) ∷ [])
    ∷ (Does 2 (IsFed (sent_line (codes "USER alice"))) ∷ Does 2 (Hears (at_once (codes "USER alice") (codes "+OK send PASS"))) ∷ [])
    ∷ (Does 2 (IsFed (sent_line (codes "PASS tanstaaf"))) ∷ Does 2 (Hears passing) ∷ StillWaits 2 ∷ [])
    ∷ (Makes Flow HasFlowed ∷ Does 2 (IsAnswered login (Listed items) (one_line entered_text)) ∷ [])
    ∷ (Does 2 (IsFed (sent_line (codes "UIDL"))) ∷ Does 2 (Hears (asking items)) ∷ [])
    ∷ []

-- all acts
abbrev pub fresh_acts : List Item → List (List Act)
fresh_acts items = told_acts ++ (Makes Settle HasSettled ∷ []) ∷ reader_acts items

-- all that is written
abbrev pub fresh_entries : List Item → List Entry
fresh_entries items = told_entries ++ event_entries HasSettled ++ said_lines 2 (ready_text 1 1 2 0 ∷ codes "+OK send PASS" ∷ []) ++ event_entries HasFlowed
    ++ said_lines 2 (entered_text ∷ ids_reply items)

-- message n with its trace lines, as it is filed
abbrev pub nth_octets : ℕ → List ℕ
nth_octets n = trace_lines small_mail (nth_id n) (codes "Thu, 01 Jan 1970 00:00:00 +0000") ++ small_mail.text

-- what a node files of message n, which has this mask of targets: its octets, and that alice's copy is here
abbrev pub filed : ℕ → ℕ → List Record
filed n mask = Octets (nth_id n) (nth_octets n) ∷ Stated (Message (codes "alice") (nth_id n)) (record { value = Here; stamp = nth_stamp n; targets = mask }) ∷ []

-- What the disks say in the end: message 1 is at nodes 1 and 2, whose mask is 3, and message 2 at nodes 2 and 3, whose mask is 6. The second came to node 2 first.
abbrev pub fresh_disks : List (List Record)
fresh_disks = (Boot 1 ∷ filed 1 3) ∷ (Boot 1 ∷ filed 2 6 ++ filed 1 3) ∷ (Boot 1 ∷ filed 2 6) ∷ []

-- message n in a listing
abbrev pub item : ℕ → Item
item n = record { id = nth_id n; size = 151 }

-- the right listing
abbrev pub right_items : List Item
right_items = item 1 ∷ item 2 ∷ []

-- With any listing this is a run, its transcript shows these sessions, with all that they asked and were answered, and the tape is freshly ended for the second of
-- them, while all nodes are members.
pub record IsFreshRun (items : List Item) : Type 0 where
  pub run : IsRun worked_plan fresh_lines (fresh_entries items) (fresh_acts items)
  pub sessions : AreSessions worked_plan fresh_lines (fresh_entries items) (fresh_sessions items)
  pub answered : AreAnswered (fresh_sessions items)
  pub logged : AreLogged (flat_map asked_by (flat_map (λ a. a) (fresh_acts items))) (flat_map answered_by (flat_map (λ a. a) (fresh_acts items))) (fresh_sessions items)
  pub ended : IsFreshlyEnded worked_plan fresh_lines (fresh_acts items) three_members 2 (codes "alice") (reader items) (asking items)

-- Both messages stand, and the right listing shows them: with it the cluster gives what it owes of the end of a run, and the promises are kept.
pub record FreshTapeIsMet : Type 0 where
  pub runs : (items : List Item) → IsFreshRun items
  pub stand : AreStanding fresh_disks three_members (codes "alice") (nth_id 1 ∷ nth_id 2 ∷ [])
  pub shows : ids_reply right_items ≡ codes "+OK unique ids" ∷ codes "1 1.1.1" ∷ codes "2 1.1.2" ∷ codes "." ∷ []
  pub owes : OwesSettled worked_plan fresh_disks (flat_map (λ a. a) (fresh_acts right_items))
  pub kept : KeepsSettled worked_plan fresh_lines (fresh_acts right_items) fresh_disks (fresh_sessions right_items)
