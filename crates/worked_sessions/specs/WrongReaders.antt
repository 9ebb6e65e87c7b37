-- What readers must not meet: a copy that is gone without a QUIT, a text that is not the one that is filed, one message listed twice, and one that is nobody's. The promises are false of
-- each, whoever chooses the sessions.
use Rattle.std.specs.Prelude.{ℕ, List, [], ◌∷◌, ◌++◌, flat_map, length, Option, codes}
use Rattle.mail_model.specs.Identity.{Id}
use Rattle.mail_model.specs.Identity.Key.{Message}
use Rattle.mail_model.specs.Identity.Value.{Gone}
use Rattle.mail_model.specs.Lines.{sent_line}
use Rattle.mail_model.specs.Listing.{octets_in}
use Rattle.mail_model.specs.Maildrop.{entered_text}
use Rattle.mail_model.specs.PopReplies.{Item, id_line, octets_text, last_line, ready_text}
use Rattle.mail_model.specs.Record.{Record}
use Rattle.mail_model.specs.Record.Record.{Octets, Stated}
use Rattle.mail_model.specs.Site.{nth_id, nth_stamp}
use Rattle.mail_model.specs.Transcript.{Entry, said_lines}
use Rattle.session_model.specs.Sessions.{Session, AreSessions}
use Rattle.session_model.specs.Promises.{DeletedByQuit, ShownAsFiled, ShownOnce, ShownAreOwn}
use Rattle.worked_sessions.specs.OneMessage.{small_plan, small_lines, small_entries, small_octets, small_records}

-- the message is told, and its reader enters; then come these lines
abbrev pub reader_lines : List (List ℕ) → List (List ℕ)
reader_lines more = small_lines ++ codes "open pop 1" ∷ codes "say 2 USER alice" ∷ codes "say 2 PASS tanstaaf" ∷ more

-- with these replies to them
abbrev pub reader_entries : List (List ℕ) → List Entry
reader_entries more = small_entries ++ said_lines 2 (ready_text 1 1 2 0 ∷ codes "+OK send PASS" ∷ entered_text ∷ more)

-- the copy is gone
abbrev pub gone_records : List Record
gone_records = small_records ++ Stated (Message (codes "alice") (nth_id 1)) (record { value = Gone; stamp = nth_stamp 2; targets = 1 }) ∷ []

-- whatever was written, nobody deleted it
abbrev pub DeletedNot : List (List ℕ) → Type 0
DeletedNot more = (entries : List Entry) (sessions : List Session) → AreSessions small_plan (reader_lines more) entries sessions
    → DeletedByQuit small_plan entries (gone_records ∷ []) sessions → ⊥

-- UIDL shows the id of the message, and RETR or TOP another text
abbrev pub other_text : List (List ℕ)
other_text = codes "jello" ∷ []

abbrev pub small_item : Item
small_item = record { id = nth_id 1; size = 151 }

abbrev pub other_reply : List (List ℕ)
other_reply = octets_text (length (flat_map sent_line other_text)) ∷ other_text ++ last_line

abbrev pub other_top : List (List ℕ)
other_top = codes "+OK top" ∷ other_text ++ last_line

abbrev pub filed_small : Id → Option (List ℕ)
filed_small id = octets_in id small_records

-- whoever chooses the sessions, the promise is false where UIDL of the message is answered, and then this command so
abbrev pub ShowsNot : List ℕ → List (List ℕ) → Type 0
ShowsNot command reply = (sessions : List Session)
    → AreSessions small_plan (reader_lines (codes "say 2 UIDL 1" ∷ (codes "say 2 " ++ command) ∷ [])) (reader_entries ((codes "+OK " ++ id_line 1 small_item) ∷ reply)) sessions
    → ShownAsFiled filed_small sessions → ⊥

-- UIDL shows it twice
abbrev pub twice_reply : List (List ℕ)
twice_reply = codes "+OK unique ids" ∷ id_line 1 small_item ∷ id_line 2 small_item ∷ last_line

-- the octets of the message, of which no user has a copy
abbrev pub unowned_reply : List ℕ
unowned_reply = codes "+OK " ++ id_line 1 small_item

abbrev pub unowned_records : List Record
unowned_records = Octets (nth_id 1) small_octets ∷ []

-- The reader marked the message, and then: its client closed; the node crashed; nothing of the tape was left, so that a QUIT behind its line `end` was not handled.
pub record WrongReaders : Type 0 where
  pub gone_by_close : DeletedNot (codes "say 2 DELE 1" ∷ codes "close 2" ∷ [])
  pub gone_by_crash : DeletedNot (codes "say 2 DELE 1" ∷ codes "crash 1" ∷ [])
  pub gone_behind_end : DeletedNot (codes "say 2 DELE 1" ∷ [])
  -- RETR shows another text, and so does TOP
  pub shows_another_text : ShowsNot (codes "RETR 1") other_reply
  pub shows_another_top : ShowsNot (codes "TOP 1 0") other_top
  -- one message has two numbers
  pub lists_twice : (sessions : List Session) → AreSessions small_plan (reader_lines (codes "say 2 UIDL" ∷ [])) (reader_entries twice_reply) sessions → ShownOnce sessions → ⊥
  -- UIDL shows a message of which no node has a record as a copy of anybody
  pub shows_unowned : (sessions : List Session) → AreSessions small_plan (reader_lines (codes "say 2 UIDL 1" ∷ [])) (reader_entries (unowned_reply ∷ [])) sessions
      → ShownAreOwn (unowned_records ∷ []) sessions → ⊥
