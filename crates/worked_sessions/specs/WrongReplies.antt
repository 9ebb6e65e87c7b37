-- Replies that say too little or too much: one whose last line is not in the transcript, and `+OK bye` of a copy that the store still has. The promises are false of
-- each, whoever chooses the sessions.
use Rattle.std.specs.Prelude.{List, [], ◌∷◌, codes, ℕ}
use Rattle.mail_model.specs.Maildrop.{bye_text}
use Rattle.mail_model.specs.PopReplies.{deleted_text}
use Rattle.mail_model.specs.Smtp.{greeting_text, extension_lines}
use Rattle.mail_model.specs.Transcript.{Entry, said_lines}
use Rattle.mail_model.specs.Transcript.Entry.{Said}
use Rattle.session_model.specs.Sessions.{Session, AreSessions, AreAnswered}
use Rattle.session_model.specs.Promises.{DeletedByQuit}
use Rattle.worked_sessions.specs.OneMessage.{small_plan, small_records}
use Rattle.worked_sessions.specs.WrongReaders.{reader_lines, reader_entries}

-- a client says EHLO, whose reply has four lines
abbrev pub extended_lines : List (List ℕ)
extended_lines = codes "open smtp 1" ∷ codes "say 1 EHLO c.example" ∷ []

-- it gets the first three
abbrev pub extended_entries : List Entry
extended_entries = Said 1 (greeting_text 1) ∷ said_lines 1 (extension_lines 1)

-- a reader marks the message and says QUIT
abbrev pub bye_lines : List (List ℕ)
bye_lines = reader_lines (codes "say 2 DELE 1" ∷ codes "say 2 QUIT" ∷ [])

-- and is told that all is done
abbrev pub bye_entries : List Entry
bye_entries = reader_entries (deleted_text 1 ∷ bye_text ∷ [])

-- A reply lacks its last line; and a copy is still here behind `+OK bye`.
pub record WrongReplies : Type 0 where
  pub lacks_last_line : (sessions : List Session) → AreSessions small_plan extended_lines extended_entries sessions → AreAnswered sessions → ⊥
  pub here_behind_bye : (sessions : List Session) → AreSessions small_plan bye_lines bye_entries sessions → DeletedByQuit small_plan bye_entries (small_records ∷ []) sessions → ⊥
