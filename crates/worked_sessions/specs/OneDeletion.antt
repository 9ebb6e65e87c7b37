-- A session that meets every premise of a deletion: its client marks the one message of its listing, and says QUIT.
use Rattle.std.specs.Prelude.{ℕ, List, [], ◌∷◌, ◌++◌, flat_map, Some, codes}
use Rattle.std.specs.Fmt.{decimal}
use Rattle.mail_model.specs.Lines.{sent_line}
use Rattle.mail_model.specs.Maildrop.{entered_text, bye_text}
use Rattle.mail_model.specs.Maildrop.Given.{BySecret}
use Rattle.mail_model.specs.PopReplies.{Item, one_line}
use Rattle.mail_model.specs.Session.Unit.{Line}
use Rattle.mail_model.specs.Site.{nth_id}
use Rattle.mail_model.specs.Tape.Protocol.{Pop}
use Rattle.session_model.specs.Calls.Call.{Login, Strike}
use Rattle.session_model.specs.Calls.Answer.{Listed, Dropped}
use Rattle.session_model.specs.Talk.{Exchange, IsTalk}
use Rattle.session_model.specs.Talk.Standing.{EndedByQuit}
use Rattle.session_model.specs.Reading.{QuitsMarked}
use Rattle.worked_sessions.specs.OneMessage.{small_plan, at_once}

-- the one message of the listing
abbrev pub small_items : List Item
small_items = record { id = nth_id 1; size = 151 } ∷ []

-- the exchanges before QUIT
abbrev pub before_quit : List Exchange
before_quit =
    at_once (codes "USER alice") (codes "+OK send PASS")
    ∷ record { unit = Line (codes "PASS tanstaaf"); call = Some (Login (codes "alice") (BySecret (codes "tanstaaf"))); answer = Some (Listed small_items); reply = one_line entered_text }
    ∷ at_once (codes "DELE 1") (codes "+OK message " ++ decimal 1 ++ codes " deleted") ∷ []

-- QUIT, whose deletion was confirmed
abbrev pub last_quit : Exchange
last_quit = record { unit = Line (codes "QUIT"); call = Some (Strike (codes "alice") (nth_id 1 ∷ [])); answer = Some Dropped; reply = one_line bye_text }

-- what the client sent
abbrev pub deleting_octets : List ℕ
deleting_octets = flat_map sent_line (codes "USER alice" ∷ codes "PASS tanstaaf" ∷ codes "DELE 1" ∷ codes "QUIT" ∷ [])

-- These octets are so answered, and the QUIT comes after one mark, for which one deletion is asked.
pub record OneDeletionAsked : Type 0 where
  pub talk : IsTalk small_plan 1 Pop deleting_octets (before_quit ++ last_quit ∷ []) EndedByQuit []
  pub marked : QuitsMarked before_quit last_quit (codes "alice") (nth_id 1 ∷ [])
