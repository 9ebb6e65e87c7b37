-- Listings that a new session behind a settled epoch must not be shown. The tape is the one that is freshly ended; its transcript shows another listing, or the disks
-- say that a message of it is gone. With each of these listings the tape is a run (`FreshTapeIsMet`): it is the promise that refuses it.
use Rattle.std.specs.Prelude.{List, [], ◌∷◌, ◌++◌, codes}
use Rattle.mail_model.specs.Identity.Key.{Message}
use Rattle.mail_model.specs.Identity.Value.{Gone}
use Rattle.mail_model.specs.PopReplies.{Item}
use Rattle.mail_model.specs.Record.{Record}
use Rattle.mail_model.specs.Record.Record.{Boot, Stated}
use Rattle.mail_model.specs.Site.{nth_id}
use Rattle.session_model.specs.Acts.{Act}
use Rattle.session_model.specs.Sessions.{Session, AreSessions}
use Rattle.fresh_sessions.specs.Kept.{IsRun}
use Rattle.fresh_sessions.specs.Tapes.{FreshListsAll}
use Rattle.worked_settles.specs.FreshTape.{worked_plan, fresh_lines, fresh_entries, fresh_disks, filed, item, right_items}

-- Where this is listed over these disks, the promise is false, whoever chooses the acts that led to the transcript and the sessions that it shows.
abbrev pub RefusesListing : List (List Record) → List Item → Type 0
RefusesListing disks items = (acts : List (List Act)) (sessions : List Session) → IsRun worked_plan fresh_lines (fresh_entries items) acts → AreSessions worked_plan fresh_lines (fresh_entries items) sessions
    → FreshListsAll worked_plan fresh_lines acts disks sessions → ⊥

-- both messages stand, and UIDL shows the first alone
abbrev pub RefusesMissing : Type 0
RefusesMissing = RefusesListing fresh_disks (item 1 ∷ [])

-- it shows the second twice
abbrev pub RefusesTwice : Type 0
RefusesTwice = RefusesListing fresh_disks (item 1 ∷ item 2 ∷ item 2 ∷ [])

-- it shows the second, whose stamp is the later one, before the first
abbrev pub RefusesOrder : Type 0
RefusesOrder = RefusesListing fresh_disks (item 2 ∷ item 1 ∷ [])

-- Nodes 1 and 2 are as before. Node 3 says that the second message is gone, with a stamp of its own and all nodes as targets.
abbrev pub gone_disks : List (List Record)
gone_disks =
    (Boot 1 ∷ filed 1 3) ∷ (Boot 1 ∷ filed 2 6 ++ filed 1 3)
    ∷ (Boot 1 ∷ filed 2 6 ++ Stated (Message (codes "alice") (nth_id 2)) (record { value = Gone; stamp = record { count = 3; boot = 1; node = 3 }; targets = 7 }) ∷ []) ∷ []

-- UIDL shows it all the same
abbrev pub RefusesDeleted : Type 0
RefusesDeleted = RefusesListing gone_disks right_items
