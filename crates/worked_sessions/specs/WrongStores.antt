-- Stores that do not keep a message that was answered `250 stored`: the promise on stored messages is false of each, whoever chooses the sessions, the messages that
-- were acknowledged, their ids and the nodes that confirmed them.
use Rattle.std.specs.Prelude.{ℕ, List, [], ◌∷◌, ◌++◌, codes}
use Rattle.mail_model.specs.Identity.Key.{Message}
use Rattle.mail_model.specs.Identity.Value.{Here}
use Rattle.mail_model.specs.Lines.{sent_line}
use Rattle.mail_model.specs.Mail.{trace_lines}
use Rattle.mail_model.specs.Plan.{Plan}
use Rattle.mail_model.specs.Record.{Record}
use Rattle.mail_model.specs.Record.Record.{Boot, Octets, Stated}
use Rattle.mail_model.specs.Site.{nth_id, nth_stamp}
use Rattle.mail_model.specs.Smtp.{greeting_text, helo_text, closing_text, stored_text}
use Rattle.mail_model.specs.Stored.{Ack}
use Rattle.mail_model.specs.Transcript.{Entry, closed_event}
use Rattle.mail_model.specs.Transcript.Entry.{Said}
use Rattle.session_model.specs.Events.{event_entries}
use Rattle.session_model.specs.Events.ClusterEvent.{WasLost}
use Rattle.session_model.specs.Sessions.{Session, AreSessions}
use Rattle.session_model.specs.Promises.{StoredStands}
use Rattle.worked_sessions.specs.OneMessage.{plan_of_nodes, small_plan, small_mail, small_lines, small_entries, small_records}

-- over these disks no choice of sessions, messages and nodes keeps the promise
abbrev pub StoredStandsNot : Plan → List (List ℕ) → List Entry → List (List Record) → Type 0
StoredStandsNot plan lines entries disks = (sessions : List Session) (acks : List Ack) (confirmers : List (List ℕ)) → AreSessions plan lines entries sessions
    → StoredStands plan lines entries disks sessions acks confirmers → ⊥

-- a node that has no message
abbrev pub empty_records : List Record
empty_records = Boot 1 ∷ []

-- one that has a message of this text in place of the one that was told
abbrev pub other_octets : List ℕ
other_octets = trace_lines small_mail (nth_id 1) (codes "Thu, 01 Jan 1970 00:00:00 +0000") ++ (sent_line (codes "Subject: hi") ++ (sent_line [] ++ sent_line (codes "jello")))

abbrev pub other_records : List Record
other_records = Boot 1 ∷ Octets (nth_id 1) other_octets ∷ Stated (Message (codes "alice") (nth_id 1)) (record { value = Here; stamp = nth_stamp 1; targets = 1 }) ∷ []

-- The tape tells the message twice, in two sessions, and each is answered `250 stored`.
abbrev pub second_lines : List (List ℕ)
second_lines = codes "open smtp 1" ∷ codes "say 2 HELO c.example" ∷ codes "say 2 MAIL FROM:<bob@b.example>" ∷ codes "say 2 RCPT TO:<alice>" ∷ codes "say 2 DATA"
    ∷ codes "say 2 Subject: hi" ∷ codes "say 2" ∷ codes "say 2 hello" ∷ codes "say 2 ." ∷ codes "say 2 QUIT" ∷ []

abbrev pub second_entries : List Entry
second_entries = Said 2 (greeting_text 1) ∷ Said 2 (helo_text 1) ∷ Said 2 (codes "250 sender ok") ∷ Said 2 (codes "250 recipient ok")
    ∷ Said 2 (codes "354 end with a line that is a single period") ∷ Said 2 stored_text ∷ Said 2 (closing_text 1) ∷ closed_event 2 ∷ []

-- In a cluster of two nodes, both of which have to confirm each message, node 2 is lost before anything is told.
abbrev pub two_nodes : Plan
two_nodes = plan_of_nodes 2

abbrev pub lost_lines : List (List ℕ)
lost_lines = codes "lose 2" ∷ small_lines

abbrev pub lost_entries : List Entry
lost_entries = event_entries (WasLost 2) ++ small_entries

-- The store lacks the message; it has another text; both messages have one id; and one of two nodes lacks it, which was lost before.
pub record WrongStores : Type 0 where
  pub lacks_message : StoredStandsNot small_plan small_lines small_entries (empty_records ∷ [])
  pub has_another_text : StoredStandsNot small_plan small_lines small_entries (other_records ∷ [])
  pub has_one_id_for_two : StoredStandsNot small_plan (small_lines ++ second_lines) (small_entries ++ second_entries) (small_records ∷ [])
  pub lost_before : StoredStandsNot two_nodes lost_lines lost_entries (small_records ∷ empty_records ∷ [])
