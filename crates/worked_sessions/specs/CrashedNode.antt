-- A tape whose node stops while a session of it waits, starts again, and is lost as the sink fails.
use Rattle.std.specs.Prelude.{◌≡◌, ℕ, List, [], ◌∷◌, ◌++◌, flat_map, Some, None, codes}
use Rattle.mail_model.specs.Smtp.{greeting_text, down_text}
use Rattle.mail_model.specs.Site.TapeFault.{NodeDown}
use Rattle.mail_model.specs.Stored.{IsLost}
use Rattle.mail_model.specs.Tape.Protocol.{Smtp}
use Rattle.mail_model.specs.Tape.Order.{Open}
use Rattle.mail_model.specs.Tape.ClusterOrder.{Crash, Start, Lose}
use Rattle.mail_model.specs.Transcript.{Entry, closed_event}
use Rattle.mail_model.specs.Transcript.Entry.{Said}
use Rattle.session_model.specs.Calls.Call.{Deliver}
use Rattle.session_model.specs.Events.{event_entries}
use Rattle.session_model.specs.Events.ClusterEvent.{WentDown, CameUp, WasLost}
use Rattle.session_model.specs.Talk.Standing.{EndedDown}
use Rattle.session_model.specs.Sessions.{Session}
use Rattle.session_model.specs.Acts.{Act}
use Rattle.session_model.specs.Acts.Act.{Opens, Does, Makes}
use Rattle.session_model.specs.Acts.Deed.{Falls}
use Rattle.session_model.specs.Run.{Made, IsDriven, refusal}
use Rattle.session_model.specs.Run.Made.{Begins, Asks, Moves}
use Rattle.session_model.specs.Run.Stop.{SinkFailed}
use Rattle.session_model.specs.Losses.{IsLostIn}
use Rattle.worked_sessions.specs.OneMessage.{small_mail, at_open, at_wait, told_lines, text_acts, text_entries}
use Rattle.worked_sessions.specs.ThreeNodes.{three_nodes, waits_first}

-- the lines that were handled, and the one in whose midst the sink failed
abbrev pub crashed_lines : List (List ℕ)
crashed_lines = told_lines ++ codes "crash 1" ∷ codes "start 1" ∷ codes "open smtp 1" ∷ []

abbrev pub losing_lines : List (List ℕ)
losing_lines = codes "lose 1" ∷ []

-- the session that waited has ended with its node
abbrev pub at_down : Session
at_down = record at_wait { standing = EndedDown }

-- the acts up to the line `crash`, those of the two lines after it, and those of the last
abbrev pub acts_to_crash : List (List Act)
acts_to_crash = text_acts ++ waits_first ∷ (Makes (Crash 1) (WentDown 1) ∷ Does 1 Falls ∷ []) ∷ []

abbrev pub crashed_acts : List (List Act)
crashed_acts = acts_to_crash ++ (Makes (Start 1) (CameUp 1 2) ∷ []) ∷ (Opens Smtp 1 (greeting_text 1) ∷ []) ∷ []

abbrev pub losing_acts : List (List Act)
losing_acts = (Makes (Lose 1) (WasLost 1) ∷ []) ∷ []

abbrev pub crashed_made : List Made
crashed_made = Begins 1 (Deliver small_mail) ∷ Asks 1 ∷ Moves (Crash 1) ∷ Moves (Start 1) ∷ Moves (Lose 1) ∷ []

-- what was written: of the loss nothing
abbrev pub crashed_entries : List Entry
crashed_entries = text_entries ++ event_entries (WentDown 1) ++ Said 1 (down_text 1) ∷ closed_event 1 ∷ event_entries (CameUp 1 2) ++ Said 2 (greeting_text 1) ∷ []

-- The tape is driven so. While the node is down no session is opened there; and it counts as lost in the end, though the transcript does not say so.
pub record CrashedNodeDriven : Type 0 where
  pub driven : IsDriven three_nodes SinkFailed crashed_lines losing_lines crashed_acts losing_acts crashed_made crashed_entries (at_down ∷ at_open ∷ [])
  pub while_down : refusal three_nodes (flat_map (λ a. a) acts_to_crash) (at_down ∷ []) (Open Smtp 1) ≡ Some NodeDown
  pub once_up : refusal three_nodes (flat_map (λ a. a) (acts_to_crash ++ (Makes (Start 1) (CameUp 1 2) ∷ []) ∷ [])) (at_down ∷ []) (Open Smtp 1) ≡ None
  pub lost : IsLostIn SinkFailed (crashed_lines ++ losing_lines) crashed_entries 1
  pub untold : IsLost crashed_entries 1 → ⊥
