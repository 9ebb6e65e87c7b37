-- A tape of three nodes that meets every premise of the promises: a message is stored once each of two other nodes has its copy and said so. One letter is posted
-- twice and kept in flight, and letters are posted out of their order.
use Rattle.std.specs.Prelude.{ℕ, true, List, [], ◌∷◌, ◌++◌, map, flat_map, Some, codes}
use Rattle.mail_model.specs.Plan.{Plan}
use Rattle.mail_model.specs.Identity.{Id}
use Rattle.mail_model.specs.Identity.Key.{Message}
use Rattle.mail_model.specs.Identity.Value.{Here}
use Rattle.mail_model.specs.Lines.{sent_line}
use Rattle.mail_model.specs.Smtp.{stored_text}
use Rattle.mail_model.specs.Tape.{ClusterOrder}
use Rattle.mail_model.specs.Tape.ClusterOrder.{Post, Again}
use Rattle.mail_model.specs.Transcript.{Entry}
use Rattle.mail_model.specs.Transcript.Entry.{Said}
use Rattle.mail_model.specs.Record.{Record, journal_of, payloads_of}
use Rattle.mail_model.specs.Record.Record.{Boot, Octets, Stated}
use Rattle.mail_model.specs.Listing.{octets_in}
use Rattle.mail_model.specs.Book.{BookEntry, copies_acked}
use Rattle.mail_model.specs.Book.BookEntry.{Acknowledged}
use Rattle.mail_model.specs.Site.{nth_id, nth_stamp}
use Rattle.session_model.specs.Calls.Call.{Deliver}
use Rattle.session_model.specs.Events.{event_entries}
use Rattle.session_model.specs.Events.ClusterEvent.{WasHeard}
use Rattle.session_model.specs.Logs.{Asked}
use Rattle.session_model.specs.Acts.{Act}
use Rattle.session_model.specs.Acts.Act.{Does, StillWaits, Makes}
use Rattle.session_model.specs.Acts.Deed.{IsFed, Hears}
use Rattle.session_model.specs.Run.{Made, IsDriven}
use Rattle.session_model.specs.Run.Made.{Begins, Asks, Moves}
use Rattle.session_model.specs.Run.Stop.{BehindLine}
use Rattle.session_model.specs.Kept.{KeepsPromises}
use Rattle.worked_sessions.specs.OneMessage.{plan_of_nodes, small_mail, small_octets, waiting, at_stored, told_lines, text_acts, text_entries, tells_stored}

-- each message has three copies, and all of them are to be confirmed
abbrev pub three_nodes : Plan
three_nodes = plan_of_nodes 3

-- Letters 1 and 2 carry the message to nodes 2 and 3. Node 2 answers letter 1 by letter 3 and, as it hears it again, by letter 4; node 3 answers letter 2 by letter 5.
abbrev pub posted_lines : List (List ℕ)
posted_lines = told_lines ++ codes "again 1" ∷ codes "again 1" ∷ codes "post 3" ∷ codes "post 4" ∷ codes "post 2" ∷ codes "post 5" ∷ []

-- a letter is heard, and the session still waits
abbrev pub heard_in_vain : ClusterOrder → ℕ → List Act
heard_in_vain order letter = Makes order (WasHeard letter) ∷ StillWaits 1 ∷ []

-- the text is told, and the session waits for the nodes
abbrev pub waits_first : List Act
waits_first = Does 1 (IsFed (sent_line (codes "."))) ∷ Does 1 (Hears waiting) ∷ StillWaits 1 ∷ []

abbrev pub posted_acts : List (List Act)
posted_acts = text_acts ++ waits_first ∷ heard_in_vain (Again 1) 1 ∷ heard_in_vain (Again 1) 1 ∷ heard_in_vain (Post 3) 3 ∷ heard_in_vain (Post 4) 4 ∷ heard_in_vain (Post 2) 2
    ∷ (Makes (Post 5) (WasHeard 5) ∷ tells_stored ∷ []) ∷ []

-- the session is asked after each line
abbrev pub posted_made : List Made
posted_made = Begins 1 (Deliver small_mail) ∷ Asks 1 ∷ Moves (Again 1) ∷ Asks 1 ∷ Moves (Again 1) ∷ Asks 1 ∷ Moves (Post 3) ∷ Asks 1 ∷ Moves (Post 4) ∷ Asks 1
    ∷ Moves (Post 2) ∷ Asks 1 ∷ Moves (Post 5) ∷ Asks 1 ∷ []

abbrev pub posted_entries : List Entry
posted_entries = text_entries ++ flat_map (λ letter. event_entries (WasHeard letter)) (1 ∷ 1 ∷ 3 ∷ 4 ∷ 2 ∷ 5 ∷ []) ++ Said 1 stored_text ∷ []

-- What each disk then holds. The mask of the three nodes is 7.
abbrev pub copy_record : Record
copy_record = Stated (Message (codes "alice") (nth_id 1)) (record { value = Here; stamp = nth_stamp 1; targets = 7 })

abbrev pub node_records : List Record
node_records = Boot 1 ∷ Octets (nth_id 1) small_octets ∷ copy_record ∷ []

abbrev pub node_store : ℕ → List ℕ
node_store node = journal_of node (payloads_of node_records) ++ 0 ∷ []

abbrev pub three_disks : List (List Record)
three_disks = node_records ∷ node_records ∷ node_records ∷ []

abbrev pub posted_book : List BookEntry
posted_book = map Acknowledged (copies_acked (nth_id 1) 0 small_octets 7 (codes "alice" ∷ []))

-- the one call
abbrev pub posted_asked : List Asked
posted_asked = record { session = 1; call = Deliver small_mail } ∷ []

-- The tape is driven so, and all promises are kept of it.
pub record ThreeNodesKept : Type 0 where
  pub driven : IsDriven three_nodes BehindLine posted_lines [] posted_acts [] posted_made posted_entries (at_stored ∷ [])
  pub kept : KeepsPromises three_nodes true BehindLine (posted_lines ++ []) (posted_entries ++ []) (map (λ node. Some (node_store node)) (1 ∷ 2 ∷ 3 ∷ [])) three_disks
      (λ (id : Id). octets_in id node_records) posted_book (flat_map (λ a. a) (posted_acts ++ [])) posted_asked
