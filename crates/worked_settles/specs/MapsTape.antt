-- A tape that ends in a mail map. A message has nodes 1 and 2 of three as targets; once the cluster has settled it is asked which nodes have mail of alice. The tape is
-- run with any map, that of a wrong program too; what is promised holds of the right one.
use Rattle.std.specs.Prelude.{◌≡◌, ℕ, List, [], ◌∷◌, ◌++◌, flat_map, Option, Some, codes}
use Rattle.mail_model.specs.Lines.{sent_line}
use Rattle.mail_model.specs.Record.{Record}
use Rattle.mail_model.specs.Record.Record.{Boot}
use Rattle.mail_model.specs.Site.{nth_id}
use Rattle.mail_model.specs.Smtp.{greeting_text, helo_text, closing_text, stored_text}
use Rattle.mail_model.specs.Tape.Protocol.{Smtp}
use Rattle.mail_model.specs.Tape.ClusterOrder.{Post, Settle, Maps}
use Rattle.mail_model.specs.Transcript.{Entry, said_lines, closed_event}
use Rattle.mail_model.specs.Transcript.Entry.{Event}
use Rattle.session_model.specs.Calls.Answer.{Stored}
use Rattle.session_model.specs.Events.{event_entries}
use Rattle.session_model.specs.Events.ClusterEvent.{WasHeard, HasSettled, HasMapped}
use Rattle.session_model.specs.Talk.Standing.{EndedByQuit}
use Rattle.session_model.specs.Logs.{AreLogged, asked_by, answered_by}
use Rattle.session_model.specs.Sessions.{Session, AreSessions, AreAnswered}
use Rattle.session_model.specs.Acts.{Act}
use Rattle.session_model.specs.Acts.Act.{Opens, Makes}
use Rattle.standing_model.specs.Standing.{NamesFragments, MembersAgree}
use Rattle.fresh_sessions.specs.Acts.{OwesSettled}
use Rattle.fresh_sessions.specs.Tapes.{EndsInMaps}
use Rattle.fresh_sessions.specs.Kept.{IsRun, KeepsSettled}
use Rattle.worked_sessions.specs.OneMessage.{at_once, said_once}
use Rattle.worked_sessions.specs.ThreeNodes.{heard_in_vain}
use Rattle.worked_settles.specs.FreshTape.{worked_plan, three_members, message_words, message_lines, message_acts, message_entries, message_talk, tells_stored, filed}

-- The message is told. Letter 1 carries it to node 2, and letter 2 answers.
abbrev pub stored_lines : List (List ℕ)
stored_lines = codes "open smtp 1" ∷ codes "say 1 HELO c.example" ∷ message_lines ++ codes "post 1" ∷ codes "post 2" ∷ codes "say 1 QUIT" ∷ []

-- the cluster settles, and is asked for the map
abbrev pub maps_lines : List (List ℕ)
maps_lines = stored_lines ++ codes "settle" ∷ codes "maps alice" ∷ []

-- the acts before the settle
abbrev pub stored_acts : List (List Act)
stored_acts =
    (Opens Smtp 1 (greeting_text 1) ∷ [])
    ∷ said_once (codes "HELO c.example") (helo_text 1)
    ∷ message_acts ++ heard_in_vain (Post 1) 1
    ∷ (Makes (Post 2) (WasHeard 2) ∷ tells_stored 1 ∷ [])
    ∷ said_once (codes "QUIT") (closing_text 1)
    ∷ []

-- a manager, and the nodes that it names; or nobody
abbrev pub ToldMap : Type 0
ToldMap = Option (ℕ × List ℕ)

-- all acts, where this is told
abbrev pub maps_acts : ToldMap → List (List Act)
maps_acts told = stored_acts ++ (Makes Settle HasSettled ∷ []) ∷ (Makes (Maps (codes "alice")) (HasMapped (codes "alice") told) ∷ []) ∷ []

-- all that is written then
abbrev pub maps_entries : ToldMap → List Entry
maps_entries told = said_lines 1 (greeting_text 1 ∷ helo_text 1 ∷ []) ++ message_entries ++ event_entries (WasHeard 1) ++ event_entries (WasHeard 2)
    ++ said_lines 1 (stored_text ∷ closing_text 1 ∷ []) ++ closed_event 1 ∷ event_entries HasSettled ++ event_entries (HasMapped (codes "alice") told)

-- the one session at the end
abbrev pub storer : Session
storer = record {
  protocol = Smtp;
  node = 1;
  octets = flat_map sent_line (codes "HELO c.example" ∷ message_words ++ codes "QUIT" ∷ []);
  whole = at_once (codes "HELO c.example") (helo_text 1) ∷ message_talk (Stored (nth_id 1)) stored_text ++ at_once (codes "QUIT") (closing_text 1) ∷ [];
  others = [];
  standing = EndedByQuit;
  rest = [];
}

-- what the disks say in the end: the message is at nodes 1 and 2, whose mask is 3
abbrev pub maps_disks : List (List Record)
maps_disks = (Boot 1 ∷ filed 1 3) ∷ (Boot 1 ∷ filed 1 3) ∷ (Boot 1 ∷ []) ∷ []

-- the right map: node 1 manages, and names both nodes that have mail of alice
abbrev pub right_map : ToldMap
right_map = Some (1, 1 ∷ 2 ∷ [])

-- With any map this is a run, its transcript shows this session, with all that it asked and was answered, and the tape ends in the map, while all nodes are members.
pub record IsMapsRun (told : ToldMap) : Type 0 where
  pub run : IsRun worked_plan maps_lines (maps_entries told) (maps_acts told)
  pub sessions : AreSessions worked_plan maps_lines (maps_entries told) (storer ∷ [])
  pub answered : AreAnswered (storer ∷ [])
  pub logged : AreLogged (flat_map asked_by (flat_map (λ a. a) (maps_acts told))) (flat_map answered_by (flat_map (λ a. a) (maps_acts told))) (storer ∷ [])
  pub ended : EndsInMaps worked_plan maps_lines (maps_acts told) three_members (codes "alice") told

-- The right map names what the disks have, and members agree: with it the cluster gives what it owes of the end of a run, and the promises are kept.
pub record MapsTapeIsMet : Type 0 where
  pub runs : (told : ToldMap) → IsMapsRun told
  pub names : NamesFragments maps_disks three_members (codes "alice") right_map
  pub agree : MembersAgree maps_disks three_members
  pub shows : event_entries (HasMapped (codes "alice") right_map) ≡ Event (codes "maps alice at 1: 1 2") ∷ []
  pub owes : OwesSettled worked_plan maps_disks (flat_map (λ a. a) (maps_acts right_map))
  pub kept : KeepsSettled worked_plan maps_lines (maps_acts right_map) maps_disks (storer ∷ [])
