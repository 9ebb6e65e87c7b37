-- The program's sessions as those of the definitions.
use Rattle.std.specs.Prelude.{◌≡◌, ◌+◌, ◌<◌, ℕ, false, List, [], ◌∷◌, ◌++◌, map, slice_get, ⊤, Option, Some, None}
use Rattle.object_model.specs.Lists.{Among}
use Rattle.mail_model.specs.Plan.{Plan}
use Rattle.session_model.specs.Calls as calls
use Rattle.session_model.specs.Talk.{Exchange, Standing, IsOn}
use Rattle.session_model.specs.Talk.Standing.{Hearing, Waiting, EndedByQuit, EndedDown, EndedClosed}
use Rattle.session_model.specs.Sessions.{Session, session_at}
use Rattle.session_model.specs.Acts.{Act}
use Rattle.session_model.specs.Lives.{life_after}
use Rattle.session_model.specs.Events.NodeLife.{Up}
use Rattle.session_model.specs.Run.{session_fault, is_no_node}
use Rattle.mail_model.specs.Site.TapeFault.{NoSuchSession}
use Rattle.call_tickets.specs.Moves.{HasEnded}
use Rattle.call_tickets.specs.Moves.Due.{Nothing}
use Rattle.cluster_world.specs.Outcomes.{Awaited}
use Rattle.drive_tape.specs.declared.talker.Talker.{Talker}
use Rattle.drive_tape.specs.declared.open_call.OpenCall.{OpenCall}
use Rattle.drive_tape.specs.Kinds.{IsKindOf}
use Rattle.drive_tape.specs.Speakers.{Matches}

-- each of them is one of these, and has nothing to say before it hears on
abbrev pub Sits : Option Talker → Session → Type 0
Sits None session = HasEnded session.standing
Sits (Some talker) session = Matches talker session Nothing

abbrev pub Converse : List (Option Talker) → List Session → Type 0
Converse [] [] = ⊤
Converse (talker ∷ talkers) (session ∷ sessions) = Sits talker session × Converse talkers sessions
Converse talkers sessions = ⊥

-- the nodes at which sessions are
abbrev pub nodes_of : List Session → List ℕ
nodes_of sessions = map (λ session. session.node) sessions

-- The session of this number waits for this call: its ticket is kept for it, was begun at its node, and is awaited; and what it asked is its last exchange.
pub record HasTicket (kept : Option (Option OpenCall)) (session : Session) (k : ℕ) (call : calls.Call) (awaited : List Awaited) : Type 0 where
  pub open_call : OpenCall
  pub has : kept ≡ Some (Some open_call)
  pub own : open_call.ticket.node ≡ session.node
  pub kind : IsKindOf open_call.kind call
  pub stands : Among (record { ticket = open_call.ticket; session = k; call = call }) awaited
  pub before : List Exchange
  pub last : Exchange
  pub heard : session.whole ≡ before ++ last ∷ []

-- a session that waits has a ticket, and no other has
abbrev pub TicketFits : Option (Option OpenCall) → Session → ℕ → List Awaited → Standing → Type 0
TicketFits kept session k awaited (Waiting state call) = HasTicket kept session k call awaited
TicketFits kept session k awaited (Hearing state) = kept ≡ Some None
TicketFits kept session k awaited EndedByQuit = kept ≡ Some None
TicketFits kept session k awaited EndedDown = kept ≡ Some None
TicketFits kept session k awaited EndedClosed = kept ≡ Some None

-- so it is of the session at this place
abbrev pub HasOwnTicket : List (Option OpenCall) → List Awaited → ℕ → Session → Type 0
HasOwnTicket tickets awaited place session = TicketFits (slice_get tickets place) session (place + 1) awaited session.standing

-- it has not ended only if its node is one of the plan and up
pub record IsUpAt (plan : Plan) (been : List Act) (node : ℕ) : Type 0 where
  pub there : is_no_node plan node ≡ false
  pub boot : ℕ
  pub up : life_after been node ≡ Up boot

abbrev pub StandsOnNode : Plan → List Act → Session → Type 0
StandsOnNode plan been session = IsOn session.standing → IsUpAt plan been session.node

-- this is so of each session, by its place
abbrev pub EachSession : (ℕ → Session → Type 0) → List Session → Type 0
EachSession so sessions = (place : ℕ) (session : Session) → slice_get sessions place ≡ Some session → so place session

-- and of each but those at this node that are to fall yet, from this place on
abbrev pub EachBut : ℕ → ℕ → (ℕ → Session → Type 0) → List Session → Type 0
EachBut node from so sessions = (place : ℕ) (session : Session) → slice_get sessions place ≡ Some session → (session.node ≡ node → place < from) → so place session

-- the session of this number is at this place and has not ended; or there is none that has not
abbrev pub SessionIsFound : ℕ → Option ℕ → List Session → Type 0
SessionIsFound number (Some place) sessions = (plain : Session) × (slice_get sessions place ≡ Some plain) × (session_at sessions number ≡ Some plain) × IsOn plain.standing
SessionIsFound number None sessions = session_fault (session_at sessions number) ≡ Some NoSuchSession
