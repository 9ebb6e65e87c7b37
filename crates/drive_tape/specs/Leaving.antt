-- What a session asks as it ends.
use Rattle.std.specs.Prelude.{List, ℕ, ⊤, Option, Some, None}
use Rattle.call_tickets.specs.declared.call.Call.{Call}
use Rattle.call_tickets.specs.declared.call.Call.TheVariants.{Leave}
use Rattle.cluster_world.specs.Outcomes.{IsLeave}
use Rattle.drive_tape.specs.declared.sessions.After.{After}
use Rattle.drive_tape.specs.declared.sessions.After.TheVariants.{Stays, Ends}

-- the leave of a session that was let in as this user, and of no other
abbrev pub IsLeaveOf : Option Call → Option (List ℕ) → Type 0
IsLeaveOf None None = ⊤
IsLeaveOf (Some call) (Some user) = IsLeave user call
IsLeaveOf call user = ⊥

-- the call is somebody's leave
abbrev pub IsALeave : Call → Type 0
IsALeave (Leave user login manager) = ⊤
IsALeave call = ⊥

-- so it is of what is asked, if anything is
abbrev pub AsksALeave : Option Call → Type 0
AsksALeave None = ⊤
AsksALeave (Some call) = IsALeave call

-- a session that has ended asks nothing else
abbrev pub EndsInLeave : After → Type 0
EndsInLeave Stays = ⊤
EndsInLeave (Ends leave) = AsksALeave leave
