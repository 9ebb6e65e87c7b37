-- What a beginning may say of a call that is no leave, and of a leave.
use Rattle.std.proofs.Common.{◌≡◌, ℕ, Option, Some, None, Result, Ok, Err}
use Rattle.std.specs.Prelude.{IfOk}
use Rattle.session_model.specs.Calls as calls
use Rattle.call_tickets.specs.Seen.{call_seen}
use Rattle.call_tickets.specs.declared.call.Call.{Call}
use Rattle.call_tickets.specs.declared.call.Call.TheVariants.{Deliver, Login, Fetch, Strike, Leave}
use Rattle.cluster_world.specs.Steps.{BeginsSo}
use Rattle.cluster_world.specs.declared.step.Said.{Said}
use Rattle.cluster_world.specs.declared.step.Said.TheVariants.{Begun, Noted, Asked, Heard, Thrown, Sent, Widened, Grouped, Concluded, NodeUp, Done, Faulted}
use Rattle.cluster_world.specs.declared.fault.StepFault.{StepFault}
use Rattle.drive_tape.specs.Kinds.{IsNoLeave}
use Rattle.drive_tape.specs.Leaving.{IsALeave}
use Rattle.drive_tape.specs.Worlds.{IsSaidOfBeginning, IsSaidOfLeave}

-- a ticket of the node, or that the node failed
abbrev pub HasTicketSo : ℕ → Said → Type 0
HasTicketSo node (Begun ticket stirs) = ticket.node ≡ node
HasTicketSo node (Faulted failed) = failed ≡ node
HasTicketSo node said = ⊥

pub begins_so : (call : Call) (asked : calls.Call) → call_seen call ≡ Some asked → (node : ℕ) (said : Said) → BeginsSo call node said → HasTicketSo node said
begins_so (Deliver deliver) asked e node (Begun ticket stirs) b = b.0
begins_so (Deliver deliver) asked e node Noted b = absurd b
begins_so (Deliver deliver) asked e node (Asked ask) b = absurd b
begins_so (Deliver deliver) asked e node Heard b = absurd b
begins_so (Deliver deliver) asked e node (Thrown why) b = absurd b
begins_so (Deliver deliver) asked e node (Sent letters) b = absurd b
begins_so (Deliver deliver) asked e node (Widened did) b = absurd b
begins_so (Deliver deliver) asked e node (Grouped epoch) b = absurd b
begins_so (Deliver deliver) asked e node (Concluded epoch members) b = absurd b
begins_so (Deliver deliver) asked e node (NodeUp boot) b = absurd b
begins_so (Deliver deliver) asked e node Done b = absurd b
begins_so (Deliver deliver) asked e node (Faulted failed) b = b
begins_so (Login user proof) asked e node (Begun ticket stirs) b = b.0
begins_so (Login user proof) asked e node Noted b = absurd b
begins_so (Login user proof) asked e node (Asked ask) b = absurd b
begins_so (Login user proof) asked e node Heard b = absurd b
begins_so (Login user proof) asked e node (Thrown why) b = absurd b
begins_so (Login user proof) asked e node (Sent letters) b = absurd b
begins_so (Login user proof) asked e node (Widened did) b = absurd b
begins_so (Login user proof) asked e node (Grouped epoch) b = absurd b
begins_so (Login user proof) asked e node (Concluded epoch members) b = absurd b
begins_so (Login user proof) asked e node (NodeUp boot) b = absurd b
begins_so (Login user proof) asked e node Done b = absurd b
begins_so (Login user proof) asked e node (Faulted failed) b = b
begins_so (Fetch user id holders from most) asked e node (Begun ticket stirs) b = b.0
begins_so (Fetch user id holders from most) asked e node Noted b = absurd b
begins_so (Fetch user id holders from most) asked e node (Asked ask) b = absurd b
begins_so (Fetch user id holders from most) asked e node Heard b = absurd b
begins_so (Fetch user id holders from most) asked e node (Thrown why) b = absurd b
begins_so (Fetch user id holders from most) asked e node (Sent letters) b = absurd b
begins_so (Fetch user id holders from most) asked e node (Widened did) b = absurd b
begins_so (Fetch user id holders from most) asked e node (Grouped epoch) b = absurd b
begins_so (Fetch user id holders from most) asked e node (Concluded epoch members) b = absurd b
begins_so (Fetch user id holders from most) asked e node (NodeUp boot) b = absurd b
begins_so (Fetch user id holders from most) asked e node Done b = absurd b
begins_so (Fetch user id holders from most) asked e node (Faulted failed) b = b
begins_so (Strike user items) asked e node (Begun ticket stirs) b = b.0
begins_so (Strike user items) asked e node Noted b = absurd b
begins_so (Strike user items) asked e node (Asked ask) b = absurd b
begins_so (Strike user items) asked e node Heard b = absurd b
begins_so (Strike user items) asked e node (Thrown why) b = absurd b
begins_so (Strike user items) asked e node (Sent letters) b = absurd b
begins_so (Strike user items) asked e node (Widened did) b = absurd b
begins_so (Strike user items) asked e node (Grouped epoch) b = absurd b
begins_so (Strike user items) asked e node (Concluded epoch members) b = absurd b
begins_so (Strike user items) asked e node (NodeUp boot) b = absurd b
begins_so (Strike user items) asked e node Done b = absurd b
begins_so (Strike user items) asked e node (Faulted failed) b = b
begins_so (Leave user login manager) asked e node said b = absurd (let no : ◌≡◌ {A = Option calls.Call} None (Some asked) = e in cc)

-- so it may say no more
said_so : (call : Call) (node : ℕ) (what : Said) → IsNoLeave call → BeginsSo call node what → IsSaidOfBeginning (Ok what)
said_so (Deliver deliver) node (Begun ticket stirs) asks says = tt
said_so (Deliver deliver) node (Faulted failed) asks says = tt
said_so (Deliver deliver) node what asks says = absurd says
said_so (Login user proof) node (Begun ticket stirs) asks says = tt
said_so (Login user proof) node (Faulted failed) asks says = tt
said_so (Login user proof) node what asks says = absurd says
said_so (Fetch user id holders from most) node (Begun ticket stirs) asks says = tt
said_so (Fetch user id holders from most) node (Faulted failed) asks says = tt
said_so (Fetch user id holders from most) node what asks says = absurd says
said_so (Strike user items) node (Begun ticket stirs) asks says = tt
said_so (Strike user items) node (Faulted failed) asks says = tt
said_so (Strike user items) node what asks says = absurd says
said_so (Leave user login manager) node what asks says = absurd asks

pub said_of_beginning : (call : Call) (node : ℕ) (result : Result Said StepFault) → IsNoLeave call → IfOk result (BeginsSo call node) → IsSaidOfBeginning result
said_of_beginning call node (Err why) asks says = tt
said_of_beginning call node (Ok what) asks says = said_so call node what asks says

-- a leave is noted, and nothing else is said of it
noted_so : (call : Call) (node : ℕ) (what : Said) → IsALeave call → BeginsSo call node what → IsSaidOfLeave (Ok what)
noted_so (Leave user login manager) node Noted leaves says = tt
noted_so (Leave user login manager) node what leaves says = absurd says
noted_so (Deliver deliver) node what leaves says = absurd leaves
noted_so (Login user proof) node what leaves says = absurd leaves
noted_so (Fetch user id holders from most) node what leaves says = absurd leaves
noted_so (Strike user items) node what leaves says = absurd leaves

pub said_of_leave : (call : Call) (node : ℕ) (result : Result Said StepFault) → IsALeave call → IfOk result (BeginsSo call node) → IsSaidOfLeave result
said_of_leave call node (Err why) leaves says = tt
said_of_leave call node (Ok what) leaves says = noted_so call node what leaves says
