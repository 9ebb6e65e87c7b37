-- What an acknowledgement is answered.
use Rattle.std.specs.Prelude.{ℕ, ◌&&◌, nat_eq, Option, Some, None, if◌then◌else◌}
use Rattle.mail_model.specs.Identity.{State}
use Rattle.object_model.specs.Sets.{has, without_node}
use Rattle.object_model.specs.States.{is_same_state}
use Rattle.object_model.specs.UpdateLog.{Logged}
use Rattle.update_log.specs.declared.logged.Acked.{Acked}
use Rattle.update_log.specs.declared.logged.Acked.TheVariants.{Cleared, Emptied, Other}

-- Other where the entry is of another state or the node does not remain; Emptied where the node was the last one
abbrev pub answer_of : State → ℕ → Logged → Acked
answer_of state by entry =
    if is_same_state entry.state state && has entry.remaining by
    then (if nat_eq (without_node entry.remaining by) 0 then Emptied else Cleared)
    else Other

abbrev pub answer_at : State → ℕ → Option Logged → Acked
answer_at state by None = Other
answer_at state by (Some entry) = answer_of state by entry
