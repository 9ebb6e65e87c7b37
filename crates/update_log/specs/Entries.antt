-- One entry of the log as it is acknowledged.
use Rattle.std.specs.Prelude.{ℕ, ◌&&◌, if◌then◌else◌}
use Rattle.mail_model.specs.Identity.{State}
use Rattle.object_model.specs.Sets.{has}
use Rattle.object_model.specs.States.{is_same_state}
use Rattle.object_model.specs.UpdateLog.{Logged, cleared}

-- the node is taken out where the entry is of that very state and the node remains
abbrev pub cleared_by : State → ℕ → Logged → Logged
cleared_by state by entry = if is_same_state entry.state state && has entry.remaining by then cleared by entry else entry
