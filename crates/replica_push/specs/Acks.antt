-- The log after an acknowledgement, by what it was answered.
use Rattle.std.specs.Prelude.{ℕ}
use Rattle.std.specs.FinMap as fin
use Rattle.mail_model.specs.Identity.{Key, State}
use Rattle.object_model.specs.UpdateLog.{Log, acknowledged}
use Rattle.update_log.specs.declared.logged.Acked.{Acked}
use Rattle.update_log.specs.declared.logged.Acked.TheVariants.{Cleared, Emptied, Other}

-- the entry goes with the last node, loses one of several, or is left alone
abbrev pub after_ack : Key → State → ℕ → Acked → Log → Log
after_ack key state by Emptied log = fin.remove log key
after_ack key state by Cleared log = acknowledged key state by log
after_ack key state by Other log = log
