-- What the clock of a cluster shows after some acts: at first 0, and then the seconds of the last `tick` line.
use Rattle.std.specs.Prelude.{ℕ, List, [], ◌∷◌}
use Rattle.mail_model.specs.Tape.{ClusterOrder}
use Rattle.mail_model.specs.Tape.ClusterOrder.{Tick}
use Rattle.session_model.specs.Acts.{Act}
use Rattle.session_model.specs.Acts.Act.{Opens, Does, Faults, StillWaits, Leaves, Makes, Abandons}

-- what an order makes of the seconds
abbrev pub seconds_by_order : ClusterOrder → ℕ → ℕ
seconds_by_order (Tick seconds) was = seconds
seconds_by_order order was = was

-- and an act
abbrev pub seconds_by : Act → ℕ → ℕ
seconds_by (Opens protocol node greeting) was = was
seconds_by (Does k deed) was = was
seconds_by (Faults node) was = was
seconds_by (StillWaits k) was = was
seconds_by (Leaves k user) was = was
seconds_by (Makes order event) was = seconds_by_order order was
seconds_by (Abandons k) was = was

-- the seconds after acts, where they were these before
abbrev pub seconds_from : ℕ → List Act → ℕ
seconds_from was [] = was
seconds_from was (act ∷ acts) = seconds_from (seconds_by act was) acts

-- and after all acts of a run
abbrev pub seconds_after : List Act → ℕ
seconds_after acts = seconds_from 0 acts
