-- What taking a state did, by what stood.
use Rattle.std.specs.Prelude.{Option, Some, None, if◌then◌else◌}
use Rattle.mail_model.specs.Identity.{State}
use Rattle.object_model.specs.States.{is_news, is_same_state}
use Rattle.object_table.specs.declared.table.Taken.{Taken}
use Rattle.object_table.specs.declared.table.Taken.TheVariants.{Newer, Same, Older}

abbrev pub outcome_of : State → State → Taken
outcome_of held state = if is_news (Some held) state then Newer else (if is_same_state held state then Same else Older)

abbrev pub outcome : Option State → State → Taken
outcome None state = Newer
outcome (Some held) state = outcome_of held state
