-- What a state that is heard, or a target more, makes of a table and a log.
use Rattle.std.specs.Prelude.{ℕ, ◌&&◌, not, Option, Some, None, if◌then◌else◌}
use Rattle.std.specs.FinMap as fin
use Rattle.mail_model.specs.Identity.{Key, State}
use Rattle.mail_model.specs.Listing.{is_here}
use Rattle.object_model.specs.Sets.{has, with_node}
use Rattle.object_model.specs.States.{is_news, join_with}
use Rattle.object_model.specs.UpdateLog.{Log, noted}
use Rattle.object_table.specs.Tables.{Table}

-- the join of a state with what stood, where it differs from that
abbrev pub news_of : Option State → State → Option State
news_of held state = if is_news held state then Some (join_with held state) else None

-- it is noted, where there is one
abbrev pub note_news : ℕ → Key → Option State → Log → Log
note_news own key None log = log
note_news own key (Some state) log = noted own key state log

-- it stands, where there is one
abbrev pub put_news : Key → Option State → Table → Table
put_news key None table = table
put_news key (Some state) table = fin.insert table key state

-- a state that is Here and lacks the target, with it
abbrev pub wider_of : State → ℕ → Option State
wider_of held to = if is_here held.value && not (has held.targets to) then Some (record { value = held.value; stamp = held.stamp; targets = with_node held.targets to }) else None

abbrev pub wider : Option State → ℕ → Option State
wider None to = None
wider (Some held) to = wider_of held to
