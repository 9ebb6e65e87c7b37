-- What is written of an event.
use Rattle.std.proofs.Common.{ℕ, List, [], ◌∷◌, Option, Err}
use Rattle.io_edge.proofs.Known.{appends_none}
use Rattle.mail_model.specs.Transcript.{Entry}
use Rattle.drive_tape.specs.declared.entry.WriteStop.TheVariants.{NoMemory}
use Rattle.drive_tape.specs.Happenings.{WritesOrStops}
use Rattle.drive_tape.proofs.Replies.{writes_none}

pub stops_none : (held : Option (List ℕ)) (entries : List Entry) → WritesOrStops held held (Err NoMemory) entries
stops_none held [] = appends_none held
stops_none held (entry ∷ entries) = writes_none held entry entries NoMemory
