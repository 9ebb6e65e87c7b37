-- How the words of a line are read.
use Rattle.std.specs.Prelude.{ℕ, List, Option, Some, None, if◌then◌else◌}
use Rattle.mail_model.specs.Lines.{without_cr}
use Rattle.mail_model.specs.Tape.{is_long}

-- the text of a line as it stands on the tape
abbrev pub tape_line : List ℕ → Option (List ℕ)
tape_line raw = if is_long raw then None else Some (without_cr raw)
