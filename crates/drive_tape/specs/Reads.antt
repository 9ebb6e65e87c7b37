-- What reading a line of a tape takes of a source.
use Rattle.std.specs.Prelude.{◌≡◌, ℕ, ◌<◌, ◌≤◌, List, Option, Result, Ok, Err, length}
use Rattle.std.specs.Io.KnownBytes.{IsAtEnd}
use Rattle.mail_model.specs.Lines.{HasNoLf, ended}
use Rattle.line_source.specs.declared.source.PartFault.{PartFault}
use Rattle.line_source.specs.declared.source.PartFault.TheVariants.{Failed, NoMemory as PartNoMemory}
use Rattle.drive_tape.specs.declared.reader.LineStop.{LineStop}
use Rattle.drive_tape.specs.declared.reader.LineStop.TheVariants.{ReadFault, EndedEarly, LongLine, TooLong, NoMemory}

-- a line is not read where no part of it is taken
abbrev pub stop_of : PartFault → LineStop
stop_of Failed = ReadFault
stop_of PartNoMemory = NoMemory

-- these octets were taken: a line with its LF; or no line, and why
abbrev pub ReadsLine : Result (List ℕ) LineStop → Option (List ℕ) → List ℕ → ℕ → Type 0
ReadsLine (Ok line) left taken room = (taken ≡ ended line) × HasNoLf line × (length line ≤ 65535)
ReadsLine (Err EndedEarly) left taken room = HasNoLf taken × IsAtEnd left
ReadsLine (Err LongLine) left taken room = HasNoLf taken × (65535 < length taken)
ReadsLine (Err TooLong) left taken room = HasNoLf taken × (room ≡ 0)
ReadsLine (Err ReadFault) left taken room = HasNoLf taken
ReadsLine (Err NoMemory) left taken room = HasNoLf taken
