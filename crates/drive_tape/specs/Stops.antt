-- Why a turn handled no line, by what stopped it.
use Rattle.drive_tape.specs.declared.reader.LineStop.{LineStop}
use Rattle.drive_tape.specs.declared.reader.LineStop.TheVariants as line
use Rattle.drive_tape.specs.declared.entry.WriteStop.{WriteStop}
use Rattle.drive_tape.specs.declared.entry.WriteStop.TheVariants as write
use Rattle.drive_tape.specs.declared.drove.TapeFault.TheVariants.{BadLine, TapeTooLong}
use Rattle.drive_tape.specs.declared.drove.Stop.{Stop}
use Rattle.drive_tape.specs.declared.drove.Stop.TheVariants.{ReadFault, WriteFault, Bad, NoMemory}

abbrev pub of_line : LineStop → Stop
of_line line.ReadFault = ReadFault
of_line line.EndedEarly = Bad BadLine
of_line line.LongLine = Bad BadLine
of_line line.TooLong = Bad TapeTooLong
of_line line.NoMemory = NoMemory

abbrev pub of_write : WriteStop → Stop
of_write write.WriteFault = WriteFault
of_write write.NoMemory = NoMemory
