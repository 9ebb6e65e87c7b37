-- What a contract sees of a command that was read.
use Rattle.std.specs.Prelude.{◌<◌, ◌≤◌, ⊤, length, ℕ, List, Option, Some, None, Result, Ok, Err}
use Rattle.mail_model.specs.Smtp as smtp
use Rattle.smtp_wire.specs.declared.command.Command.{Command}
use Rattle.smtp_wire.specs.declared.command.Command.TheVariants.{Helo, Mail, Rcpt, Data, Rset, Noop, Quit, Vrfy}
use Rattle.smtp_wire.specs.declared.command.SmtpFault.{SmtpFault}
use Rattle.smtp_wire.specs.declared.command.SmtpFault.TheVariants.{UnknownVerb, BadArgument, NotDone, BadParameter}
use Rattle.smtp_wire.specs.declared.parameter.Given.{Given}

-- the command whose words are those that are borrowed
abbrev pub command_seen : Command → smtp.Command
command_seen (Helo name extended) = smtp.Command.Helo name.now extended
command_seen (Mail sender size) = smtp.Command.Mail sender.now size
command_seen (Rcpt path) = smtp.Command.Rcpt path.now
command_seen Data = smtp.Command.Data
command_seen Rset = smtp.Command.Rset
command_seen Noop = smtp.Command.Noop
command_seen Quit = smtp.Command.Quit
command_seen Vrfy = smtp.Command.Vrfy

-- the most octets that the words of a command have, and the fewest
abbrev pub IsWithinLimits : Command → Type 0
IsWithinLimits (Helo name extended) = (0 < length name.now) × (length name.now ≤ 255)
IsWithinLimits (Mail sender size) = length sender.now ≤ 512
IsWithinLimits (Rcpt path) = (0 < length path.now) × (length path.now ≤ 512)
IsWithinLimits Data = ⊤
IsWithinLimits Rset = ⊤
IsWithinLimits Noop = ⊤
IsWithinLimits Quit = ⊤
IsWithinLimits Vrfy = ⊤

abbrev pub fault_seen : SmtpFault → smtp.Fault
fault_seen UnknownVerb = smtp.Fault.UnknownVerb
fault_seen BadArgument = smtp.Fault.BadArgument
fault_seen NotDone = smtp.Fault.NotDone
fault_seen BadParameter = smtp.Fault.BadParameter

abbrev pub seen : Result Command SmtpFault → Result smtp.Command smtp.Fault
seen (Ok command) = Ok (command_seen command)
seen (Err fault) = Err (fault_seen fault)

-- what parameters said
abbrev pub given_seen : Given → smtp.Given
given_seen given = record { size = given.size; body = given.body }

abbrev pub given_result : Result Given SmtpFault → Result smtp.Given smtp.Fault
given_result (Ok given) = Ok (given_seen given)
given_result (Err fault) = Err (fault_seen fault)
