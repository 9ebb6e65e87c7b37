-- What a contract sees of a command that was read.
use Rattle.std.specs.Prelude.{◌<◌, ⊤, length, IsTrue, Result, Ok, Err}
use Rattle.mail_model.specs.Names.{is_name}
use Rattle.mail_model.specs.Pop as pop
use Rattle.pop_wire.specs.declared.command.PopCommand.{PopCommand}
use Rattle.pop_wire.specs.declared.command.PopCommand.TheVariants.{User, Pass, Apop, Stat, List, Uidl, Retr, Dele, Top, Noop, Rset, Quit, Capa}
use Rattle.pop_wire.specs.declared.command.PopFault.{PopFault}
use Rattle.pop_wire.specs.declared.command.PopFault.TheVariants.{UnknownVerb, BadArgument, BadNumber}

-- the command whose words are those that are borrowed
abbrev pub command_seen : PopCommand → pop.Command
command_seen (User name) = pop.Command.User name.now
command_seen (Pass secret) = pop.Command.Pass secret.now
command_seen (Apop name digest) = pop.Command.Apop name.now digest
command_seen Stat = pop.Command.Stat
command_seen (List number) = pop.Command.Listing number
command_seen (Uidl number) = pop.Command.Uidl number
command_seen (Retr number) = pop.Command.Retr number
command_seen (Dele number) = pop.Command.Dele number
command_seen (Top number lines) = pop.Command.Top number lines
command_seen Noop = pop.Command.Noop
command_seen Rset = pop.Command.Rset
command_seen Quit = pop.Command.Quit
command_seen Capa = pop.Command.Capa

-- a name is one, and a secret is not empty
abbrev pub IsWithinLimits : PopCommand → Type 0
IsWithinLimits (User name) = IsTrue (is_name name.now)
IsWithinLimits (Pass secret) = 0 < length secret.now
IsWithinLimits (Apop name digest) = IsTrue (is_name name.now)
IsWithinLimits Stat = ⊤
IsWithinLimits (List number) = ⊤
IsWithinLimits (Uidl number) = ⊤
IsWithinLimits (Retr number) = ⊤
IsWithinLimits (Dele number) = ⊤
IsWithinLimits (Top number lines) = ⊤
IsWithinLimits Noop = ⊤
IsWithinLimits Rset = ⊤
IsWithinLimits Quit = ⊤
IsWithinLimits Capa = ⊤

abbrev pub fault_seen : PopFault → pop.Fault
fault_seen UnknownVerb = pop.Fault.UnknownVerb
fault_seen BadArgument = pop.Fault.BadArgument
fault_seen BadNumber = pop.Fault.BadNumber

abbrev pub seen : Result PopCommand PopFault → Result pop.Command pop.Fault
seen (Ok command) = Ok (command_seen command)
seen (Err fault) = Err (fault_seen fault)

-- a result with the same value
abbrev pub faults_seen : {X : Type 0} → Result X PopFault → Result X pop.Fault
faults_seen (Ok x) = Ok x
faults_seen (Err fault) = Err (fault_seen fault)
