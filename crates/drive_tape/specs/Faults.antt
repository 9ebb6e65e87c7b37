-- The faults of a tape as the definitions name them.
use Rattle.mail_model.specs.Site as site
use Rattle.drive_tape.specs.declared.drove.TapeFault.{TapeFault}
use Rattle.drive_tape.specs.declared.drove.TapeFault.TheVariants as fault

abbrev pub tape_fault_seen : TapeFault → site.TapeFault
tape_fault_seen fault.BadPlan = site.TapeFault.BadPlan
tape_fault_seen fault.BadLine = site.TapeFault.BadLine
tape_fault_seen fault.NoSuchSession = site.TapeFault.NoSuchSession
tape_fault_seen fault.TooManySessions = site.TapeFault.TooManySessions
tape_fault_seen fault.NoSuchNode = site.TapeFault.NoSuchNode
tape_fault_seen fault.NodeLost = site.TapeFault.NodeLost
tape_fault_seen fault.NodeDown = site.TapeFault.NodeDown
tape_fault_seen fault.NodeUp = site.TapeFault.NodeUp
tape_fault_seen fault.NoSuchLetter = site.TapeFault.NoSuchLetter
tape_fault_seen fault.NoSuchTicket = site.TapeFault.NoSuchTicket
tape_fault_seen fault.NotAGroup = site.TapeFault.NotAGroup
tape_fault_seen fault.Worn = site.TapeFault.Worn
tape_fault_seen fault.NoRoom = site.TapeFault.NoRoom
tape_fault_seen fault.TapeTooLong = site.TapeFault.TapeTooLong
