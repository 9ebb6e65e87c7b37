-- A fault of the journal is the store's fault of the same name.
use Rattle.disk_journal.specs.declared.fault.JournalFault.{JournalFault}
use Rattle.disk_journal.specs.declared.fault.JournalFault.TheVariants as journal
use Rattle.message_store.specs.declared.fault.StoreFault.{StoreFault}
use Rattle.message_store.specs.declared.fault.StoreFault.TheVariants as store

abbrev pub of_journal : JournalFault → StoreFault
of_journal journal.DiskFault = store.DiskFault
of_journal journal.NotAJournal = store.NotAJournal
of_journal journal.TooLarge = store.TooLarge
of_journal journal.NoMemory = store.NoMemory
