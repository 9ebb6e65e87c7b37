-- How serving ends.
use Rattle.std.specs.Prelude.{◌≡◌, ◌⊎◌, ℕ, List, [], ◌∷◌, ◌++◌, Option, codes}
use Rattle.std.specs.Fmt.{decimal}
use Rattle.std.specs.Io.KnownBytes.{Appends}
use Rattle.cluster_world.specs.declared.fault.OpenFault.{OpenFault}
use Rattle.cluster_world.specs.declared.fault.OpenFault.TheVariants as unopened
use Rattle.yard_stores.specs.declared.stores.TakeFault.{TakeFault}
use Rattle.yard_stores.specs.declared.stores.TakeFault.TheVariants as take
use Rattle.mail_service.specs.declared.console.ConsoleEnd.{ConsoleEnd}
use Rattle.mail_service.specs.declared.console.ConsoleEnd.TheVariants as console
use Rattle.mail_service.specs.declared.doors.DoorEnd.{DoorEnd}
use Rattle.mail_service.specs.declared.doors.DoorEnd.TheVariants as doors
use Rattle.mail_service.specs.declared.service.ServiceEnd.{ServiceEnd}
use Rattle.mail_service.specs.declared.service.ServiceEnd.TheVariants as service
use Rattle.word_works.specs.Parts.{WritesPart}
use Rattle.serve_word.specs.declared.plan_parts.PlanFault.{PlanFault}
use Rattle.serve_word.specs.declared.plan_parts.PlanFault.TheVariants as fault
use Rattle.serve_word.specs.declared.ending.ServeEnd.{ServeEnd}
use Rattle.serve_word.specs.declared.ending.ServeEnd.TheVariants.{Done, Broken, Early, Unread, ReadFault, WriteFault, Store, NoMemory, Doors}

-- how it ends where the console ended so, and all doors were quiet
abbrev pub ending_at : ConsoleEnd → ServeEnd
ending_at console.Stopped = Done
ending_at (console.Early line) = Early line
ending_at console.ReadFault = ReadFault
ending_at console.WriteFault = WriteFault
ending_at console.NoMemory = NoMemory

-- and where the doors ended so too: their faults come first
abbrev pub ending_with : ConsoleEnd → DoorEnd → ServeEnd
ending_with end doors.Quiet = ending_at end
ending_with end doors.Failed = Doors
ending_with end doors.NoMemory = NoMemory

-- where the service ended so
abbrev pub ending_of : ServiceEnd → ServeEnd
ending_of (service.Served end found) = ending_with end found
ending_of service.Unopened = Doors
ending_of service.NoMemory = NoMemory

-- where no plan was read
abbrev pub ending_unread : PlanFault → ServeEnd
ending_unread (fault.Broken rule) = Broken rule
ending_unread fault.Unread = Unread
ending_unread fault.NoMemory = NoMemory

-- where not all stores are there
abbrev pub ending_untaken : TakeFault → ServeEnd
ending_untaken (take.Store node) = Store node
ending_untaken take.NoMemory = NoMemory

-- and where the cluster is not opened over them
abbrev pub ending_unopened : OpenFault → ServeEnd
ending_unopened (unopened.DiskFault node) = Store node
ending_unopened unopened.NoMemory = NoMemory

abbrev pub status_of : ServeEnd → ℕ
status_of Done = 0
status_of (Broken rule) = 2
status_of (Early line) = 3
status_of Unread = 4
status_of ReadFault = 4
status_of WriteFault = 5
status_of (Store node) = 6
status_of NoMemory = 7
status_of Doors = 8

-- the last line with its LF, where there is one
abbrev pub line_of : ServeEnd → List ℕ
line_of Done = []
line_of (Broken rule) = codes "! plan " ++ decimal rule ++ 10 ∷ []
line_of (Early line) = codes "! line " ++ (decimal line ++ (codes " BadLine" ++ 10 ∷ []))
line_of Unread = codes "! read" ++ 10 ∷ []
line_of ReadFault = codes "! read" ++ 10 ∷ []
line_of WriteFault = []
line_of (Store node) = codes "! disk 0 " ++ decimal node ++ 10 ∷ []
line_of NoMemory = []
line_of Doors = codes "! doors" ++ 10 ∷ []

-- the last line was written and the status is that of the ending; or it was written in part, at 5; or nothing was, at 7
abbrev pub Finishes : Option (List ℕ) → Option (List ℕ) → ServeEnd → ℕ → Type 0
Finishes held0 held1 ending status =
    ((status ≡ status_of ending) × Appends held0 held1 (line_of ending))
    ⊎ ((status ≡ 5) × WritesPart held0 held1 (line_of ending))
    ⊎ ((status ≡ 7) × (held1 ≡ held0))
