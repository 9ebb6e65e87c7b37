-- How the program ends.
use Rattle.std.specs.Prelude.{◌≡◌, ◌⊎◌, ℕ, List, [], ◌∷◌, ◌++◌, Option, codes}
use Rattle.std.specs.Fmt.{decimal}
use Rattle.std.specs.Io.KnownBytes.{Appends}
use Rattle.mail_model.specs.Transcript.{Entry, written_of}
use Rattle.mail_model.specs.Transcript.Entry.{Refused}
use Rattle.mail_model.specs.Site.{fault_name}
use Rattle.drive_tape.specs.declared.drove.Drove.{Drove}
use Rattle.drive_tape.specs.declared.drove.Drove.TheVariants as drove
use Rattle.drive_tape.specs.Faults.{tape_fault_seen}
use Rattle.drive_tape.specs.Parts.{IsCutEntry}
use Rattle.cluster_world.specs.declared.fault.OpenFault.{OpenFault}
use Rattle.cluster_world.specs.declared.fault.OpenFault.TheVariants as unopened
use Rattle.yard_stores.specs.declared.stores.TakeFault.{TakeFault}
use Rattle.yard_stores.specs.declared.stores.TakeFault.TheVariants as take
use Rattle.porcupine_server.specs.declared.ending.Ending.{Ending}
use Rattle.porcupine_server.specs.declared.ending.Ending.TheVariants.{Done, Line, Read, Write, Store, NoMemory}

-- how the program ends where the work on the tape ended so
abbrev pub ending_of : Drove → Ending
ending_of drove.Ended = Done
ending_of drove.ReadFault = Read
ending_of (drove.WriteFault number) = Write
ending_of (drove.BadTape number fault) = Line number fault
ending_of (drove.NoMemory number) = NoMemory

-- and where not all stores are there
abbrev pub ending_untaken : TakeFault → Ending
ending_untaken (take.Store node) = Store node
ending_untaken take.NoMemory = NoMemory

-- and where the cluster is not opened over them
abbrev pub ending_unopened : OpenFault → Ending
ending_unopened (unopened.DiskFault node) = Store node
ending_unopened unopened.NoMemory = NoMemory

abbrev pub status_of : Ending → ℕ
status_of Done = 0
status_of (Line number fault) = 3
status_of Read = 4
status_of Write = 5
status_of (Store node) = 6
status_of NoMemory = 7

-- the last line, where there is one
abbrev pub last_entries : Ending → List Entry
last_entries Done = []
last_entries (Line number fault) = Refused (codes "line " ++ decimal number ++ 32 ∷ fault_name (tape_fault_seen fault)) ∷ []
last_entries Read = Refused (codes "read") ∷ []
last_entries Write = []
last_entries (Store node) = Refused (codes "disk 0 " ++ decimal node) ∷ []
last_entries NoMemory = []

-- The last line is written and the status is that of the ending; or that line was written in part.
abbrev pub Finishes : Option (List ℕ) → Option (List ℕ) → Ending → ℕ → Type 0
Finishes held0 held1 ending status =
    ((status ≡ status_of ending) × Appends held0 held1 (written_of (last_entries ending)))
    ⊎ (((status ≡ 5) ⊎ (status ≡ 7)) × ((front : List Entry) × (missing : List Entry) × (cut : List ℕ)
    × (last_entries ending ≡ front ++ missing) × IsCutEntry missing cut × Appends held0 held1 (written_of front ++ cut)))
