-- The program's entries as those of a transcript, and what writing them leaves.
use Rattle.std.specs.Prelude.{◌≡◌, ℕ, List, ◌++◌, map, Option, Result, Ok, Err}
use Rattle.std.specs.Io.KnownBytes.{Appends}
use Rattle.mail_model.specs.Transcript as transcript
use Rattle.mail_model.specs.Transcript.{written_of}
use Rattle.drive_tape.specs.Parts.{IsPartOfLine}
use Rattle.drive_tape.specs.declared.entry.Entry.{Entry}
use Rattle.drive_tape.specs.declared.entry.Entry.TheVariants.{Said, Event, Refused}

abbrev pub transcript_entry : Entry → transcript.Entry
transcript_entry (Said session text) = transcript.Entry.Said session text
transcript_entry (Event text) = transcript.Entry.Event text
transcript_entry (Refused text) = transcript.Entry.Refused text

abbrev pub transcript_entries : List Entry → List transcript.Entry
transcript_entries entries = map transcript_entry entries

-- all the lines were appended; or a prefix of them that is not all, and perhaps a part of the next
abbrev pub WritesEntries : {E : Type 0} → Option (List ℕ) → Option (List ℕ) → Result (Unit {0}) E → List transcript.Entry → Type 0
WritesEntries old new (Ok _) entries = Appends old new (written_of entries)
WritesEntries old new (Err _) entries = (front : List transcript.Entry) × (missing : List transcript.Entry) × (cut : List ℕ)
    × (entries ≡ front ++ missing) × IsPartOfLine missing cut × Appends old new (written_of front ++ cut)
