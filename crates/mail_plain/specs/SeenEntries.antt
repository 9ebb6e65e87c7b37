-- What a contract sees of the entries of a transcript.
use Rattle.std.specs.Prelude.{List, map}
use Rattle.mail_model.specs.Transcript as transcript
use Rattle.mail_plain.specs.declared.transcript.Entry.{Entry}
use Rattle.mail_plain.specs.declared.transcript.Entry.TheVariants.{Said, Event, Refused}

-- the entry whose octets are those that are borrowed
abbrev pub entry_seen : Entry → transcript.Entry
entry_seen (Said session text) = transcript.Entry.Said session text.now
entry_seen (Event text) = transcript.Entry.Event text.now
entry_seen (Refused text) = transcript.Entry.Refused text.now

abbrev pub entries_seen : List Entry → List transcript.Entry
entries_seen entries = map entry_seen entries
