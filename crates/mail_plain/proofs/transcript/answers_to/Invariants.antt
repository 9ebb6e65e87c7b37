use Rattle.std.proofs.Common.{◌≡◌, ◌++◌, drop}
use Rattle.mail_model.specs.Transcript.{got}
use Rattle.mail_model.specs.Plain.{lists_of}
use Rattle.mail_plain.specs.SeenEntries.{entries_seen}
use Rattle.mail_plain.proofs.transcript.answers_to.Given as goal

-- the lines so far, and those of the entries that are left
abbrev pub invariant-loop-entry : goal.invariant-loop-entry
invariant-loop-entry l = lists_of l.lines.items ++ got l.session (entries_seen (drop l.entry-index l.entries)) ≡ got l.session (entries_seen l.entries)
