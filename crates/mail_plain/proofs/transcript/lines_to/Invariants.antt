use Rattle.std.proofs.Common.{◌≡◌, ◌++◌, drop}
use Rattle.mail_model.specs.Shown.{lines_to}
use Rattle.mail_model.specs.Plain.{lists_of}
use Rattle.mail_plain.specs.SeenEntries.{entries_seen}
use Rattle.mail_plain.proofs.transcript.lines_to.Given as goal

-- the lines so far, and those of the entries that are left
abbrev pub invariant-loop-entry : goal.invariant-loop-entry
invariant-loop-entry l = lists_of l.lines.items ++ lines_to l.session (entries_seen (drop l.entry-index l.entries)) ≡ lines_to l.session (entries_seen l.entries)
