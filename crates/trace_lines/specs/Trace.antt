-- The trace lines of a message.
use Rattle.std.specs.Prelude.{◌≡◌, ℕ, ◌<◌, ◌≤◌, List, [], ◌++◌, codes, Result, Ok, Err}
use Rattle.std.specs.Fmt.{decimal}
use Rattle.mail_model.specs.Lines.{sent_line}
use Rattle.mail_model.specs.Mail.{IsDate, trace_lines}
use Rattle.mail_model.specs.Told.{Mail}
use Rattle.trace_lines.specs.declared.trace.Trace.{Trace}
use Rattle.trace_lines.specs.declared.trace.TraceFault.{TraceFault}
use Rattle.trace_lines.specs.declared.trace.TraceFault.TheVariants.{YearTooLarge, NoMemory}

-- the line that says which node took the message, and under which id
abbrev pub by_line : ℕ → List ℕ → List ℕ → List ℕ
by_line node protocol id = sent_line (codes " by node" ++ decimal node ++ codes " with " ++ protocol ++ codes " id <" ++ id ++ codes "@node" ++ decimal node ++ codes ">;")

-- a message of which only what its trace lines say is known
abbrev pub traced_mail : Trace → Mail
traced_mail trace = record { sender = trace.sender.now; helo = trace.helo.now; extended = trace.extended; mailboxes = []; text = [] }

-- the trace lines with this date
abbrev pub lines_of : Trace → List ℕ → List ℕ
lines_of trace date = trace_lines (traced_mail trace) trace.id date

-- from this second on the year has five digits
abbrev pub year_10000 : ℕ
year_10000 = 253_402_300_800

-- the trace lines stand after what was there, with the date of that second; or nothing was changed
abbrev pub Traced : {T : Type 0} → Result T TraceFault → Trace → List ℕ → List ℕ → Type 0
Traced (Ok _) trace old new = (date : List ℕ) × IsDate trace.seconds date × (new ≡ old ++ lines_of trace date)
Traced (Err YearTooLarge) trace old new = (year_10000 ≤ trace.seconds) × (new ≡ old)
Traced (Err NoMemory) trace old new = (trace.seconds < year_10000) × (new ≡ old)
