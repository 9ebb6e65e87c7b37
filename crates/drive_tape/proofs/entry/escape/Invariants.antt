use Rattle.std.proofs.Common.{◌≡◌, ◌++◌, take}
use Rattle.mail_model.specs.Transcript.{escaped}
use Rattle.drive_tape.proofs.entry.escape.Given as goal

abbrev pub invariant-loop-octet : goal.invariant-loop-octet
invariant-loop-octet l = l.out.items ≡ l.fn.out.items ++ escaped (take l.octet-index l.text)
