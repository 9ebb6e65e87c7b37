use Rattle.std.proofs.Common.{◌≡◌, take}
use Rattle.mail_model.specs.Told.{sent}
use Rattle.mail_model.specs.Plain.{lists_of}
use Rattle.mail_plain.proofs.fed.sent.Given as goal

-- the octets are those of the lines so far
abbrev pub invariant-loop-line : goal.invariant-loop-line
invariant-loop-line l = l.octets.items ≡ sent l.session (lists_of (take l.line-index l.lines))
