use Rattle.std.proofs.Common.{◌≡◌, ◌≤◌, take, length}
use Rattle.mail_model.specs.Smtp.{trimmed}
use Rattle.line_words.proofs.octets.trimmed.Given as goal

-- what is left means the same
abbrev pub invariant-loop-end : goal.invariant-loop-end
invariant-loop-end l = record { within : l.end ≤ length l.line; same : trimmed (take l.end l.line) ≡ trimmed l.line }

abbrev pub decreases-loop-end : goal.decreases-loop-end
decreases-loop-end l = l.end
