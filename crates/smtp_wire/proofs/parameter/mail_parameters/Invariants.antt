use Rattle.std.proofs.Common.{◌≡◌, length}
use Rattle.mail_model.specs.Smtp.{none_given, with_words, words_of}
use Rattle.smtp_wire.specs.Seen.{given_seen}
use Rattle.smtp_wire.proofs.parameter.mail_parameters.Given as goal

-- what is left gives the same
abbrev pub invariant-loop-rest : goal.invariant-loop-rest
invariant-loop-rest l = with_words (given_seen l.given) (words_of l.rest) ≡ with_words none_given (words_of l.behind)

abbrev pub decreases-loop-rest : goal.decreases-loop-rest
decreases-loop-rest l = length l.rest
