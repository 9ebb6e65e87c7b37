use Rattle.std.proofs.Common.{◌≡◌, map, drop, string_bytes}
use Rattle.command_words.specs.Forms.{has_option}
use Rattle.command_words.proofs.task.has_option.Given as goal

-- one of the words that are left is an option exactly where one of all is
abbrev pub invariant-loop-word : goal.invariant-loop-word
invariant-loop-word l = has_option (map string_bytes (drop l.word-index l.words)) ≡ has_option (map string_bytes l.words)
