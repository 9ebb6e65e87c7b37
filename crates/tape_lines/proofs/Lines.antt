-- A plan line gives numbers, or else names.
use Rattle.std.proofs.Common.{◌≡◌, ℕ, List, Option, Some, None, refl}
use Rattle.std.specs.Prelude.{option_and_then, codes}
use Rattle.mail_model.specs.Tape as tape
use Rattle.tape_lines.specs.PlanLines.{counts_line, names_line}

three : {X : Type 0} (a b c rest : Option X) → tape.or_else a (tape.or_else b (tape.or_else c rest)) ≡ tape.or_else (tape.or_else a (tape.or_else b c)) rest
three None None c rest = refl
three None (Some y) c rest = refl
three (Some x) b c rest = refl

pub either_line : (line : List ℕ) → tape.plan_line_of line ≡ tape.or_else (counts_line line) (names_line line)
either_line line = three
    (option_and_then tape.nodes_line (tape.strip (codes "nodes ") line))
    (option_and_then tape.copies_line (tape.strip (codes "copies ") line))
    (option_and_then tape.buckets_line (tape.strip (codes "buckets ") line))
    (names_line line)
