-- A plan line as the definitions see it.
use Rattle.std.specs.Prelude.{ℕ, List, Option, option_and_then, codes}
use Rattle.tape_lines.specs.declared.plan_line.PlanLine.{PlanLine}
use Rattle.tape_lines.specs.declared.plan_line.PlanLine.TheVariants.{Nodes, Copies, Buckets, User, Postmaster, Go}
use Rattle.mail_model.specs.Tape as tape

abbrev pub plan_line_seen : PlanLine → tape.PlanLine
plan_line_seen (Nodes count) = tape.PlanLine.Nodes count
plan_line_seen (Copies count) = tape.PlanLine.Copies count.0 count.1
plan_line_seen (Buckets count) = tape.PlanLine.Buckets count
plan_line_seen (User name secret) = tape.PlanLine.User name secret
plan_line_seen (Postmaster name) = tape.PlanLine.Postmaster name
plan_line_seen Go = tape.PlanLine.Go

-- a line that gives numbers
abbrev pub counts_line : List ℕ → Option tape.PlanLine
counts_line line =
    tape.or_else (option_and_then tape.nodes_line (tape.strip (codes "nodes ") line))
    (tape.or_else (option_and_then tape.copies_line (tape.strip (codes "copies ") line))
    (option_and_then tape.buckets_line (tape.strip (codes "buckets ") line)))

-- a line that gives names, or the last
abbrev pub names_line : List ℕ → Option tape.PlanLine
names_line line =
    tape.or_else (option_and_then tape.user_line (tape.strip (codes "user ") line))
    (tape.or_else (option_and_then tape.postmaster_line (tape.strip (codes "postmaster ") line))
    (option_and_then tape.go_line (tape.strip (codes "go") line)))
