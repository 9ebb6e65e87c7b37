-- The tape of one message, as it is written: plan lines, `go`, the run lines that tell the message, and `end`.
use Rattle.std.specs.Prelude.{ℕ, List, [], ◌∷◌, ◌++◌, flat_map, codes}
use Rattle.mail_model.specs.Lines.{ended}
use Rattle.worked_sessions.specs.OneMessage.{small_lines}

abbrev pub small_head : List (List ℕ)
small_head = codes "nodes 1" ∷ codes "copies 1 1" ∷ codes "buckets 1" ∷ codes "user alice tanstaaf" ∷ codes "postmaster alice" ∷ []

abbrev pub small_tape : List ℕ
small_tape = flat_map ended small_head ++ (ended (codes "go") ++ (flat_map ended small_lines ++ (ended (codes "end") ++ [])))
