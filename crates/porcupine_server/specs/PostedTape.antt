-- A tape of three nodes, as it is written: plan lines, `go`, run lines on which letters are heard twice and out of their order, and `end`.
use Rattle.std.specs.Prelude.{ℕ, List, [], ◌∷◌, ◌++◌, flat_map, codes}
use Rattle.mail_model.specs.Lines.{ended}
use Rattle.worked_sessions.specs.ThreeNodes.{posted_lines}

abbrev pub posted_head : List (List ℕ)
posted_head = codes "nodes 3" ∷ codes "copies 3 3" ∷ codes "buckets 1" ∷ codes "user alice tanstaaf" ∷ codes "postmaster alice" ∷ []

abbrev pub posted_tape : List ℕ
posted_tape = flat_map ended posted_head ++ (ended (codes "go") ++ (flat_map ended posted_lines ++ (ended (codes "end") ++ [])))
