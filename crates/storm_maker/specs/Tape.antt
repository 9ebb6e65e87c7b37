-- The tape of a storm: its plan, its rounds and its end, line by line.
use Rattle.std.specs.Prelude.{ℕ, zero, suc, List, [], ◌∷◌, ◌++◌, Option, Some, None, codes}
use Rattle.std.specs.Fmt.{decimal}
use Rattle.rand_pcg.specs.Lcg.{Lcg}
use Rattle.storm_maker.specs.Draws.{draws_of}
use Rattle.storm_maker.specs.Storm.{happens, down_after, session_after}
use Rattle.storm_maker.specs.declared.storm.Happening.{Happening}
use Rattle.storm_maker.specs.declared.storm.Happening.TheVariants.{Message, Crash, Start, Reading, Pushing, Settling}

-- the lines, each ended by LF, and what follows them
abbrev pub text_of : List (List ℕ) → List ℕ
text_of [] = []
text_of (line ∷ lines) = line ++ 10 ∷ text_of lines

-- the plan: five nodes, three copies of which two confirm, sixteen buckets and eight users
abbrev pub plan_lines : List (List ℕ)
plan_lines =
    codes "nodes 5" ∷ codes "copies 3 2" ∷ codes "buckets 16"
    ∷ codes "user u0 s0" ∷ codes "user u1 s1" ∷ codes "user u2 s2" ∷ codes "user u3 s3"
    ∷ codes "user u4 s4" ∷ codes "user u5 s5" ∷ codes "user u6 s6" ∷ codes "user u7 s7"
    ∷ codes "postmaster u0" ∷ codes "go" ∷ []

-- the line of this word that names a node
abbrev pub at : List ℕ → ℕ → List ℕ
at word node = word ++ codes " " ++ decimal node

-- the line that feeds this text to the session
abbrev pub say : ℕ → List ℕ → List ℕ
say session text = codes "say " ++ decimal session ++ codes " " ++ text

-- the lines of what happens in a round, where this is the number of the next session
abbrev pub lines_of : ℕ → Happening → List (List ℕ)
lines_of k (Message node user number) =
    at (codes "open smtp") node
    ∷ say k (codes "HELO storm") ∷ say k (codes "MAIL FROM:<>") ∷ say k (codes "RCPT TO:<u" ++ decimal user ++ codes ">") ∷ say k (codes "DATA")
    ∷ say k (decimal number) ∷ say k (codes ".") ∷ codes "flow" ∷ say k (codes "QUIT") ∷ []
lines_of k (Crash node) = at (codes "crash") node ∷ []
lines_of k (Start node) = at (codes "start") node ∷ at (codes "regroup") node ∷ []
lines_of k (Reading node user) =
    at (codes "open pop") node
    ∷ say k (codes "USER u" ++ decimal user) ∷ say k (codes "PASS s" ++ decimal user) ∷ codes "flow"
    ∷ say k (codes "DELE 1") ∷ say k (codes "QUIT") ∷ codes "flow" ∷ []
lines_of k (Pushing node) = at (codes "push") node ∷ at (codes "report") node ∷ codes "flow" ∷ []
lines_of k Settling = codes "settle" ∷ []

-- the node that is down starts
abbrev pub start_lines : Option ℕ → List (List ℕ)
start_lines None = []
start_lines (Some node) = at (codes "start") node ∷ []

-- the end: all nodes are up, in one epoch, settled; and the counts of the book
abbrev pub end_lines : Option ℕ → List (List ℕ)
end_lines down = start_lines down ++ codes "regroup 1" ∷ codes "settle" ∷ codes "sum" ∷ codes "end" ∷ []

-- so many rounds and the end, from this node that is down, this number of the next session, and these draws on
abbrev pub rounds_from : ℕ → Option ℕ → ℕ → Lcg → List ℕ
rounds_from zero down session draws = text_of (end_lines down)
rounds_from (suc more) down session draws =
    let next = happens down draws in
    text_of (lines_of session next.0) ++ rounds_from more (down_after next.0 down) (session_after next.0 session) next.1

-- the tape of a number and so many rounds
abbrev pub storm_tape : ℕ → ℕ → List ℕ
storm_tape number rounds = text_of plan_lines ++ rounds_from rounds None 1 (draws_of number)
