-- What happens in a round of a storm, and what it leaves.
use Rattle.std.specs.Prelude.{ℕ, ◌+◌, nat_eq, nat_lt, Option, Some, None, if◌then◌else◌}
use Rattle.rand_pcg.specs.Lcg.{Lcg}
use Rattle.storm_maker.specs.Draws.{pick, up}
use Rattle.storm_maker.specs.declared.storm.Happening.{Happening}
use Rattle.storm_maker.specs.declared.storm.Happening.TheVariants.{Message, Crash, Start, Reading, Pushing, Settling}

-- a message: at which node, to which user, and which number it says
abbrev pub sends : Option ℕ → Lcg → Happening × Lcg
sends down draws =
    let node = up down draws in
    let user = pick 8 node.1 in
    let number = pick 1000 user.1 in
    (Message node.0 user.0 number.0, number.1)

-- a node stops where none is down; else the one that is down starts, and nothing is drawn
abbrev pub turns : Option ℕ → Lcg → Happening × Lcg
turns None draws = (Crash (up None draws).0, (up None draws).1)
turns (Some down) draws = (Start down, draws)

-- mail is read: at which node, and whose
abbrev pub reads : Option ℕ → Lcg → Happening × Lcg
reads down draws =
    let node = up down draws in
    let user = pick 8 node.1 in
    (Reading node.0 user.0, user.1)

-- which of the five it is: four draws of eight send, and one each of the others
abbrev pub happens_at : ℕ → Option ℕ → Lcg → Happening × Lcg
happens_at which down draws =
    if nat_lt which 4 then sends down draws
    else (if nat_eq which 4 then turns down draws
    else (if nat_eq which 5 then reads down draws
    else (if nat_eq which 6 then (Pushing (up down draws).0, (up down draws).1)
    else (Settling, draws))))

-- what happens in the next round, and what can be drawn after it
abbrev pub happens : Option ℕ → Lcg → Happening × Lcg
happens down draws = happens_at (pick 8 draws).0 down (pick 8 draws).1

-- which node is down after it
abbrev pub down_after : Happening → Option ℕ → Option ℕ
down_after (Crash node) down = Some node
down_after (Start node) down = None
down_after _ down = down

-- the number of the next session after it
abbrev pub session_after : Happening → ℕ → ℕ
session_after (Message node user number) session = session + 1
session_after (Reading node user) session = session + 1
session_after _ session = session
