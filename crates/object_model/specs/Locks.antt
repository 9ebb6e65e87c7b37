-- Which login holds each user's maildrop, at the node that manages the user.
use Rattle.std.specs.Prelude.{ℕ, Bool, false, ◌&&◌, nat_eq, List, Option, Some, None, if◌then◌else◌}
use Rattle.std.specs.Ordering.{nat_cmp}
use Rattle.std.specs.Cmp.Lexicographic.{slice_cmp}
use Rattle.std.specs.FinMap as map
use Rattle.object_model.specs.Letters.{Number}

-- the holder of each lock that is held, by the name of its user
abbrev pub Held : Type 0
Held = map.FinMap (slice_cmp nat_cmp) Number

-- nobody holds a lock
abbrev pub no_locks : Held
no_locks = map.empty

abbrev pub is_same_number : Number → Number → Bool
is_same_number a b = nat_eq a.node b.node && (nat_eq a.boot b.boot && nat_eq a.seq b.seq)

abbrev pub is_held_by : Option Number → Number → Bool
is_held_by None login = false
is_held_by (Some by) login = is_same_number by login

-- the login that holds a lock beside this one
abbrev pub other_than : Number → Option Number → Option Number
other_than login None = None
other_than login (Some by) = if is_same_number by login then None else Some by

abbrev pub holder_beside : List ℕ → Number → Held → Option Number
holder_beside user login locks = other_than login (map.get locks user)

-- A login takes the lock of the user. One that holds it already may take it again.
abbrev pub taken : List ℕ → Number → Held → Held
taken user login locks = if is_held_by (map.get locks user) login then locks else map.insert locks user login

-- without the user's lock, where the login holds it
abbrev pub released : List ℕ → Number → Held → Held
released user login locks = if is_held_by (map.get locks user) login then map.remove locks user else locks
