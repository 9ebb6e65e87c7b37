-- Which nodes a delivery and a deletion ask: functions of the plan, of the members of the node's epoch and of the message's number.
use Rattle.std.specs.Prelude.{ℕ, ◌+◌, ◌-◌, ◌%◌, not, nat_lt, List, [], ◌∷◌, ◌++◌, length, take, drop}
use Rattle.std.specs.List.{filter}
use Rattle.object_model.specs.Sets.{has, with_node}

-- the set of these nodes
abbrev pub set_of : List ℕ → ℕ
set_of [] = 0
set_of (m ∷ ms) = with_node (set_of ms) m

-- the list from a position on, and then what stands before it
abbrev pub rotated : ℕ → List ℕ → List ℕ
rotated at members = drop at members ++ take at members

-- the position of a node among the members in order of number, counted from 0
abbrev pub position_of : ℕ → List ℕ → ℕ
position_of own members = length (filter (λ m. nat_lt m own) members)

-- A delivery asks as many members as there are to be copies, or all where they are fewer: those that follow cyclically from the node's own position,
-- one position further with each message.
abbrev pub deliver_targets : ℕ → ℕ → ℕ → List ℕ → ℕ
deliver_targets copies own seq members = set_of (take copies (rotated ((position_of own members + (seq - 1)) % length members) members))

-- the members among the listed targets
abbrev pub listed_members : ℕ → List ℕ → List ℕ
listed_members listed members = filter (λ m. has listed m) members

-- A deletion asks the members among the listed targets. Where these are fewer than F, members are added cyclically from the node on, until F are asked.
abbrev pub strike_asks : ℕ → ℕ → ℕ → List ℕ → ℕ
strike_asks confirm own listed members =
    set_of (listed_members listed members
    ++ take (confirm - length (listed_members listed members)) (filter (λ m. not (has listed m)) (rotated (position_of own members) members)))
