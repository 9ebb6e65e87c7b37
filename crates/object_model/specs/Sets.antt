-- Sets of nodes as masks: bit n - 1 is node n, and nodes are numbered from 1 to 64.
use Rattle.std.specs.Prelude.{zero, suc, ℕ, ◌+◌, ◌*◌, ◌%◌, ◌^◌, Bool, false, ◌&&◌, nat_eq, nat_lt, List, [], ◌∷◌, ◌++◌, if◌then◌else◌, bit_and, bit_or}
use Rattle.std.specs.Int.{bit_at, bit_not, w64}

-- whether the set has the node
abbrev pub has : ℕ → ℕ → Bool
has mask zero = false
has mask (suc k) = nat_lt k 64 && nat_eq (bit_at mask k) 1

-- the set of one node
abbrev pub one_node : ℕ → ℕ
one_node zero = 0
one_node (suc k) = 2 ^ k

-- with a node more
abbrev pub with_node : ℕ → ℕ → ℕ
with_node mask n = bit_or mask (one_node n)

-- without it
abbrev pub without_node : ℕ → ℕ → ℕ
without_node mask zero = mask
without_node mask (suc k) = if nat_lt k 64 then bit_and mask (bit_not w64 (1 * 2 ^ k % 2 ^ 64)) else mask

-- the nodes from 1 to n
abbrev pub all_nodes : ℕ → ℕ
all_nodes zero = 0
all_nodes (suc k) = with_node (all_nodes k) (suc k)

-- how many there are
unfoldable pub count_below : ℕ → ℕ → ℕ
count_below mask zero = 0
count_below mask (suc n) = count_below mask n + (if has mask (suc n) then 1 else 0)

abbrev pub count_in : ℕ → ℕ
count_in mask = count_below mask 64

-- the nodes of the set in rising order, of those from 1 to n
abbrev pub nodes_in : ℕ → ℕ → List ℕ
nodes_in mask zero = []
nodes_in mask (suc k) = nodes_in mask k ++ (if has mask (suc k) then suc k ∷ [] else [])
