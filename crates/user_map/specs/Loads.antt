-- How many buckets a table says that each node has.
use Rattle.std.specs.Prelude.{ℕ, List, get_or}

abbrev pub load_in : List ℕ → ℕ → ℕ
load_in table node = get_or table node 0
