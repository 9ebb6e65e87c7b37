-- Which keys a plan file may have.
use Rattle.std.specs.Prelude.{ℕ, Bool, true, ◌&&◌, nat_eq, List, [], ◌∷◌, Option, Some, codes}
use Rattle.std.specs.List.{list_any}
use Rattle.std.specs.Cmp.Lexicographic.{pointwise}
use Rattle.toml.specs.Data.{Data, Items, no_items, item, Members, no_members, member, array, table, get}

-- the keys at the top, and those of a user
abbrev pub file_keys : List (List ℕ)
file_keys =
    codes "nodes" ∷ codes "copies" ∷ codes "confirm" ∷ codes "buckets" ∷ codes "shards"
    ∷ codes "users" ∷ codes "postmaster" ∷ codes "folder" ∷ codes "smtp_port" ∷ codes "pop_port" ∷ []

abbrev pub user_keys : List (List ℕ)
user_keys = codes "name" ∷ codes "secret" ∷ []

abbrev pub is_among : List (List ℕ) → List ℕ → Bool
is_among known key = list_any (pointwise nat_eq key) known

-- each key of the members is known
abbrev pub are_known : List (List ℕ) → Members → Bool
are_known known no_members = true
are_known known (member key d more) = is_among known key && are_known known more

-- a table has known keys alone; what is no table has no keys
abbrev pub has_known : List (List ℕ) → Data → Bool
has_known known (table members) = are_known known members
has_known known _ = true

abbrev pub all_have_known : List (List ℕ) → Items → Bool
all_have_known known no_items = true
all_have_known known (item d more) = has_known known d && all_have_known known more

abbrev pub each_has_known : List (List ℕ) → Option Data → Bool
each_has_known known (Some (array items)) = all_have_known known items
each_has_known known _ = true

-- the keys at the top are those of a plan file, and those of each user are those of a user
abbrev pub has_known_keys : Data → Bool
has_known_keys file = has_known file_keys file && each_has_known user_keys (get (codes "users") file)
