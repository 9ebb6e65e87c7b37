-- The rules of a plan file, and its plan.
use Rattle.std.specs.Prelude.{◌≡◌, ℕ, ◌+◌, suc, Bool, false, ◌&&◌, ◌||◌, not, nat_eq, nat_le, is_some, List, [], ◌∷◌, length, Option, Some, None, if◌then◌else◌, codes, string_bytes}
use Rattle.toml.specs.Data.{Data, get}
use Rattle.cluster_config.specs.Values.{number_at, text_at, natural}
use Rattle.cluster_config.specs.Keys.{has_known_keys}
use Rattle.cluster_config.specs.People.{users_of, postmaster_of}
use Rattle.cluster_config.specs.declared.plan_file.ServePlan.{ServePlan}

-- a number that is there, and lies between these two
abbrev pub is_within : ℕ → ℕ → Option ℕ → Bool
is_within low high None = false
is_within low high (Some n) = nat_le low n && nat_le n high

-- three numbers that are there, each at most the one before, and the last at least 1
abbrev pub go_down : Option ℕ → Option ℕ → Option ℕ → Bool
go_down (Some nodes) (Some copies) (Some confirm) = nat_le copies nodes && nat_le confirm copies && nat_le 1 confirm
go_down _ _ _ = false

-- how many shards a service may have
abbrev pub most_shards : ℕ
most_shards = 1

-- what `shards` says, and 1 where it is missing
abbrev pub shards_in : Option Data → Option ℕ
shards_in None = Some 1
shards_in value = natural value

abbrev pub shards_of : Data → Option ℕ
shards_of file = shards_in (get (codes "shards") file)

-- shards that are no more than the buckets
abbrev pub fit_buckets : Option ℕ → Option ℕ → Bool
fit_buckets (Some shards) (Some buckets) = nat_le shards buckets
fit_buckets _ _ = false

abbrev pub is_text : Option (List ℕ) → Bool
is_text None = false
is_text (Some octets) = not (nat_eq (length octets) 0)

-- so many ports from each of two on are ports, and no port is in both ranges
abbrev pub lie_apart : Option ℕ → Option ℕ → Option ℕ → Bool
lie_apart (Some nodes) (Some smtp) (Some pop) =
    nat_le (smtp + nodes) 65536 && nat_le (pop + nodes) 65536 && (nat_le (smtp + nodes) pop || nat_le (pop + nodes) smtp)
lie_apart _ _ _ = false

abbrev pub has_nodes : Data → Bool
has_nodes file = is_within 1 16 (number_at (codes "nodes") file)

abbrev pub has_copies : Data → Bool
has_copies file = go_down (number_at (codes "nodes") file) (number_at (codes "copies") file) (number_at (codes "confirm") file)

abbrev pub has_buckets : Data → Bool
has_buckets file = is_within 1 1024 (number_at (codes "buckets") file)

abbrev pub has_shards : Data → Bool
has_shards file = is_within 1 most_shards (shards_of file) && fit_buckets (shards_of file) (number_at (codes "buckets") file)

abbrev pub has_users : Data → Bool
has_users file = is_some (users_of file)

abbrev pub has_postmaster : Data → Bool
has_postmaster file = is_some (postmaster_of (users_of file) file)

abbrev pub has_folder : Data → Bool
has_folder file = is_text (text_at (codes "folder") file)

abbrev pub have_ports : Data → Bool
have_ports file =
    is_within 1 65535 (number_at (codes "smtp_port") file) && is_within 1 65535 (number_at (codes "pop_port") file)
    && lie_apart (number_at (codes "nodes") file) (number_at (codes "smtp_port") file) (number_at (codes "pop_port") file)

-- the place of the first that is false, where the first of all has this number
abbrev pub first_false : ℕ → List Bool → Option ℕ
first_false number [] = None
first_false number (kept ∷ more) = if kept then first_false (suc number) more else Some number

-- the first of the rules 2 to 9 that the value breaks
abbrev pub first_broken : Data → Option ℕ
first_broken file =
    first_false 2 (has_known_keys file ∷ has_nodes file ∷ has_copies file ∷ has_buckets file ∷ has_shards file ∷ has_users file ∷ has_postmaster file ∷ (has_folder file && have_ports file) ∷ [])

-- the plan says what the value holds
pub record IsPlanOf (file : Data) (plan : ServePlan) : Type 0 where
  pub nodes : number_at (codes "nodes") file ≡ Some plan.plan.nodes
  pub copies : number_at (codes "copies") file ≡ Some plan.plan.copies
  pub confirm : number_at (codes "confirm") file ≡ Some plan.plan.confirm
  pub buckets : number_at (codes "buckets") file ≡ Some plan.plan.buckets
  pub shards : shards_of file ≡ Some plan.shards
  pub users : users_of file ≡ Some plan.plan.users
  pub postmaster : postmaster_of (users_of file) file ≡ Some plan.plan.postmaster
  pub folder : text_at (codes "folder") file ≡ Some (string_bytes plan.folder)
  pub smtp_port : number_at (codes "smtp_port") file ≡ Some plan.smtp_port
  pub pop_port : number_at (codes "pop_port") file ≡ Some plan.pop_port
