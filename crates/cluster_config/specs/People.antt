-- The users of a plan file, and its postmaster.
use Rattle.std.specs.Prelude.{ℕ, nat_eq, nat_le, is_some, List, Option, Some, None, if◌then◌else◌, codes}
use Rattle.std.specs.FinMap as map
use Rattle.mail_model.specs.Names.{is_name, lower, is_secret}
use Rattle.mail_model.specs.Plan.{Users}
use Rattle.toml.specs.Data.{Data, Items, no_items, item, array, get}
use Rattle.cluster_config.specs.Values.{text_at, count}

-- the name that a text spells, in lower case
abbrev pub name_of : Option (List ℕ) → Option (List ℕ)
name_of None = None
name_of (Some octets) = if is_name octets then Some (lower octets) else None

-- the secret that a text is
abbrev pub secret_of : Option (List ℕ) → Option (List ℕ)
secret_of None = None
secret_of (Some octets) = if is_secret octets then Some octets else None

-- the users and one more, where both its name and its secret are there
abbrev pub with_user : Users → Option (List ℕ) → Option (List ℕ) → Option Users
with_user users (Some name) (Some secret) = Some (map.insert users name secret)
with_user users _ _ = None

-- the users and that of one more item
abbrev pub with_item : Users → Data → Option Users
with_item users d = with_user users (name_of (text_at (codes "name") d)) (secret_of (text_at (codes "secret") d))

-- the users and those of all items, where each item is a user
abbrev pub with_items : Option Users → Items → Option Users
with_items None items = None
with_items (Some users) no_items = Some users
with_items (Some users) (item d more) = with_items (with_item users d) more

-- no name comes twice: there are as many users as items
abbrev pub as_many : ℕ → Option Users → Option Users
as_many n None = None
as_many n (Some users) = if nat_eq (map.len users) n then Some users else None

-- at most 4,096 items, each a user, and no name twice
abbrev pub users_in : Option Data → Option Users
users_in None = Some map.empty
users_in (Some (array items)) = if nat_le (count items) 4096 then as_many (count items) (with_items (Some map.empty) items) else None
users_in (Some _) = None

abbrev pub users_of : Data → Option Users
users_of file = users_in (get (codes "users") file)

-- the name, where one of the users has it
abbrev pub named : Users → Option (List ℕ) → Option (List ℕ)
named users None = None
named users (Some name) = if is_some (map.get users name) then Some name else None

-- the user whose name `postmaster` is, in any case of its letters
abbrev pub postmaster_of : Option Users → Data → Option (List ℕ)
postmaster_of None file = None
postmaster_of (Some users) file = named users (name_of (text_at (codes "postmaster") file))
