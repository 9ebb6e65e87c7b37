-- The rows of a mail map, by node, boot and user.
use Rattle.std.specs.Prelude.{◌≡◌, ℕ, Bool, false, ◌&&◌, nat_eq, nat_lt, List, Option, Some, None, if◌then◌else◌}
use Rattle.std.specs.Ordering.{nat_cmp}
use Rattle.std.specs.Cmp.Lexicographic.{slice_cmp}
use Rattle.std.specs.List.{list_any}
use Rattle.std.specs.BTreeMap as tree
use Rattle.std.specs.BTreeMap.{BTreeMap}
use Rattle.object_model.specs.Letters.{Row, Member}
use Rattle.maps_model.specs.Cluster.{is_full}
use Rattle.maps_model.specs.Rules.{set_row}
use Rattle.mail_map.specs.Tellers.{Teller, teller_cmp}
use Rattle.mail_map.specs.declared.map.MailMap.{MailMap}

-- the row of each node, boot and user, where one stands
abbrev pub Rows : Type 0
Rows = ℕ → ℕ → List ℕ → Option Row

-- among the rows of one user
abbrev pub row_of_teller : Option (BTreeMap Teller Row) → ℕ → ℕ → Option Row
row_of_teller None n boot = None
row_of_teller (Some rows) n boot = tree.get teller_cmp rows (record { node = n; boot = boot })

abbrev pub rows_of : MailMap → Rows
rows_of map n boot user = row_of_teller (tree.get (slice_cmp nat_cmp) map.users user) n boot

-- a row of this version is older than the one that stands
abbrev pub is_older : Option Row → ℕ → Bool
is_older None version = false
is_older (Some stood) version = nat_lt version stood.version

-- the rows once this one was told: it stands, unless it is older than the one of its node, boot and user
abbrev pub told_row : Row → Rows → Rows
told_row row rows n boot user =
    if is_older (rows row.node row.boot row.user) row.version then rows n boot user else set_row rows row.node row.boot row.user row n boot user

-- both have the same rows
abbrev pub HasSameRows : MailMap → MailMap → Type 0
HasSameRows old new = (n boot : ℕ) (user : List ℕ) → rows_of new n boot user ≡ rows_of old n boot user

-- whether a member of that number has a row that says full
abbrev pub is_named : Rows → List ℕ → List Member → ℕ → Bool
is_named rows user members n = list_any (λ member. nat_eq n member.node && is_full (rows member.node member.boot user)) members
